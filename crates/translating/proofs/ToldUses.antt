-- The uses as the pass reads them: the number that is kept for a use stands for the declaration or the environment's entry that the use means, and the
-- rows tell its kind. Since symbols rise in the rows, a declaration's number is the one of its name's symbol.
use Prim.Native.Nat.{ℕ, zero, suc, ◌+◌, ◌*◌, ◌-◌, ◌<◌, ◌%◌}
use native.Mathlib.Omega.{arith}
use mathlib.Core.Path.{◌≡◌, refl, sym, ap, ◌∙◌}
use mathlib.Core.Bool.{cond}
use mathlib.Core.List.{List, [], ◌∷◌}
use mathlib.Core.Option.{none, some}
use lib.Dec.{eqb}
use lib.ListN.{length, get_or}
use borrow.Author.Tests.{eq-eqb, ne_eqb}
use Rattle.names.specs.Program.{integer, boolean, real}
use Rattle.names.specs.Scopes.{Thing, variable, routine, formal, by_name, Meaning, declared, given, nothing, meaning}
use Rattle.names.specs.Uses.{Use, thing_kind}
use Rattle.names.specs.model.Rows.{meant_of}
use Rattle.names.specs.declared.Meant.{Meant}
use Rattle.names.specs.declared.Meant.TheVariants.{Declared as at_row, Given as at_given, Nothing as nowhere}
use Rattle.names.proofs.Around.{kind_at, ToldThing, Means}
use Rattle.names.proofs.Resolved.{Matches}
use Rattle.emitting.specs.model.Emission.{Used, formal_at, used_as, uses_in}
use Rattle.names.proofs.Fours.{Whole, none as no_rows, one}
use Rattle.names.proofs.Rising.{Rising, next, from_first}
use Rattle.translating.proofs.Rising.{seconds, RowsRise}
use Rattle.translating.proofs.Sites.{number_of}
use Rattle.translating.proofs.Written.{use_kind, used_for, uses_as}

-- ---- the number of a row

-- the symbol of a row
second_at : {R : List ℕ} (j : ℕ) → Whole R → get_or R (4 * j + 1) 0 ≡ get_or (seconds R) j 0
second_at j no_rows = refl
second_at zero (one w f) = refl
second_at (suc j) (one w f) =
    let e : 4 * suc j + 1 ≡ suc (suc (suc (suc (4 * j + 1)))) = omega arith in
    rw e (second_at j f)

as_many : {R : List ℕ} → Whole R → 4 * length (seconds R) ≡ length R
as_many no_rows = refl
as_many (one w f) = omega (arith, as_many f)

number_in_lem : {a b : ℕ} {R : List ℕ} (j : ℕ) → Whole R → Rising a b (seconds R) → j < length (seconds R) → number_of R (get_or (seconds R) j 0) ≡ j
unfolding number_of
number_in_lem j no_rows r h = absurd (omega arith)
number_in_lem zero (one {s = s} w f) (next m r) h = rw (eq-eqb s s refl)
number_in_lem (suc j) (one {s = s} {ws = ws} w f) (next m r) h =
    rw (ne_eqb s (get_or (seconds ws) j 0) (λ e. omega (arith, from_first j 0 r (omega arith)))) (ap suc (number_in_lem j f r (omega arith)))

pub number_is : {a b : ℕ} {R : List ℕ} (j : ℕ) → RowsRise a b R → 4 * j + 1 < length R → number_of R (get_or R (4 * j + 1) 0) ≡ j
number_is {R = R} j r h = ap (number_of R) (second_at j r.0) ∙ number_in_lem j r.0 r.1 (omega (arith, as_many r.0))

-- ---- a use, and all

-- of a row whose kind and last word are known
kind_of : (R : List ℕ) (j : ℕ) (t : Thing) → kind_at R j ≡ 4 + thing_kind t → ToldThing R j t → cond (eqb (formal_at R j) 2) 4 (get_or R (4 * j) 0 % 65536 - 4) ≡ use_kind t
unfolding formal_at
kind_of R j (variable t) e h = rw e
kind_of R j (routine p) e h = rw e
kind_of R j (formal none) e h = rw (e, h)
kind_of R j (formal (some integer)) e h = rw (e, h)
kind_of R j (formal (some boolean)) e h = rw (e, h)
kind_of R j (formal (some real)) e h = rw (e, h)
kind_of R j (by_name none) e h = rw (e, h)
kind_of R j (by_name (some integer)) e h = rw (e, h)
kind_of R j (by_name (some boolean)) e h = rw (e, h)
kind_of R j (by_name (some real)) e h = rw (e, h)

used_is : {k m k' m' : ℕ} → k ≡ k' → m ≡ m' → ◌≡◌ {A = Used} (record { kind = k; means = m }) (record { kind = k'; means = m' })
used_is e f = rw (e, f)

module _ (n : ℕ) (R : List ℕ) (rising : RowsRise 0 n R) where
  used : (m : Meant) (w : Meaning) → Means R m w → used_as R m ≡ used_for (number_of R) w
  unfolding used_as
  used (at_row j) (declared d g) h =
      let i = h.row.inside in
      let b = number_is j.number rising (omega arith) in
      used_is (kind_of R j.number d.thing h.row.kind h.thing) (sym b ∙ ap (number_of R) h.row.symbol)
  used (at_row j) (given k g) h = absurd h
  used (at_row j) nothing h = absurd h
  used (at_given e) (declared d g) h = absurd h
  used (at_given e) (given k g) h = used_is refl h.0
  used (at_given e) nothing h = absurd h
  used nowhere (declared d g) h = absurd h
  used nowhere (given k g) h = absurd h
  used nowhere nothing h = refl

  pub told_uses : (ws : List ℕ) (us : List Use) → Matches R ws us → uses_in R ws ≡ uses_as (number_of R) us
  unfolding uses_in uses_as
  told_uses [] [] h = refl
  told_uses [] (u ∷ us) h = absurd h
  told_uses (w ∷ ws) [] h = absurd h
  told_uses (w ∷ ws) (u ∷ us) h = rw (used (meant_of w) (meaning u.around u.name) h.0, told_uses ws us h.1)
