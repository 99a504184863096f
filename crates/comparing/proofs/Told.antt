-- The words that the pass over the uses keeps tell what the paper says of them: kind and number. Symbols of declarations rise, so that a row's number is that
-- of its name's symbol among the declaring ones.
use Rattle.std.proofs.Common.{Result}
use Prim.Native.Nat.{ℕ, zero, suc, ◌+◌, ◌*◌, ◌-◌, ◌<◌}
use mathlib.Core.Path.{◌≡◌, refl, sym, ap, subst, ◌∙◌}
use mathlib.Core.List.{List, [], ◌∷◌, ◌++◌, map}
use mathlib.Core.Bool.{cond}
use native.Mathlib.Omega.{arith}
use lib.ListN.{length, get_or, take}
use borrow.Author.Tests.{eq-eqb, ne_eqb}
use Rattle.answers.specs.declared.Declaration.{Declaration}
use Rattle.answers.specs.declared.Environment.{Environment}
use Rattle.symbols.specs.Names.{letters_at}
use Rattle.symbols.specs.Scan.{scan, values_of}
use Rattle.grammar.specs.Trees.{yield}
use Rattle.names.specs.Program.{Name}
use Rattle.names.specs.Scopes.{Meaning, declared, given, nothing, meaning}
use Rattle.names.specs.Uses.{Use, uses_s, row_in, row_of, joined, use_rows, unmeant, meant_or_not}
use Rattle.names.specs.Outline.{rows_s, declarations}
use Rattle.names.specs.model.Rows.{meant_of}
use Rattle.names.specs.declared.Meant.{Meant}
use Rattle.names.specs.declared.Meant.TheVariants.{Declared as at_row, Given as at-given, Nothing as nowhere}
use Rattle.names.proofs.Around.{Means}
use Rattle.names.proofs.Resolved.{Matches}
use Rattle.names.proofs.Fours.{Whole, none as no_rows, one}
use Rattle.names.proofs.Rising.{Rising, no_more, next, from_first}
use Rattle.table.proofs.UseWords.{AllMean, nil_both, kind_some}
use Rattle.answers.specs.declared.Refusal.{Refusal}
use Rattle.reading.specs.Judging.{its_program}
use Rattle.reading.specs.Reading.{symbols, place_in, Grammatical}
use Rattle.reading.specs.declared.Sizes.{Sizes}
use Rattle.reading.specs.model.Stages.{Holds, Finds}
use Rattle.reading.proofs.Passed.{rows_here_lem, uses_here}
use Rattle.reading.proofs.Whole.{stands}
use Rattle.reading.proofs.Answers.{unmeant-none, onward}
use Rattle.translating.proofs.Rising.{seconds, RowsRise, rising}
use Rattle.comparing.specs.Comparing.{declaring, number_in, sense_of, senses, differing, Edition, meant, Gives, Compares, compared}
use Rattle.comparing.specs.model.Words.{told_of, told, changed, Learnt, Learns}
use Rattle.comparing.specs.declared.Sense.{Sense}
use Rattle.comparing.specs.declared.Uncompared.{Uncompared}

-- ---- the number of a row

seconds_are : (R : List ℕ) → seconds R ≡ declaring R
seconds_are [] = refl
seconds_are (k ∷ []) = refl
seconds_are (k ∷ s ∷ []) = refl
seconds_are (k ∷ s ∷ q ∷ []) = refl
seconds_are (k ∷ s ∷ q ∷ t ∷ ws) = ap (λ l. s ∷ l) (seconds_are ws)

second_at : {R : List ℕ} (j : ℕ) → Whole R → get_or R (4 * j + 1) 0 ≡ get_or (declaring R) j 0
second_at j no_rows = refl
second_at zero (one w f) = refl
second_at (suc j) (one w f) =
    let e : 4 * suc j + 1 ≡ suc (suc (suc (suc (4 * j + 1)))) = omega arith in
    rw e (second_at j f)

as_many : {R : List ℕ} → Whole R → 4 * length (declaring R) ≡ length R
as_many no_rows = refl
as_many (one w f) = omega (arith, as_many f)

number_in_lem : {a b : ℕ} {l : List ℕ} (j : ℕ) → Rising a b l → j < length l → number_in l (get_or l j 0) ≡ j
unfolding number_in
number_in_lem j (no_more m) h = absurd (omega arith)
number_in_lem zero (next {x = x} m r) h = rw (eq-eqb x x refl)
number_in_lem (suc j) (next {x = x} {xs = xs} m r) h =
    rw (ne_eqb x (get_or xs j 0) (λ e. omega (arith, from_first j 0 r (omega arith)))) (ap suc (number_in_lem j r (omega arith)))

number_is : {a b : ℕ} {R : List ℕ} (j : ℕ) → RowsRise a b R → 4 * j + 1 < length R → number_in (declaring R) (get_or R (4 * j + 1) 0) ≡ j
number_is {a} {b} {R} j r h = ap (number_in (declaring R)) (second_at j r.0) ∙ number_in_lem j (subst (Rising a b) (seconds_are R) r.1) (omega (arith, as_many r.0))

-- ---- one use, and all

sense_is : {k m k' m' : ℕ} → k ≡ k' → m ≡ m' → ◌≡◌ {A = Sense} (record { kind = k; number = m }) (record { kind = k'; number = m' })
sense_is e f = rw (e, f)

cons_nil : {A : Type 0} {x : A} {l : List A} → x ∷ l ≡ [] → ⊥
cons_nil e = let z : ◌≡◌ {A = ℕ} 0 1 = cc in omega arith

-- what the code makes of a word
pub told_declared : {k n : ℕ} (rows : List ℕ) (w : ℕ) (d : Declaration) → meant_of w ≡ at_row d → k ≡ get_or rows (4 * d.number) 0 - 4 → n ≡ d.number
    → ◌≡◌ {A = Sense} (record { kind = k; number = n }) (told rows w)
unfolding told
told_declared rows w d e a b = sense_is a b ∙ ap (told_of rows) (sym e)

pub told_given : {n : ℕ} (rows : List ℕ) (w : ℕ) (d : Environment) → meant_of w ≡ at-given d → n ≡ d.number → ◌≡◌ {A = Sense} (record { kind = 0; number = n }) (told rows w)
unfolding told
told_given rows w d e b = sense_is refl b ∙ ap (told_of rows) (sym e)

pub told_nothing : (rows : List ℕ) (w : ℕ) → meant_of w ≡ nowhere → ◌≡◌ {A = Sense} (record { kind = 0; number = 0 }) (told rows w)
unfolding told
told_nothing rows w e = ap (told_of rows) (sym e)

map_two : {A B : Type 0} (f : A → B) (l m : List A) → map f (l ++ m) ≡ map f l ++ map f m
map_two f [] m = refl
map_two f (x ∷ l) m = ap (λ t. f x ∷ t) (map_two f l m)

module _ {n : ℕ} (R : List ℕ) (rises : RowsRise 0 n R) where
  told_one : (m : Meant) (w : Meaning) (x : Name) → Means R m w → meant_or_not w x ≡ [] → told_of R m ∷ [] ≡ map (sense_of (declaring R)) (row_in w x)
  unfolding sense_of
  told_one (at_row j) (declared d g) x h k =
      let i = h.row.inside in
      let b : j.number ≡ number_in (declaring R) d.name.symbol = sym (number_is j.number rises (omega arith)) ∙ ap (number_in (declaring R)) h.row.symbol in
      ap (λ (s : Sense). s ∷ []) (sense_is (omega (arith, h.row.kind)) (b ∙ ap (λ t. cond t d.name.symbol (number_in (declaring R) d.name.symbol)) (sym (kind_some d.thing))))
  told_one (at_row j) (given n g) x h k = absurd h
  told_one (at_row j) nothing x h k = absurd h
  told_one (at-given e) (declared d g) x h k = absurd h
  told_one (at-given e) (given n g) x h k = ap (λ (s : Sense). s ∷ []) (sense_is refl h.0)
  told_one (at-given e) nothing x h k = absurd h
  told_one nowhere (declared d g) x h k = absurd h
  told_one nowhere (given n g) x h k = absurd h
  told_one nowhere nothing x h k = absurd (cons_nil k)

  told_all : (ws : List ℕ) (us : List Use) → Matches R ws us → AllMean us → map (told R) ws ≡ map (sense_of (declaring R)) (joined row_of us)
  unfolding told joined
  told_all [] [] h k = refl
  told_all [] (u ∷ us) h k = absurd h
  told_all (w ∷ ws) [] h k = absurd h
  told_all (w ∷ ws) (u ∷ us) h k =
      let m = nil_both (unmeant u) (joined unmeant us) k in
      (λ i. told_one (meant_of w) (meaning u.around u.name) u.name h.0 m.0 i ++ told_all ws us h.1 m.1 i)
      ∙ sym (map_two (sense_of (declaring R)) (row_of u) (joined row_of us))

-- ---- of a source

in_order : {source : List ℕ} (p : Grammatical source) → RowsRise 0 (length (yield p.tree)) (rows_s 0 0 (its_program p))
in_order {source} p = rising (λ k. get_or (values_of (scan symbols source).found) k 0) (λ k. letters_at source (place_in source k)) p.tree

learnt : {source kinds places values nodes rows uses was marks : List ℕ} (s : Sizes) → Holds source kinds places values nodes rows uses was marks s → Learnt source rows uses s
unfolding senses declarations use_rows
learnt {rows = rows} {uses = uses} s h =
    let d = h.declared in
    let st = stands d.ready in
    let p = d.ready.program in
    record {
      edition = record { program = p; named = d.faultless; typed = d.typed };
      same =
          ap (λ (r : List ℕ). map (told r) (take s.uses uses)) (rows_here_lem st d.kept)
          ∙ told_all (rows_s 0 0 (its_program p)) (in_order p) (take s.uses uses) (uses_s [] (its_program p)) (uses_here st d.kept) (unmeant-none (its_program p) d.faultless);
      few = d.kept.few;
    }

pub learns : {source kinds places values nodes rows uses was marks : List ℕ} {f : Result Sizes Refusal} → Finds source kinds places values nodes rows uses was marks f → Learns source rows uses f
learns h = onward h learnt

-- two editions compared by their words
pub both_learnt : {first second room new otherRows others : List ℕ} {c : Result ℕ Uncompared} {s : Sizes} (rows uses : List ℕ) (a : Edition first) → map (told rows) uses ≡ meant a → Learnt second otherRows others s
    → Gives (changed rows uses (take (4 * s.rows) otherRows) (take s.uses others)) room c new → Compares first second room c new
both_learnt {room = room} {new} {c = c} rows uses a e l g = compared a l.edition (subst (λ z. Gives z room c new) (λ i. differing 0 (e i) (l.same i)) g)
