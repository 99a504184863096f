-- `vectors::twos::told` meets its contract.
-- Assumes nothing.
use mathlib.Core.Path.{◌≡◌, sym, ◌∙◌}
use mathlib.Core.Bool.{Bool, true, false}
use mathlib.Core.List.{List}
use Prim.Native.Nat.{ℕ}
use native.Mathlib.Omega.{arith}
use Rattle.answers.specs.declared.Verdict.{Verdict}
use Rattle.vectors.specs.declared.tally.Tally.{Tally}
use Rattle.vectors.specs.Listed.{one_source, checked, accepted_by}
use Rattle.vectors.specs.Twos.{same_from, over_by, after_behind}
use Rattle.vectors.proofs.twos.told.Goals as goal

module _ (v v' : Verdict) (words table : List ℕ) (n : ℕ) (t r : Tally) where
  taken : (s u w : Tally) (a b d : Bool) → accepted_by v ≡ true → s ≡ one_source t → a ≡ accepted_by v' → u ≡ checked a s → b ≡ same_from table words 0 0 n → w ≡ checked b u
      → d ≡ same_from table words 16384 0 n → r ≡ checked d w → r ≡ after_behind v v' words table n t
  unfolding after_behind
  taken s u w a b d h e1 e2 e3 e4 e5 e6 e7 = rw h (cc)

  over : (a : Bool) → accepted_by v ≡ false → a ≡ over_by v v' → r ≡ checked a t → r ≡ after_behind v v' words table n t
  unfolding after_behind
  over a h e1 e2 = rw h (cc)

pub same_front-requires-then-accepted : goal.same_front-requires-then-accepted
same_front-requires-then-accepted c = omega (arith, c.requires)

pub returns-then-accepted : goal.returns-then-accepted
returns-then-accepted c =
    let a = c.args in
    taken a.a a.b a.words.now a.table.now a.n a.t c.check.result c.source.result c.check-taken.result c.check-one.result c.accepted-then-accepted.result c.same_front.result c.same_front-then-accepted.result
    (sym c.accepted.ensures ∙ c.if-accepted.true) c.source.ensures c.accepted-then-accepted.ensures c.check-taken.ensures c.same_front.ensures c.check-one.ensures c.same_front-then-accepted.ensures c.check.ensures

pub returns : goal.returns
returns c =
    let a = c.args in
    over a.a a.b a.words.now a.table.now a.n a.t c.check-2.result c.is_over.result (sym c.accepted.ensures ∙ c.if-accepted.false) c.is_over.ensures c.check-2.ensures
