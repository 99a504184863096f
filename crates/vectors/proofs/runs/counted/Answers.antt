-- `vectors::runs::counted` meets its contract. The tests are those of the definition.
-- Assumes nothing.
use mathlib.Core.Path.{◌≡◌, ◌∙◌}
use mathlib.Core.Bool.{true, false}
use Prim.Native.Nat.{ℕ, ◌+◌, ◌*◌, ◌≤◌, ◌<◌}
use borrow.Author.Tests.{lt-ltb, le-ltb, le-leb, lt-leb}
use Rattle.vectors.specs.declared.texts.Numeral.{Numeral}
use Rattle.vectors.specs.declared.tally.Tally.{Tally}
use Rattle.vectors.specs.Listed.{most_of, one_difference}
use Rattle.vectors.specs.Ended.{after_steps}
use Rattle.vectors.proofs.runs.counted.Goals as goal
use Rattle.vectors.proofs.runs.counted.Goals.{then-n-lt100000000+else-done-n, else-n-lt100000000}

module _ (done : ℕ) (steps : Numeral) (t : Tally) where
  unlisted : steps.minus ≡ true → t ≡ after_steps done steps t
  unfolding after_steps
  unlisted e = rw e

  module _ (listed : steps.minus ≡ false) where
    few : steps.value < 100000000 → done ≤ 16 * steps.value + 16 → most_of done steps.value t ≡ after_steps done steps t
    unfolding after_steps
    few h k = rw (listed, lt-ltb steps.value 100000000 h, le-leb done (16 * steps.value + 16) k)

    too_many : steps.value < 100000000 → 16 * steps.value + 16 < done → one_difference t ≡ after_steps done steps t
    unfolding after_steps
    too_many h k = rw (listed, lt-ltb steps.value 100000000 h, lt-leb done (16 * steps.value + 16) k)

    too_large : 100000000 ≤ steps.value → one_difference t ≡ after_steps done steps t
    unfolding after_steps
    too_large h = rw (listed, le-ltb steps.value 100000000 h)

pub returns-then-steps : goal.returns-then-steps
returns-then-steps c =
    let args = c.args in
    unlisted args.done args.steps args.t c.if-steps.true

pub returns-then-done-n : goal.returns-then-done-n
returns-then-done-n c =
    let args = c.args in
    c.most.ensures ∙ few args.done args.steps args.t c.if-steps.false c.if-n-lt100000000.true c.if-done-n.true

pub returns : goal.returns
returns c =
    let a = c.args in
    c.check.ensures ∙ elim c.if-n-lt100000000.branch [
      | then-n-lt100000000+else-done-n w ↦ too_many a.done a.steps a.t c.if-steps.false w.if-n-lt100000000.true w.if-done-n.false
      | else-n-lt100000000 w ↦ too_large a.done a.steps a.t c.if-steps.false w.if-n-lt100000000.false
    ]
