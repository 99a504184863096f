-- `figures::fewest::nearest` meets its contract: by the digit below, and whether anything but 0 is below that.
-- Assumes nothing.
use mathlib.Core.Path.{sym, ◌∙◌}
use native.Mathlib.Nat.{le_antisymm}
use Rattle.figures.specs.Digits.{value}
use Rattle.figures.proofs.Rounding.{rounds_down, rounds_up, rounds_even, rounds_over}
use Rattle.figures.proofs.fewest.nearest.Goals as goal

pub returns-then-d-lt5 : goal.returns-then-d-lt5
returns-then-d-lt5 c = rounds_down (value c.args.a.now) c.args.j c.head-h.result c.requires.j_nonzero.0 c.head-h.ensures c.if-d-lt5.true

pub returns-then-d-gt5 : goal.returns-then-d-gt5
returns-then-d-gt5 c = rounds_up (value c.args.a.now) c.args.j c.head-h.result c.requires.j_nonzero.0 c.head-h.ensures c.if-d-gt5.true

pub returns-then-clean : goal.returns-then-clean
returns-then-clean c =
    let h = c.head-h in
    rounds_even (value c.args.a.now) c.args.j h.result c.requires.j_nonzero.0 h.ensures (le_antisymm c.if-d-gt5.false c.if-d-lt5.false) (sym c.clean.ensures ∙ c.if-clean.true)

pub returns : goal.returns
returns c =
    let h = c.head-h in
    rounds_over (value c.args.a.now) c.args.j h.result c.requires.j_nonzero.0 h.ensures (le_antisymm c.if-d-gt5.false c.if-d-lt5.false) (sym c.clean.ensures ∙ c.if-clean.false)
