-- `figures::fewest::gives_back` meets its contract: both ends.
-- Assumes nothing.
use mathlib.Core.Path.{sym, ◌∙◌}
use Prim.Native.Nat.{◌*◌, ◌^◌}
use Rattle.figures.specs.Digits.{value}
use Rattle.figures.proofs.Rounding.{between_beyond, between_before}
use Rattle.figures.proofs.fewest.gives_back.Goals as goal

pub returns-then-reaches : goal.returns-then-reaches
returns-then-reaches c =
    let a = c.args in
    sym (between_beyond (value a.low.now) (value a.high.now) (a.c * 10 ^ a.j) (sym c.reaches.ensures ∙ c.if-reaches.true))

pub returns : goal.returns
returns c =
    let a = c.args in
    c.reaches-2.ensures ∙ sym (between_before (value a.low.now) (value a.high.now) (a.c * 10 ^ a.j) (sym c.reaches.ensures ∙ c.if-reaches.false))
