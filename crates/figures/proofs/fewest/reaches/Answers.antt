-- `figures::fewest::reaches` meets its contract: by the digits above the j lowest, and where they are c by those.
-- Assumes nothing.
use mathlib.Core.Path.{◌∙◌}
use Rattle.figures.specs.Digits.{value}
use Rattle.figures.proofs.Rounding.{reaches_at, reaches_aside}
use Rattle.figures.proofs.fewest.reaches.Goals as goal

pub returns-then-h-c : goal.returns-then-h-c
returns-then-h-c c =
    let h = c.head-h in
    c.clean.ensures ∙ reaches_at (value c.args.a.now) c.args.c c.args.j h.result h.ensures c.if-h-c.true

pub returns : goal.returns
returns c =
    let h = c.head-h in
    reaches_aside (value c.args.a.now) c.args.c c.args.j h.result h.ensures c.if-h-c.false
