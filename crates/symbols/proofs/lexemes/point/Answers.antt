-- `symbols::lexemes::point` meets its contract. No digit stands before the point.
-- Assumes nothing.
use mathlib.Core.Path.{◌∙◌}
use native.Mathlib.Omega.{arith}
use Rattle.symbols.proofs.Decimals.{point_reach, point_here}
use Rattle.symbols.proofs.lexemes.point.Goals as goal

pub with_point-requires : goal.with_point-requires
with_point-requires c =
    let x = c.args in
    (c.digits_from-front.ensures, omega (arith, c.requires.at_in_bounds, point_reach x.source.now x.at c.requires.at_in_bounds c.requires.at_value))

pub returns : goal.returns
returns c =
    let x = c.args in
    c.with_point.ensures ∙ point_here x.source.now x.at c.requires.at_in_bounds c.requires.at_value
