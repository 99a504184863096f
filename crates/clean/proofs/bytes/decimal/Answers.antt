-- `clean::bytes::decimal` meets its contract: the digits, the point and the digits behind it are put one behind the other. Assumes nothing.
use native.Mathlib.Omega.{arith}
use lib.ListN.{drop, length-drop}
use Rattle.symbols.specs.Names.{digit}
use Rattle.clean.proofs.Putting.{decimal_put, run_short}
use Rattle.clean.proofs.bytes.decimal.Goals as goal

pub put-to-requires : goal.put-to-requires
put-to-requires c =
    let x = c.args in
    omega (arith, c.requires, c.letters-front.ensures.behind, run_short digit (drop x.from x.source.now), length-drop x.from x.source.now)

pub behind_point-requires : goal.behind_point-requires
behind_point-requires c =
    let x = c.args in
    omega (arith, c.requires, c.put-to.ensures.behind, c.letters-front.ensures.behind, run_short digit (drop x.from x.source.now), length-drop x.from x.source.now)

pub returns : goal.returns
returns c =
    let x = c.args in
    decimal_put x.source.now x.from c.letters-front.ensures c.put-to.ensures c.digits_end.ensures c.behind_point.ensures
