-- `writing::fourths`: the uses passed have their kinds.
use native.Mathlib.Omega.{arith}
use Rattle.table.proofs.Fourths.{none_kinded, one_kinded, all_kinded}
use Rattle.table.proofs.writing.fourths.Goals as goal

pub loop-i-init : goal.loop-i-init
loop-i-init c = none_kinded _

pub loop-i-preserved : goal.loop-i-preserved
loop-i-preserved c = one_kinded 0 c.loop-i.invariant (omega arith) c.fourth_kind.ensures

pub shape_of-words : goal.shape_of-words
shape_of-words c = c.loop-i.invariant.size

pub returns : goal.returns
returns c = all_kinded c.loop-i.invariant (omega (arith, c.loop-i.invariant.size))
