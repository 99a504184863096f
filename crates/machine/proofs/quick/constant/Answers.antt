-- A number of 32 bits.
use mathlib.Core.Path.{ap, ◌∙◌}
use lib.IntN.{ℤ}
use mir.Syntax.{w32}
use mir.Val.{to_z, of_z}
use mir.Facts.{to_z-of_z, sfits_to_z}
use Rattle.reals.specs.declared.Value.TheVariants.{Whole}
use Rattle.machine.specs.Data.{push}
use Rattle.machine.proofs.Numbers.{fills_push}
use Rattle.machine.proofs.quick.constant.Goals as goal

pub fill-requires : goal.fill-requires
fill-requires c = (c.requires.0, c.requires.1, c.requires.2, rw (c.number.ensures, to_z-of_z (sfits_to_z c.ranges.v)) (sfits_to_z c.ranges.v))

pub returns : goal.returns
returns c = c.fill.ensures (λ q. push q (Whole (to_z w32 c.args.v))) (fills_push (ap (λ (z : ℤ). Whole (to_z w32 (of_z w32 z))) c.number.ensures ∙ ap Whole (to_z-of_z (sfits_to_z c.ranges.v))))
