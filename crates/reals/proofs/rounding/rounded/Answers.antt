-- Both tests pass where entier is a number of 32 bits; where one fails it is too large, too small, or no number.
use Rattle.std.proofs.Common.{sym, ◌∙◌, to_z-of_z, w32, w64}
use lib.Ieee.{of_bits, neg, add, binary64}
use mir.Facts.{sfits_widen}
use Rattle.reals.specs.Values.{entier, half}
use Rattle.reals.proofs.Signed.{whole_is}
use Rattle.reals.proofs.Entier.{in_range, entier_fits, of_within, too_large, too_small}
use Rattle.reals.proofs.rounding.rounded.Goals as goal
use Rattle.reals.proofs.rounding.rounded.Goals.{else-t-via-then-t+else-t-2, else-t-via-else-t}

pub entier-requires : goal.entier-requires
unfolding of_bits neg
entier-requires c = (c.if-t.true, c.if-t-2.true)

pub overflow_cast-result : goal.overflow_cast-result
unfolding of_bits neg
overflow_cast-result c =
    let h = entier_fits (add binary64 c.args.x half) (in_range (add binary64 c.args.x half) c.if-t.true c.if-t-2.true) c.if-t.true in
    rw (c.entier.ensures, to_z-of_z (sfits_widen {w = w32} {w' = w64} tt h)) h

pub returns-then-t-2 : goal.returns-then-t-2
unfolding of_bits neg
returns-then-t-2 c =
    let h = entier_fits (add binary64 c.args.x half) (in_range (add binary64 c.args.x half) c.if-t.true c.if-t-2.true) c.if-t.true in
    rw (c.entier.ensures, to_z-of_z (sfits_widen {w = w32} {w' = w64} tt h), to_z-of_z h) (sym (of_within (add binary64 c.args.x half) (in_range (add binary64 c.args.x half) c.if-t.true c.if-t-2.true) ∙ whole_is (entier (add binary64 c.args.x half)) h))

pub returns-else-t : goal.returns-else-t
unfolding of_bits neg
returns-else-t c = elim c.else-t.branch [
  | else-t-via-then-t+else-t-2 w ↦ too_small (add binary64 c.args.x half) w.if-t-2.false
  | else-t-via-else-t w ↦ too_large (add binary64 c.args.x half) w.if-t.false
]
