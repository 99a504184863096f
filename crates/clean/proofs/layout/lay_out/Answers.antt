-- `clean::layout::lay_out` meets its contract: what is set down and what is left is the page (`Laying`). Assumes nothing.
use mathlib.Core.Path.{sym, ◌∙◌}
use native.Mathlib.Omega.{arith}
use Rattle.clean.proofs.Spelled.{kind_in}
use Rattle.clean.proofs.Laying.{laying_first, laying_next, laying_done, small_grown, here_small, here_around, here_low, gap_ends}
use Rattle.clean.proofs.layout.lay_out.Goals as goal

pub loop-i-init : goal.loop-i-init
loop-i-init c = laying_first _ _ _ _ _ _ c.first-s.ensures c.requires.2

pub early-here-requires : goal.early-here-requires
early-here-requires c = (small_grown _ _ _ (omega (arith, c.requires.1)) c.loop-i.invariant.grows, omega (arith, c.loop-i.invariant.grows.around, c.loop-i.invariant.holds, c.requires.1))

pub gap-from-requires : goal.gap-from-requires
gap-from-requires c = (omega (arith, c.loop-i.invariant.counted, c.requires.1), here_small c.loop-i.invariant c.requires.1 c.requires.0 (omega arith) _ c.early-here.ensures)

pub offset_bounds-places-i : goal.offset_bounds-places-i
offset_bounds-places-i c = omega (arith, c.requires.1)

pub bounds-places-i : goal.bounds-places-i
bounds-places-i c = omega (arith, c.requires.1)

pub spelled-at-requires : goal.spelled-at-requires
spelled-at-requires c = (omega (arith, c.loop-i.invariant.counted, c.requires.0, c.requires.1, gap_ends c.loop-i.invariant c.requires.1 c.requires.0 (omega arith) _ c.early-here.ensures c.gap-from.ensures), kind_in c.args.kinds.now c.loop-i.i c.requires.3 (omega arith))

pub overflow_add-i : goal.overflow_add-i
overflow_add-i c = omega (arith, c.requires.1)

pub late-s-requires : goal.late-s-requires
late-s-requires c = (here_small c.loop-i.invariant c.requires.1 c.requires.0 (omega arith) _ c.early-here.ensures, omega (arith, here_around c.loop-i.invariant c.requires.1 c.requires.0 (omega arith) _ c.early-here.ensures, c.loop-i.invariant.grows.around, c.loop-i.invariant.holds, c.requires.1), here_low c.loop-i.invariant c.requires.1 c.requires.0 (omega arith) _ c.early-here.ensures)

pub loop-i-preserved : goal.loop-i-preserved
loop-i-preserved c = laying_next c.loop-i.invariant c.requires.1 c.requires.0 (omega arith) _ _ _ (kind_in c.args.kinds.now c.loop-i.i c.requires.3 (omega arith)) c.early-here.ensures c.gap-from.ensures c.spelled-at.ensures c.kind_at.ensures c.late-s.ensures

pub put-requires : goal.put-requires
put-requires c = omega (arith, c.loop-i.invariant.counted, c.loop-i.invariant.within, c.requires.1)

pub shape_of-held : goal.shape_of-held
shape_of-held c = c.loop-i.invariant.holds ∙ sym c.requires.2

pub shape_of-page : goal.shape_of-page
shape_of-page c = c.put.ensures.size ∙ c.loop-i.invariant.putting.puts.size

pub returns : goal.returns
returns c = laying_done c.loop-i.invariant (omega arith) c.put.ensures
