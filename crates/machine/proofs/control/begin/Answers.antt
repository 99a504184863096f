-- Its words, its level, and the display.
use Prim.Native.Nat.{◌+◌}
use native.Mathlib.Omega.{arith}
use Rattle.machine.proofs.Frames.{laid_few, laid_asks, laid_begins}
use Rattle.machine.proofs.control.begin.Goals as goal

pub rise-requires : goal.rise-requires
rise-requires c = (omega (arith, c.requires.1), omega (arith, c.requires.1, c.requires.4), laid_few c.args.own.now c.args.live (c.args.at + 1) c.args.first c.args.outer c.args.fate c.args.q c.requires.0 c.requires.1 c.requires.4 c.lay.ensures)

pub renew-requires : goal.renew-requires
renew-requires c = laid_asks c.args.own.now c.args.live (c.args.at + 1) c.args.first c.args.outer c.args.fate c.args.q c.requires.0 c.requires.1 c.requires.4 c.lay.ensures c.rise.ensures

pub returns : goal.returns
returns c = laid_begins c.args.own.now c.args.live (c.args.at + 1) c.args.first c.args.outer c.args.fate c.args.q c.requires.0 c.requires.1 c.requires.4 c.lay.ensures c.rise.ensures c.renew.ensures.agree c.renew.ensures.shows
