-- `reading::moving::page` meets its contract. Zeros, and the two texts laid over them. Assumes nothing.
use native.Mathlib.Omega.{arith}
use lib.ListN.{length}
use Rattle.reading.proofs.Moves.{page_from}
use Rattle.reading.proofs.moving.page.Goals as goal

pub returns : goal.returns
returns c = page_from c.args.scheme.now c.args.prelude.now (length c.args.words.now) (c.fill.ensures.after (λ y e. e)) c.lay.ensures c.lay-2.ensures (omega arith) c.requires.0 c.requires.1
