-- `syntax::program` meets its contract: the reader's answer, and then what proofs/Whole says of all symbols. Assumes nothing.
use mathlib.Core.Path.{sym, ◌∙◌}
use native.Mathlib.Omega.{arith}
use Rattle.grammar.proofs.Peeks.{text_length}
use Rattle.syntax.proofs.Whole.{settled}
use Rattle.syntax.proofs.program.Goals as goal

pub block-one-requires : goal.block-one-requires
block-one-requires c = record { inside = omega arith; short = omega (arith, text_length c.args.kinds.now, c.requires.0); size = c.requires.1; room = omega arith }

pub returns : goal.returns
returns c = settled c.block-one.result c.block-one.ensures (c.block-one.auto.nodes ∙ c.requires.1) (sym (text_length c.args.kinds.now)) c.settle.ensures
