-- `syntax::preludes::all` meets its contract: the reader's answer, and then what proofs/WholePrelude says of all symbols. Assumes nothing.
use mathlib.Core.Path.{sym, ◌∙◌}
use native.Mathlib.Omega.{arith}
use Rattle.grammar.proofs.Peeks.{text_length}
use Rattle.syntax.proofs.WholePrelude.{settled}
use Rattle.syntax.proofs.preludes.all.Goals as goal

pub prelude-one-requires : goal.prelude-one-requires
prelude-one-requires c = record { inside = omega arith; short = omega (arith, text_length c.args.kinds.now, c.requires.0); size = c.requires.1; room = omega arith }

pub returns : goal.returns
returns c = settled c.prelude-one.result c.prelude-one.ensures (c.prelude-one.auto.nodes ∙ c.requires.1) (sym (text_length c.args.kinds.now)) c.settle.ensures
