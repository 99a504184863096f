-- `syntax::clauses::value` meets its contract: an expression, and the node with the `:=` before it. Assumes nothing.
use native.Mathlib.Omega.{arith}
use Rattle.grammar.specs.model.Marked.{before}
use Rattle.syntax.proofs.clauses.value.Goals as goal

pub returns : goal.returns
returns c = λ F. c.expression_and.ensures before (λ j. omega arith) F
