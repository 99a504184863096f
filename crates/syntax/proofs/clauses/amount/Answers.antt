-- `syntax::clauses::amount` meets its contract: an expression, and the node with its first symbol. Assumes nothing.
use mathlib.Core.Path.{refl}
use Rattle.grammar.specs.Grammar as G
use Rattle.grammar.specs.model.Marked.{first}
use Rattle.syntax.proofs.Lemmas.{s_prod}
use Rattle.syntax.proofs.clauses.amount.Goals as goal

pub returns : goal.returns
returns c = λ F. s_prod G.an_amount refl (c.expression_and.ensures first (λ j. refl) F)
