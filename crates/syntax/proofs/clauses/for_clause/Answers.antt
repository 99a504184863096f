-- `syntax::clauses::for_clause` meets its contract. Assumes nothing.
use mathlib.Core.Path.{refl}
use native.Mathlib.Omega.{arith}
use Rattle.syntax.proofs.Lemmas.{s_put, s_prod, s_last, s_stands, s_lacks, s_exit}
use Rattle.grammar.specs.Grammar as G
use Rattle.syntax.proofs.clauses.for_clause.Goals as goal

pub returns-in_err-name : goal.returns-in_err-name
returns-in_err-name c = λ F. s_exit c.from_residual.ensures.1 (s_prod G.a_clause refl (s_lacks c.in_err-name.ensures))

pub returns-in_err-next : goal.returns-in_err-next
returns-in_err-next c = λ F. s_exit c.from_residual-in_err-next.ensures.1 (s_prod G.a_clause refl (s_stands c.in_ok-name.ensures (s_lacks c.in_err-next.ensures)))

pub returns : goal.returns
returns c = let h1 = c.in_ok-name.ensures in let h2 = c.in_ok-next.ensures in λ F. s_prod G.a_clause refl (s_stands c.in_ok-name.ensures (s_stands c.in_ok-next.ensures (s_put c.put-controlled.ensures (omega arith) (omega arith) (omega arith) (s_last (c.elements.ensures _)))))
