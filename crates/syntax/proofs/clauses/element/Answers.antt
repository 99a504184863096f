-- `syntax::clauses::element` meets its contract. Assumes nothing.
use mathlib.Core.Path.{refl}
use mathlib.Core.List.{[]}
use native.Mathlib.Omega.{arith}
use Rattle.syntax.proofs.Lemmas.{got_of, space, s_put, s_prod, s_part, s_bad, s_exit, s_last}
use Rattle.grammar.specs.Grammar as G
use Rattle.syntax.proofs.clauses.element.Goals as goal

pub put-start-requires : goal.put-start-requires
put-start-requires c =
    let g1 = got_of (c.in_ok-next.ensures []) in let s1 = space g1 in
    (omega arith, omega arith)

pub progress-requires : goal.progress-requires
progress-requires c =
    let g1 = got_of (c.in_ok-next.ensures []) in let s1 = space g1 in
    (record { inside = omega arith; short = omega arith; size = omega arith; room = omega arith }, omega arith)

pub returns-in_err-next : goal.returns-in_err-next
returns-in_err-next c = λ F. s_exit c.from_residual.ensures.1 (s_prod G.an_element refl (s_bad _ (c.in_err-next.ensures _)))

pub returns : goal.returns
returns c = λ F. s_prod G.an_element refl (s_part _ (c.in_ok-next.ensures _) (s_put c.put-start.ensures (omega arith) (omega arith) (omega arith) (s_last (c.progress.ensures _))))
