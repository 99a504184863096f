-- `syntax::clauses::expression_and` meets its contract: the expression's answer, and then the node. Assumes nothing.
use mathlib.Core.Path.{sym}
use mathlib.Core.List.{[]}
use native.Mathlib.Omega.{arith}
use Rattle.syntax.proofs.Lemmas.{got_of, space, s_end, s_put, s_part, s_bad, s_exit}
use Rattle.syntax.proofs.clauses.expression_and.Goals as goal

pub put-end-requires : goal.put-end-requires
put-end-requires c =
    let r = c.requires.0 in
    let g1 = got_of (c.in_ok-next.ensures []) in let s1 = space g1 in
    (omega arith, omega (arith, c.requires.1))

pub returns-in_err-next : goal.returns-in_err-next
returns-in_err-next c = λ w h F. s_exit c.from_residual.ensures.1 (s_bad _ (c.in_err-next.ensures _))

pub returns : goal.returns
returns c =
    let r = c.requires.0 in
    let g1 = got_of (c.in_ok-next.ensures []) in let s1 = space g1 in
    λ w h F. s_part _ (c.in_ok-next.ensures _) (s_put c.put-end.ensures (sym (h _)) (omega arith) (omega arith) (s_end (omega arith)))
