-- `syntax::clauses::stepping` meets its contract. Assumes nothing.
use mathlib.Core.Path.{refl}
use mathlib.Core.List.{[]}
use native.Mathlib.Omega.{arith}
use Rattle.syntax.proofs.Lemmas.{got_of, space, s_put, s_prod, s_part, s_bad, s_exit, s_last, s_stands, s_lacks}
use Rattle.grammar.specs.Grammar as G
use Rattle.syntax.proofs.clauses.stepping.Goals as goal

pub returns-in_err-next : goal.returns-in_err-next
returns-in_err-next c = λ F. s_exit c.from_residual.ensures.1 (s_prod G.a_step refl (s_lacks c.in_err-next.ensures))

pub returns-in_err-next-2 : goal.returns-in_err-next-2
returns-in_err-next-2 c = let h1 = c.in_ok-next.ensures in λ F. s_exit c.from_residual-in_err-next-2.ensures.1 (s_prod G.a_step refl (s_stands c.in_ok-next.ensures (s_put c.put-begun.ensures (omega arith) (omega arith) (omega arith) (s_bad _ (c.in_err-next-2.ensures _)))))

pub returns-in_err-next-3 : goal.returns-in_err-next-3
returns-in_err-next-3 c = let h1 = c.in_ok-next.ensures in λ F. s_exit c.from_residual-in_err-next-3.ensures.1 (s_prod G.a_step refl (s_stands c.in_ok-next.ensures (s_put c.put-begun.ensures (omega arith) (omega arith) (omega arith) (s_part _ (c.in_ok-next-2.ensures _) (s_lacks c.in_err-next-3.ensures)))))

pub amount-requires-2 : goal.amount-requires-2
amount-requires-2 c =
    let h1 = c.in_ok-next.ensures in
    let g1 = got_of (c.in_ok-next-2.ensures []) in let s1 = space g1 in
    let h2 = c.in_ok-next-3.ensures in
    record { inside = omega arith; short = omega arith; size = omega arith; room = omega arith }

pub returns : goal.returns
returns c = let h1 = c.in_ok-next.ensures in let h2 = c.in_ok-next-3.ensures in λ F. s_prod G.a_step refl (s_stands c.in_ok-next.ensures (s_put c.put-begun.ensures (omega arith) (omega arith) (omega arith) (s_part _ (c.in_ok-next-2.ensures _) (s_stands c.in_ok-next-3.ensures (s_last (c.amount-2.ensures _))))))
