-- `syntax::headings::list_to` meets its contract: the list's answer, and then the symbol's. Assumes nothing.
use mathlib.Core.List.{[]}
use native.Mathlib.Omega.{arith}
use Rattle.syntax.proofs.Lemmas.{s_end, s_part, s_bad, s_exit, got_of, space, s_stands, s_lacks}
use Rattle.syntax.proofs.headings.list_to.Goals as goal

pub returns-in_err-next : goal.returns-in_err-next
returns-in_err-next c = λ d F. s_exit c.from_residual.ensures.1 (s_bad _ (c.in_err-next.ensures _ _))

pub returns-in_err-next-2 : goal.returns-in_err-next-2
returns-in_err-next-2 c = λ d F. s_exit c.from_residual-in_err-next-2.ensures.1 (s_part _ (c.in_ok-next.ensures _ _) (s_lacks c.in_err-next-2.ensures))

pub returns : goal.returns
returns c =
    let r = c.requires.0 in
    let g1 = got_of (c.in_ok-next.ensures 0 []) in let s1 = space g1 in
    let h1 = c.in_ok-next-2.ensures in
    λ d F. s_part _ (c.in_ok-next.ensures _ _) (s_stands c.in_ok-next-2.ensures (s_end (omega arith)))
