-- `syntax::headings::list` meets its contract: the symbols left fall. Assumes nothing.
use mathlib.Core.Path.{refl, ap}
use mathlib.Core.List.{[], ◌∷◌}
use Prim.Native.Nat.{ℕ}
use native.Mathlib.Omega.{arith}
use Rattle.grammar.specs.model.Tables.{choose}
use Rattle.grammar.proofs.Peeks.{inside, is_at, is_not, but}
use Rattle.syntax.proofs.Lemmas.{put_as, s_end, s_sy, s_put, s_prod, s_last, s_stands, s_lacks, s_exit}
use Rattle.grammar.specs.Grammar as G
use Rattle.syntax.proofs.Choices as C
use Prim.Native.Nat.{ℕ}
use borrow.Enum.Refused.{opened}
use Rattle.syntax.proofs.headings.+list.Goals as goal

pub returns-in_err-next : goal.returns-in_err-next
returns-in_err-next t c = λ d F. s_exit c.from_residual.ensures.1 (s_prod (G.a_list c.args.e) refl (s_lacks c.in_err-next.ensures))

pub list-requires : goal.list-requires
list-requires t c =
    let h1 = c.in_ok-next.ensures in
    let i1 = inside _ _ (is_at c.peek.result c.peek.ensures c.in-Comma.in-Comma-own.keys1) (λ h. omega arith) in
    (omega arith, record { inside = omega arith; short = omega arith; size = omega arith; room = omega arith })

pub returns-in-Comma : goal.returns-in-Comma
returns-in-Comma t c = let h1 = c.in_ok-next.ensures in λ d F. s_prod (G.a_list c.args.e) refl (s_stands c.in_ok-next.ensures (s_put (put_as c.entry_node.ensures c.put-used.ensures) (omega arith) (omega arith) (omega arith) (s_prod (G.another c.args.e) (ap (λ (z : ℕ). choose (G.others c.args.e) z 0) (is_at c.peek.result c.peek.ensures c.in-Comma.in-Comma-own.keys1)) (s_sy (is_at c.peek.result c.peek.ensures c.in-Comma.in-Comma-own.keys1) (s_last (c.list.ensures _ _))))))

pub returns-in_default : goal.returns-in_default
returns-in_default t c =
    let h1 = c.in_ok-next.ensures in
    λ d F. s_prod (G.a_list c.args.e) refl (s_stands c.in_ok-next.ensures (s_put (put_as c.entry_node.ensures c.put-used.ensures) (omega arith) (omega arith) (omega arith) (s_prod (G.no_other c.args.e) (C.else_others c.args.e (is_not c.peek.result c.peek.ensures (but (32 ∷ [])) 32 refl (opened c.in_default.in_default-own.keys2))) (s_end (omega arith)))))
