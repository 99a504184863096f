-- `syntax::clauses::further` meets its contract: the symbols left fall. Assumes nothing.
use mathlib.Core.Path.{refl, ap}
use mathlib.Core.List.{[], ◌∷◌}
use Prim.Native.Nat.{ℕ}
use native.Mathlib.Omega.{arith}
use Rattle.grammar.specs.model.Tables.{choose}
use Rattle.grammar.proofs.Peeks.{inside, is_at, is_not, but}
use Rattle.syntax.proofs.Lemmas.{got_of, space, s_end, s_sy, s_prod, s_part, s_bad, s_exit, s_last}
use Rattle.grammar.specs.Grammar as G
use Rattle.syntax.proofs.Choices as C
use Prim.Native.Nat.{ℕ}
use borrow.Enum.Refused.{opened}
use Rattle.syntax.proofs.clauses.+further.Goals as goal

pub element-requires : goal.element-requires
element-requires t c =
    let i1 = inside _ _ (is_at c.peek.result c.peek.ensures c.in-Comma.in-Comma-own.keys1) (λ h. omega arith) in
    record { inside = omega arith; short = omega arith; size = omega arith; room = omega arith }

pub further-requires : goal.further-requires
further-requires t c =
    let i1 = inside _ _ (is_at c.peek.result c.peek.ensures c.in-Comma.in-Comma-own.keys1) (λ h. omega arith) in
    let g1 = got_of (c.in_ok-next-in-Comma.ensures []) in let s1 = space g1 in
    (omega arith, record { inside = omega arith; short = omega arith; size = omega arith; room = omega arith })

pub returns-in_err-next-in-Comma : goal.returns-in_err-next-in-Comma
returns-in_err-next-in-Comma t c = λ F. s_exit c.from_residual.ensures.1 (s_prod G.another_element (ap (λ (z : ℕ). choose G.further z 0) (is_at c.peek.result c.peek.ensures c.in-Comma.in-Comma-own.keys1)) (s_sy (is_at c.peek.result c.peek.ensures c.in-Comma.in-Comma-own.keys1) (s_bad _ (c.in_err-next-in-Comma.ensures _))))

pub returns-in_ok-next-in-Comma : goal.returns-in_ok-next-in-Comma
returns-in_ok-next-in-Comma t c = λ F. s_prod G.another_element (ap (λ (z : ℕ). choose G.further z 0) (is_at c.peek.result c.peek.ensures c.in-Comma.in-Comma-own.keys1)) (s_sy (is_at c.peek.result c.peek.ensures c.in-Comma.in-Comma-own.keys1) (s_part _ (c.in_ok-next-in-Comma.ensures _) (s_last (c.further.ensures _))))

pub returns-in_default : goal.returns-in_default
returns-in_default t c =
    λ F. s_prod G.no_element (C.else_further (is_not c.peek.result c.peek.ensures (but (32 ∷ [])) 32 refl (opened c.in_default.in_default-own.keys2))) (s_end (omega arith))
