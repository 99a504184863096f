-- `syntax::clauses::named` meets its contract. Assumes nothing.
use mathlib.Core.Path.{refl, ap}
use mathlib.Core.List.{[], ◌∷◌}
use Prim.Native.Nat.{ℕ}
use native.Mathlib.Omega.{arith}
use Rattle.grammar.specs.model.Tables.{choose}
use Rattle.grammar.proofs.Peeks.{inside, is_at, is_not, but}
use Rattle.syntax.proofs.Lemmas.{s_sy, s_put, s_prod, s_last}
use Rattle.grammar.specs.Grammar as G
use Rattle.syntax.proofs.Choices as C
use borrow.Enum.Refused.{opened}
use Rattle.syntax.proofs.clauses.named.Goals as goal

pub overflow_add-next : goal.overflow_add-next
overflow_add-next c =
    omega arith

pub put-left-requires : goal.put-left-requires
put-left-requires c =
    let i1 = inside _ _ (is_at c.peek.result c.peek.ensures c.in-Becomes.in-Becomes-own.keys1) (λ h. omega arith) in
    (omega arith, omega arith)

pub right-requires : goal.right-requires
right-requires c =
    let i1 = inside _ _ (is_at c.peek.result c.peek.ensures c.in-Becomes.in-Becomes-own.keys1) (λ h. omega arith) in
    record { inside = omega arith; short = omega arith; size = omega arith; room = omega arith }

pub actuals-requires : goal.actuals-requires
actuals-requires c =
    record { inside = omega arith; short = omega arith; size = omega arith; room = omega arith }

pub shape_of-nodes-in-Becomes : goal.shape_of-nodes-in-Becomes
shape_of-nodes-in-Becomes c =
    let i1 = inside _ _ (is_at c.peek.result c.peek.ensures c.in-Becomes.in-Becomes-own.keys1) (λ h. omega arith) in
    omega arith

pub returns-in-Becomes : goal.returns-in-Becomes
returns-in-Becomes c = λ F. s_prod G.assignment (ap (λ (z : ℕ). choose G.named z 0) (is_at c.peek.result c.peek.ensures c.in-Becomes.in-Becomes-own.keys1)) (s_put c.put-left.ensures (omega arith) (omega arith) (omega arith) (s_sy (is_at c.peek.result c.peek.ensures c.in-Becomes.in-Becomes-own.keys1) (s_last (c.right.ensures _))))

pub shape_of-nodes-in_default : goal.shape_of-nodes-in_default
shape_of-nodes-in_default c =
    omega arith

pub returns-in_default : goal.returns-in_default
returns-in_default c = λ F. s_prod G.call (C.else_named (is_not c.peek.result c.peek.ensures (but (34 ∷ [])) 34 refl (opened c.in_default.in_default-own.keys2))) (s_last (c.actuals.ensures _))
