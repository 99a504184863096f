-- `syntax::clauses::right` meets its contract: the symbols left fall. Assumes nothing.
use mathlib.Core.Path.{refl}
use mathlib.Core.List.{[], ◌∷◌}
use Prim.Native.Nat.{◌+◌}
use native.Mathlib.Omega.{arith}
use Rattle.grammar.specs.model.Text.{text, kind_at}
use Rattle.grammar.proofs.Peeks.{inside, is_at, is_not, but}
use Rattle.syntax.proofs.Lemmas.{s_sy, s_put, s_prod, s_last}
use Rattle.grammar.specs.Grammar as G
use Rattle.syntax.proofs.Choices as C
use borrow.Enum.Refused.{opened}
use Rattle.syntax.proofs.clauses.+right.Goals as goal

pub overflow_add-name : goal.overflow_add-name
overflow_add-name t c =
    omega arith

pub overflow_add-next : goal.overflow_add-next
overflow_add-next t c =
    let i1 = inside _ _ (is_at c.peek.result c.peek.ensures c.in-Name.in-Name-own.keys1) (λ h. omega arith) in
    omega arith

pub put-left-requires : goal.put-left-requires
put-left-requires t c =
    let i1 = inside _ _ (is_at c.peek.result c.peek.ensures c.in-Name.in-Name-own.keys1) (λ h. omega arith) in
    let i2 = inside _ _ (is_at c.peek-in-Name.result c.peek-in-Name.ensures c.in-Becomes.in-Becomes-own.keys1) (λ h. omega arith) in
    (omega arith, omega arith)

pub right-requires : goal.right-requires
right-requires t c =
    let i1 = inside _ _ (is_at c.peek.result c.peek.ensures c.in-Name.in-Name-own.keys1) (λ h. omega arith) in
    let i2 = inside _ _ (is_at c.peek-in-Name.result c.peek-in-Name.ensures c.in-Becomes.in-Becomes-own.keys1) (λ h. omega arith) in
    (omega arith, record { inside = omega arith; short = omega arith; size = omega arith; room = omega arith })

pub value-requires : goal.value-requires
value-requires t c =
    let i1 = inside _ _ (is_at c.peek.result c.peek.ensures c.in-Name.in-Name-own.keys1) (λ h. omega arith) in
    record { inside = omega arith; short = omega arith; size = omega arith; room = omega arith }

pub value-requires-in_default : goal.value-requires-in_default
value-requires-in_default t c =
    record { inside = omega arith; short = omega arith; size = omega arith; room = omega arith }

pub shape_of-nodes-in-Becomes : goal.shape_of-nodes-in-Becomes
shape_of-nodes-in-Becomes t c =
    let i1 = inside _ _ (is_at c.peek.result c.peek.ensures c.in-Name.in-Name-own.keys1) (λ h. omega arith) in
    let i2 = inside _ _ (is_at c.peek-in-Name.result c.peek-in-Name.ensures c.in-Becomes.in-Becomes-own.keys1) (λ h. omega arith) in
    omega arith

pub returns-in-Becomes : goal.returns-in-Becomes
returns-in-Becomes t c = λ F. s_prod G.left (C.left_at (is_at c.peek.result c.peek.ensures c.in-Name.in-Name-own.keys1) (is_at c.peek-in-Name.result c.peek-in-Name.ensures c.in-Becomes.in-Becomes-own.keys1)) (s_sy (is_at c.peek.result c.peek.ensures c.in-Name.in-Name-own.keys1) (s_put c.put-left.ensures (omega arith) (omega arith) (omega arith) (s_sy (is_at c.peek-in-Name.result c.peek-in-Name.ensures c.in-Becomes.in-Becomes-own.keys1) (s_last (c.right.ensures _)))))

pub shape_of-nodes-in_default-peek : goal.shape_of-nodes-in_default-peek
shape_of-nodes-in_default-peek t c =
    let i1 = inside _ _ (is_at c.peek.result c.peek.ensures c.in-Name.in-Name-own.keys1) (λ h. omega arith) in
    omega arith

pub returns-in_default-peek : goal.returns-in_default-peek
returns-in_default-peek t c = λ F. s_prod G.value (C.value_at (is_at c.peek.result c.peek.ensures c.in-Name.in-Name-own.keys1) (is_not c.peek-in-Name.result c.peek-in-Name.ensures (but (34 ∷ [])) 34 refl (opened c.in_default-peek.in_default-peek-own.keys2))) (c.value.ensures _)

pub shape_of-nodes-in_default : goal.shape_of-nodes-in_default
shape_of-nodes-in_default t c =
    omega arith

pub returns-in_default : goal.returns-in_default
returns-in_default t c = λ F. s_prod G.value (C.value_else (kind_at (text c.args.kinds.now) (c.args.becomes + 1 + 1)) (is_not c.peek.result c.peek.ensures (but (38 ∷ [])) 38 refl (opened c.in_default.in_default-own.keys2))) (c.value-in_default.ensures _)
