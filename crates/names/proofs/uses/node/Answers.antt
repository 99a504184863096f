-- `uses::node` is what the node's kind says: a scope opened, one left, a use, or nothing.
-- For each arm the kind is one of a few numbers, and the definition at these is a law of UseLaws.
use Prim.Native.Nat.{◌≤◌, ◌<◌}
use mathlib.Core.Path.{◌≡◌}
use mathlib.Core.Logic.{◌⊎◌, inl, inr}
use native.Mathlib.Omega.{arith}
use Rattle.names.specs.model.Arrays.{see_uses}
use Rattle.names.proofs.UseLaws.{uses_name, passes, node_opens, node_closes}
use Rattle.names.proofs.uses.node.Goals as goal
use Rattle.names.proofs.uses.node.Goals.{in-15-1, in_default+else-n-lt30+then-n-lt32}

pub returns-in-1 : goal.returns-in-1
returns-in-1 c =
    let a = c.args in
    let e = c.enter-u in
    record { by_index = λ x y. node_opens a.ids.now a.rows.now a.uses.now a.stack.now a.u a.n.kind a.n.symbol.number x y e.result e.new.stack c.in-1.is e.ensures.stack_after e.ensures.scopes_value.0; by_index_2 = λ i w. omega arith }

pub returns-in-3 : goal.returns-in-3
returns-in-3 c =
    let a = c.args in
    let e = c.leave-u in
    record { by_index = λ x y. node_closes a.ids.now a.rows.now a.uses.now a.stack.now a.u a.n.kind a.n.symbol.number x y e.result c.in-3.is (e.ensures.by_index a.stack.now) e.ensures.scopes_value.0; by_index_2 = λ i w. omega arith }

pub returns-in_default : goal.returns-in_default
returns-in_default c =
    let a = c.args in
    let r = c.in_default.in_default-own.rest in
    record { by_index = λ x y. passes a.ids.now a.rows.now a.n.kind a.n.symbol.number x y (see_uses a.u a.uses.now a.stack.now) r.0.0.1 r.0.1 r.1 (λ h l. omega arith); by_index_2 = λ i w. omega arith }

pub returns-in_default-2 : goal.returns-in_default-2
returns-in_default-2 c =
    let a = c.args in
    let r = c.in_default.in_default-own.rest in
    record { by_index = λ x y. passes a.ids.now a.rows.now a.n.kind a.n.symbol.number x y (see_uses a.u a.uses.now a.stack.now) r.0.0.1 r.0.1 r.1 (λ h l. omega arith); by_index_2 = λ i w. omega arith }

pub returns-in-15 : goal.returns-in-15
returns-in-15 c =
    let a = c.args in
    let r = c.used in
    let k : ((a.n.kind ≡ 15) ⊎ (a.n.kind ≡ 23)) ⊎ ((30 ≤ a.n.kind) × (a.n.kind < 32)) = elim c.in-15-1.branch [ in-15-1 w ↦ inl w.in-15-1.keys3 | in_default+else-n-lt30+then-n-lt32 w ↦ inr (omega arith, omega arith) ] in
    record { by_index = λ x y. uses_name a.ids.now a.rows.now a.n.kind a.n.symbol.number x y (see_uses a.u a.uses.now a.stack.now) _ r.ensures.stack_after k; by_index_2 = r.ensures.by_index }
