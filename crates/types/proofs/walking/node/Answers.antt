-- `types::walking::node` meets its contract: a use, or the arm of the node's kind.
use mathlib.Core.Path.{sym, ◌∙◌}
use mathlib.Core.Logic.{inl, inr}
use native.Mathlib.Omega.{arith}
use borrow.Author.Tests.{ne_eqb}
use Rattle.names.specs.model.Rows.{is_use}
use Rattle.types.specs.model.Arrays.{see}
use Rattle.types.specs.model.Passes.{type_node, with_bare, with_rows}
use Rattle.types.proofs.Stacks.{length_opens, length_calls, node_declared}
use Rattle.types.proofs.walking.node.Goals as goal

pub use_node-requires : goal.use_node-requires
use_node-requires c =
    let w = c.requires.0 in
    let d = w.depth in
    let e = length_opens c.args.t.depth c.args.pending.now.sorts in
    let f = w.calls in
    let g = length_calls c.args.t.calls c.args.pending.now.calls in
    let h = w.bodies in
    let k = length_opens c.args.t.bodies c.args.pending.now.bodies in
    (omega arith, omega arith, omega arith, c.requires.1)

pub returns-then-is_use : goal.returns-then-is_use
unfolding type_node with_bare
returns-then-is_use c = simp (sym c.is_use.ensures ∙ c.if-is_use.true) c.use_node.ensures

pub actual-requires : goal.actual-requires
actual-requires c =
    let w = c.requires.0 in
    let d = w.depth in
    let e = length_opens c.args.t.depth c.args.pending.now.sorts in
    let f = w.calls in
    let g = length_calls c.args.t.calls c.args.pending.now.calls in
    (omega arith, omega arith, w.counts, c.requires.1)

pub call_end-requires : goal.call_end-requires
call_end-requires c =
    let w = c.requires.0 in
    let d = w.depth in
    let e = length_opens c.args.t.depth c.args.pending.now.sorts in
    let f = w.calls in
    let g = length_calls c.args.t.calls c.args.pending.now.calls in
    (omega arith, omega arith, c.requires.1)

pub overflow_add-t : goal.overflow_add-t
overflow_add-t c = let r = c.requires.0.rows in omega arith

pub body-requires : goal.body-requires
body-requires c =
    let w = c.requires.0 in
    let h = w.bodies in
    let k = length_opens c.args.t.bodies c.args.pending.now.bodies in
    let r = w.rows in
    (omega arith, omega arith)

pub plain-requires : goal.plain-requires
plain-requires c =
    let d = c.requires.0.depth in
    let e = length_opens c.args.t.depth c.args.pending.now.sorts in
    omega arith

pub returns-in-33 : goal.returns-in-33
unfolding type_node is_use with_bare
returns-in-33 c = simp c.in-33.is (c.actual.ensures c.args.uses.now c.args.pending.now.bodies)

pub returns-in-32 : goal.returns-in-32
unfolding type_node is_use with_bare
returns-in-32 c = simp c.in-32.is (c.call_end.ensures c.args.uses.now c.args.pending.now.bodies)

pub returns-in-5 : goal.returns-in-5
unfolding with_rows with_bare
returns-in-5 c =
    let args = c.args in
    node_declared args.rows.now args.n.kind args.n.symbol.number args.n.one args.n.two (see args.t args.uses.now args.pending.now.sorts args.pending.now.calls args.pending.now.bodies) c.in-5.is

pub returns-in-6 : goal.returns-in-6
unfolding type_node is_use with_bare
returns-in-6 c =
    let args = c.args in
    simp c.in-6.is (c.body.ensures args.uses.now args.pending.now.sorts args.pending.now.calls)

pub returns-in-11 : goal.returns-in-11
unfolding type_node is_use with_bare
returns-in-11 c =
    let args = c.args in
    simp c.in-11.is (c.body_end.ensures args.uses.now args.pending.now.sorts args.pending.now.calls args.pending.now.bodies)

pub returns-in_default : goal.returns-in_default
unfolding type_node with_bare
returns-in_default c =
    let r = c.in_default.in_default-own.rest in
    simp (sym c.is_use.ensures ∙ c.if-is_use.false, ne_eqb _ _ r.1, ne_eqb _ _ r.0.1, ne_eqb _ _ (λ e. r.0.0.1 (inl e)), ne_eqb _ _ (λ e. r.0.0.1 (inr e)), ne_eqb _ _ r.0.0.0.1, ne_eqb _ _ r.0.0.0.0.1)
    (c.plain.ensures c.args.uses.now c.args.pending.now.calls c.args.pending.now.bodies)
