-- `emitting::emission::node` meets its contract: a use, the end of an actual or a call, or the rest.
-- Assumes nothing.
use mathlib.Core.Path.{sym, ap, subst, ◌∙◌}
use native.Mathlib.Omega.{arith}
use borrow.Author.Tests.{ne_eqb}
use Rattle.names.specs.model.Rows.{is_use}
use Rattle.emitting.specs.model.Emission.{State, uses_in, Opened, code_node, actual_in, call_ended, popped}
use Rattle.emitting.specs.model.Arrays.{things_of, seen, see, Slim, rest_node}
use Rattle.emitting.proofs.Counters.{fit, slim_top}
use Rattle.emitting.proofs.emission.node.Goals as goal

pub use_node-requires : goal.use_node-requires
use_node-requires c = let p = c.place_in-p.ensures.at_bound in (fit c.args.t c.args.things.now c.requires, omega arith, omega arith, omega arith)

pub returns-then-is_use : goal.returns-then-is_use
unfolding code_node
returns-then-is_use c =
    let args = c.args in
    simp (sym c.is_use.ensures ∙ c.if-is_use.true) (rw c.place_in-p.ensures.at_value at (c.use_node.ensures args.known.now.values.now args.next.now.ahead args.next.now.entries))

pub top-c-requires : goal.top-c-requires
top-c-requires c = let g = (fit c.args.t c.args.things.now c.requires).open_ones in omega arith

pub actual_in-requires : goal.actual_in-requires
actual_in-requires c =
    let args = c.args in
    (fit args.t args.things.now c.requires, subst (Slim 262143) (sym c.top-c.ensures) (slim_top 262143 (things_of args.t.open args.things.now) c.requires.things), c.place_in-p.ensures.at_bound)

pub top-c-requires-in-32 : goal.top-c-requires-in-32
top-c-requires-in-32 c = let g = (fit c.args.t c.args.things.now c.requires).open_ones in omega arith

pub call_ended-requires : goal.call_ended-requires
call_ended-requires c =
    let g = fit c.args.t c.args.things.now c.requires in
    let a = g.at in
    let b = g.slots in
    let d = g.level in
    let e = g.loops in
    let f = g.cells in
    let v = g.declared in
    let h = g.variable in
    let i = g.open_ones in
    let p = c.pop.ensures.alike in
    let q = p.0 in
    let q₁ = q.slots in
    let q₂ = q.level in
    let q₃ = q.loops in
    let q₄ = q.cells in
    let q₅ = q.lefts in
    let q₆ = q.declared in
    let r = p.1 in
    let s = p.2 in
    let u = p.3 in
    let x = c.place_in-p.ensures.at_bound in
    (record { at = omega arith; slots = omega arith; level = omega arith; loops = omega arith; cells = omega arith; declared = omega arith; variable = omega arith; open_ones = omega arith }, subst (Slim 262143) (sym c.top-c-in-32.ensures) (slim_top 262143 (things_of c.args.t.open c.args.things.now) c.requires.things), omega arith, omega arith)

pub returns-in-33 : goal.returns-in-33
unfolding code_node is_use
returns-in-33 c =
    let a = c.args in
    let us = uses_in a.known.now.rows.now a.uses.now in
    simp c.in-33.is
    (rw c.place_in-p.ensures.at_value at (c.actual_in.ensures a.known.now.values.now a.known.now.layout.now a.known.now.entries.now us a.next.now.entries
    ∙ ap (λ (f : Opened). actual_in c.args.known.now.values.now c.args.known.now.layout.now c.args.known.now.ahead.now c.args.known.now.entries.now c.args.known.now.rows.now f c.place_in-p.result.at (see c.args.t us c.args.things.now c.args.code.now c.args.next.now.ahead c.args.next.now.entries)) c.top-c.ensures))

pub returns-in-32 : goal.returns-in-32
unfolding code_node is_use
returns-in-32 c =
    let g = seen c.top-c-in-32.result in
    simp c.in-32.is
    (rw c.place_in-p.ensures.at_value at (c.call_ended.ensures c.args.known.now.values.now c.args.known.now.ahead.now (uses_in c.args.known.now.rows.now c.args.uses.now) c.args.things.now c.args.next.now.ahead c.args.next.now.entries
    ∙ ap (λ (z : State). call_ended c.args.known.now.values.now c.args.known.now.layout.now c.args.known.now.ahead.now c.args.known.now.entries.now g c.place_in-p.result.at c.args.n.two z) (c.pop.ensures.en_value (uses_in c.args.known.now.rows.now c.args.uses.now) c.args.things.now c.args.code.now c.args.next.now.ahead c.args.next.now.entries)
    ∙ ap (λ (f : Opened). call_ended c.args.known.now.values.now c.args.known.now.layout.now c.args.known.now.ahead.now c.args.known.now.entries.now f c.place_in-p.result.at c.args.n.two (popped (see c.args.t (uses_in c.args.known.now.rows.now c.args.uses.now) c.args.things.now c.args.code.now c.args.next.now.ahead c.args.next.now.entries))) c.top-c-in-32.ensures))

pub returns-in_default : goal.returns-in_default
unfolding code_node rest_node
returns-in_default c =
    let args = c.args in
    simp (sym c.is_use.ensures ∙ c.if-is_use.false, ne_eqb _ _ c.in_default.in_default-own.rest.1, ne_eqb _ _ c.in_default.in_default-own.rest.0.1) (rw c.place_in-p.ensures.at_value at (c.rest_node.ensures args.known.now.layout.now args.known.now.entries.now (uses_in args.known.now.rows.now args.uses.now)))
