-- `emitting::layout::lay_node` meets its contract: each kind puts the tests of `lay_node` right.
-- Assumes nothing.
use mathlib.Core.Path.{sym}
use native.Mathlib.Omega.{arith}
use borrow.Author.Tests.{ne_eqb}
use Rattle.emitting.specs.model.Layout.{lay_node, typed}
use Rattle.emitting.proofs.Spreading.{length_opens}
use Rattle.emitting.proofs.layout.lay_node.Goals as goal

pub procedured-requires : goal.procedured-requires
procedured-requires c = let p = c.requires in let d = p.open_scopes in let e = length_opens c.args.t.open c.args.around.now in let l = p.level in let f = p.declared in (omega arith, omega arith, omega arith)

pub closed-requires : goal.closed-requires
closed-requires c = let p = c.requires in let d = p.open_scopes in let e = length_opens c.args.t.open c.args.around.now in let l = p.level in omega arith

pub blocked-requires : goal.blocked-requires
blocked-requires c = let p = c.requires in let d = p.open_scopes in let e = length_opens c.args.t.open c.args.around.now in let l = p.level in omega arith

pub closed-requires-in-3 : goal.closed-requires-in-3
closed-requires-in-3 c = let p = c.requires in let d = p.open_scopes in let e = length_opens c.args.t.open c.args.around.now in let l = p.level in omega arith

pub returns-in-4 : goal.returns-in-4
unfolding lay_node typed
returns-in-4 c = λ s b. simp c.in-4.is

pub returns-in-5 : goal.returns-in-5
unfolding lay_node
returns-in-5 c = λ s b. simp c.in-5.is c.varied.ensures

pub returns-in-7 : goal.returns-in-7
unfolding lay_node
returns-in-7 c = λ s b. simp c.in-7.is (c.celled.ensures c.args.around.now)

pub returns-in-6 : goal.returns-in-6
unfolding lay_node
returns-in-6 c = λ s b. simp c.in-6.is c.procedured.ensures

pub returns-in-11 : goal.returns-in-11
unfolding lay_node
returns-in-11 c = λ s b. simp (c.in-11.is, sym c.saturating_sub.ensures) (c.closed.ensures c.args.table.now)

pub returns-in-1 : goal.returns-in-1
unfolding lay_node
returns-in-1 c = λ s b. simp c.in-1.is (c.blocked.ensures.by_index c.args.table.now)

pub returns-in-3 : goal.returns-in-3
unfolding lay_node
returns-in-3 c = λ s b. simp c.in-3.is (c.closed-in-3.ensures c.args.table.now)

pub returns-in_default : goal.returns-in_default
unfolding lay_node
returns-in_default c =
    let r = c.in_default.in_default-own.rest in
    λ s b. simp (ne_eqb _ _ r.1, ne_eqb _ _ r.0.1, ne_eqb _ _ r.0.0.1, ne_eqb _ _ r.0.0.0.1, ne_eqb _ _ r.0.0.0.0.1, ne_eqb _ _ r.0.0.0.0.0.1, ne_eqb _ _ r.0.0.0.0.0.0.1)
