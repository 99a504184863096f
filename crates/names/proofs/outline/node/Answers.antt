-- `names::outline::node` meets its contract: an arm for each kind of node.
-- Assumes nothing.
use mathlib.Core.Path.{sym, ◌∙◌}
use native.Mathlib.Omega.{arith}
use Rattle.names.proofs.OutlineLaws.{within_next, within_same, entered_is, left_is, typed_is, at_block, at_end, at_type, at_variable, at_procedure, at_formal, at_value, at_specified, at_body, at_other}
use Rattle.names.proofs.outline.node.Goals as goal

pub returns-in-1 : goal.returns-in-1
returns-in-1 c =
    let a = c.args in record { by_index = λ b. entered_is a.o a.rows.now a.stack.now c.enter-o.result _ c.enter-o.ensures.stack_after c.enter-o.ensures.scopes_value.0 ∙ sym (at_block _ _ _ _ b _ c.in-1.is); by_index_2 = λ i w. within_next a.o _ i w (omega arith, omega (arith, c.enter-o.ensures.scopes_value.1), omega (arith, c.enter-o.ensures.scopes_value.0)) }

pub returns-in-3 : goal.returns-in-3
returns-in-3 c =
    let a = c.args in record { by_index = λ b. left_is a.o a.rows.now a.stack.now c.leave-o.result (c.leave-o.ensures.by_index _) c.leave-o.ensures.scopes_value.0 ∙ sym (at_end _ _ _ _ b _ c.in-3.is); by_index_2 = λ i w. within_next a.o _ i w (omega arith, omega (arith, c.leave-o.ensures.scopes_value.1), omega (arith, c.leave-o.ensures.scopes_value.0)) }

pub returns-in-4 : goal.returns-in-4
returns-in-4 c =
    let a = c.args in record { by_index = λ b. typed_is a.o a.rows.now a.stack.now a.n.one ∙ sym (at_type _ _ _ _ b _ c.in-4.is); by_index_2 = λ i w. within_next a.o _ i w (omega arith, omega arith, omega arith) }

pub returns-in-5 : goal.returns-in-5
returns-in-5 c = record { by_index = λ b. c.declare.ensures.stack_after ∙ sym (at_variable _ _ _ _ b _ c.in-5.is); by_index_2 = c.declare.ensures.by_index }

pub returns-in-6 : goal.returns-in-6
returns-in-6 c = record { by_index = λ b. c.procedure.ensures.stack_after ∙ sym (at_procedure _ _ _ _ b _ c.in-6.is); by_index_2 = c.procedure.ensures.by_index }

pub returns-in-7 : goal.returns-in-7
returns-in-7 c = record { by_index = λ b. c.formal.ensures.stack_after ∙ sym (at_formal _ _ _ _ b _ c.in-7.is); by_index_2 = c.formal.ensures.by_index }

pub returns-in-8 : goal.returns-in-8
returns-in-8 c = record { by_index = λ b. c.value.ensures.stack_after ∙ sym (at_value _ _ _ _ b _ c.in-8.is); by_index_2 = within_same c.args.o _ c.value.ensures.rows_value }

pub returns-in-9 : goal.returns-in-9
returns-in-9 c = record { by_index = λ b. c.specify.ensures.stack_after ∙ sym (at_specified _ _ _ _ b _ c.in-9.is); by_index_2 = within_same c.args.o _ c.specify.ensures.rows_value }

pub returns-in-10 : goal.returns-in-10
returns-in-10 c = record { by_index = λ b. c.body.ensures.stack_value ∙ sym (at_body _ _ _ _ b _ c.in-10.is); by_index_2 = within_same c.args.o _ c.body.ensures.rows_value }

pub returns-in_default : goal.returns-in_default
returns-in_default c =
    let a = c.args in
    let r = c.in_default.in_default-own.rest in record { by_index = λ b. sym (at_other _ a.n.kind _ _ b _ r.0.0.0.0.0.0.0.0.1 r.0.0.0.0.0.0.0.1 r.0.0.0.0.0.0.1 r.0.0.0.0.0.1 r.0.0.0.0.1 r.0.0.0.1 r.0.0.1 r.0.1 r.1); by_index_2 = λ i w. within_next a.o _ i w (omega arith, omega arith, omega arith) }
