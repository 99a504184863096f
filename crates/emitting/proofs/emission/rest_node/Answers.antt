-- `emitting::emission::rest_node` meets its contract: the tests are those of `rest_node`, in its order.
-- Assumes nothing.
use mathlib.Core.Path.{sym, ap, subst, ◌∙◌}
use native.Mathlib.Omega.{arith}
use Rattle.emitting.specs.model.Emission.{Opened, element_node, loop_node, choice_node, block_node, procedure_node}
use Rattle.emitting.specs.model.Arrays.{things_of, see, Slim}
use Rattle.emitting.proofs.Counters.{fit, slim_top}
use Rattle.emitting.proofs.Dispatch.{rest_element, rest_loop, rest_choice, rest_block, rest_procedure, rest_plain}
use Rattle.emitting.proofs.emission.rest_node.Goals as goal

pub top-c-requires : goal.top-c-requires
top-c-requires c = let g = (fit c.args.t c.args.things.now c.requires.0).open_ones in omega arith

pub element_node-requires : goal.element_node-requires
element_node-requires c =
    let args = c.args in
    (fit args.t args.things.now c.requires.0, subst (Slim 262143) (sym c.top-c.ensures) (slim_top 262143 (things_of args.t.open args.things.now) c.requires.0.things), c.requires.0)

pub returns-then-is_element : goal.returns-then-is_element
returns-then-is_element c =
    let args = c.args in
    λ ly es us. c.element_node.ensures args.known.now.values.now ly es us args.next.now.entries ∙ ap (λ (f : Opened). element_node args.known.now.values.now ly args.known.now.ahead.now es args.n.kind f args.place.at (see args.t us args.things.now args.code.now args.next.now.ahead args.next.now.entries)) c.top-c.ensures ∙ rest_element args.known.now.values.now ly args.known.now.ahead.now es args.known.now.rows.now args.known.now.marks.now args.n.kind args.n.symbol.number args.place.at args.n.one (see args.t us args.things.now args.code.now args.next.now.ahead args.next.now.entries) (sym (c.is_element.ensures args.known.now.values.now ly args.known.now.ahead.now es) ∙ c.if-is_element.true)

pub loop_node-requires : goal.loop_node-requires
loop_node-requires c = fit c.args.t c.args.things.now c.requires.0

pub returns-then-is_loop : goal.returns-then-is_loop
returns-then-is_loop c =
    let args = c.args in
    λ ly es us. c.loop_node.ensures args.known.now.values.now ly args.known.now.ahead.now es us args.next.now.entries ∙ ap (λ (f : Opened). loop_node args.known.now.values.now ly args.known.now.ahead.now es args.n.kind f (see args.t us args.things.now args.code.now args.next.now.ahead args.next.now.entries)) c.top-c.ensures ∙ rest_loop args.known.now.values.now ly args.known.now.ahead.now es args.known.now.rows.now args.known.now.marks.now args.n.kind args.n.symbol.number args.place.at args.n.one (see args.t us args.things.now args.code.now args.next.now.ahead args.next.now.entries) (sym (c.is_element.ensures args.known.now.values.now ly args.known.now.ahead.now es) ∙ c.if-is_element.false) (sym c.is_loop.ensures ∙ c.if-is_loop.true)

pub choice_node-requires : goal.choice_node-requires
choice_node-requires c = fit c.args.t c.args.things.now c.requires.0

pub returns-then-is_choice : goal.returns-then-is_choice
returns-then-is_choice c =
    let args = c.args in
    λ ly es us. (rw c.mark_of-mark.ensures.value at (c.choice_node.ensures args.known.now.values.now ly es us args.next.now.entries ∙ ap (λ (f : Opened). choice_node args.known.now.values.now ly args.known.now.ahead.now es args.n.kind f c.mark_of-mark.result (see args.t us args.things.now args.code.now args.next.now.ahead args.next.now.entries)) c.top-c.ensures)) ∙ rest_choice args.known.now.values.now ly args.known.now.ahead.now es args.known.now.rows.now args.known.now.marks.now args.n.kind args.n.symbol.number args.place.at args.n.one (see args.t us args.things.now args.code.now args.next.now.ahead args.next.now.entries) (sym (c.is_element.ensures args.known.now.values.now ly args.known.now.ahead.now es) ∙ c.if-is_element.false) (sym c.is_loop.ensures ∙ c.if-is_loop.false) (sym (c.is_choice.ensures args.known.now.values.now ly args.known.now.ahead.now es) ∙ c.if-is_choice.true)

pub block_node-requires : goal.block_node-requires
block_node-requires c =
    let args = c.args in
    (fit args.t args.things.now c.requires.0, subst (Slim 262143) (sym c.top-c.ensures) (slim_top 262143 (things_of args.t.open args.things.now) c.requires.0.things), c.requires.1)

pub returns-then-is_block : goal.returns-then-is_block
returns-then-is_block c =
    let args = c.args in
    λ ly es us. c.block_node.ensures args.known.now.values.now ly args.known.now.ahead.now es us args.next.now.entries ∙ ap (λ (f : Opened). block_node args.known.now.values.now ly args.known.now.ahead.now es args.known.now.rows.now args.n.kind f args.place.at (see args.t us args.things.now args.code.now args.next.now.ahead args.next.now.entries)) c.top-c.ensures ∙ rest_block args.known.now.values.now ly args.known.now.ahead.now es args.known.now.rows.now args.known.now.marks.now args.n.kind args.n.symbol.number args.place.at args.n.one (see args.t us args.things.now args.code.now args.next.now.ahead args.next.now.entries) (sym (c.is_element.ensures args.known.now.values.now ly args.known.now.ahead.now es) ∙ c.if-is_element.false) (sym c.is_loop.ensures ∙ c.if-is_loop.false) (sym (c.is_choice.ensures args.known.now.values.now ly args.known.now.ahead.now es) ∙ c.if-is_choice.false) (sym (c.is_block.ensures args.known.now.values.now ly args.known.now.ahead.now es) ∙ c.if-is_block.true)

pub procedure_node-requires : goal.procedure_node-requires
procedure_node-requires c = fit c.args.t c.args.things.now c.requires.0

pub returns-then-is_procedure : goal.returns-then-is_procedure
returns-then-is_procedure c =
    let args = c.args in
    λ ly es us. c.procedure_node.ensures args.known.now.values.now ly es us args.next.now.ahead ∙ ap (λ (f : Opened). procedure_node args.known.now.values.now ly args.known.now.ahead.now es args.n.kind f (see args.t us args.things.now args.code.now args.next.now.ahead args.next.now.entries)) c.top-c.ensures ∙ rest_procedure args.known.now.values.now ly args.known.now.ahead.now es args.known.now.rows.now args.known.now.marks.now args.n.kind args.n.symbol.number args.place.at args.n.one (see args.t us args.things.now args.code.now args.next.now.ahead args.next.now.entries) (sym (c.is_element.ensures args.known.now.values.now ly args.known.now.ahead.now es) ∙ c.if-is_element.false) (sym c.is_loop.ensures ∙ c.if-is_loop.false) (sym (c.is_choice.ensures args.known.now.values.now ly args.known.now.ahead.now es) ∙ c.if-is_choice.false) (sym (c.is_block.ensures args.known.now.values.now ly args.known.now.ahead.now es) ∙ c.if-is_block.false) (sym c.is_procedure.ensures ∙ c.if-is_procedure.true)

pub plain_node-requires : goal.plain_node-requires
plain_node-requires c = (fit c.args.t c.args.things.now c.requires.0, c.requires.0.things, c.requires.1)

pub returns : goal.returns
returns c =
    let args = c.args in
    λ ly es us. c.plain_node.ensures ly args.known.now.ahead.now es us args.next.now.ahead args.next.now.entries ∙ rest_plain args.known.now.values.now ly args.known.now.ahead.now es args.known.now.rows.now args.known.now.marks.now args.n.kind args.n.symbol.number args.place.at args.n.one (see args.t us args.things.now args.code.now args.next.now.ahead args.next.now.entries) (sym (c.is_element.ensures args.known.now.values.now ly args.known.now.ahead.now es) ∙ c.if-is_element.false) (sym c.is_loop.ensures ∙ c.if-is_loop.false) (sym (c.is_choice.ensures args.known.now.values.now ly args.known.now.ahead.now es) ∙ c.if-is_choice.false) (sym (c.is_block.ensures args.known.now.values.now ly args.known.now.ahead.now es) ∙ c.if-is_block.false) (sym c.is_procedure.ensures ∙ c.if-is_procedure.false)
