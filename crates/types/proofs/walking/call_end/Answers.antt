-- `types::walking::call_end` meets its contract: the newest call ends as a statement or as a primary, by the tests.
use native.Mathlib.Omega.{arith}
use mathlib.Core.Path.{refl, sym, ap, subst, ◌∙◌}
use borrow.Author.Tests.{eq-eqb, ne_eqb}
use Rattle.types.specs.declared.Judgement.{Judgement}
use Rattle.types.specs.model.Arrays.{MeantWithin, see}
use Rattle.types.specs.model.Passes.{judged, with_calls}
use Rattle.types.proofs.Stacks.{meant_within, noted_ap, pushed_ap, miscalled_ap, primary_ap, ended_none, ended_statement, ended_primary}
use Rattle.types.proofs.walking.call_end.Goals as goal

pub returns-in_default : goal.returns-in_default
returns-in_default c =
    let args = c.args in
    λ u b. sym (ended_none args.rows.now args.t.calls args.calls.now args.symbol.number (see args.t u args.stack.now args.calls.now b) args.as_statement (omega (arith, c.in_default.ensures)))

pub miscalled-requires : goal.miscalled-requires
miscalled-requires c = (c.requires.2, subst MeantWithin (sym c.meant-m.ensures) (meant_within _))

pub returns-then-as_statement-eq1 : goal.returns-then-as_statement-eq1
unfolding with_calls
returns-then-as_statement-eq1 c =
    λ u b. c.note.ensures.b_value u _ _ b ∙ noted_ap _ (c.miscalled.ensures ∙ miscalled_ap c.args.rows.now c.meant-m.ensures refl) refl
    ∙ sym (ended_statement c.args.rows.now c.args.t.calls c.args.calls.now c.args.symbol.number (see c.args.t u c.args.stack.now c.args.calls.now b) c.args.as_statement c.in-Some.n (omega (arith, c.in-Some.ensures)) (eq-eqb _ _ c.if-as_statement-eq1.true))

pub in_expression-j-requires : goal.in_expression-j-requires
in_expression-j-requires c = (c.requires.2, subst MeantWithin (sym c.meant-m.ensures) (meant_within _))

pub returns : goal.returns
unfolding judged with_calls
returns c =
    let j = c.in_expression-j.ensures ∙ primary_ap c.args.rows.now c.meant-m.ensures refl in
    λ u b. c.push.ensures u _ b
    ∙ pushed_ap (ap (λ (z : Judgement). z.sort) j) (c.note-2.ensures.b_value u _ _ b ∙ noted_ap _ (ap (λ (z : Judgement). z.wrong) j) refl)
    ∙ sym (ended_primary c.args.rows.now c.args.t.calls c.args.calls.now c.args.symbol.number (see c.args.t u c.args.stack.now c.args.calls.now b) c.args.as_statement c.in-Some.n (omega (arith, c.in-Some.ensures)) (ne_eqb _ _ c.if-as_statement-eq1.false))
