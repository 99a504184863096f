-- `types::walking::actual` meets its contract: what is wanted of it comes from the newest call, which has one actual more.
use mathlib.Core.Path.{refl, sym, ap, subst, ◌∙◌}
use mathlib.Core.List.{List}
use native.Mathlib.Omega.{arith}
use Rattle.types.specs.model.Arrays.{MeantWithin, see}
use Rattle.types.specs.declared.Call.{Call}
use Rattle.types.specs.model.Passes.{with_calls, popped}
use Rattle.types.proofs.Stacks.{meant_within, noted_ap, misfit_ap, want_ap, counts_first, calls_again, calls_put, actual_none, actual_some}
use Rattle.types.proofs.walking.actual.Goals as goal

pub returns-in_default : goal.returns-in_default
returns-in_default c =
    let args = c.args in
    λ u b. c.pop.ensures.b_value u _ _ b ∙ sym (actual_none args.rows.now args.t.calls args.calls.now args.symbol.number (see args.t u args.stack.now args.calls.now b) args.bare (omega (arith, c.in_default.ensures)))

pub wanted-w-requires : goal.wanted-w-requires
wanted-w-requires c = (c.requires.3, subst MeantWithin (sym c.meant.ensures) (meant_within _))

pub overflow_add-calls : goal.overflow_add-calls
overflow_add-calls c = let k = counts_first c.args.t.calls c.in-Some.n 8191 c.args.calls.now (omega (arith, c.in-Some.ensures)) c.requires.2 in omega arith

pub returns : goal.returns
unfolding with_calls
returns c =
    λ u b. c.note.ensures.b_value u _ _ b
    ∙ noted_ap _ (c.misfit-wrong.ensures ∙ misfit_ap c.args.rows.now _ _ (c.wanted-w.ensures ∙ want_ap c.args.rows.now c.meant.ensures refl) refl)
    (c.pop-2.ensures.b_value u _ _ b ∙ ap (λ (l : List Call). popped (with_calls l (see c.args.t u c.args.stack.now c.args.calls.now b))) (calls_again c.args.t.calls c.in-Some.n _ (omega (arith, c.in-Some.ensures)) (calls_put c.in-Some.n c.args.calls.now _ (omega (arith, c.in-Some.ensures)))))
    ∙ sym (actual_some c.args.rows.now c.args.t.calls c.args.calls.now c.args.symbol.number (see c.args.t u c.args.stack.now c.args.calls.now b) c.args.bare c.in-Some.n (omega (arith, c.in-Some.ensures)))
