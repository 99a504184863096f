-- The first cell stays, or none.
use mathlib.Core.Path.{refl, sym, ◌∙◌}
use native.Mathlib.Omega.{arith}
use Rattle.machine.proofs.Told.{leave_gone_out, leave_gone, leave_kept_out, leave_unset, leave_named, leave_kept, cut_sound}
use Rattle.machine.proofs.blocks.leave.Goals as goal

pub returns-then-b-n : goal.returns-then-b-n
returns-then-b-n c =
    let args = c.args in
    record { o_value = λ x a i o. leave_kept_out args.n a args.store.now i o x args.q args.b args.fate c.if-fate-eq-KEPT.true c.if-b-n.true; sound_d = tt }

pub returns-then-b-n-2 : goal.returns-then-b-n-2
returns-then-b-n-2 c =
    let args = c.args in
    record { o_value = λ x a i o. leave_gone_out args.n a args.store.now i o x args.q args.b args.fate c.if-fate-eq-KEPT.false c.if-b-n-2.true; sound_d = tt }

pub returns-in-Unset : goal.returns-in-Unset
returns-in-Unset c =
    let args = c.args in
    record { o_value = λ x a i o. leave_unset args.n a args.store.now i o x args.q args.b args.fate c.if-fate-eq-KEPT.true c.if-b-n.false (sym c.cell_at.ensures ∙ c.in-Unset.is); sound_d = tt }

pub returns-in-Named : goal.returns-in-Named
returns-in-Named c =
    let args = c.args in
    record { o_value = λ x a i o. leave_named args.n a args.store.now i o x args.q args.b args.fate c.if-fate-eq-KEPT.true c.if-b-n.false (sym c.cell_at.ensures ∙ c.in-Named.is); sound_d = tt }

pub returns-in-Holds : goal.returns-in-Holds
returns-in-Holds c =
    let args = c.args in
    record { o_value = λ x a i o. leave_kept args.n a args.store.now i o x args.q args.b args.fate c.if-fate-eq-KEPT.true c.if-b-n.false (sym c.cell_at.ensures ∙ c.in-Holds.is); sound_d = (cut_sound _ args.n args.store.now c.requires (omega (arith, c.if-b-n.false)), refl) }

pub returns-else-b-n-2 : goal.returns-else-b-n-2
returns-else-b-n-2 c =
    let args = c.args in
    record { o_value = λ x a i o. leave_gone args.n a args.store.now i o x args.q args.b args.fate c.if-fate-eq-KEPT.false c.if-b-n-2.false; sound_d = (cut_sound _ args.n args.store.now c.requires c.if-b-n-2.false, refl) }
