-- Which of the three it is.
use mathlib.Core.Path.{refl, ◌∙◌}
use Rattle.machine.proofs.Execs.{strayed, strayed_sound}
use Rattle.machine.proofs.Named.{seek_stray, seek_is}
use Rattle.machine.proofs.control.seek.Goals as goal
use Rattle.machine.specs.Operations.{o_pass}
use Rattle.std.proofs.Common.{◌≡◌}
use Rattle.machine.proofs.control.seek.Goals.{then-k-eq-PASS+else-live-eq0, else-k-eq-PASS}

pub returns-then-live-eq0 : goal.returns-then-live-eq0
returns-then-live-eq0 c =
    let args = c.args in
    record { o_after = λ i o. strayed c.stray.ensures _ _ i o ∙ seek_stray _ args.at _ _ args.own.now args.live args.k args.q args.v c.if-k-eq-PASS.true c.if-live-eq0.true; sound_g = λ o h. strayed_sound c.stray.ensures _ _ o o refl }

pub work_out-requires : goal.work_out-requires
work_out-requires c = (c.requires.0, c.requires.1, c.requires.2, c.fate_of.ensures.lower_bound)

pub returns : goal.returns
returns c =
    let args = c.args in
    let ne : args.k ≡ o_pass → args.live ≡ 0 → ⊥ = elim c.if-k-eq-PASS.branch [ then-k-eq-PASS+else-live-eq0 w ↦ λ e z. w.if-live-eq0.false z | else-k-eq-PASS w ↦ λ e z. w.if-k-eq-PASS.false e ] in
    record { o_after = λ i o. c.work_out.ensures.o_after i o ∙ seek_is _ args.at _ _ args.own.now args.live args.k args.q args.v c.fate_of.ensures.value c.place_of-place.ensures c.requires.3 c.requires.4 ne; sound_g = c.work_out.ensures.sound_g }
