-- What is left of the run is the whole of it.
use mathlib.Core.Path.{refl, ◌∙◌}
use native.Mathlib.Omega.{arith}
use Rattle.machine.proofs.Limits.{driving_start, driving_on, driven_stop, driven_limit}
use Rattle.machine.proofs.steps.drive.Goals as goal

pub loop-done-init : goal.loop-done-init
loop-done-init c =
    let args = c.args in
    driving_start args.code.now args.input.now args.limit args.store.now args.output.now args.own.now c.requires.1 c.requires.2 c.requires.3 c.requires.4

pub step-requires : goal.step-requires
step-requires c = (c.loop-done.invariant.sound, c.loop-done.invariant.lives, c.loop-done.invariant.wrote, c.requires.0)

pub overflow_add-done : goal.overflow_add-done
overflow_add-done c = omega (arith, c.loop-done-test.true)

pub shape_of-store-in-Ends : goal.shape_of-store-in-Ends
shape_of-store-in-Ends c = c.step.auto.store ∙ c.loop-done.invariant.long_store

pub shape_of-output-in-Ends : goal.shape_of-output-in-Ends
shape_of-output-in-Ends c = c.step.auto.output ∙ c.loop-done.invariant.long_output

pub returns-in-Ends : goal.returns-in-Ends
returns-in-Ends c = rw c.ended.ensures (driven_stop c.loop-done.invariant c.loop-done-test.true c.step.new.store c.step.new.output c.step.new.own c.step.ensures.output_after c.step.ensures.sound_g c.in-Ends.is refl (λ k. k))

pub overflow_add-done-in-Faults : goal.overflow_add-done-in-Faults
overflow_add-done-in-Faults c = omega (arith, c.loop-done-test.true)

pub shape_of-store-in-Faults : goal.shape_of-store-in-Faults
shape_of-store-in-Faults c = c.step.auto.store ∙ c.loop-done.invariant.long_store

pub shape_of-output-in-Faults : goal.shape_of-output-in-Faults
shape_of-output-in-Faults c = c.step.auto.output ∙ c.loop-done.invariant.long_output

pub returns-in-Faults : goal.returns-in-Faults
returns-in-Faults c = rw (c.ended-in-Faults.ensures, c.new.ensures) (driven_stop c.loop-done.invariant c.loop-done-test.true c.step.new.store c.step.new.output c.step.new.own c.step.ensures.output_after c.step.ensures.sound_g c.in-Faults.is refl (λ k. k))

pub overflow_add-done-in-Strays : goal.overflow_add-done-in-Strays
overflow_add-done-in-Strays c = omega (arith, c.loop-done-test.true)

pub shape_of-store-in-Strays : goal.shape_of-store-in-Strays
shape_of-store-in-Strays c = c.step.auto.store ∙ c.loop-done.invariant.long_store

pub shape_of-output-in-Strays : goal.shape_of-output-in-Strays
shape_of-output-in-Strays c = c.step.auto.output ∙ c.loop-done.invariant.long_output

pub returns-in-Strays : goal.returns-in-Strays
returns-in-Strays c = rw c.ended-in-Strays.ensures (driven_stop c.loop-done.invariant c.loop-done-test.true c.step.new.store c.step.new.output c.step.new.own c.step.ensures.output_after c.step.ensures.sound_g c.in-Strays.is refl (λ k. k))

pub loop-done-preserved : goal.loop-done-preserved
loop-done-preserved c = driving_on c.loop-done.invariant c.loop-done-test.true c.step.new.store c.step.new.output c.step.new.own c.step.ensures.output_after c.step.ensures.sound_g c.in-Goes.is c.step.auto.store c.step.auto.output

pub shape_of-store : goal.shape_of-store
shape_of-store c = c.loop-done.invariant.long_store

pub shape_of-output : goal.shape_of-output
shape_of-output c = c.loop-done.invariant.long_output

pub returns : goal.returns
returns c = rw c.ended-2.ensures (driven_limit c.loop-done.invariant c.loop-done-test.false)
