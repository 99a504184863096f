-- By what the test came to.
use Prim.Native.Nat.{◌+◌}
use Rattle.machine.proofs.Execs.{test_yes, test_no, test_err, yes_sound, no_sound, stop_sound}
use Rattle.machine.proofs.Exits.{chosen_as}
use Rattle.machine.proofs.control.lift_test.Goals as goal

pub returns-then-goes_on : goal.returns-then-goes_on
returns-then-goes_on c =
    let args = c.args in
    record { o_value = λ s i o l. test_yes _ args.at args.other args.live s i o l (chosen_as c.in-Ok.is c.if-goes_on.true); sound_g = λ n s o l g h v. yes_sound n s o l (args.at + 1) args.live g h v (chosen_as c.in-Ok.is c.if-goes_on.true) }

pub returns-else-goes_on : goal.returns-else-goes_on
returns-else-goes_on c =
    let args = c.args in
    record { o_value = λ s i o l. test_no _ args.at args.other args.live s i o l (chosen_as c.in-Ok.is c.if-goes_on.false); sound_g = λ n s o l g h v. no_sound n s o l args.other args.live g h v (chosen_as c.in-Ok.is c.if-goes_on.false) }

pub returns-in-Err : goal.returns-in-Err
returns-in-Err c =
    let args = c.args in
    rw c.stopped.ensures (record { o_value = λ s i o l. test_err args.at args.live s i o l args.other c.in-Err.e c.in-Err.is; sound_g = λ n s o l g h v. stop_sound args.at s o l c.in-Err.e })
