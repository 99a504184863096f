-- By what the operation came to.
use Rattle.machine.proofs.Execs.{lift_good, lift_err, good_sound, err_sound}
use Rattle.machine.proofs.control.lift.Goals as goal

pub returns-in-Ok : goal.returns-in-Ok
returns-in-Ok c =
    let args = c.args in
    record { o_value = λ s i o l. lift_good _ args.next args.live s i o l c.in-Ok.is; sound_g = λ s o o' l g v. good_sound s o o' l g args.next args.live c.in-Ok.is v }

pub returns-in-Err : goal.returns-in-Err
returns-in-Err c =
    let args = c.args in
    rw c.stopped.ensures (record { o_value = λ s i o l. lift_err args.at args.live s i o l args.next c.in-Err.e c.in-Err.is; sound_g = λ s o o' l g v. err_sound args.at s o o' l g c.in-Err.e c.in-Err.is })
