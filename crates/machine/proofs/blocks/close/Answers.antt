-- Fewer cells.
use mathlib.Core.Path.{refl}
use native.Mathlib.Omega.{arith}
use Rattle.machine.proofs.Told.{close_no, close_yes, cut_sound}
use Rattle.machine.proofs.blocks.close.Goals as goal

pub returns-then-k-c : goal.returns-then-k-c
returns-then-k-c c = record { o_value = λ a s i o. close_no c.args.n a s i o c.args.k c.if-k-c.true; sound_d = λ s g. tt }

pub returns : goal.returns
returns c =
    let args = c.args in
    record { o_value = λ a s i o. close_yes args.n a s i o args.k c.if-k-c.false; sound_d = λ s g. (cut_sound _ args.n s g (omega arith), refl) }
