-- The quick way, or the other one on a store that is as it was.
use mathlib.Core.Path.{refl, sym, subst}
use Rattle.machine.specs.Instructions.{decode}
use Rattle.machine.specs.model.Holding.{Sound}
use Rattle.machine.proofs.Numbers.{quick_goes, quick_not}
use Rattle.machine.proofs.steps.obey.Goals as goal

pub obey_any-requires : goal.obey_any-requires
obey_any-requires c =
    let e = quick_not (λ q. decode c.args.k q c.args.v) c.args.at c.args.live c.args.n c.args.store.now c.obey.new.store c.args.own.now c.in-None.is c.obey.ensures in
    (subst (Sound c.args.n) (sym e) c.requires.0, c.requires.1, c.requires.2, c.requires.3)

pub returns-in-Some : goal.returns-in-Some
returns-in-Some c =
    let k = quick_goes (λ q. decode c.args.k q c.args.v) c.args.at c.args.live c.args.n c.args.store.now c.obey.new.store c.args.own.now c.in-Some.is c.obey.ensures in
    record { output_after = k.0 c.args.q c.args.input.now c.args.output.now; sound_g = (k.1, c.requires.1, c.requires.2, refl) }

pub returns-in-None : goal.returns-in-None
returns-in-None c =
    let e = quick_not (λ q. decode c.args.k q c.args.v) c.args.at c.args.live c.args.n c.args.store.now c.obey.new.store c.args.own.now c.in-None.is c.obey.ensures in
    record { output_after = rw e at c.obey_any.ensures.output_after; sound_g = c.obey_any.ensures.sound_g }
