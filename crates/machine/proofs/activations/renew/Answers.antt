-- The entries above the level reached are those of the activation that is to run.
use mathlib.Core.Path.{refl}
use native.Mathlib.Omega.{arith}
use Rattle.machine.proofs.Levels.{renewing_start, renewing_here, renewing_level, renewing_more, renewing_some, renewing_end}
use Rattle.machine.proofs.Works.{not_true, yes_true}
use Rattle.machine.proofs.activations.renew.Goals as goal

pub loop-own-init : goal.loop-own-init
loop-own-init c = (c.level-top.ensures, renewing_start c.args.own.now c.args.to c.level-j.ensures)

pub shown-requires : goal.shown-requires
shown-requires c = renewing_level c.args.own.now c.loop-own.own c.args.to c.loop-own.f c.loop-own.j c.requires.0 c.requires.2 c.requires.4 c.loop-own.invariant.1

pub overflow_cast-own : goal.overflow_cast-own
overflow_cast-own c = omega (arith, renewing_here c.args.own.now c.loop-own.own c.args.to c.loop-own.f c.loop-own.j c.requires.0 c.requires.2 c.requires.4 c.loop-own.invariant.1, c.requires.2)

pub bounds-own-j : goal.bounds-own-j
bounds-own-j c = omega (arith, renewing_level c.args.own.now c.loop-own.own c.args.to c.loop-own.f c.loop-own.j c.requires.0 c.requires.2 c.requires.4 c.loop-own.invariant.1)

pub word-f-requires : goal.word-f-requires
word-f-requires c = (omega (arith, renewing_here c.args.own.now c.loop-own.own c.args.to c.loop-own.f c.loop-own.j c.requires.0 c.requires.2 c.requires.4 c.loop-own.invariant.1, c.requires.2), omega arith)

pub overflow_sub-j : goal.overflow_sub-j
overflow_sub-j c = omega (arith, renewing_some c.args.own.now c.loop-own.own c.args.to c.loop-own.f c.loop-own.j c.requires.0 c.requires.2 c.requires.4 c.loop-own.invariant.1 c.args.from c.requires.3 c.requires.5 (λ h e. c.shown.ensures.fact (not_true refl c.loop-own-test.true-raw) (omega (arith, c.loop-own.invariant.0, h)) e))

pub loop-own-smaller : goal.loop-own-smaller
loop-own-smaller c = omega (arith, renewing_some c.args.own.now c.loop-own.own c.args.to c.loop-own.f c.loop-own.j c.requires.0 c.requires.2 c.requires.4 c.loop-own.invariant.1 c.args.from c.requires.3 c.requires.5 (λ h e. c.shown.ensures.fact (not_true refl c.loop-own-test.true-raw) (omega (arith, c.loop-own.invariant.0, h)) e))

pub loop-own-preserved : goal.loop-own-preserved
loop-own-preserved c = (c.loop-own.invariant.0, renewing_more c.args.own.now c.loop-own.own c.args.to c.loop-own.f c.loop-own.j c.requires.0 c.requires.2 c.requires.4 c.loop-own.invariant.1 refl c.word-f.ensures (renewing_some c.args.own.now c.loop-own.own c.args.to c.loop-own.f c.loop-own.j c.requires.0 c.requires.2 c.requires.4 c.loop-own.invariant.1 c.args.from c.requires.3 c.requires.5 (λ h e. c.shown.ensures.fact (not_true refl c.loop-own-test.true-raw) (omega (arith, c.loop-own.invariant.0, h)) e)))

pub returns : goal.returns
returns c = let h = c.shown.ensures.j_le_top (yes_true refl c.loop-own-test.false-raw) in record { agree = c.loop-own.invariant.1.agree; shows = renewing_end c.args.own.now c.loop-own.own c.args.to c.loop-own.f c.loop-own.j c.requires.0 c.requires.2 c.requires.4 c.loop-own.invariant.1 c.args.from c.requires.3 c.requires.5 (omega (arith, c.loop-own.invariant.0, h.0)) h.1 }
