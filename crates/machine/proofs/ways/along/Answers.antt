-- The formals from the outermost on: those left decide as all do.
use mathlib.Core.Path.{sym, ◌∙◌}
use Rattle.machine.proofs.Turns.{suit_fails, suit_goes, suit_none}
use Rattle.machine.proofs.ways.along.Goals as goal

pub returns-then-not-suits : goal.returns-then-not-suits
returns-then-not-suits c = suit_fails c.args.own.now c.args.form c.loop-j.j c.loop-j-test.true c.link_form.ensures c.suits.ensures c.if-not-suits.true-raw ∙ c.loop-j.invariant

pub loop-j-preserved : goal.loop-j-preserved
loop-j-preserved c = suit_goes c.args.own.now c.args.form c.loop-j.j c.loop-j-test.true c.link_form.ensures c.suits.ensures c.if-not-suits.false-raw ∙ c.loop-j.invariant

pub returns : goal.returns
returns c = sym (suit_none c.args.own.now c.args.form c.loop-j.j c.loop-j-test.false) ∙ c.loop-j.invariant
