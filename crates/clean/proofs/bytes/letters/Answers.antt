-- `clean::bytes::letters` meets its contract: what belongs to the run from i on is left. Assumes nothing.
use mathlib.Core.Path.{sym, ◌∙◌}
use native.Mathlib.Omega.{arith}
use lib.ListN.{drop, length-drop}
use Rattle.clean.specs.model.Bytes.{sort_of}
use Rattle.clean.proofs.Putting.{none_put, more_put, all_put, left_over, letters_next, letters_stop, letters_end, run_short}
use Rattle.clean.proofs.bytes.letters.Goals as goal

pub loop-i-init : goal.loop-i-init
loop-i-init c = none_put _ _ _

pub shape_of-page-then-not-goes_on : goal.shape_of-page-then-not-goes_on
shape_of-page-then-not-goes_on c = c.loop-i.invariant.puts.size

pub returns-then-not-goes_on : goal.returns-then-not-goes_on
returns-then-not-goes_on c = all_put c.loop-i.invariant (letters_stop (sort_of c.args.name) c.args.source.now c.loop-i.i (omega arith) (sym c.goes_on.ensures ∙ c.if-not-goes_on.true))

pub put_one-to-requires : goal.put_one-to-requires
put_one-to-requires c =
    let args = c.args in
    omega (arith, left_over c.loop-i.invariant, run_short (sort_of args.name) (drop args.from args.source.now), length-drop args.from args.source.now)

pub loop-i-preserved : goal.loop-i-preserved
loop-i-preserved c = more_put c.loop-i.invariant (letters_next (sort_of c.args.name) c.args.source.now c.loop-i.i (omega arith) (sym c.goes_on.ensures ∙ c.if-not-goes_on.false)) c.put_one-to.ensures

pub shape_of-page : goal.shape_of-page
shape_of-page c = c.loop-i.invariant.puts.size

pub returns : goal.returns
returns c = all_put c.loop-i.invariant (letters_end (sort_of c.args.name) c.args.source.now c.loop-i.i (omega arith))
