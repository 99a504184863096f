-- `vectors::runs::untouched` meets its contract. The numbers from i on are those that are left to compare.
-- Assumes nothing.
use mathlib.Core.Path.{refl}
use lib.Dec.{lit<}
use lib.IntN.{pos}
use mir.Syntax.{w32}
use mir.Val.{SFits}
use Rattle.vectors.proofs.Laws.{stops, goes_on, comes_to_end}
use borrow.Author.Rules.{rules}
use Rattle.vectors.proofs.runs.untouched.Goals as goal

this-one : SFits w32 (pos 9)
this-one = record { sfits = lit< tt }

pub loop-i-init : goal.loop-i-init
loop-i-init c = (search rules, refl)

pub returns-then-output-i-ne-UNWRITTEN : goal.returns-then-output-i-ne-UNWRITTEN
returns-then-output-i-ne-UNWRITTEN c =
    let s = c.args.output.now in
    let l = c.loop-i in
    stops w32 (pos 9) this-one s l.i _ l.invariant.1 c.loop-i-test.true (record { sfits = search rules }) c.if-output-i-ne-UNWRITTEN.true

pub loop-i-preserved : goal.loop-i-preserved
loop-i-preserved c =
    let s = c.args.output.now in
    let l = c.loop-i in
    let g = goes_on w32 (pos 9) this-one s l.i _ l.invariant.1 c.loop-i-test.true (record { sfits = search rules }) c.if-output-i-ne-UNWRITTEN.false in
    (search rules, g)

pub returns : goal.returns
returns c =
    let l = c.loop-i in
    comes_to_end w32 (pos 9) this-one c.args.output.now l.i _ l.invariant.1 c.loop-i-test.false
