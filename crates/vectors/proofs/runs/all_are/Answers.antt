-- `vectors::runs::all_are` meets its contract. The numbers from i on are those that are left to compare.
-- Assumes nothing.
use mathlib.Core.Path.{refl}
use mir.Syntax.{w64}
use mir.Facts.{to_z-of_z}
use Rattle.vectors.proofs.Laws.{stops, goes_on, comes_to_end}
use borrow.Author.Rules.{rules}
use Rattle.vectors.proofs.runs.all_are.Goals as goal

pub loop-i-init : goal.loop-i-init
loop-i-init c = (search rules, refl)

pub returns-then-store-i : goal.returns-then-store-i
returns-then-store-i c =
    let l = c.loop-i in
    stops w64 c.args.x c.ranges.x c.args.store.now l.i _ (rw (to_z-of_z c.ranges.x) at l.invariant.1) c.loop-i-test.true (record { sfits = search rules }) c.if-store-i.true

pub loop-i-preserved : goal.loop-i-preserved
loop-i-preserved c =
    let l = c.loop-i in
    let g = goes_on w64 c.args.x c.ranges.x c.args.store.now l.i _ (rw (to_z-of_z c.ranges.x) at l.invariant.1) c.loop-i-test.true (record { sfits = search rules }) c.if-store-i.false in
    (search rules, rw (to_z-of_z c.ranges.x) g)

pub returns : goal.returns
returns c =
    let l = c.loop-i in
    comes_to_end w64 c.args.x c.ranges.x c.args.store.now l.i _ (rw (to_z-of_z c.ranges.x) at l.invariant.1) c.loop-i-test.false
