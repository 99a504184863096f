-- `clean::bytes::digits_end` meets its contract: what is passed and what the digits reach from i on is the whole reach. Assumes nothing.
use mathlib.Core.Path.{refl, sym, ◌∙◌}
use native.Mathlib.Omega.{arith}
use native.Mathlib.Decide.{dec_lt}
use lib.ListN.{length}
use Rattle.symbols.specs.Names.{digit}
use Rattle.symbols.proofs.Laws.{reach_end}
use Rattle.clean.proofs.Putting.{reach_next, reach_stops}
use Rattle.clean.proofs.bytes.digits_end.Goals as goal

pub loop-i-init : goal.loop-i-init
loop-i-init c = refl

pub returns-then-not-goes_on : goal.returns-then-not-goes_on
returns-then-not-goes_on c =
    let l = c.loop-i in
    let r = reach_stops digit c.args.source.now l.i c.loop-i-test.true (sym c.goes_on.ensures ∙ c.if-not-goes_on.true) in
    omega (arith, l.invariant, r)

pub loop-i-preserved : goal.loop-i-preserved
loop-i-preserved c =
    let l = c.loop-i in
    let r = reach_next digit c.args.source.now l.i c.loop-i-test.true (sym c.goes_on.ensures ∙ c.if-not-goes_on.false) in
    omega (arith, l.invariant, r)

pub returns : goal.returns
returns c =
    let l = c.loop-i in
    let x = c.args in
    let r = reach_end digit x.source.now l.i c.loop-i-test.false in
    elim (dec_lt x.from (length x.source.now)) [
      | yes h ↦ omega (arith, l.invariant, r, c.max.ensures, l.auto.i-end)
      | no h ↦ omega (arith, reach_end digit x.source.now x.from (omega arith), c.max.ensures)
    ]
