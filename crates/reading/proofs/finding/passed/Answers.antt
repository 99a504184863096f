-- `reading::finding::passed` meets its contract: what the passes kept, and the lesser of the faults of names; without one, that of types. Of the rows and uses that were lent, what the passes left. Assumes nothing.
use mathlib.Core.Path.{refl}
use native.Mathlib.Omega.{arith}
use lib.ListN.{take}
use Rattle.reading.specs.model.Passing.{Kept, sound}
use Rattle.reading.proofs.Passed.{as_misnamed, as_mistyped, key_is}
use Rattle.reading.proofs.finding.passed.Goals as goal

pub returns-then-fault-lt-NONE : goal.returns-then-fault-lt-NONE
returns-then-fault-lt-NONE c =
    let x : Kept c.args.page.now c.args.places.now (take c.args.words c.args.nodes.now) c.outline-o.new.rows c.resolve-u.new.uses c.args.count c.outline-o.result.count c.resolve-u.result.count = record { ids = c.identify.new.ids; identified = c.identify.ensures; rowed = c.outline-o.ensures.rowed; used = c.resolve-u.ensures.used; small = c.outline-o.ensures.few; few = c.resolve-u.ensures.few } in
    as_misnamed _ x (key_is _ _ _ _ _ c.min-fault.ensures c.outline-o.ensures.least c.resolve-u.ensures.least) c.if-fault-lt-NONE.true _ c.refused.ensures

pub returns-then-mistake-lt-NONE : goal.returns-then-mistake-lt-NONE
returns-then-mistake-lt-NONE c =
    let x : Kept c.args.page.now c.args.places.now (take c.args.words c.args.nodes.now) c.outline-o.new.rows c.resolve-u.new.uses c.args.count c.outline-o.result.count c.resolve-u.result.count = record { ids = c.identify.new.ids; identified = c.identify.ensures; rowed = c.outline-o.ensures.rowed; used = c.resolve-u.ensures.used; small = c.outline-o.ensures.few; few = c.resolve-u.ensures.few } in
    let e = key_is _ _ _ _ _ c.min-fault.ensures c.outline-o.ensures.least c.resolve-u.ensures.least in
    as_mistyped _ x (λ l. omega (arith, l, e, c.if-fault-lt-NONE.false)) c.check-mistake.ensures.value c.if-mistake-lt-NONE.true _ c.refused-then-mistake-lt-NONE.ensures

pub returns : goal.returns
returns c =
    let x : Kept c.args.page.now c.args.places.now (take c.args.words c.args.nodes.now) c.outline-o.new.rows c.resolve-u.new.uses c.args.count c.outline-o.result.count c.resolve-u.result.count = record { ids = c.identify.new.ids; identified = c.identify.ensures; rowed = c.outline-o.ensures.rowed; used = c.resolve-u.ensures.used; small = c.outline-o.ensures.few; few = c.resolve-u.ensures.few } in
    let e = key_is _ _ _ _ _ c.min-fault.ensures c.outline-o.ensures.least c.resolve-u.ensures.least in
    sound _ x (λ l. omega (arith, l, e, c.if-fault-lt-NONE.false)) (λ l. omega (arith, l, c.check-mistake.ensures.value, c.if-mistake-lt-NONE.false)) c.check-mistake.ensures.marks_after refl refl
