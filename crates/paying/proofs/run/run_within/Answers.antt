-- `paying::run::run_within` meets its contract. The machine is lent the first of each.
-- Assumes nothing.
use mathlib.Core.Path.{sym}
use lib.Seq.{length-take-le}
use Rattle.paying.proofs.Running.{ran_as}
use borrow.Author.Rules.{rules}
use Rattle.paying.proofs.run.run_within.Goals as goal

pub slice_bounds-run-end : goal.slice_bounds-run-end
slice_bounds-run-end c = sym (length-take-le _ _ (search rules))

pub slice_bounds-run-end-3 : goal.slice_bounds-run-end-3
slice_bounds-run-end-3 c = sym (length-take-le _ _ (search rules))

pub slice_bounds-run-end-5 : goal.slice_bounds-run-end-5
slice_bounds-run-end-5 c = sym (length-take-le _ _ (search rules))

pub returns : goal.returns
returns c =
    let a = c.args in
    ran_as a.code.now a.input.now a.store.now a.output.now a.count a.sizes.limit a.sizes.cells a.sizes.room _ _ _ c.min-taken.ensures c.numbers_for-numbers.ensures c.min-room.ensures _ _ _ c.run.ensures
