-- The run, and what it wrote put down as its record.
use mathlib.Core.Path.{sym}
use lib.Seq.{length-take-le}
use Rattle.records.proofs.RunRecords.{within, kept_run}
use Rattle.records.proofs.keeping.run_kept.Goals as goal

pub slice_bounds-keep-end : goal.slice_bounds-keep-end
slice_bounds-keep-end c = within c.args.code.now c.args.input.now c.args.limit c.args.store.now c.args.output.now c.run-ran.ensures

pub slice_bounds-keep-end-2 : goal.slice_bounds-keep-end-2
slice_bounds-keep-end-2 c = sym (length-take-le _ _ (within c.args.code.now c.args.input.now c.args.limit c.args.store.now c.args.output.now c.run-ran.ensures))

pub returns : goal.returns
returns c = (c.run-ran.ensures, kept_run c.args.code.now c.args.input.now c.args.limit c.args.store.now c.args.output.now c.run-ran.ensures c.args.room.now c.answer-answer.ensures c.keep-filled.ensures)
