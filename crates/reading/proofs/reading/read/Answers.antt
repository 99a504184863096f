-- `reading::reading::read` meets its contract: too short a table is 1, and of any other the first 32,768 words are judged.
-- Assumes nothing.
use mathlib.Core.Path.{sym}
use lib.Seq.{length-take-le}
use Rattle.reading.specs.Reading.{enough}
use Rattle.reading.proofs.Answers.{as_short}
use Rattle.reading.proofs.reading.read.Goals as goal

pub returns-then-table-lt32768 : goal.returns-then-table-lt32768
returns-then-table-lt32768 c = as_short c.if-table-lt32768.true c.new.ensures

pub slice_bounds-judged-end-2 : goal.slice_bounds-judged-end-2
slice_bounds-judged-end-2 c = sym (length-take-le 32768 c.args.table.now c.if-table-lt32768.false)

pub judged-requires : goal.judged-requires
judged-requires c = length-take-le 32768 c.args.table.now c.if-table-lt32768.false

pub returns : goal.returns
returns c = enough c.if-table-lt32768.false _ _ c.judged.ensures
