-- `paying::run::run_code` meets its contract. The store has two numbers for each of 8,192 cells, and the output room for 65,536 entries.
-- Assumes nothing.
use mathlib.Core.Path.{sym, ◌∙◌}
use lib.IntN.{pos}
use lib.ListN.{take, replicate, length-replicate}
use Rattle.paying.proofs.Running.{length_taken, run_told}
use Rattle.paying.proofs.run.run_code.Goals as goal

pub returns : goal.returns
returns c =
    let a = c.args in
    run_told a.code.now (take a.count a.input.now) (replicate 16384 (pos 0)) (replicate 196608 (pos 0)) a.count a.sizes.limit a.sizes.cells a.sizes.room a.how.strict _ c.show_ran.result c.run_within-ran.result (length-replicate 16384 (pos 0)) (length-replicate 196608 (pos 0)) (c.min.ensures ∙ sym (length_taken a.count a.input.now)) c.show_ran.ensures c.run_within-ran.ensures
