-- The invariant: the other words that are left, from here on, decide.
use mathlib.Core.Path.{◌≡◌}
use lib.IntN.{pos}
use lib.ListN.{length, get_or, drop}
use Rattle.records.specs.model.Scanning.{row_of, others_at, entry_at}
use Rattle.records.proofs.scanning.entry.Given as goal

abbrev pub invariant-loop-k : goal.invariant-loop-k
invariant-loop-k l = (l.k-end ≡ length ((row_of l.s).others (get_or l.words l.at (pos 0)))) × (entry_at (row_of l.s) l.words l.at ≡ others_at (drop l.k ((row_of l.s).others (get_or l.words l.at (pos 0)))) l.words l.end)
