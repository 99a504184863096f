-- The invariant: the entries from here on decide.
use mathlib.Core.Path.{◌≡◌}
use Rattle.std.specs.Slice.Iter.{chunks_exact_rest, chunks_exact_size}
use Rattle.reporting.specs.model.Tallying.{first_in}
use Rattle.reporting.proofs.tallies.first_whole.Given as goal

abbrev pub invariant-loop-entry : goal.invariant-loop-entry
invariant-loop-entry l =
    (goal.iterator-loop-entry).can_next l.entry-iterator × (goal.iterator-loop-entry).is_finite l.entry-iterator
    × (chunks_exact_size l.entry-iterator ≡ 3) × (first_in l.written ≡ first_in (chunks_exact_rest l.entry-iterator))
