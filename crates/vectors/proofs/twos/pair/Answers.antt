-- `vectors::twos::pair` meets its contract. A part of the table is as long as is listed.
-- Assumes nothing.
use mathlib.Core.Path.{◌≡◌, sym}
use mathlib.Core.List.{List}
use Prim.Native.Nat.{ℕ, min}
use lib.ListN.{take}
use lib.Seq.{length-take-le}
use Rattle.vectors.specs.declared.tally.Tally.{Tally}
use Rattle.vectors.specs.Listed.{one_source}
use Rattle.vectors.specs.Twos.{BothTold, SchemesTold, fresh_table, PairTold}
use borrow.Author.Rules.{rules}
use Rattle.vectors.proofs.twos.pair.Goals as goal

in-turn : {prelude first second table text text' : List ℕ} {lent n : ℕ} {t s b r : Tally} → table ≡ fresh_table → n ≡ min lent 40002 → s ≡ one_source t
    → BothTold prelude first second (take n table) text text' s b → SchemesTold prelude first second n text text' b r → PairTold prelude first second lent text text' t r
in-turn {b = b} e f g h k = record { between = b; was_read = rw (e, f, g) at h; was_translated = rw f at k }

pub slice_bounds-both-end : goal.slice_bounds-both-end
slice_bounds-both-end c = sym (length-take-le _ _ (search rules))

pub returns : goal.returns
returns c = in-turn c.fresh_table-table.ensures c.clipped-n.ensures c.source.ensures c.both-told.ensures c.schemes.ensures
