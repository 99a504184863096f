-- `vectors::rows::compare` meets its contract. The source is counted, read, translated and written, and lists for it are checked.
-- Assumes nothing.
use mathlib.Core.Path.{◌≡◌}
use mathlib.Core.List.{List}
use Prim.Native.Nat.{ℕ}
use Rattle.vectors.specs.declared.tally.Tally.{Tally}
use Rattle.vectors.specs.Listed.{one_source, ReadTold}
use Rattle.vectors.proofs.rows.compare.Goals as goal

read-then : (source text : List ℕ) (t s b : Tally) → s ≡ one_source t → ReadTold source text s b → ReadTold source text (one_source t) b
read-then source text t s b e h = rw e at h

pub returns : goal.returns
returns c =
    let a = c.args in
    let counted = c.source in
    let read = c.compare-told in
    record {
      between = read.result;
      ran = c.compare-ran.result;
      paged = c.compare-paged.result;
      was_read = read-then a.source.now a.text.now a.t counted.result read.result counted.ensures read.ensures;
      was_translated = c.compare-ran.ensures;
      was_written = c.compare-paged.ensures;
      was_listed = c.compare.ensures;
    }
