-- Paper 02, request 8, "Case means nothing", tried: a source in capitals, against what is listed of the source itself, and its table against the source's; as
-- a tally.
use Rattle.std.specs.Prelude.{ℕ, zero, suc, ◌+◌, ◌-◌, min, ◌≡◌, cond, ◌&&◌, List, [], ◌∷◌, leb, length, get_or, replicate}
use Prim.Native.Char.{code}
use Rattle.answers.specs.declared.Verdict.{Verdict}
use Rattle.symbols.specs.Names.{equal}
use Rattle.reading.specs.Reading.{Reads}
use Rattle.vectors.specs.declared.tally.Tally.{Tally}
use Rattle.vectors.specs.Listed.{one_source, checked, ReadTold}
use Rattle.vectors.specs.Ended.{TranslateTold}

-- a small letter as its capital; every other byte as it is
unfoldable pub capital : ℕ → ℕ
capital b = cond (leb (code "a") b && leb b (code "z")) (b - 32) b

-- so many bytes of a source from a place on, in capitals; 0 behind its end
unfoldable pub capitals_from : List ℕ → ℕ → ℕ → List ℕ
capitals_from source zero at = []
capitals_from source (suc k) at = capital (get_or source at 0) ∷ capitals_from source k (at + 1)

-- the source in capitals, and no more than 131,072 bytes of it
abbrev pub in_capitals : List ℕ → List ℕ
in_capitals source = capitals_from source (min (length source) 131072) 0

-- two sources are read: every word of the tables is the same
pub record AlikeTold (source other : List ℕ) (t r : Tally) : Type 0 where
  pub verdict : Verdict
  pub table : List ℕ
  pub reads : Reads source (replicate 32768 0) verdict table
  pub verdict_other : Verdict
  pub table_other : List ℕ
  pub reads_other : Reads other (replicate 32768 0) verdict_other table_other
  pub told : r ≡ checked (equal table table_other) t

-- another source answers, reads and runs as is listed of this one
pub record TriedTold (source other text : List ℕ) (t r : Tally) : Type 0 where
  pub between : Tally
  pub held : Tally
  pub was_read : ReadTold other text (one_source t) between
  pub was_held : AlikeTold source other between held
  pub was_translated : TranslateTold other text held r

abbrev pub CapitalsTold : List ℕ → List ℕ → Tally → Tally → Type 0
CapitalsTold source text t r = TriedTold source (in_capitals source) text t r
