-- The tallies of the rows of the index: each source is read, translated, run and written, and lists for it are checked; and each is tried in capitals.
use Rattle.std.specs.Prelude.{ℕ, ◌+◌, List}
use Rattle.vectors.specs.declared.tally.Tally.{Tally}
use Rattle.vectors.specs.Listed.{nothing, one_source, ReadTold}
use Rattle.vectors.specs.Ended.{TranslateTold}
use Rattle.vectors.specs.Pages.{WriteTold}
use Rattle.vectors.specs.Sent.{ListsTold}
use Rattle.vectors.specs.Capitals.{CapitalsTold}

-- the tally of one row more, of which these are the bytes
pub record RowTold (source text : List ℕ) (t r : Tally) : Type 0 where
  pub between : Tally
  pub ran : Tally
  pub paged : Tally
  pub was_read : ReadTold source text (one_source t) between
  pub was_translated : TranslateTold source text between ran
  pub was_written : WriteTold source text ran paged
  pub was_listed : ListsTold source text paged r

-- the tally of so many rows, whatever bytes their files have
pub data Rows : ℕ → Tally → Type 0 where
  none : Rows 0 nothing
  more : {n : ℕ} {t : Tally} → Rows n t → (source text : List ℕ) (r : Tally) → RowTold source text t r → Rows (n + 1) r

-- .. and of their sources in capitals
pub data CapitalRows : ℕ → Tally → Type 0 where
  none_raised : CapitalRows 0 nothing
  raised : {n : ℕ} {t : Tally} → CapitalRows n t → (source text : List ℕ) (r : Tally) → CapitalsTold source text t r → CapitalRows (n + 1) r
