-- What `read_two` and `translate_scheme` answer and leave, against what is listed of a prelude and two schemes, each of which has a text as a source has; and
-- what `read_two` leaves of an accepted source behind a prelude that it does not use, against what `read` leaves of it. As a tally.
use Rattle.std.specs.Prelude.{ℕ, zero, suc, ◌+◌, ◌*◌, ◌<◌, ◌≤◌, min, ◌≡◌, Bool, true, false, cond, ◌&&◌, List, [], eqb, ltb, length, get_or, take, drop, replicate}
use Rattle.answers.specs.Numbers.{too_large}
use Rattle.answers.specs.Answers.{number_of}
use Rattle.answers.specs.declared.Verdict.{Verdict}
use Rattle.symbols.specs.Text.{bytes}
use Rattle.reading.specs.Reading.{Reads}
use Rattle.reading.specs.Two.{ReadsTwo}
use Rattle.translating.specs.With.{TranslatesWith}
use Rattle.vectors.specs.declared.tally.Tally.{Tally}
use Rattle.vectors.specs.Listed.{nothing, one_source, checked, answered_by, accepted_by, same_uses}
use Rattle.vectors.specs.Pages.{all}
use Rattle.vectors.specs.Ended.{after_translate}

-- ---- a half: the uses that are listed, or zero

unfoldable pub half_by : Verdict → List ℕ → List ℕ → Bool
half_by v half text = cond (accepted_by v) (same_uses half text) (all 0 half)

unfoldable pub after_half : Verdict → List ℕ → List ℕ → Tally → Tally
after_half v half text t = checked (half_by v half text) (checked (answered_by v text) t)

-- ---- both: a table that held 7, of less than 32,768 words as it was, of more with two halves and behind them as it was

unfoldable pub after_both : Verdict → Verdict → List ℕ → List ℕ → List ℕ → Tally → Tally
after_both v v' table text text' t =
    cond (ltb (length table) 32768)
    (checked (all 7 table) (checked (answered_by v' text') (checked (answered_by v text) t)))
    (checked (all 7 (drop 32768 table)) (after_half v' (take 16384 (drop 16384 table)) text' (after_half v (take 16384 table) text t)))

pub record BothTold (prelude first second old text text' : List ℕ) (t r : Tally) : Type 0 where
  pub verdict : Verdict
  pub verdict' : Verdict
  pub table : List ℕ
  pub reads : ReadsTwo prelude first second old verdict verdict' table
  pub told : r ≡ after_both verdict verdict' table text text' t

-- ---- each translated, where enough words were lent for both to be read

pub record SchemeTold (prelude scheme text : List ℕ) (t r : Tally) : Type 0 where
  pub verdict : Verdict
  pub code : List ℕ
  pub translates : TranslatesWith prelude scheme (replicate 16386 7) verdict code
  pub told : r ≡ after_translate verdict code text t

pub data SchemesTold (prelude first second : List ℕ) (lent : ℕ) (text text' : List ℕ) (t : Tally) : Tally → Type 0 where
  too_few : lent < 32768 → SchemesTold prelude first second lent text text' t t
  enough : 32768 ≤ lent → {s r : Tally} → SchemeTold prelude first text t s → SchemeTold prelude second text' s r → SchemesTold prelude first second lent text text' t r

-- ---- a pair, for which so many words are lent, but 40,002 at most

unfoldable pub fresh_table : List ℕ
fresh_table = replicate 40002 7

pub record PairTold (prelude first second : List ℕ) (lent : ℕ) (text text' : List ℕ) (t r : Tally) : Type 0 where
  pub between : Tally
  pub was_read : BothTold prelude first second (take (min lent 40002) fresh_table) text text' (one_source t) between
  pub was_translated : SchemesTold prelude first second (min lent 40002) text text' between r

-- the tally of one row more, whatever bytes its files have
pub record RowTold (t r : Tally) : Type 0 where
  pub prelude : List ℕ
  pub first : List ℕ
  pub second : List ℕ
  pub lent : ℕ
  pub text : List ℕ
  pub text' : List ℕ
  pub told : PairTold prelude first second lent text text' t r

-- .. and of so many
pub data Pairs : ℕ → Tally → Type 0 where
  none : Pairs 0 nothing
  more : {n : ℕ} {t r : Tally} → Pairs n t → RowTold t r → Pairs (n + 1) r

-- ---- a source behind a prelude that it does not use

-- whether k words of a from a place on are those of b so many further on; 0 behind the end of each
unfoldable pub same_from : List ℕ → List ℕ → ℕ → ℕ → ℕ → Bool
same_from a b from at zero = true
same_from a b from at (suc k) = eqb (get_or a at 0) (get_or b (from + at) 0) && same_from a b from (at + 1) k

-- both are refused by 4
abbrev pub over_by : Verdict → Verdict → Bool
over_by v v' = eqb (number_of v) too_large && eqb (number_of v') too_large

-- refused by 4 alone; else the first n words of both halves are those that `read` left
unfoldable pub after_behind : Verdict → Verdict → List ℕ → List ℕ → ℕ → Tally → Tally
after_behind v v' words table n t =
    cond (accepted_by v)
    (checked (same_from table words 16384 0 n) (checked (same_from table words 0 0 n) (checked (accepted_by v') (one_source t))))
    (checked (over_by v v') t)

pub record BehindTold (prelude source table : List ℕ) (n : ℕ) (t r : Tally) : Type 0 where
  pub verdict : Verdict
  pub verdict' : Verdict
  pub words : List ℕ
  pub reads : ReadsTwo prelude source source (replicate 32768 0) verdict verdict' words
  pub told : r ≡ after_behind verdict verdict' words table n t

-- two procedures whose names no source uses
unfoldable pub procedures : List ℕ
procedures = bytes "'integer' 'procedure' zzone; zzone := 1; 'procedure' zztwo; ;"

-- of an accepted source, every word of a half behind an empty prelude, or its uses behind those procedures
pub data SourceTold (source : List ℕ) (named : Bool) (t : Tally) : Tally → Type 0 where
  refused : {v : Verdict} {table : List ℕ} → Reads source (replicate 32768 0) v table → accepted_by v ≡ false → SourceTold source named t t
  alone : {v : Verdict} {table : List ℕ} → Reads source (replicate 32768 0) v table → accepted_by v ≡ true → named ≡ false → {r : Tally} → BehindTold [] source table 16384 t r
      → SourceTold source named t r
  uses : {v : Verdict} {table : List ℕ} → Reads source (replicate 32768 0) v table → accepted_by v ≡ true → named ≡ true → {r : Tally}
      → BehindTold procedures source table (min (3 * get_or table 0 0 + 1) 16384) t r → SourceTold source named t r

-- the tally of so many rows of the index
pub data Sources : ℕ → Bool → Tally → Type 0 where
  no_source : {named : Bool} → Sources 0 named nothing
  one_source_lem : {n : ℕ} {named : Bool} {t : Tally} → Sources n named t → (source : List ℕ) (r : Tally) → SourceTold source named t r → Sources (n + 1) named r
