-- A record kept: its words in lent room. "We keep records of monthly runs", and so that it can be held against a fresh run it is the words of
-- specs/Record. Assumes nothing: these are definitions.
use Rattle.std.specs.Prelude.{ℕ, ◌+◌, ◌*◌, Bool, cond, ◌&&◌, List, ◌++◌, leb, ℤ, length, drop, Option, Some, None}
use Rattle.records.specs.Record.{Recorded, record_words}

-- what is said, and what the room holds

pub record Filling : Type 0 where
  pub answer : Option ℕ
  pub room : List ℤ

abbrev pub filling : Option ℕ → List ℤ → Filling
filling a l = record { answer = a; room = l }

-- a length is a word: a number of 32 bits
abbrev pub is_word : ℕ → Bool
is_word n = leb n 2147483647

-- every length is, and the room has as many words as the record: 11, the input numbers, and three for each output entry
abbrev pub has_room : ℕ → ℕ → ℕ → ℕ → ℕ → Bool
has_room n store output m room = is_word n && (is_word store && (is_word output && (is_word m && leb (11 + n + m) room)))

-- the record's words, and what lies behind them untouched; or nothing has changed
unfoldable pub kept_in : Recorded → List ℤ → Filling
kept_in r room =
    cond (has_room (length r.input) r.store_length r.output_length (3 * length r.outputs) (length room))
    (filling (Some (length (record_words r))) (record_words r ++ drop (length (record_words r)) room)) (filling None room)
