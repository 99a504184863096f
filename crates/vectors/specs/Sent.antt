-- What `check_list` says of lists of a source, against what is due, as a tally. Of an accepted source these are its own uses as `read` leaves them, a
-- part of them, one word more, and one word changed; and the third line of a text may have a list that was sent: the kind of the answer, its number and
-- place, how many words the list has, and of how many of them the text has the numbers, with these; the others are 0.
use Rattle.std.specs.Prelude.{ℕ, zero, suc, ◌+◌, ◌*◌, ◌/◌, ◌≤◌, ◌<◌, min, ◌≡◌, Bool, true, false, ◌&&◌, List, [], ◌∷◌, ◌++◌, eqb, ℤ, pos, length, get_or, take, drop, set, replicate}
use Rattle.answers.specs.declared.Verdict.{Verdict}
use Rattle.reading.specs.Reading.{Reads}
use Rattle.checking.specs.Checking.{Checks}
use Rattle.checking.specs.Numbers.{kind_of, number_of, place_of}
use Rattle.checking.specs.declared.Checked.{Checked}
use Rattle.vectors.specs.declared.texts.Numeral.{Numeral}
use Rattle.vectors.specs.declared.tally.Tally.{Tally}
use Rattle.vectors.specs.Listed.{number_at, third_line, one_list, checked, accepted_by}
use Rattle.vectors.specs.Ended.{numbers}

-- whether an answer has this kind, number and place
abbrev pub said_by : Checked → ℕ → ℕ → ℕ → Bool
said_by c kind number place = eqb (kind_of c) kind && (eqb (number_of c) number && eqb (place_of c) place)

-- the tally of one list more
pub record ListTold (source : List ℕ) (list : List ℤ) (kind number place : ℕ) (t r : Tally) : Type 0 where
  pub answer : Checked
  pub checks : Checks source list answer
  pub told : r ≡ checked (said_by answer kind number place) (one_list t)

-- ---- a source's own lists

-- so many words of a table from a place on, as numbers; 0 behind its end
unfoldable pub words_from : List ℕ → ℕ → ℕ → List ℤ
words_from table zero at = []
words_from table (suc k) at = pos (get_or table at 0) ∷ words_from table k (at + 1)

-- how many words its uses have with their count, and an index among them
abbrev pub own_length : List ℕ → ℕ
own_length table = min (3 * get_or table 0 0 + 1) 32767

abbrev pub own_index : List ℕ → ℕ
own_index table = own_length table / 2

abbrev pub own_words : List ℕ → List ℤ
own_words table = words_from table 32768 0

-- they are right; cut at the index they are wrong there; with the word behind them they are wrong at it; and with one more than the word at the index
-- they are wrong there
pub record FourTold (source table : List ℕ) (t r : Tally) : Type 0 where
  pub first : Tally
  pub second : Tally
  pub third : Tally
  pub whole : ListTold source (take (own_length table) (own_words table)) 0 0 0 t first
  pub short : ListTold source (take (own_index table) (own_words table)) 2 0 (own_index table) first second
  pub long : ListTold source (take (own_length table + 1) (own_words table)) 2 0 (own_length table) second third
  pub changed : ListTold source (take (own_length table) (set (own_words table) (own_index table) (pos (get_or table (own_index table) 0 + 1)))) 2 0 (own_index table) third r

pub data OwnTold (source : List ℕ) (t : Tally) : Tally → Type 0 where
  refused : {v : Verdict} {table : List ℕ} → Reads source (replicate 32768 0) v table → accepted_by v ≡ false → OwnTold source t t
  accepted : {v : Verdict} {table : List ℕ} → Reads source (replicate 32768 0) v table → accepted_by v ≡ true → {r : Tally} → FourTold source table t r → OwnTold source t r

-- ---- a list that was sent

-- the five numbers that stand before its words
pub record Head : Type 0 where
  pub kind : Numeral
  pub number : Numeral
  pub place : Numeral
  pub all : Numeral
  pub some : Numeral

abbrev pub head_from : List ℕ → Numeral → Head
head_from text kind =
    let number : Numeral = number_at text kind.next in
    let place : Numeral = number_at text number.next in
    let all : Numeral = number_at text place.next in
    record { kind = kind; number = number; place = place; all = all; some = number_at text all.next }

unfoldable pub head_at : List ℕ → ℕ → Head
head_at text from = head_from text (number_at text from)

-- its words: at most 70,016, and 0 where no number is listed
unfoldable pub fresh_list : List ℤ
fresh_list = replicate 70016 (pos 0)

abbrev pub sent_words : List ℕ → Head → List ℤ
sent_words text h =
    let k : ℕ = min h.some.value 70016 in
    take (min h.all.value 70016) (numbers text k h.some.next ++ drop k fresh_list)

abbrev pub SentTold : List ℕ → List ℕ → ℕ → Tally → Tally → Type 0
SentTold source text from t r =
    let h : Head = head_at text from in
    ListTold source (sent_words text h) h.kind.value h.number.value h.place.value t r

-- ---- the lists of a row

pub data ListsTold (source text : List ℕ) (t : Tally) : Tally → Type 0 where
  own_alone : length text ≤ third_line text → {r : Tally} → OwnTold source t r → ListsTold source text t r
  and_sent : third_line text < length text → {s r : Tally} → OwnTold source t s → SentTold source text (third_line text) s r → ListsTold source text t r
