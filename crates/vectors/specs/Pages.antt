-- What `write` answers and leaves, against what is listed of a source, as a tally. A second line that is a page's has: the letter w, the length of the
-- room, the answer and its place; behind it stands the page.
use Rattle.std.specs.Prelude.{ℕ, zero, suc, ◌+◌, ◌*◌, min, ◌≡◌, Bool, true, false, cond, ◌&&◌, List, [], ◌∷◌, eqb, leb, length, get_or, take, drop, replicate, Result}
use Rattle.answers.specs.declared.Refusal.{Refusal}
use Rattle.answers.specs.Numbers.{accepted, long}
use Rattle.answers.specs.declared.Verdict.{Verdict}
use Rattle.symbols.specs.Names.{equal}
use Rattle.table.specs.Sections.{rows_at}
use Rattle.reading.specs.Reading.{Reads}
use Rattle.clean.specs.Numbers.{number_of, place_of, length_of}
use Rattle.clean.specs.Job.{Writes}
use Rattle.vectors.specs.declared.texts.Numeral.{Numeral}
use Rattle.vectors.specs.declared.tally.Tally.{Tally}
use Rattle.vectors.specs.Listed.{number_at, second_line, page_listed, checked, accepted_by, one_page, one_back, one_again, one_difference}

-- ---- bytes

-- what is lent holds 7 before
unfoldable pub fresh_room : List ℕ
fresh_room = replicate 16386 7

-- whether each byte is this one
unfoldable pub all : ℕ → List ℕ → Bool
all x [] = true
all x (b ∷ bs) = eqb b x && all x bs

-- whether a room that held 7 has this page in its first n bytes, and behind them what it had
unfoldable pub same_page : List ℕ → ℕ → List ℕ → Bool
same_page room n page = leb n (length room) && (equal (take n room) page && all 7 (drop n room))

-- ---- what two tables say of the uses

-- how many of n rows, whose words begin at a place, stand before that of the declaration at p
unfoldable pub number_from : List ℕ → ℕ → ℕ → ℕ → ℕ
number_from table p at zero = 0
number_from table p at (suc n) = cond (eqb (get_or table at 0) p) 0 (suc (number_from table p (at + 4) n))

-- the number of the declaration at a place
unfoldable pub declaration_at : List ℕ → ℕ → ℕ
declaration_at table p = number_from table p (rows_at table + 1) (get_or table (rows_at table) 0)

-- whether the uses whose words begin at a place have the same kind and, of the environment or by its declaration, the same number
unfoldable pub alike_at : List ℕ → List ℕ → ℕ → Bool
alike_at a b at =
    eqb (get_or a (at + 1) 0) (get_or b (at + 1) 0)
    && cond (eqb (get_or a (at + 1) 0) 0)
    (eqb (get_or a (at + 2) 0) (get_or b (at + 2) 0))
    (eqb (declaration_at a (get_or a (at + 2) 0)) (declaration_at b (get_or b (at + 2) 0)))

-- .. of n uses from number k on
unfoldable pub alike_from : List ℕ → List ℕ → ℕ → ℕ → Bool
alike_from a b k zero = true
alike_from a b k (suc n) = alike_at a b (3 * k + 1) && alike_from a b (k + 1) n

-- "with uses and declarations paired alike though places move"
unfoldable pub same_meanings : List ℕ → List ℕ → Bool
same_meanings a b = eqb (get_or a 0 0) (get_or b 0 0) && alike_from a b 0 (get_or a 0 0)

-- ---- a page

-- read back, it is the source's program
pub record BackTold (source page : List ℕ) (t r : Tally) : Type 0 where
  pub verdict : Verdict
  pub table : List ℕ
  pub reads : Reads source (replicate 32768 0) verdict table
  pub verdict_back : Verdict
  pub table_back : List ℕ
  pub reads_back : Reads page (replicate 32768 0) verdict_back table_back
  pub told : r ≡ cond (accepted_by verdict_back && same_meanings table table_back) (one_back t) (one_difference t)

-- written again, it has the same bytes
pub record AgainTold (page : List ℕ) (t r : Tally) : Type 0 where
  pub answer : Result ℕ Refusal
  pub room : List ℕ
  pub writes : Writes page fresh_room answer room
  pub told : r ≡ cond (eqb (number_of answer) accepted && same_page room (length_of answer) page) (one_again t) (one_difference t)

-- ---- a source written in more room than a page can need

-- whether an answer is this one at this place
abbrev pub numbered : Result ℕ Refusal → ℕ → ℕ → Bool
numbered w answer place = eqb (number_of w) answer && eqb (place_of w) place

-- whether it is the one that is listed for `read`, or 2 of an accepted source
unfoldable pub written_by : Result ℕ Refusal → List ℕ → Bool
written_by w text =
    let answer : Numeral = number_at text 0 in
    cond (eqb answer.value accepted && eqb (number_of w) long) (eqb (place_of w) 16384)
    (numbered w answer.value (number_at text answer.next).value)

-- the tally after the answer, and after the bytes behind the page
abbrev pub after_page : Result ℕ Refusal → List ℕ → List ℕ → Tally → Tally
after_page w room text t = checked (all 7 (drop (length_of w) room)) (checked (written_by w text) t)

-- what is written is read back and written again
pub data Turned (source : List ℕ) (w : Result ℕ Refusal) (page : List ℕ) (t : Tally) : Tally → Type 0 where
  unwritten : eqb (number_of w) accepted ≡ false → Turned source w page t t
  turned : eqb (number_of w) accepted ≡ true → (s r : Tally) → BackTold source page (one_page t) s → AgainTold page s r → Turned source w page t r

pub record PageTold (source text : List ℕ) (t r : Tally) : Type 0 where
  pub answer : Result ℕ Refusal
  pub room : List ℕ
  pub writes : Writes source fresh_room answer room
  pub told : Turned source answer (take (length_of answer) room) (after_page answer room text t) r

-- ---- a page that is listed

-- the tally after a source was written, against the answer, the place and the page that are listed from a place on
unfoldable pub after_lent : Result ℕ Refusal → List ℕ → List ℕ → ℕ → Tally → Tally
after_lent w room text from t =
    let answer : Numeral = number_at text from in
    let place : Numeral = number_at text answer.next in
    checked (same_page room (length_of w) (drop (min place.next (length text)) text)) (checked (numbered w answer.value place.value) t)

pub record LentTold (source room text : List ℕ) (from : ℕ) (t r : Tally) : Type 0 where
  pub answer : Result ℕ Refusal
  pub after : List ℕ
  pub writes : Writes source room answer after
  pub told : r ≡ after_lent answer after text from t

-- the length of the room that is listed
abbrev pub room_listed : List ℕ → Numeral
room_listed text = number_at text (second_line text + 2)

pub data ListedTold (source text : List ℕ) (t : Tally) : Tally → Type 0 where
  unlisted : page_listed text ≡ false → ListedTold source text t t
  listed : page_listed text ≡ true → (r : Tally) → LentTold source (take (min (room_listed text).value 16386) fresh_room) text (room_listed text).next t r
      → ListedTold source text t r

-- ---- a source: the page that is listed, and its own
pub record WriteTold (source text : List ℕ) (t r : Tally) : Type 0 where
  pub between : Tally
  pub was_listed : ListedTold source text t between
  pub was_written : PageTold source text between r
