-- What is listed of a source, and what a tally of differences comes to. No part of the paper.
use Rattle.std.specs.Prelude.{ℕ, ◌+◌, ◌*◌, ◌%◌, min, ◌≡◌, Bool, true, false, cond, not, ◌&&◌, ◌||◌, List, [], ◌∷◌, eqb, ltb, leb, ℤ, pos, neg_ℤ, length, get_or, take, drop, replicate}
use Prim.Native.Char.{code}
use Rattle.std.specs.Int.Signed.{mag}
use Rattle.answers.specs.Numbers.{accepted}
use Rattle.answers.specs.Answers.{number_of, place_of}
use Rattle.answers.specs.declared.Verdict.{Verdict}
use Rattle.symbols.specs.Names.{digit, value_from}
use Rattle.reading.specs.Reading.{Reads}
use Rattle.vectors.specs.declared.texts.Numeral.{Numeral}
use Rattle.vectors.specs.declared.tally.Tally.{Tally}

-- ---- numbers in a text: digits, behind a minus sign or none, and one byte between two numbers

-- the digits that bytes begin with
unfoldable pub digits : List ℕ → List ℕ
digits [] = []
digits (b ∷ bs) = cond (digit b) (b ∷ digits bs) []

-- behind the byte at a place; the place itself where the text has ended
unfoldable pub behind : List ℕ → ℕ → ℕ
behind text i = cond (ltb i (length text)) (i + 1) i

-- the number whose digits begin at a place: its value modulo 10,000,000,000, and where the next one begins
unfoldable pub digits_at : List ℕ → ℕ → Bool → Numeral
digits_at text from minus =
    record { minus = minus; value = value_from 0 (digits (drop from text)) % 10000000000; next = behind text (from + length (digits (drop from text))) }

-- the number that begins at a place
unfoldable pub number_at : List ℕ → ℕ → Numeral
number_at text from = cond (eqb (get_or text from 0) (code "-")) (digits_at text (from + 1) true) (digits_at text from false)

-- the whole number that is listed
abbrev pub signed : Numeral → ℤ
signed n = cond n.minus (neg_ℤ (pos n.value)) (pos n.value)

-- .. as one of 32 bits; 0 where it is none
unfoldable pub whole_of : Numeral → ℤ
whole_of n = cond (ltb (mag (signed n)) 2147483648) (signed n) (pos 0)

-- where the second line begins: behind the first byte 10; at the end where there is none
unfoldable pub second_line : List ℕ → ℕ
second_line [] = 0
second_line (b ∷ bs) = cond (eqb b 10) 1 (second_line bs + 1)

-- whether the line that begins at a place is a page's: it begins with w
abbrev pub page_at : List ℕ → ℕ → Bool
page_at text from = eqb (get_or text from 0) (code "w")

-- what the second line lists, if there is one: a page, or a run
unfoldable pub page_listed : List ℕ → Bool
page_listed text = ltb (second_line text) (length text) && page_at text (second_line text)

unfoldable pub run_listed : List ℕ → Bool
run_listed text = ltb (second_line text) (length text) && not (page_at text (second_line text))

-- where the third line begins; at the end where the second one is a page's
unfoldable pub third_line : List ℕ → ℕ
third_line text = cond (page_at text (second_line text)) (length text) (second_line text + second_line (drop (second_line text) text))

-- ---- the tally

-- one more; the greatest number of 32 bits stays
abbrev pub more : ℕ → ℕ
more n = min (n + 1) 4294967295

-- nothing is counted yet
abbrev pub nothing : Tally
nothing = record { sources = 0; runs = 0; pages = 0; back = 0; again = 0; lists = 0; differences = 0; done = 0; steps = 1 }

-- one source more
abbrev pub one_source : Tally → Tally
one_source t = record { sources = more t.sources; runs = t.runs; pages = t.pages; back = t.back; again = t.again; lists = t.lists; differences = t.differences; done = t.done; steps = t.steps }

-- one run more
abbrev pub one_run : Tally → Tally
one_run t = record { sources = t.sources; runs = more t.runs; pages = t.pages; back = t.back; again = t.again; lists = t.lists; differences = t.differences; done = t.done; steps = t.steps }

-- one page more
abbrev pub one_page : Tally → Tally
one_page t = record { sources = t.sources; runs = t.runs; pages = more t.pages; back = t.back; again = t.again; lists = t.lists; differences = t.differences; done = t.done; steps = t.steps }

-- one more that was read back as the same program
abbrev pub one_back : Tally → Tally
one_back t = record { sources = t.sources; runs = t.runs; pages = t.pages; back = more t.back; again = t.again; lists = t.lists; differences = t.differences; done = t.done; steps = t.steps }

-- one more that was written again as the same bytes
abbrev pub one_again : Tally → Tally
one_again t = record { sources = t.sources; runs = t.runs; pages = t.pages; back = t.back; again = more t.again; lists = t.lists; differences = t.differences; done = t.done; steps = t.steps }

-- one list more
abbrev pub one_list : Tally → Tally
one_list t = record { sources = t.sources; runs = t.runs; pages = t.pages; back = t.back; again = t.again; lists = more t.lists; differences = t.differences; done = t.done; steps = t.steps }

-- one difference more
abbrev pub one_difference : Tally → Tally
one_difference t = record { sources = t.sources; runs = t.runs; pages = t.pages; back = t.back; again = t.again; lists = t.lists; differences = more t.differences; done = t.done; steps = t.steps }

-- something that was found, and whether it is what is listed
abbrev pub checked : Bool → Tally → Tally
checked true t = t
checked false t = one_difference t

-- so many instructions for so many steps, where that is more for each step than any run before took
unfoldable pub most_of : ℕ → ℕ → Tally → Tally
most_of done steps t =
    cond (ltb (t.done * steps) (done * t.steps))
    (record { sources = t.sources; runs = t.runs; pages = t.pages; back = t.back; again = t.again; lists = t.lists; differences = t.differences; done = done; steps = steps })
    t

-- ---- read, against the first line: the answer, its place, and how many words the uses have, with these words

-- whether an answer and its place are those listed
abbrev pub answered_by : Verdict → List ℕ → Bool
answered_by v text = eqb (number_of v) (number_at text 0).value && eqb (place_of v) (number_at text (number_at text 0).next).value

abbrev pub accepted_by : Verdict → Bool
accepted_by v = eqb (number_of v) accepted

-- how many words of uses are listed; 99999 where they are not
abbrev pub uses_listed : List ℕ → Numeral
uses_listed text = number_at text (number_at text (number_at text 0).next).next

-- whether the numbers from a place on are these words
unfoldable pub same_words : List ℕ → List ℕ → ℕ → Bool
same_words [] text from = true
same_words (w ∷ ws) text from = eqb (number_at text from).value w && same_words ws text (number_at text from).next

-- how many words the uses of a table have: three for each
abbrev pub use_length : List ℕ → ℕ
use_length table = 3 * get_or table 0 0

-- whether the uses of a table, which stand behind their number, are those listed
unfoldable pub same_uses : List ℕ → List ℕ → Bool
same_uses table text =
    eqb (uses_listed text).value 99999
    || (leb (use_length table + 1) (length table)
    && (eqb (uses_listed text).value (use_length table)
    && same_words (take (use_length table) (drop 1 table)) text (uses_listed text).next))

-- the tally after a source was read with this answer and this table
abbrev pub after_read : Verdict → List ℕ → List ℕ → Tally → Tally
after_read v table text t = cond (accepted_by v) (checked (same_uses table text) (checked (answered_by v text) t)) (checked (answered_by v text) t)

-- .. which are the answer of `read`, and the table that it leaves
pub record ReadTold (source text : List ℕ) (t r : Tally) : Type 0 where
  pub verdict : Verdict
  pub table : List ℕ
  pub reads : Reads source (replicate 32768 0) verdict table
  pub told : r ≡ after_read verdict table text t
