-- Paper 02, request 11: "We keep records of monthly runs: input numbers, limit, store length, output length and the numbered answer with outputs ..
-- sections in a fixed order, each after its count". Assumes nothing: these are definitions.
use Rattle.std.specs.Prelude.{ℕ, zero, suc, ◌+◌, ◌-◌, ◌*◌, ◌/◌, ◌%◌, cond, List, [], ◌∷◌, map, ltb, ℤ, pos, negsuc, get_or}
use Rattle.records.specs.declared.Range.{Range}
use Rattle.records.specs.declared.Range.TheVariants.{Any, Natural, Answer, Kind, Nought}
use Rattle.records.specs.Words.{Layout, filled, once, many, Row, numbers, amount, sections, joined, section_words, singles}

-- an output entry: "either 0, the whole number and 0, or 1 and the real's bits, low half first"
pub data Entry : Type 0 where
  entry : ℤ → ℤ → ℤ → Entry

pub record Recorded : Type 0 where
  pub input : List ℤ
  pub limit : ℕ
  pub store_length : ℕ
  pub output_length : ℕ
  pub answer : ℕ
  pub outputs : List Entry

-- .. of these
abbrev pub record_as : List ℤ → ℕ → ℕ → ℕ → ℕ → List Entry → Recorded
record_as input limit store output answer es = record { input = input; limit = limit; store_length = store; output_length = output; answer = answer; outputs = es }

-- ---- the table of a record: "sections in a fixed order, each after its count"
--
--   section          count              words of an entry
--   input            any                a number
--   limit            1                  its low half, its high half
--   store length     1                  a number from 0 on
--   output length    1                  a number from 0 on
--   answer           1                  0, or 20 to 30
--   outputs          any                0 or 1; a number; a number, which is 0 where the first is 0

-- the third word of a whole number's entry is 0
abbrev pub third : ℤ → Range
third (pos zero) = Nought
third (pos (suc n)) = Any
third (negsuc n) = Any

abbrev pub halves : Row
halves = record { times = once; first = Any; others = λ low. Any ∷ [] }

abbrev pub length1 : Row
length1 = record { times = once; first = Natural; others = λ n. [] }

abbrev pub answer1 : Row
answer1 = record { times = once; first = Answer; others = λ n. [] }

abbrev pub output_row : Row
output_row = record { times = many; first = Kind; others = λ kind. Any ∷ third kind ∷ [] }

abbrev pub record_table : List Row
record_table =
    numbers  -- input
    ∷ halves  -- limit
    ∷ length1  -- store length
    ∷ length1  -- output length
    ∷ answer1  -- answer
    ∷ output_row  -- outputs
    ∷ []

-- ---- the halves of a limit of 64 bits: a half below 0 stands for 4,294,967,296 more

abbrev pub half : ℤ → ℕ
half (pos n) = n
half (negsuc n) = 4294967295 - n

abbrev pub signed : ℕ → ℤ
signed n = cond (ltb n 2147483648) (pos n) (negsuc (4294967295 - n))

abbrev pub whole : ℤ → ℤ → ℕ
whole low high = 4294967296 * half high + half low

-- ---- the words of a record

abbrev pub three : Entry → List ℤ
three (entry k a b) = k ∷ a ∷ b ∷ []

unfoldable pub sheet : Recorded → List (List (List ℤ))
sheet r =
    singles r.input
    ∷ ((signed (r.limit % 4294967296) ∷ signed (r.limit / 4294967296) ∷ []) ∷ [])
    ∷ ((pos r.store_length ∷ []) ∷ [])
    ∷ ((pos r.output_length ∷ []) ∷ [])
    ∷ ((pos r.answer ∷ []) ∷ [])
    ∷ map three r.outputs
    ∷ []

unfoldable pub record_words : Recorded → List ℤ
record_words r = section_words (sheet r)

-- ---- what is read off its sections

-- word k of section i that has one entry
abbrev pub word_of : List (List (List ℤ)) → ℕ → ℕ → ℤ
word_of ss i k = get_or (get_or (get_or ss i []) 0 []) k (pos 0)

abbrev pub entry_of : List ℤ → Entry
entry_of w = entry (get_or w 0 (pos 0)) (get_or w 1 (pos 0)) (get_or w 2 (pos 0))

unfoldable pub made : List (List (List ℤ)) → Recorded
made ss = record {
  input = joined (get_or ss 0 []);
  limit = whole (word_of ss 1 0) (word_of ss 1 1);
  store_length = amount (word_of ss 2 0);
  output_length = amount (word_of ss 3 0);
  answer = amount (word_of ss 4 0);
  outputs = map entry_of (get_or ss 5 []);
}

unfoldable pub record_layout : Layout Recorded
record_layout = sections record_table (λ ss. filled (made ss))

-- ---- the numbers of output entries, in a row

unfoldable pub entry_words : List Entry → List ℤ
entry_words [] = []
entry_words (entry k a b ∷ es) = k ∷ a ∷ b ∷ entry_words es
