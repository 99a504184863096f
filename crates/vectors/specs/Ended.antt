-- What `translate` and `run` answer and leave, against what is listed of a source, as a tally. The second line of a text, unless it is a page's, has: how many inputs, the
-- inputs, the lengths of store and output, the limit; the answer, its place, how many numbers are taken (negative: not listed), how many are written,
-- those numbers, three an entry, and the steps (negative: not listed).
use Rattle.std.specs.Prelude.{ℕ, zero, suc, ◌+◌, ◌*◌, ◌/◌, min, ◌≡◌, Bool, true, false, cond, ◌&&◌, ◌||◌, List, [], ◌∷◌, eqb, ltb, leb, ℤ, pos, length, get_or, take, drop, replicate}
use Rattle.answers.specs.Numbers.{no_instruction}
use Rattle.answers.specs.Answers.{stop_number, stop_place}
use Rattle.answers.specs.declared.Stop.{Stop}
use Rattle.answers.specs.declared.Verdict.{Verdict}
use Rattle.reals.specs.Values.{same}
use Rattle.machine.specs.Machine.{Exit, job}
use Rattle.machine.specs.declared.Ran.{Ran}
use Rattle.translating.specs.Job.{Translates}
use Rattle.vectors.specs.declared.texts.Numeral.{Numeral}
use Rattle.vectors.specs.declared.tally.Tally.{Tally}
use Rattle.vectors.specs.Listed.{number_at, whole_of, second_line, run_listed, one_run, one_difference, checked, most_of, answered_by, accepted_by}

-- ---- numbers in a row

-- so many numbers from a place on, and where the next one begins
unfoldable pub numbers : List ℕ → ℕ → ℕ → List ℤ
numbers text zero at = []
numbers text (suc k) at = whole_of (number_at text at) ∷ numbers text k (number_at text at).next

unfoldable pub after : List ℕ → ℕ → ℕ → ℕ
after text zero at = at
after text (suc k) at = after text k (number_at text at).next

-- whether numbers begin with these
unfoldable pub begins : List ℤ → List ℤ → Bool
begins [] ys = true
begins (x ∷ xs) [] = false
begins (x ∷ xs) (y ∷ ys) = same y x && begins xs ys

-- whether each number is this one
unfoldable pub all_are : ℤ → List ℤ → Bool
all_are x [] = true
all_are x (y ∷ ys) = same y x && all_are x ys

-- whether so many words from a place on are there, and are this one
unfoldable pub all_words : List ℕ → ℕ → ℕ → ℕ → Bool
all_words words from zero word = true
all_words words from (suc k) word = ltb from (length words) && (eqb (get_or words from 0) word && all_words words (from + 1) k word)

-- ---- a run

-- so many instructions against the listed steps: at most 16 for each, and 16 more
unfoldable pub after_steps : ℕ → Numeral → Tally → Tally
after_steps done steps t =
    cond steps.minus t
    (cond (ltb steps.value 100000000 && leb done (16 * steps.value + 16)) (most_of done steps.value t) (one_difference t))

-- what was written and done, against what is listed from a place on; the output held 9 before
unfoldable pub after_written : Ran → List ℤ → List ℕ → Numeral → Tally → Tally
after_written r output text count t =
    after_steps r.done (number_at text (after text count.value count.next))
    (checked (all_are (pos 9) (drop r.written output))
    (checked (begins (numbers text count.value count.next) output && eqb r.written count.value) t))

-- whether a run stopped with this answer at this place
abbrev pub stopped_by : Stop → ℕ → ℕ → Bool
stopped_by s answer place = eqb (stop_number s) answer && eqb (stop_place s) place

-- how it stopped and what it took, and the rest
unfoldable pub after_taken : Ran → List ℤ → List ℕ → Numeral → Tally → Tally
after_taken r output text taken t = after_written r output text (number_at text taken.next) (checked (taken.minus || eqb r.taken taken.value) t)

unfoldable pub after_place : Ran → List ℤ → List ℕ → Numeral → Numeral → Tally → Tally
after_place r output text answer place t =
    after_taken r output text (number_at text place.next) (checked (stopped_by r.stop answer.value place.value) t)

unfoldable pub after_stop : Ran → List ℤ → List ℕ → ℕ → Tally → Tally
after_stop r output text from t = after_place r output text (number_at text from) (number_at text (number_at text from).next) t

-- how many of a store's numbers are its cells': a cell "takes two of the store's numbers, so 8,192 cells are 16,384 of them, and an odd last one is unused"
abbrev pub cell_numbers : List ℤ → ℕ
cell_numbers store = 2 * min (length store / 2) 8192

-- whether the cells are zero, and the store behind them holds 7 as before
unfoldable pub cleared : List ℤ → Bool
cleared store = all_are (pos 0) (take (cell_numbers store) store) && all_are (pos 7) (drop (cell_numbers store) store)

-- what a run hands back and leaves
abbrev pub after_exit : Exit → List ℕ → ℕ → Tally → Tally
after_exit e text from t = after_stop e.ran e.output text from (checked (cleared e.store) t)

-- what is lent: the store holds 7 before, and the output 9
unfoldable pub fresh_store : List ℤ
fresh_store = replicate 16386 (pos 7)

unfoldable pub fresh_output : List ℤ
fresh_output = replicate 1536 (pos 9)

-- .. of the listed lengths
abbrev pub store_of : Numeral → List ℤ
store_of n = take (min n.value 16386) fresh_store

abbrev pub output_of : Numeral → List ℤ
output_of n = take (min n.value 1536) fresh_output

-- the run with these inputs; the two lengths and the limit are listed from a place on
unfoldable pub after_supplied : List ℕ → List ℤ → List ℕ → ℕ → Tally → Tally
after_supplied code input text from t =
    let lent : Numeral = number_at text from in
    let space : Numeral = number_at text lent.next in
    let limit : Numeral = number_at text space.next in
    after_exit (job code input limit.value (store_of lent) (output_of space)) text limit.next t

-- the run that is listed from a place on, with at most 128 inputs
unfoldable pub after_listed : List ℕ → List ℕ → ℕ → Tally → Tally
after_listed code text from t =
    let count : Numeral = number_at text from in
    let inputs : ℕ = min count.value 128 in
    after_supplied code (numbers text inputs count.next) text (after text inputs count.next) t

-- ---- a source translated

-- whether the code is no instruction at its start
unfoldable pub strays : List ℕ → ℕ → Bool
strays code limit = stopped_by (job code (pos 0 ∷ []) limit (pos 0 ∷ []) (pos 0 ∷ [])).ran.stop no_instruction 0

-- the code of a refused source is zero, and no instruction
unfoldable pub after_refused : List ℕ → Tally → Tally
after_refused code t = checked (strays code 1 && strays code 1000000) (checked (all_words code 0 16384 0) t)

-- the code of an accepted one is run, where a run is listed
unfoldable pub after_accepted : List ℕ → List ℕ → Tally → Tally
after_accepted code text t = cond (run_listed text) (after_listed code text (second_line text) (one_run t)) t

-- the tally after a source was translated with this answer and this code; the two words behind the code hold 7 before and afterwards
unfoldable pub after_translate : Verdict → List ℕ → List ℕ → Tally → Tally
after_translate v code text t =
    let s : Tally = checked (all_words code 16384 2 7) (checked (answered_by v text) t) in
    cond (accepted_by v) (after_accepted code text s) (after_refused code s)

-- .. which are the answer of `translate`, and the code that it leaves
pub record TranslateTold (source text : List ℕ) (t r : Tally) : Type 0 where
  pub verdict : Verdict
  pub code : List ℕ
  pub translates : Translates source (replicate 16386 7) verdict code
  pub told : r ≡ after_translate verdict code text t
