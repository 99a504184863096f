-- No difference is forgotten: what the contracts say together. The count of differences never falls, and where it is 0 at the end each row was answered
-- as is listed, by read, by translate and by write, each page was read back and written again as it should be, and each list was answered as is due.
-- Assumes nothing.
use Rattle.std.proofs.Common.{Result}
use mathlib.Core.Path.{◌≡◌, refl, ap}
use mathlib.Core.Bool.{Bool, true, false, cond, ◌&&◌, ◌||◌, true≢false}
use mathlib.Core.List.{List}
use Prim.Native.Nat.{ℕ, ◌+◌, ◌*◌, ◌≤◌, min}
use native.Mathlib.Omega.{arith}
use lib.Dec.{eqb, ltb, leb}
use lib.IntN.{ℤ, pos}
use lib.ListN.{length, drop}
use Rattle.answers.specs.declared.Refusal.{Refusal}
use Rattle.answers.specs.Answers.{number_of, refusal}
use Rattle.answers.specs.declared.Verdict.{Verdict}
use Rattle.answers.specs.declared.Verdict.TheVariants.{Refused}
use Rattle.answers.specs.Numbers.{accepted}
use Rattle.clean.specs.Numbers.{number_of as pageNumber, length_of}
use Rattle.symbols.specs.Names.{digit, value_from}
use Rattle.symbols.specs.Text.{bytes}
use Rattle.machine.specs.Machine.{Exit}
use Rattle.machine.specs.declared.Ran.{Ran}
use Rattle.vectors.specs.declared.texts.Numeral.{Numeral}
use Rattle.vectors.specs.declared.tally.Tally.{Tally}
use Rattle.vectors.specs.Listed.{digits, behind, digits_at, number_at, second_line, run_listed, nothing, one_run, one_source, one_page, one_list, one_difference, checked, most_of, answered_by, accepted_by, same_uses, after_read}
use Rattle.vectors.specs.Pages.{all, same_page, same_meanings, numbered, written_by, BackTold, AgainTold, after_page, Turned, unwritten, turned, after_lent, room_listed, ListedTold, unlisted, listed, WriteTold}
use Rattle.vectors.specs.Ended.{begins, numbers, after, all_are, cleared, all_words, stopped_by, strays, after_steps, after_written, after_taken, after_place, after_stop, after_exit, after_supplied, after_listed, after_refused, after_accepted, after_translate}
use Rattle.vectors.specs.Sent.{said_by, ListTold, FourTold, OwnTold, refused, accepted as own-accepted, ListsTold, own_alone, and_sent}
use Rattle.vectors.specs.Counted.{RowTold, Rows, none, more}

-- the count of 32 bits, and that it does not fall
pub record Kept (t r : Tally) : Type 0 where
  pub below : r.differences ≤ 4294967295
  pub no_less : t.differences ≤ r.differences

pub keep : (t : Tally) → t.differences ≤ 4294967295 → Kept t t
keep t h = record { below = h; no_less = omega arith }

pub then : {t s r : Tally} → Kept t s → Kept s r → Kept t r
then a b = record { below = b.below; no_less = omega (arith, a.no_less, b.no_less) }

-- ---- each part keeps the count

pub check_keeps : (b : Bool) (t : Tally) → t.differences ≤ 4294967295 → Kept t (checked b t)
check_keeps true t h = keep t h
check_keeps false t h = record { below = omega arith; no_less = omega arith }

pub either_keeps : (b : Bool) {t r s : Tally} → Kept t r → Kept t s → Kept t (cond b r s)
either_keeps true a b = a
either_keeps false a b = b

most_keeps : (done steps : ℕ) (t : Tally) → t.differences ≤ 4294967295 → Kept t (most_of done steps t)
unfolding most_of
most_keeps done steps t h = either_keeps (ltb (t.done * steps) (done * t.steps)) (record { below = h; no_less = omega arith }) (keep t h)

steps_keep : (done : ℕ) (steps : Numeral) (t : Tally) → t.differences ≤ 4294967295 → Kept t (after_steps done steps t)
unfolding after_steps
steps_keep done steps t h =
    either_keeps steps.minus (keep t h)
    (either_keeps (ltb steps.value 100000000 && leb done (16 * steps.value + 16)) (most_keeps done steps.value t h) (check_keeps false t h))

written_keeps : (r : Ran) (output : List ℤ) (text : List ℕ) (n : Numeral) (t : Tally) → t.differences ≤ 4294967295 → Kept t (after_written r output text n t)
unfolding after_written
written_keeps r output text n t h =
    let a = check_keeps (begins (numbers text n.value n.next) output && eqb r.written n.value) t h in
    let b = check_keeps (all_are (pos 9) (drop r.written output)) _ a.below in
    then a (then b (steps_keep r.done (number_at text (after text n.value n.next)) _ b.below))

stop_keeps : (r : Ran) (output : List ℤ) (text : List ℕ) (from : ℕ) (t : Tally) → t.differences ≤ 4294967295 → Kept t (after_stop r output text from t)
unfolding after_stop after_place after_taken
stop_keeps r output text from t h =
    let n = number_at text from in
    let m = number_at text n.next in
    let q = number_at text m.next in
    let a = check_keeps (stopped_by r.stop n.value m.value) t h in
    let b = check_keeps (q.minus || eqb r.taken q.value) _ a.below in
    then a (then b (written_keeps r output text (number_at text q.next) _ b.below))

exit_keeps : (e : Exit) (text : List ℕ) (from : ℕ) (t : Tally) → t.differences ≤ 4294967295 → Kept t (after_exit e text from t)
exit_keeps e text from t h =
    let a = check_keeps (cleared e.store) t h in
    then a (stop_keeps e.ran e.output text from _ a.below)

listed_keeps : (code text : List ℕ) (from : ℕ) (t : Tally) → t.differences ≤ 4294967295 → Kept t (after_listed code text from t)
unfolding after_listed after_supplied
listed_keeps code text from t h = exit_keeps _ text _ t h

refused_keeps : (code : List ℕ) (t : Tally) → t.differences ≤ 4294967295 → Kept t (after_refused code t)
unfolding after_refused
refused_keeps code t h =
    let a = check_keeps (all_words code 0 16384 0) t h in
    then a (check_keeps (strays code 1 && strays code 1000000) _ a.below)

accepted_keeps : (code text : List ℕ) (t : Tally) → t.differences ≤ 4294967295 → Kept t (after_accepted code text t)
unfolding after_accepted
accepted_keeps code text t h =
    let a = listed_keeps code text (second_line text) (one_run t) h in
    either_keeps (run_listed text) (record { below = a.below; no_less = a.no_less }) (keep t h)

-- ---- so does a source that is written

lent_keeps : (w : Result ℕ Refusal) (room text : List ℕ) (from : ℕ) (t : Tally) → t.differences ≤ 4294967295 → Kept t (after_lent w room text from t)
unfolding after_lent
lent_keeps w room text from t h =
    let n = number_at text from in
    let m = number_at text n.next in
    let a = check_keeps (numbered w n.value m.value) t h in
    then a (check_keeps (same_page room (length_of w) (drop (min m.next (length text)) text)) _ a.below)

listed_page_keeps : {source text : List ℕ} {t r : Tally} → ListedTold source text t r → t.differences ≤ 4294967295 → Kept t r
listed_page_keeps {t = t} (unlisted e) h = keep t h
listed_page_keeps {text = text} {t = t} (listed e r l) h = rw l.told (lent_keeps l.answer l.after text (room_listed text).next t h)

back_keeps : {source page : List ℕ} {t r : Tally} → BackTold source page t r → t.differences ≤ 4294967295 → Kept t r
back_keeps {t = t} b h = rw b.told (either_keeps (accepted_by b.verdict_back && same_meanings b.table b.table_back) (record { below = h; no_less = omega arith }) (check_keeps false t h))

again_keeps : {page : List ℕ} {t r : Tally} → AgainTold page t r → t.differences ≤ 4294967295 → Kept t r
again_keeps {page} {t} a h = rw a.told (either_keeps (eqb (pageNumber a.answer) accepted && same_page a.room (length_of a.answer) page) (record { below = h; no_less = omega arith }) (check_keeps false t h))

turned_keeps : {source page : List ℕ} {w : Result ℕ Refusal} {t r : Tally} → Turned source w page t r → t.differences ≤ 4294967295 → Kept t r
turned_keeps {t = t} (unwritten e) h = keep t h
turned_keeps {t = t} (turned e s r b a) h =
    let x = back_keeps b h in
    let y = again_keeps a x.below in
    record { below = y.below; no_less = omega (arith, x.no_less, y.no_less) }

-- ---- what is counted first is not lost

module _ (v : Verdict) (text : List ℕ) (t : Tally) (h : t.differences ≤ 4294967295) where
  read_keeps : (table : List ℕ) → Kept (checked (answered_by v text) t) (after_read v table text t)
  read_keeps table =
      let a = check_keeps (answered_by v text) t h in
      either_keeps (accepted_by v) (check_keeps (same_uses table text) _ a.below) (keep _ a.below)

  pub translate_keeps : (code : List ℕ) → Kept (checked (answered_by v text) t) (after_translate v code text t)
  unfolding after_translate
  translate_keeps code =
      let a = check_keeps (answered_by v text) t h in
      let b = check_keeps (all_words code 16384 2 7) (checked (answered_by v text) t) a.below in
      then b (either_keeps (accepted_by v) (accepted_keeps code text _ b.below) (refused_keeps code _ b.below))

module _ {source text : List ℕ} {t r : Tally} (w : WriteTold source text t r) (h : t.differences ≤ 4294967295) where
  listed_kept : Kept t w.between
  listed_kept = listed_page_keeps w.was_listed h

  answer_checked : Kept w.between (checked (written_by w.was_written.answer text) w.between)
  answer_checked = check_keeps (written_by w.was_written.answer text) w.between listed_kept.below

  behind_checked : Kept (checked (written_by w.was_written.answer text) w.between) (after_page w.was_written.answer w.was_written.room text w.between)
  behind_checked = check_keeps (all 7 (drop (length_of w.was_written.answer) w.was_written.room)) _ answer_checked.below

  page_checked : Kept w.between (after_page w.was_written.answer w.was_written.room text w.between)
  page_checked = then answer_checked behind_checked

  write_keeps : Kept t r
  write_keeps = then listed_kept (then page_checked (turned_keeps w.was_written.told page_checked.below))

-- ---- so do the lists of a source

list_keeps : {source : List ℕ} {list : List ℤ} {kind number place : ℕ} {t r : Tally} → ListTold source list kind number place t r → t.differences ≤ 4294967295 → Kept t r
list_keeps {t = t} l h =
    let k = check_keeps (said_by l.answer _ _ _) (one_list t) h in
    rw l.told (record { below = k.below; no_less = k.no_less })

four_keeps : {source table : List ℕ} {t r : Tally} → FourTold source table t r → t.differences ≤ 4294967295 → Kept t r
four_keeps l h =
    let a = list_keeps l.whole h in
    let b = list_keeps l.short a.below in
    let d = list_keeps l.long b.below in
    then a (then b (then d (list_keeps l.changed d.below)))

own_keeps : {source : List ℕ} {t r : Tally} → OwnTold source t r → t.differences ≤ 4294967295 → Kept t r
own_keeps {t = t} (refused q e) h = keep t h
own_keeps (own-accepted q e l) h = four_keeps l h

lists_keep : {source text : List ℕ} {t r : Tally} → ListsTold source text t r → t.differences ≤ 4294967295 → Kept t r
lists_keep (own_alone l o) h = own_keeps o h
lists_keep (and_sent l o s) h =
    let a = own_keeps o h in
    then a (list_keeps s a.below)

-- ---- the rows

module _ {source text : List ℕ} {t r : Tally} (row : RowTold source text t r) (h : t.differences ≤ 4294967295) where
  read_row : Kept (checked (answered_by row.was_read.verdict text) (one_source t)) row.between
  read_row = rw row.was_read.told (read_keeps row.was_read.verdict text (one_source t) h row.was_read.table)

  translate_row : Kept (checked (answered_by row.was_translated.verdict text) row.between) row.ran
  translate_row = rw row.was_translated.told (translate_keeps row.was_translated.verdict text row.between read_row.below row.was_translated.code)

  write_row : Kept row.ran row.paged
  write_row = write_keeps row.was_written translate_row.below

  list_row : Kept row.paged r
  list_row = lists_keep row.was_listed write_row.below

  -- a row keeps the count
  pub row_keeps : Kept t r
  row_keeps =
      let a = check_keeps (answered_by row.was_read.verdict text) (one_source t) h in
      let b = check_keeps (answered_by row.was_translated.verdict text) row.between read_row.below in
      let k = then a (then read_row (then b (then translate_row (then write_row list_row)))) in
      record { below = k.below; no_less = k.no_less }

pub rows_small : {n : ℕ} {t : Tally} → Rows n t → t.differences ≤ 4294967295
rows_small none = omega arith
rows_small (more rs source text r row) = (row_keeps row (rows_small rs)).below

-- ---- no difference: each thing that was compared is as it should be

-- where nothing is counted in the end, nothing was counted before
pub none_before : {t r : Tally} → Kept t r → r.differences ≡ 0 → t.differences ≡ 0
none_before k e = omega (arith, k.no_less)

pub right_check : (b : Bool) (t : Tally) → (checked b t).differences ≡ 0 → b ≡ true
right_check true t e = refl
right_check false t e = absurd (omega arith)

right_either : (b : Bool) (s t : Tally) → (cond b s (one_difference t)).differences ≡ 0 → b ≡ true
right_either true s t e = refl
right_either false s t e = absurd (omega arith)

-- a page that is listed was written so
unfoldable pub ListedRight : {source text : List ℕ} {t r : Tally} → ListedTold source text t r → Type 0
ListedRight (unlisted e) = Unit {0}
ListedRight {text = text} (listed e r l) =
    let answer : Numeral = number_at text (room_listed text).next in
    let place : Numeral = number_at text answer.next in
    (numbered l.answer answer.value place.value ≡ true) × (same_page l.after (length_of l.answer) (drop (min place.next (length text)) text) ≡ true)

-- a page was read back as the same program, and written again as the same bytes
unfoldable pub TurnedRight : {source page : List ℕ} {w : Result ℕ Refusal} {t r : Tally} → Turned source w page t r → Type 0
TurnedRight (unwritten e) = Unit {0}
TurnedRight {page = page} (turned e s r b a) =
    ((accepted_by b.verdict_back && same_meanings b.table b.table_back) ≡ true)
    × ((eqb (pageNumber a.answer) accepted && same_page a.room (length_of a.answer) page) ≡ true)

lent_right : (w : Result ℕ Refusal) (room text : List ℕ) (from : ℕ) (t : Tally) → t.differences ≤ 4294967295 → (after_lent w room text from t).differences ≡ 0
    → (numbered w (number_at text from).value (number_at text (number_at text from).next).value ≡ true)
    × (same_page room (length_of w) (drop (min (number_at text (number_at text from).next).next (length text)) text) ≡ true)
unfolding after_lent
lent_right w room text from t h e =
    let n = number_at text from in
    let m = number_at text n.next in
    let a = check_keeps (numbered w n.value m.value) t h in
    let b = check_keeps (same_page room (length_of w) (drop (min m.next (length text)) text)) _ a.below in
    (right_check _ t (none_before b e), right_check _ _ e)

listed_right : {source text : List ℕ} {t r : Tally} (l : ListedTold source text t r) → t.differences ≤ 4294967295 → r.differences ≡ 0 → ListedRight l
unfolding ListedRight
listed_right (unlisted e) h z = tt
listed_right {text = text} {t = t} (listed e r l) h z = lent_right l.answer l.after text (room_listed text).next t h (rw l.told at z)

turned_right : {source page : List ℕ} {w : Result ℕ Refusal} {t r : Tally} (u : Turned source w page t r) → t.differences ≤ 4294967295 → r.differences ≡ 0 → TurnedRight u
unfolding TurnedRight
turned_right (unwritten e) h z = tt
turned_right {t = t} (turned e s r b a) h z =
    let x = back_keeps b h in
    let y = none_before (again_keeps a x.below) z in
    (right_either _ _ (one_page t) (rw b.told at y), right_either _ _ s (rw a.told at z))

-- a list was answered as is due
abbrev pub ListRight : {source : List ℕ} {list : List ℤ} {kind number place : ℕ} {t r : Tally} → ListTold source list kind number place t r → Type 0
ListRight {kind = kind} {number = number} {place = place} l = said_by l.answer kind number place ≡ true

unfoldable pub OwnRight : {source : List ℕ} {t r : Tally} → OwnTold source t r → Type 0
OwnRight (refused q e) = Unit {0}
OwnRight (own-accepted q e l) = ListRight l.whole × ListRight l.short × ListRight l.long × ListRight l.changed

unfoldable pub ListsRight : {source text : List ℕ} {t r : Tally} → ListsTold source text t r → Type 0
ListsRight (own_alone h o) = OwnRight o
ListsRight (and_sent h o s) = OwnRight o × ListRight s

list_right : {source : List ℕ} {list : List ℤ} {kind number place : ℕ} {t r : Tally} (l : ListTold source list kind number place t r) → r.differences ≡ 0 → ListRight l
list_right {t = t} l z = right_check _ (one_list t) (rw l.told at z)

own_right : {source : List ℕ} {t r : Tally} (o : OwnTold source t r) → t.differences ≤ 4294967295 → r.differences ≡ 0 → OwnRight o
unfolding OwnRight
own_right (refused q e) h z = tt
own_right (own-accepted q e l) h z =
    let a = list_keeps l.whole h in
    let b = list_keeps l.short a.below in
    let d = list_keeps l.long b.below in
    let third = none_before (list_keeps l.changed d.below) z in
    let second = none_before d third in
    (list_right l.whole (none_before b second), list_right l.short second, list_right l.long third, list_right l.changed z)

lists_right : {source text : List ℕ} {t r : Tally} (l : ListsTold source text t r) → t.differences ≤ 4294967295 → r.differences ≡ 0 → ListsRight l
unfolding ListsRight
lists_right (own_alone l o) h z = own_right o h z
lists_right (and_sent l o s) h z = (own_right o h (none_before (list_keeps s (own_keeps o h).below) z), list_right s z)

-- each row was answered as is listed, by read, by translate and by write, its pages were right, and its lists were answered as is due
unfoldable pub Right : {n : ℕ} {t : Tally} → Rows n t → Type 0
Right none = Unit {0}
Right (more rs source text r row) =
    Right rs × (answered_by row.was_read.verdict text ≡ true) × (answered_by row.was_translated.verdict text ≡ true)
    × (written_by row.was_written.was_written.answer text ≡ true) × ListedRight row.was_written.was_listed × TurnedRight row.was_written.was_written.told
    × ListsRight row.was_listed

pub no_difference : {n : ℕ} {t : Tally} (rs : Rows n t) → t.differences ≡ 0 → Right rs
unfolding Right
no_difference none e = tt
no_difference (more {t = t} rs source text r row) e =
    let h = rows_small rs in
    let w = row.was_written in
    let l = (translate_row row h).below in
    let written = none_before (list_row row h) e in
    let ran = none_before (write_row row h) written in
    let between = none_before (then (check_keeps (answered_by row.was_translated.verdict text) row.between (read_row row h).below) (translate_row row h)) ran in
    let paged = none_before (turned_keeps w.was_written.told (page_checked w l).below) written in
    let listed = none_before (page_checked w l) paged in
    let answer = none_before (behind_checked w l) paged in (
      no_difference rs (none_before (row_keeps row h) e),
      right_check _ _ (none_before (read_row row h) between),
      right_check _ _ (none_before (translate_row row h) ran),
      right_check _ _ answer,
      listed_right w.was_listed l listed,
      turned_right w.was_written.told (page_checked w l).below written,
      lists_right row.was_listed (write_row row h).below e,
    )

-- ---- wrong programs

-- a check that does not count
pub not_uncounted : ((same : Bool) (t : Tally) → t ≡ checked same t) → ⊥
not_uncounted gives = let z : ◌≡◌ {A = ℕ} 0 1 = ap (λ (t : Tally). t.differences) (gives false nothing) in omega arith

-- a comparison that leaves the place out: 3 at 5 is not 3 at 4
pub not_answer_alone : ((v : Verdict) (text : List ℕ) → eqb (number_of v) (number_at text 0).value ≡ answered_by v text) → ⊥
unfolding number_at digits_at digits behind digit value_from
not_answer_alone gives = true≢false (gives (Refused (refusal 3 5)) (bytes "3 4 0"))
