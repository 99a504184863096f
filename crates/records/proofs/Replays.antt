-- A record that is fine, replayed by its words, is the definition's replay.
use Prim.Native.Nat.{ℕ, suc, ◌+◌, ◌-◌, ◌/◌, ◌≤◌, ◌<◌, min}
use native.Mathlib.Omega.{arith}
use mathlib.Core.Path.{◌≡◌, refl, sym, ap, ap₂, subst, ◌∙◌}
use mathlib.Core.Bool.{Bool, true, false, cond, ◌&&◌}
use mathlib.Core.List.{List, [], ◌∷◌, ◌++◌, map}
use mathlib.Core.Logic.{◌⊎◌, inl, inr}
use mathlib.Core.Option.{Option, none, some}
use borrow.Author.Tests.{le-leb, lt-leb, leb-true, leb-false}
use lib.Dec.{leb, eqb}
use lib.IntN.{ℤ, pos, negsuc}
use lib.Signed.{mag}
use lib.ListN.{length, get_or, take, drop, drop_of_length-le, length-append, length-drop}
use lib.Seq.{drop-cons, take-append-le, take-append_seam, drop-append-add, get_or-append-add}
use mir.Syntax.{w32}
use mir.Val.{to_z, of_z}
use mir.Facts.{to_z-of_z}
use Rattle.std.specs.Prelude.{Ok, Err}
use Rattle.answers.specs.Answers.{stop_number}
use Rattle.reals.specs.Values.{same}
use Rattle.machine.specs.Machine.{Exit, exit, Finish, job, on_code, afterwards, used}
use Rattle.machine.specs.declared.Ran.{Ran}
use Rattle.records.specs.declared.Replayed.{Replayed}
use Rattle.records.specs.declared.Replayed.TheVariants.{Agrees, Differs, Bad as Malformed, Short}
use Rattle.records.specs.declared.BadWord.{BadWord}
use Rattle.records.specs.declared.Table.TheVariants.{Record}
use Rattle.records.specs.Words.{Reading, fine, bad, read, amount, first_apart, next}
use Rattle.records.specs.Record.{Entry, entry, Recorded, half, whole, record_table, record_layout, made, entry_words}
use Rattle.records.specs.Replay.{same_entry, wrote, same_told, told, in_threes, of_record, verdict, done, compared, fresh, enough, on_record, replay}
use Rattle.records.specs.model.Scanning.{at, rows_from, Spot, scan}
use Rattle.records.specs.model.Replaying.{agreed, entry_at, entries_apart, compared_at, run_at, exit_at, fresh_at}
use Rattle.records.proofs.RunRecords.{within}
use Rattle.records.proofs.RecordLaws.{Laid, read_laid}
use Rattle.records.proofs.RunFacts.{machine_threes}
use Rattle.records.proofs.Scanned.{same_word, from, Tells, tells_bad, tells_fine, scanned, record_rows}
use Rattle.records.proofs.ReplayLaws.{on_bad, on_short}

-- ---- a half's bits

pub half_bits : (x : ℤ) → of_z w32 x ≡ half x
half_bits (pos n) = refl
half_bits (negsuc n) = omega arith

-- ---- two lists of numbers

module _ (xs ys : List ℤ) where
  agreed_short : (i : ℕ) → length ys ≤ i → agreed (drop i xs) (drop i ys) ≡ 0
  unfolding agreed
  agreed_short i h = rw (drop_of_length-le ys h) (go (drop i xs))
    where
      go : (l : List ℤ) → agreed l [] ≡ 0
      go [] = refl
      go (x ∷ l) = refl

  agreed_over : (i : ℕ) → length xs ≤ i → agreed (drop i xs) (drop i ys) ≡ 0
  unfolding agreed
  agreed_over i h = rw (drop_of_length-le xs h)

  -- at the end of the shorter
  pub agreed_ends : (i : ℕ) → min (length xs) (length ys) ≤ i → agreed (drop i xs) (drop i ys) ≡ 0
  agreed_ends i h = go (leb (length xs) i) refl
    where
      go : (b : Bool) → leb (length xs) i ≡ b → agreed (drop i xs) (drop i ys) ≡ 0
      go true e = agreed_over i (leb-true (length xs) i e)
      go false e = let k : i < length xs = leb-false (length xs) i e in agreed_short i (omega arith)

  pub agreed_stop : (i : ℕ) → i < length xs → i < length ys → same (get_or xs i (pos 0)) (get_or ys i (pos 0)) ≡ false → agreed (drop i xs) (drop i ys) ≡ 0
  unfolding agreed
  agreed_stop i h k e = rw (drop-cons xs i (pos 0) h, drop-cons ys i (pos 0) k, e)

  pub agreed_on : (i : ℕ) → i < length xs → i < length ys → same (get_or xs i (pos 0)) (get_or ys i (pos 0)) ≡ true → agreed (drop i xs) (drop i ys) ≡ suc (agreed (drop (suc i) xs) (drop (suc i) ys))
  unfolding agreed
  agreed_on i h k e = rw (drop-cons xs i (pos 0) h, drop-cons ys i (pos 0) k, e)

-- the one, or where it fails the other
pub one_or_other : {A B C : Type 0} → A ⊎ (B × C) → A ⊎ C
one_or_other (inl a) = inl a
one_or_other (inr p) = inr p.1

-- where they are apart
pub apart_some : (xs ys : List ℤ) → agreed xs ys < length xs ⊎ agreed xs ys < length ys → first_apart same xs ys ≡ some (agreed xs ys)
unfolding agreed first_apart next
apart_some [] [] (inl h) = absurd (omega arith)
apart_some [] [] (inr h) = absurd (omega arith)
apart_some [] (y ∷ ys) h = refl
apart_some (x ∷ xs) [] h = refl
apart_some (x ∷ xs) (y ∷ ys) h = go (same x y) (apart_some xs ys) h
  where
    lower : suc (agreed xs ys) < suc (length xs) ⊎ suc (agreed xs ys) < suc (length ys) → agreed xs ys < length xs ⊎ agreed xs ys < length ys
    lower (inl k) = inl (omega arith)
    lower (inr k) = inr (omega arith)

    go : (b : Bool) → (agreed xs ys < length xs ⊎ agreed xs ys < length ys → first_apart same xs ys ≡ some (agreed xs ys))
        → cond b (suc (agreed xs ys)) 0 < suc (length xs) ⊎ cond b (suc (agreed xs ys)) 0 < suc (length ys) → cond b (next (first_apart same xs ys)) (some 0) ≡ some (cond b (suc (agreed xs ys)) 0)
    go true f k = rw (f (lower k))
    go false f k = refl

pub apart_none : (xs ys : List ℤ) → length xs ≤ agreed xs ys → length ys ≤ agreed xs ys → first_apart same xs ys ≡ none
unfolding agreed first_apart next
apart_none [] [] h k = refl
apart_none [] (y ∷ ys) h k = absurd (omega arith)
apart_none (x ∷ xs) [] h k = absurd (omega arith)
apart_none (x ∷ xs) (y ∷ ys) h k = go (same x y) (apart_none xs ys) h k
  where
    go : (b : Bool) → (length xs ≤ agreed xs ys → length ys ≤ agreed xs ys → first_apart same xs ys ≡ none)
        → suc (length xs) ≤ cond b (suc (agreed xs ys)) 0 → suc (length ys) ≤ cond b (suc (agreed xs ys)) 0 → cond b (next (first_apart same xs ys)) (some 0) ≡ none
    go true f h k = rw (f (omega arith) (omega arith))
    go false f h k = absurd (omega arith)

-- what the numbers of two lists of output entries come to
pub parted : (xs ys : List ℤ) (k : ℕ) → k ≡ agreed xs ys → k < length xs ⊎ k < length ys → Differs (k / 3 + 1) ≡ verdict (entry_at (first_apart same xs ys))
parted xs ys k e h = ap (λ (n : ℕ). Differs (n / 3 + 1)) e ∙ sym (ap (λ (o : Option ℕ). verdict (entry_at o)) (apart_some xs ys (subst (λ (n : ℕ). n < length xs ⊎ n < length ys) e h)))

pub unparted : (xs ys : List ℤ) (k : ℕ) → k ≡ agreed xs ys → length xs ≤ k → length ys ≤ k → Agrees ≡ verdict (entry_at (first_apart same xs ys))
unparted xs ys k e h h' = sym (ap (λ (o : Option ℕ). verdict (entry_at o)) (apart_none xs ys (subst (λ (n : ℕ). length xs ≤ n) e h) (subst (λ (n : ℕ). length ys ≤ n) e h')))

-- ---- entries, three numbers each

abbrev thirds : Option ℕ → Option ℕ
thirds none = none
thirds (some i) = some (i / 3)

entries_apart_lem : (es fs : List Entry) → first_apart same_entry es fs ≡ thirds (first_apart same (entry_words es) (entry_words fs))
unfolding first_apart next entry_words
entries_apart_lem [] [] = refl
entries_apart_lem [] (entry l c d ∷ fs) = refl
entries_apart_lem (entry k a b ∷ es) [] = refl
entries_apart_lem (entry k a b ∷ es) (entry l c d ∷ fs) = go (same k l) (same a c) (same b d) (first_apart same (entry_words es) (entry_words fs)) (entries_apart_lem es fs)
  where
    three_on : (o : Option ℕ) → next (thirds o) ≡ thirds (next (next (next o)))
    three_on none = refl
    three_on (some i) = ap some (omega arith)

    go : (p q r : Bool) (o : Option ℕ) → first_apart same_entry es fs ≡ thirds o → cond (p && (q && r)) (next (first_apart same_entry es fs)) (some 0) ≡ thirds (cond p (next (cond q (next (cond r (next o) (some 0))) (some 0))) (some 0))
    go true true true o e = ap next e ∙ three_on o
    go true true false o e = refl
    go true false r o e = refl
    go false q r o e = refl

wrote_apart : (es fs : List Entry) → first_apart same_told (map wrote es) (map wrote fs) ≡ first_apart same_entry es fs
unfolding first_apart same_told
wrote_apart [] [] = refl
wrote_apart [] (f ∷ fs) = refl
wrote_apart (e ∷ es) [] = refl
wrote_apart (e ∷ es) (f ∷ fs) = ap (λ (o : Option ℕ). cond (same_entry e f) (next o) (some 0)) (wrote_apart es fs)

entry_on : (t : Bool) (o : Option ℕ) → verdict (cond t (next (thirds o)) (some 0)) ≡ cond t (verdict (entry_at o)) (Differs 0)
unfolding next
entry_on true none = refl
entry_on true (some i) = ap (λ (n : ℕ). Differs n) (omega arith)
entry_on false o = refl

told_apart : (a b : ℕ) (es fs : List Entry) → verdict (first_apart same_told (told a es) (told b fs)) ≡ cond (eqb a b) (entries_apart (entry_words es) (entry_words fs)) (Differs 0)
unfolding first_apart same_told
told_apart a b es fs = rw (wrote_apart es fs, entries_apart_lem es fs) (entry_on (eqb a b) (first_apart same (entry_words es) (entry_words fs)))

-- ---- a record's words, by their index

module _ {ws : List ℤ} {r : Recorded} (t : Laid ws r) where
  rest_of : List ℤ
  rest_of = pos 1 ∷ t.low ∷ t.high ∷ pos 1 ∷ pos r.store_length ∷ pos 1 ∷ pos r.output_length ∷ pos 1 ∷ pos r.answer ∷ pos (length r.outputs) ∷ entry_words r.outputs

  behind_input : (k : ℕ) → at ws (length r.input + suc k) ≡ at rest_of k
  unfolding rest_of
  behind_input k =
      let z : length r.input + suc k ≡ suc (length r.input + k) = omega arith in
      rw (t.words, z) (get_or-append-add r.input _ k (pos 0))

  pub inputs_are : amount (at ws 0) ≡ length r.input
  inputs_are = rw t.words

  pub store_is : amount (at ws (length r.input + 5)) ≡ r.store_length
  unfolding rest_of
  store_is = ap amount (behind_input 4)

  pub output_is : amount (at ws (length r.input + 7)) ≡ r.output_length
  unfolding rest_of
  output_is = ap amount (behind_input 6)

  answer_is : amount (at ws (length r.input + 9)) ≡ r.answer
  unfolding rest_of
  answer_is = ap amount (behind_input 8)

  low_is : at ws (length r.input + 2) ≡ t.low
  unfolding rest_of
  low_is = behind_input 1

  high_is : at ws (length r.input + 3) ≡ t.high
  unfolding rest_of
  high_is = behind_input 2

  input_is : take (length r.input) (drop 1 ws) ≡ r.input
  input_is = rw t.words (take-append_seam r.input _)

  entries_are : drop (length r.input + 11) ws ≡ entry_words r.outputs
  entries_are =
      let z : length r.input + 11 ≡ suc (length r.input + 10) = omega arith in
      rw (t.words, z) (drop-append-add r.input _ 10)

  pub long_enough : length r.input + 11 ≤ length ws
  unfolding rest_of
  long_enough = omega (arith, ap length t.words, length-append r.input rest_of)

  -- ---- held against a run

  compared_is : (f : Finish) (s o : List ℤ) → entry_words (in_threes f.written) ≡ f.written
      → compared_at ws (length r.input) (stop_number f.stop) f.written ≡ verdict (first_apart same_told (of_record r) (told (stop_number f.stop) (in_threes f.written)))
  unfolding compared_at
  compared_is f s o e =
      rw (answer_is, entries_are) (ap (λ (l : List ℤ). cond (eqb r.answer (stop_number f.stop)) (entries_apart (entry_words r.outputs) l) (Differs 0)) (sym e))
      ∙ sym (told_apart r.answer (stop_number f.stop) r.outputs (in_threes f.written))

  exit_is : (f : Finish) (s o store output : List ℤ) → entry_words (in_threes f.written) ≡ f.written
      → exit_at ws (length r.input) r.store_length r.output_length store output (afterwards f s o) ≡ compared r (afterwards f s o) store output
  unfolding compared afterwards
  exit_is f s o store output e =
      let w = take-append_seam f.written (drop (length f.written) o) in
      ap (λ (a : Replayed). done a ((afterwards f s o).store ++ drop r.store_length store) ((afterwards f s o).output ++ drop r.output_length output))
      (ap (λ (l : List ℤ). compared_at ws (length r.input) (stop_number f.stop) l) w ∙ compared_is f s o e ∙ ap (λ (l : List ℤ). verdict (first_apart same_told (of_record r) (told (stop_number f.stop) (in_threes l)))) (sym w))

  fresh_is : (code : List ℕ) (store output : List ℤ) → fresh_at code ws (length r.input) r.store_length r.output_length store output ≡ compared r (fresh code r store output) store output
  fresh_is code store output =
      rw (input_is, low_is, high_is, ← t.limit_is)
      (exit_is (on_code code r.input r.limit (used (take r.store_length store)) (length (take r.output_length output))) (take r.store_length store) (take r.output_length output) store output (machine_threes _ r.input r.limit _ _))

-- ---- the run on a part of what is lent

module _ (code : List ℕ) (ws : List ℤ) (n s o : ℕ) (store output : List ℤ) {input : List ℤ} {limit : ℕ} {r : Ran} {s' o' : List ℤ}
    (i : input ≡ take n (drop 1 ws)) (l : limit ≡ whole (at ws (n + 2)) (at ws (n + 3))) (e : exit r s' o' ≡ job code input limit (take s store) (take o output)) where
  exit_run : exit r s' o' ≡ run_at code ws n (take s store) (take o output)
  exit_run = e ∙ ap₂ (λ (x : List ℤ) (y : ℕ). job code x y (take s store) (take o output)) i l

  written_within : r.written ≤ length o'
  written_within = within code input limit (take s store) (take o output) e

  pub written_inside : r.written ≤ length (o' ++ drop o output)
  written_inside = omega (arith, written_within, length-append o' (drop o output))

  pub fresh_exit : {a : ℕ} {x : Replayed} → a ≡ stop_number r.stop → x ≡ compared_at ws n a (take r.written (o' ++ drop o output))
      → done x (s' ++ drop s store) (o' ++ drop o output) ≡ fresh_at code ws n s o store output
  fresh_exit {a} {x} p q =
      ap (λ (y : Replayed). done y (s' ++ drop s store) (o' ++ drop o output)) (q ∙ ap₂ (λ (m : ℕ) (w : List ℤ). compared_at ws n m w) p (take-append-le r.written o' (drop o output) written_within))
      ∙ ap (λ (y : Exit). exit_at ws n s o store output y) exit_run

-- a part up to the end
pub to_end : (l : List ℤ) (k : ℕ) → take (length l - k) (drop k l) ≡ drop k l
to_end l k = rw (← length-drop k l) (whole_list (drop k l))
  where
    whole_list : (l : List ℤ) → take (length l) l ≡ l
    whole_list [] = refl
    whole_list (x ∷ l) = ap (λ (t : List ℤ). x ∷ t) (whole_list l)

-- a word that was read
pub word_amount : (x : ℤ) {m : ℕ} → mag x < 2147483648 → m ≡ amount (to_z w32 (of_z w32 x)) → m ≡ amount x
word_amount x h e = let q : to_z w32 (of_z w32 x) ≡ x = to_z-of_z {w = w32} (record { sfits = h }) in e ∙ ap (λ (z : ℤ). amount z) q

pub halves_read : (x y : ℤ) {m : ℕ} → mag x < 2147483648 → mag y < 2147483648 → m ≡ whole (to_z w32 (of_z w32 x)) (to_z w32 (of_z w32 y)) → m ≡ whole x y
halves_read x y h k e =
    let p : to_z w32 (of_z w32 x) ≡ x = to_z-of_z {w = w32} (record { sfits = h }) in
    let q : to_z w32 (of_z w32 y) ≡ y = to_z-of_z {w = w32} (record { sfits = k }) in
    e ∙ ap₂ (λ (a b : ℤ). whole a b) p q

-- ---- what the scan found

-- the words are a record's
pub record Kept (ws : List ℤ) : Type 0 where
  pub r : Recorded
  pub reads : read record_layout ws ≡ fine r
  pub laid : Laid ws r

found : (ws : List ℤ) {x : Spot} {R : Reading Recorded} → Tells x R → from 0 (read record_layout ws) ≡ R → (i : ℕ) → x ≡ Ok i → Kept ws
found ws tells_bad e i q = absurd (let z : ◌≡◌ {A = ℕ} 0 1 = cc in omega arith)
found ws (tells_fine a) e i q = go (read record_layout ws) refl e
  where
    go : (R : Reading Recorded) → read record_layout ws ≡ R → from 0 R ≡ fine a → Kept ws
    go (fine b) p e = record { r = b; reads = p; laid = read_laid ws b p }
    go (bad j) p e = absurd (let z : ◌≡◌ {A = ℕ} 0 1 = cc in omega arith)

missed : (ws : List ℤ) {x : Spot} {R : Reading Recorded} → Tells x R → from 0 (read record_layout ws) ≡ R → (b : BadWord) → x ≡ Err b → read record_layout ws ≡ bad b.index
missed ws (tells_fine a) e b q = absurd (let z : ◌≡◌ {A = ℕ} 0 1 = cc in omega arith)
missed ws (tells_bad {i = j}) e b q = go (read record_layout ws) e
  where
    go : (R : Reading Recorded) → from 0 R ≡ bad j → R ≡ bad b.index
    go (fine r) e = absurd (let z : ◌≡◌ {A = ℕ} 0 1 = cc in omega arith)
    go (bad k) e = let p : 0 + k ≡ j = cc in let p' : j ≡ b.index = ap (λ (c : BadWord). c.index) (same_word q) in ap bad (omega arith)

record_scan : (ws : List ℤ) → Tells (scan (rows_from Record 0 6) ws 0) (from 0 (read record_layout ws))
unfolding record_layout
record_scan ws = rw record_rows (scanned ws made record_table 0)

pub kept : (ws : List ℤ) {x : Spot} (i : ℕ) → x ≡ scan (rows_from Record 0 6) ws 0 → x ≡ Ok i → Kept ws
kept ws i e q = found ws (record_scan ws) refl i (sym e ∙ q)

pub answered_bad : (code : List ℕ) (ws store output : List ℤ) {x : Spot} (b : BadWord) → x ≡ scan (rows_from Record 0 6) ws 0 → x ≡ Err b → done (Malformed b.index) store output ≡ replay code ws store output
answered_bad code ws store output b e q = sym (on_bad code ws store output b.index (missed ws (record_scan ws) refl b (sym e ∙ q)))

-- ---- the job

module _ {ws : List ℤ} (k : Kept ws) {n s o : ℕ} (en : n ≡ amount (at ws 0)) (es : s ≡ amount (at ws (n + 5))) (eo : o ≡ amount (at ws (n + 7))) where
  n_is : n ≡ length k.r.input
  n_is = en ∙ inputs_are k.laid

  s_is : s ≡ k.r.store_length
  s_is = es ∙ ap (λ (z : ℕ). amount (at ws (z + 5))) n_is ∙ store_is k.laid

  o_is : o ≡ k.r.output_length
  o_is = eo ∙ ap (λ (z : ℕ). amount (at ws (z + 7))) n_is ∙ output_is k.laid

  pub answered_short : (code : List ℕ) (store output : List ℤ) → length store < s ⊎ length output < o → done Short store output ≡ replay code ws store output
  answered_short code store output h = sym (on_short code ws store output k.r k.reads (go h))
    where
      go : length store < s ⊎ length output < o → enough k.r store output ≡ false
      go (inl q) = rw (lt-leb k.r.store_length (length store) (subst (λ (z : ℕ). length store < z) s_is q))
      go (inr q) = rw (lt-leb k.r.output_length (length output) (subst (λ (z : ℕ). length output < z) o_is q)) (no (leb k.r.store_length (length store)))
        where
          no : (b : Bool) → (b && false) ≡ false
          no true = refl
          no false = refl

  pub replayed : (code : List ℕ) (store output : List ℤ) → s ≤ length store → o ≤ length output → fresh_at code ws n s o store output ≡ replay code ws store output
  unfolding replay on_record
  replayed code store output p q =
      rw (k.reads, le-leb k.r.store_length (length store) (subst (λ (z : ℕ). z ≤ length store) s_is p), le-leb k.r.output_length (length output) (subst (λ (z : ℕ). z ≤ length output) o_is q), n_is, s_is, o_is)
      (fresh_is k.laid code store output)

pub kept_long : {ws : List ℤ} (k : Kept ws) {n : ℕ} → n ≡ amount (at ws 0) → n + 11 ≤ length ws
kept_long k e = omega (arith, e, inputs_are k.laid, long_enough k.laid)

pub kept_some : {ws : List ℤ} (k : Kept ws) → 0 < length ws
kept_some k = omega (arith, long_enough k.laid)
