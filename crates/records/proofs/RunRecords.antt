-- What `keep` writes after `run` is the run's record: the numbers that a run leaves in its output are whole entries (`machine_threes`). So the words
-- agree when they are replayed.
use Prim.Native.Nat.{ℕ, ◌*◌, ◌≤◌, ◌<◌}
use native.Mathlib.Omega.{arith}
use mathlib.Core.Path.{◌≡◌, sym, ap, ap₂, subst, ◌∙◌}
use mathlib.Core.Bool.{Bool, true, false, cond}
use mathlib.Core.List.{List, ◌++◌}
use lib.IntN.{ℤ}
use lib.ListN.{length, take, drop, length-append}
use lib.Seq.{take-append_seam}
use Rattle.std.specs.Prelude.{Option, Some, None}
use Rattle.answers.specs.Answers.{stop_number}
use Rattle.machine.specs.Limits.{most_words}
use Rattle.machine.specs.Machine.{Finish, Exit, exit, job, on_code, afterwards, used}
use Rattle.machine.specs.declared.Ran.{Ran}
use Rattle.records.specs.declared.Replayed.TheVariants.{Agrees}
use Rattle.records.specs.Record.{Entry, Recorded, entry_words, record_as, record_words}
use Rattle.records.specs.Keeping.{Filling, filling, has_room, kept_in}
use Rattle.records.specs.Replay.{in_threes, replay, record_of, recorded}
use Rattle.records.proofs.RunFacts.{machine_threes}
use Rattle.records.proofs.ReplayLaws.{recorded_agrees}

-- ---- the record of a run just done

module _ (code : List ℕ) (input : List ℤ) (limit : ℕ) (store output : List ℤ) {r : Ran} {s o : List ℤ} (e : exit r s o ≡ job code input limit store output) where
  abbrev came : Finish
  came = on_code code input limit (used store) (length output)

  -- what was written stands at the output's beginning
  pub wrote : take r.written o ≡ came.written
  unfolding afterwards
  wrote = ap (λ (x : Exit). take x.ran.written x.output) e ∙ take-append_seam came.written _

  pub within : r.written ≤ length o
  unfolding afterwards
  within =
      let p : r.written ≡ length came.written = ap (λ (x : Exit). x.ran.written) e in
      let q : length o ≡ length (came.written ++ drop (length came.written) output) = ap (λ (x : Exit). length x.output) e in
      omega (arith, p, q, length-append came.written (drop (length came.written) output))

  pub kept_run : (room : List ℤ) {a : ℕ} {x : Option ℕ} {room' : List ℤ} → a ≡ stop_number r.stop
      → ((es : List Entry) → take r.written o ≡ entry_words es → filling x room' ≡ kept_in (record_as input limit (length store) (length output) a es) room)
      → filling x room' ≡ kept_in (recorded code input limit (length store) (length output)) room
  unfolding afterwards record_of
  kept_run room {a} p k =
      let q : a ≡ stop_number came.stop = p ∙ ap (λ (y : Exit). stop_number y.ran.stop) e in
      k (in_threes came.written) (wrote ∙ sym (machine_threes (take most_words code) input limit (used store) (length output)))
      ∙ ap (λ (n : ℕ). kept_in (record_as input limit (length store) (length output) n (in_threes came.written)) room) q

-- ---- what was kept

as_many : {a b : ℕ} → Some a ≡ Some b → a ≡ b
as_many e = cc

pub kept_words : (r : Recorded) (room : List ℤ) {room' : List ℤ} {k : ℕ} → filling (Some k) room' ≡ kept_in r room → take k room' ≡ record_words r
unfolding kept_in
kept_words r room {room'} {k} e = go (has_room (length r.input) r.store_length r.output_length (3 * length r.outputs) (length room)) e
  where
    go : (b : Bool) → filling (Some k) room' ≡ cond b (filling (Some (length (record_words r))) (record_words r ++ drop (length (record_words r)) room)) (filling None room) → take k room' ≡ record_words r
    go true q =
        let n : k ≡ length (record_words r) = as_many (ap (λ (f : Filling). f.answer) q) in
        let l : room' ≡ record_words r ++ drop (length (record_words r)) room = ap (λ (f : Filling). f.room) q in
        ap₂ (λ (m : ℕ) (w : List ℤ). take m w) n l ∙ take-append_seam (record_words r) _
    go false q = absurd (let p : Some k ≡ None = ap (λ (f : Filling). f.answer) q in let z : ◌≡◌ {A = ℕ} 0 1 = cc in omega arith)

-- "the record made of a run always agrees", of the words that are kept
pub kept_agrees : (code : List ℕ) (input : List ℤ) (limit n m : ℕ) (room : List ℤ) {room' : List ℤ} {k : ℕ} → limit < 18446744073709551616
    → filling (Some k) room' ≡ kept_in (recorded code input limit n m) room
    → (store output : List ℤ) → n ≤ length store → m ≤ length output → (replay code (take k room') store output).answer ≡ Agrees
kept_agrees code input limit n m room {room'} {k} h e store output p q =
    subst (λ (l : List ℤ). (replay code l store output).answer ≡ Agrees) (sym (kept_words (recorded code input limit n m) room e)) (recorded_agrees code input limit n m store output h p q)
