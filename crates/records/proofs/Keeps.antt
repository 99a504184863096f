-- Words written one after the other.
use Prim.Native.Nat.{ℕ, suc, ◌+◌, ◌-◌, ◌*◌, ◌/◌, ◌%◌, ◌≤◌, ◌<◌}
use native.Mathlib.Omega.{arith}
use mathlib.Core.Path.{◌≡◌, refl, sym, ap, ap₂, subst, ◌∙◌}
use mathlib.Core.List.{List, [], ◌∷◌, ◌++◌, append_assoc}
use mathlib.Core.Bool.{Bool, true, false, cond, ◌&&◌}
use borrow.Author.Tests.{leb-true}
use lib.Dec.{ltb, leb}
use mir.Syntax.{w32}
use mir.Val.{SFits, to_z, of_z, sel}
use mir.Facts.{to_z-of_z, to_z_pos, sfits_to_z}
use lib.IntN.{ℤ, pos, negsuc}
use lib.ListN.{length, take, drop, length-append, length-drop, take-append-drop}
use lib.Seq.{drop-drop, length-take-le}
use borrow.Rule.Slice.PartMut.{put_mid}
use Rattle.std.proofs.lemmas.Slice.{take-put_mid, drop-put_mid}
use Rattle.std.specs.Prelude.{Some, None}
use Rattle.records.specs.Record.{Entry, entry, entry_words, signed, record_words, record_as}
use Rattle.records.specs.Keeping.{filling, has_room, kept_in}
use Rattle.records.specs.model.Keeping.{Puts, Room}
use Rattle.records.proofs.RecordLaws.{spelled}
use Rattle.records.proofs.RunFacts.{both}

pub puts_then : {room room1 room2 xs ys : List ℤ} {at m to : ℕ} → Puts room at xs room1 m → Puts room1 m ys room2 to → Puts room at (xs ++ ys) room2 to
puts_then {room} {room1} {room2} {xs} {ys} {at} {m} {to} p q = record {
  to_is = omega (arith, p.to_is, q.to_is, length-append xs ys);
  front = q.front ∙ ap (λ (l : List ℤ). l ++ ys) p.front ∙ append_assoc (take at room) xs ys;
  behind =
      q.behind ∙ ap (λ (n : ℕ). drop n room1) q.to_is ∙ sym (drop-drop (length ys) m room1) ∙ ap (drop (length ys)) p.behind ∙ drop-drop (length ys) m room ∙ ap (λ (n : ℕ). drop n room) (sym q.to_is);
  long = q.long ∙ p.long;
}

-- words copied to an index
pub copied : (room words : List ℤ) {part : List ℤ} (at : ℕ) → at + length words ≤ length room → part ≡ words → Puts room at words (put_mid at (at + length words - at) room part) (at + length words)
copied room words {part} at h e =
    let k : at + length words - at ≡ length words = omega arith in
    let b = drop (at + length words - at) (drop at room) in record {
      to_is = refl;
      front = rw e (take-put_mid at (at + length words - at) room words (at + length words) refl (omega arith));
      behind = rw e (drop-put_mid at (at + length words - at) room words (at + length words) (omega arith) (omega arith) (omega arith));
      long = rw e (omega (arith, length-append (take at room) (words ++ b), length-append words b, length-take-le at room (omega arith), length-drop (at + length words - at) (drop at room), length-drop at room));
    }

-- ---- the words of a record

pub as_word : (n : ℕ) → n < 2147483648 → to_z w32 n ≡ pos n
as_word n h = to_z_pos w32 h

signed_is : (n : ℕ) → n < 4294967296 → to_z w32 n ≡ signed n
signed_is n h = go (ltb n 2147483648)
  where
    go : (b : Bool) → sel b (pos n) (negsuc (4294967296 - suc n)) ≡ cond b (pos n) (negsuc (4294967295 - n))
    go true = refl
    go false = ap negsuc (omega arith)

pub half_word : (n : ℕ) {x : ℤ} → n < 4294967296 → x ≡ to_z w32 n → to_z w32 (of_z w32 x) ≡ signed n
half_word n {x} h e =
    let f : SFits w32 (to_z w32 n) = sfits_to_z (record { fits = h }) in
    subst (λ (z : ℤ). to_z w32 (of_z w32 z) ≡ signed n) (sym e) (to_z-of_z f ∙ signed_is n h)

entries_length : (es : List Entry) → length (entry_words es) ≡ 3 * length es
unfolding entry_words
entries_length [] = refl
entries_length (entry k a b ∷ es) = let z = entries_length es in omega arith

flat : (n : ℤ) (input between written : List ℤ) → ((((n ∷ []) ++ input) ++ between) ++ written) ≡ n ∷ (input ++ (between ++ written))
flat n input between written = simp append_assoc

-- what stands between the input numbers and the entries
abbrev pub lengths : ℕ → ℕ → ℕ → ℕ → ℕ → List ℤ
lengths limit store output answer m =
    pos 1 ∷ signed (limit % 4294967296) ∷ signed (limit / 4294967296) ∷ pos 1 ∷ pos store ∷ pos 1 ∷ pos output ∷ pos 1 ∷ pos answer ∷ pos m ∷ []

pub kept_words : (input written : List ℤ) (limit store output answer m : ℕ) (es : List Entry) → written ≡ entry_words es → m ≡ length written / 3
    → ((((pos (length input) ∷ []) ++ input) ++ lengths limit store output answer m) ++ written) ≡ record_words (record_as input limit store output answer es)
kept_words input written limit store output answer m es e q =
    let z : m ≡ length es = omega (arith, q, ap length e, entries_length es) in
    flat (pos (length input)) input (lengths limit store output answer m) written
    ∙ ap₂ (λ (k : ℕ) (w : List ℤ). pos (length input) ∷ (input ++ (lengths limit store output answer k ++ w))) z e
    ∙ sym (spelled (record_as input limit store output answer es))

-- ---- the job

module _ (input written : List ℤ) (limit store output answer : ℕ) (room : List ℤ) where
  -- by the lengths that are lent
  kept_by : (es : List Entry) → written ≡ entry_words es → kept_in (record_as input limit store output answer es) room
      ≡ cond (has_room (length input) store output (length written) (length room))
      (filling (Some (length (record_words (record_as input limit store output answer es)))) (record_words (record_as input limit store output answer es) ++ drop (length (record_words (record_as input limit store output answer es))) room)) (filling None room)
  unfolding kept_in
  kept_by es e =
      let z : 3 * length es ≡ length written = omega (arith, ap length e, entries_length es) in
      rw z

  pub no_room : has_room (length input) store output (length written) (length room) ≡ false → (es : List Entry) → written ≡ entry_words es → filling None room ≡ kept_in (record_as input limit store output answer es) room
  no_room h es e = sym (kept_by es e ∙ rw h)

  pub with_room : has_room (length input) store output (length written) (length room) ≡ true → {room' : List ℤ} {k : ℕ} → (es : List Entry) → written ≡ entry_words es → Puts room 0 (record_words (record_as input limit store output answer es)) room' k
      → filling (Some k) room' ≡ kept_in (record_as input limit store output answer es) room
  with_room h {room'} {k} es e p =
      let ws = record_words (record_as input limit store output answer es) in
      let q : k ≡ length ws = omega (arith, p.to_is) in
      let r : room' ≡ ws ++ drop (length ws) room = sym (take-append-drop k room') ∙ ap₂ (λ (a b : List ℤ). a ++ b) p.front p.behind ∙ ap (λ (n : ℕ). ws ++ drop n room) q in
      ap₂ (λ (n : ℕ) (l : List ℤ). filling (Some n) l) q r ∙ sym (kept_by es e ∙ rw h)

-- what the test of the room says
pub room_is : (n s o m r : ℕ) → has_room n s o m r ≡ true → Room n s o m r
room_is n s o m r e =
    let a = both (leb n 2147483647) (leb s 2147483647 && (leb o 2147483647 && (leb m 2147483647 && leb (11 + n + m) r))) e in
    let b = both (leb s 2147483647) (leb o 2147483647 && (leb m 2147483647 && leb (11 + n + m) r)) a.1 in
    let c = both (leb o 2147483647) (leb m 2147483647 && leb (11 + n + m) r) b.1 in
    let d = both (leb m 2147483647) (leb (11 + n + m) r) c.1 in
    record {
      few_inputs = omega (arith, leb-true n 2147483647 a.0);
      short_store = omega (arith, leb-true s 2147483647 b.0);
      short_output = omega (arith, leb-true o 2147483647 c.0);
      few_written = omega (arith, leb-true m 2147483647 d.0);
      enough = leb-true (11 + n + m) r d.1;
    }
