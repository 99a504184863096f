-- The data that the counts and the store hold, for input and output, held values, blocks and activations.
use mathlib.Core.Path.{◌≡◌, refl, sym, ap, ap₂, subst, ◌∙◌}
use mathlib.Core.Bool.{Bool, true, false, cond}
use mathlib.Core.List.{List, [], ◌∷◌, ◌++◌, append_assoc}
use Prim.Native.Nat.{ℕ, zero, suc, ◌+◌, ◌-◌, ◌≤◌, ◌<◌}
use native.Mathlib.Omega.{arith}
use native.Mathlib.Numerals.{add-one}
use lib.Dec.{leb, eqb}
use lib.ListN.{length, get_or, set, take, drop, length-set, drop_of_length-le}
use lib.Seq.{drop-cons, take-suc-set, drop-set-lt}
use lib.IntN.{ℤ, pos}
use lib.Ieee.{Float}
use borrow.Author.Tests.{lt-ltb, le-ltb, le-leb, lt-leb, ne_eqb}
use Rattle.answers.specs.declared.Answer.{Answer}
use Rattle.answers.specs.Numbers.{unassigned as notAssigned}
use Rattle.reals.specs.declared.Form.{Form}
use Rattle.reals.specs.declared.Value.{Value}
use Rattle.reals.specs.declared.Value.TheVariants.{Truth, Whole, Real}
use Rattle.reals.specs.declared.Outcome.{Outcome}
use Rattle.reals.specs.declared.Outcome.TheVariants.{Is, Fault, Stray}
use Rattle.reals.specs.declared.Cell.{Cell}
use Rattle.reals.specs.declared.Cell.TheVariants.{Unset, Holds, Named}
use Rattle.reals.specs.model.Stored.{Fitting}
use Rattle.machine.specs.declared.Counts.{Counts}
use Rattle.machine.specs.Run.{say, wrote}
use Rattle.machine.specs.Data.{Link, contents, Lent, Result, wrong, guard, valued, picking, input, space, rest, spend, back, hold, unhold, held, Two, yea, nay, close_block, Fate, kept, gone, stored, given, leave}
use Rattle.machine.specs.model.Holding.{After, Own, left, held_in, cell_at, put_at, room_of, cells_of, held_of, data_of, trace_of, told, fine, ill, lost, holding, HeldIn, fate_of, Sound}
use Rattle.machine.specs.model.Quick.{cut}
use Rattle.machine.proofs.Stacks.{cells_length, cells_cons, cells_drop, held_cons, held_drop, room_put, sound_same}
use Rattle.machine.proofs.Kept.{hold_data, sound_hold}

-- ---- input and output

abbrev pub took_one : Counts → Counts
took_one n = record { cells = n.cells; held = n.held; taken = n.taken + 1; written = n.written }

abbrev pub wrote_three : Counts → Counts
wrote_three n = record { cells = n.cells; held = n.held; taken = n.taken; written = n.written + 3 }

-- three numbers from k on
abbrev pub three : List ℤ → ℕ → ℤ → ℤ → ℤ → List ℤ
three o k x y z = set (set (set o k x) (k + 1) y) (k + 2) z

module _ (o : List ℤ) (k : ℕ) (x y z : ℤ) where
  pub three_length : length (three o k x y z) ≡ length o
  three_length = length-set (set (set o k x) (k + 1) y) (k + 2) z ∙ length-set (set o k x) (k + 1) y ∙ length-set o k x

  pub three_rest : drop (k + 3) (three o k x y z) ≡ drop (k + 3) o
  three_rest =
      drop-set-lt (k + 3) (set (set o k x) (k + 1) y) (k + 2) z (omega arith) ∙ drop-set-lt (k + 3) (set o k x) (k + 1) y (omega arith) ∙ drop-set-lt (k + 3) o k x (omega arith)

  pub three_long : k + 3 ≤ length o → k + 3 ≤ length (three o k x y z)
  three_long h = rw three_length h

  pub three_taken : k + 3 ≤ length o → take (k + 3) (three o k x y z) ≡ take k o ++ (x ∷ y ∷ z ∷ [])
  three_taken h =
      let e1 : k + 3 ≡ suc (k + 2) = omega arith in
      let e2 : k + 2 ≡ suc (k + 1) = omega arith in
      let e3 : k + 1 ≡ suc k = omega arith in
      let h1 : k < length o = omega arith in
      let h2 : k + 1 < length (set o k x) = rw (length-set o k x) (omega arith) in
      let h3 : k + 2 < length (set (set o k x) (k + 1) y) = rw (length-set (set o k x) (k + 1) y, length-set o k x) (omega arith) in
      ap (λ (m : ℕ). take m (three o k x y z)) e1
      ∙ take-suc-set (set (set o k x) (k + 1) y) (k + 2) z h3
      ∙ ap (λ (w : List ℤ). w ++ (z ∷ [])) (ap (λ (m : ℕ). take m (set (set o k x) (k + 1) y)) e2 ∙ take-suc-set (set o k x) (k + 1) y h2)
      ∙ ap (λ (w : List ℤ). (w ++ (y ∷ [])) ++ (z ∷ [])) (ap (λ (m : ℕ). take m (set o k x)) e3 ∙ take-suc-set o k x h1)
      ∙ simp append_assoc

module _ (n : Counts) (a : Own) (s i o : List ℤ) where
  pub input_none : length i ≤ n.taken → input (data_of n a s i o) ≡ []
  unfolding input
  input_none h = drop_of_length-le i h

  pub input_some : n.taken < length i → input (data_of n a s i o) ≡ get_or i n.taken (pos 0) ∷ drop (n.taken + 1) i
  unfolding input
  input_some h = rw add-one (drop-cons i n.taken (pos 0) h)

  pub rest_data : data_of (took_one n) a s i o ≡ rest (drop (n.taken + 1) i) (data_of n a s i o)
  unfolding rest
  rest_data = refl

  pub space_none : length o - n.written < 3 → leb 3 (space (data_of n a s i o)) ≡ false
  unfolding space
  space_none h = lt-leb 3 (length o - n.written) h

  pub space_some : 3 ≤ length o - n.written → leb 3 (space (data_of n a s i o)) ≡ true
  unfolding space
  space_some h = le-leb 3 (length o - n.written) h

  module _ (x y z : ℤ) {o' : List ℤ} (e : o' ≡ three o n.written x y z) where
    pub spend_data : data_of (wrote_three n) a s i o' ≡ spend (data_of n a s i o)
    unfolding spend
    spend_data =
        let k : length o - (n.written + 3) ≡ length o - n.written - 3 = omega arith in
        rw (e, three_length o n.written x y z, k)

    pub wrote_trace : n.written + 3 ≤ length o → trace_of (wrote_three n) o' ≡ say (trace_of n o) (wrote (x ∷ y ∷ z ∷ []))
    wrote_trace h = rw (e, three_taken o n.written x y z h)

-- the numbers, as they are told
pub three_back : {x y z x' y' z' : ℤ} → x' ≡ x → y' ≡ y → z' ≡ z → ◌≡◌ {A = List ℤ} (x' ∷ y' ∷ z' ∷ []) (x ∷ y ∷ z ∷ [])
three_back e g h = rw (e, g, h)

pub wrote_sound : (n : Counts) (s : List ℤ) → Sound n s → Sound (wrote_three n) s
wrote_sound n s g = sound_same n (wrote_three n) s g (omega arith) g.room

pub took_sound : (n : Counts) (s : List ℤ) → Sound n s → Sound (took_one n) s
took_sound n s g = sound_same n (took_one n) s g (omega arith) g.room

-- ---- held values

pub hold_put : (s : List ℤ) {s' : List ℤ} (r h : ℕ) (v : Value) → s' ≡ put_at s (r - 1 - h) (Holds v) → r ≡ room_of s → s' ≡ put_at s (room_of s - 1 - h) (Holds v)
hold_put s r h v e p = rw (← p) e

module _ (m : Counts) (s : List ℤ) {s' : List ℤ} {l : Counts} (x : Value) (e : s' ≡ put_at s (room_of s - 1 - m.held) (Holds x)) (f : Fitting x) (d : l ≡ holding m) (h : m.cells + m.held < room_of s) where
  pub hold_is : (a : Own) (i o : List ℤ) → data_of l a s' i o ≡ hold x (data_of m a s i o)
  unfolding hold
  hold_is a i o = rw (d, e) (hold_data m a s i o x f h)

  pub hold_sound : Sound m s → Sound l s'
  hold_sound g = rw (d, e) (sound_hold m s x f g h)

pub held_trace : (m l : Counts) (o : List ℤ) → l ≡ holding m → trace_of l o ≡ trace_of m o
held_trace m l o d = ap (λ (c : Counts). trace_of c o) d

pub held_written : (m l : Counts) → l ≡ holding m → l.written ≡ m.written
held_written m l d = ap (λ (c : Counts). c.written) d

-- the newest held cell holds a value
pub held_in_lem : (n : Counts) (s : List ℤ) {r : ℕ} {u : Cell} → Sound n s → r ≡ room_of s → 1 ≤ n.held → u ≡ cell_at s (r - n.held) → HeldIn n u s
held_in_lem n s {r} {u} g e h z =
    let k : room_of s - suc (n.held - 1) ≡ room_of s - n.held = omega arith in
    let y : cell_at s (room_of s - n.held) ≡ Holds (held_in (cell_at s (room_of s - n.held))) = rw k at (g.holds (n.held - 1) (omega arith)) in
    let w : u ≡ cell_at s (room_of s - n.held) = z ∙ rw e in
    subst (λ (v : Cell). HeldIn n v s) (sym (w ∙ y)) (h, held_cons n.held s h)

held_zero : {A : Type 0} (f : Value → Result A) (k : ℕ) (w : List Cell) (s : List ℤ) (a : ℕ) (l : Lent) → k ≡ 0 → held f (contents w (held_of k s) a l) ≡ wrong
unfolding held held_of
held_zero f zero w s a l h = refl
held_zero f (suc k) w s a l h = absurd (omega arith)

module _ {A : Type 0} (n : Counts) (a : Own) (s i o : List ℤ) where
  pub none_held : n.held ≡ 0 → (f : Value → Result A) → held f (data_of n a s i o) ≡ wrong
  none_held h f = held_zero f n.held _ s a.live _ h

  -- whatever it is
  pub some_held : 1 ≤ n.held → (r : Result A) → held (λ y. r) (data_of n a s i o) ≡ r
  unfolding held
  some_held h r = rw (held_cons n.held s h)

  module _ {u : Cell} where
    pub held_unset : {t : Form} → u ≡ Unset t → HeldIn n u s → (f : Value → Result A) → held f (data_of n a s i o) ≡ wrong
    held_unset e h = none_held (subst (λ (w : Cell). HeldIn n w s) e h)

    pub held_named : {m : ℕ} → u ≡ Named m → HeldIn n u s → (f : Value → Result A) → held f (data_of n a s i o) ≡ wrong
    held_named e h = none_held (subst (λ (w : Cell). HeldIn n w s) e h)

    pub held_some : {x : Value} → u ≡ Holds x → HeldIn n u s → (f : Value → Result A) → held f (data_of n a s i o) ≡ f x
    unfolding held
    held_some e h f = rw (subst (λ (w : Cell). HeldIn n w s) e h).1

pub held_least : (n : Counts) (s : List ℤ) {u : Cell} {x : Value} → u ≡ Holds x → HeldIn n u s → 1 ≤ n.held
held_least n s e h = (subst (λ (w : Cell). HeldIn n w s) e h).0

-- a step goes
abbrev pub released : Counts → Counts
released n = record { cells = n.cells; held = n.held - 1; taken = n.taken; written = n.written }

pub unhold_data : (n : Counts) (a : Own) (s i o : List ℤ) → 1 ≤ n.held → data_of (released n) a s i o ≡ unhold (data_of n a s i o)
unfolding unhold
unhold_data n a s i o h = rw (held_drop n.held s h)

pub unhold_sound : (n : Counts) (s : List ℤ) → Sound n s → Sound (released n) s
unhold_sound n s g = sound_same n (released n) s g (omega arith) (omega (arith, g.room))

-- .. and a new one has its place
module _ (n : Counts) (s : List ℤ) {s' : List ℤ} {l : Counts} (x : Value) (e : s' ≡ put_at s (room_of s - 1 - (n.held - 1)) (Holds x)) (f : Fitting x) (d : l ≡ holding (released n)) (h : n.cells + n.held < room_of s) (k : 1 ≤ n.held) where
  pub renew_data : (a : Own) (i o : List ℤ) → data_of l a s' i o ≡ hold x (unhold (data_of n a s i o))
  renew_data a i o = hold_is (released n) s x e f d (omega arith) a i o ∙ ap (hold x) (unhold_data n a s i o k)

  pub renew_sound : Sound n s → Sound l s'
  renew_sound g = hold_sound (released n) s x e f d (omega arith) (unhold_sound n s g)

  pub renew_room : l.cells + l.held < room_of s'
  renew_room =
      let r : room_of s' ≡ room_of s = rw e (room_put s (room_of s - 1 - (n.held - 1)) (Holds x)) in
      rw (r, d) (omega arith)

  pub renew_done : (z : Value) (a : Own) (i o : List ℤ) → fine (back z (data_of l a s' i o)) (trace_of l o) ≡ fine (back z (hold x (unhold (data_of n a s i o)))) (trace_of n o)
  renew_done z a i o = ap₂ fine (ap (back z) (renew_data a i o)) (held_trace (released n) l o d)

-- the test of a step element
module _ (n : Counts) (a : Own) (s i o : List ℤ) (q : ℕ) (r : Outcome) where
  abbrev Tested : After Two
  Tested = told (trace_of n o) (valued q (λ b. picking b (nay (unhold (data_of n a s i o))) (yea (data_of n a s i o))) r)

  pub left_yes : {b : Bool} {v : Value} → r ≡ Is v → v ≡ Truth b → b ≡ true → 1 ≤ n.held → fine (nay (data_of (released n) a s i o)) (trace_of n o) ≡ Tested
  unfolding told valued picking
  left_yes e g k h = rw (e, g, k, unhold_data n a s i o h)

  pub left_no : {b : Bool} {v : Value} → r ≡ Is v → v ≡ Truth b → b ≡ false → fine (yea (data_of n a s i o)) (trace_of n o) ≡ Tested
  unfolding told valued picking
  left_no e g k = rw (e, g, k)

  pub left_whole : {z : ℤ} {v : Value} → r ≡ Is v → v ≡ Whole z → lost ≡ Tested
  unfolding told valued picking
  left_whole e g = rw (e, g)

  pub left_real : {x : Float} {v : Value} → r ≡ Is v → v ≡ Real x → lost ≡ Tested
  unfolding told valued picking
  left_real e g = rw (e, g)

  pub left_bad : {x : Answer} → r ≡ Fault x → ill x.number q ≡ Tested
  unfolding told valued
  left_bad e = rw e

  pub left_stray : r ≡ Stray → lost ≡ Tested
  unfolding told valued
  left_stray e = rw e

-- ---- blocks and activations

pub cut_sound : (c : ℕ) (n : Counts) (s : List ℤ) → Sound n s → c ≤ n.cells → Sound (cut c n) s
cut_sound c n s g h = sound_same n (cut c n) s g (omega arith) (omega (arith, g.room))

module _ (n : Counts) (a : Own) (s i o : List ℤ) where
  pub close_no : (k : ℕ) → n.cells < k → lost ≡ told (trace_of n o) (close_block k (data_of n a s i o))
  unfolding close_block told guard
  close_no k h = rw (cells_length n.cells s, lt-leb k n.cells h)

  pub close_yes : (k : ℕ) → k ≤ n.cells → fine (data_of (cut (n.cells - k) n) a s i o) (trace_of n o) ≡ told (trace_of n o) (close_block k (data_of n a s i o))
  unfolding close_block told guard
  close_yes k h = rw (cells_length n.cells s, le-leb k n.cells h, cells_drop k n.cells s h)

-- an activation ends
fate_kept : (w : ℕ) → w ≡ 1 → fate_of w ≡ kept
unfolding fate_of
fate_kept w e = rw e

-- a word that is not 1 is of one that leaves nothing
Dropping : Fate → Type 0
Dropping kept = ⊥
Dropping gone = Unit {0}
Dropping stored = Unit {0}

dropping : (w : ℕ) → (w ≡ 1 → ⊥) → Dropping (fate_of w)
unfolding fate_of Dropping
dropping w n = rw (ne_eqb w 1 n) (go (eqb w 0))
  where
    go : (b : Bool) → Dropping (cond b gone stored)
    go true = tt
    go false = tt

module _ (n : Counts) (a : Own) (s i o : List ℤ) (x : Link) (q b : ℕ) where
  module _ (f : Fate) (p : Dropping f) where
    drop_out : n.cells < b → lost ≡ told (trace_of n o) (leave f x q b (data_of n a s i o))
    unfolding leave told guard Dropping
    drop_out h = go f p
      where
        go : (f : Fate) → Dropping f → lost ≡ told (trace_of n o) (leave f x q b (data_of n a s i o))
        go kept p = absurd p
        go gone p = rw (cells_length n.cells s, lt-leb b n.cells h)
        go stored p = rw (cells_length n.cells s, lt-leb b n.cells h)

    drop_in : b ≤ n.cells → fine (data_of (cut b n) (left f x a) s i o) (trace_of n o) ≡ told (trace_of n o) (leave f x q b (data_of n a s i o))
    unfolding leave told guard Dropping
    drop_in h = go f p
      where
        l : n.cells - b ≤ n.cells
        l = omega arith

        z : n.cells - (n.cells - b) ≡ b
        z = omega arith

        go : (f : Fate) → Dropping f → fine (data_of (cut b n) (left f x a) s i o) (trace_of n o) ≡ told (trace_of n o) (leave f x q b (data_of n a s i o))
        go kept p = absurd p
        go gone p = rw (cells_length n.cells s, le-leb b n.cells h, cells_drop (n.cells - b) n.cells s l, z)
        go stored p = rw (cells_length n.cells s, le-leb b n.cells h, cells_drop (n.cells - b) n.cells s l, z)

  module _ (w : ℕ) where
    pub leave_gone_out : (w ≡ 1 → ⊥) → n.cells < b → lost ≡ told (trace_of n o) (leave (fate_of w) x q b (data_of n a s i o))
    leave_gone_out e h = drop_out (fate_of w) (dropping w e) h

    pub leave_gone : (w ≡ 1 → ⊥) → b ≤ n.cells → fine (data_of (cut b n) (left (fate_of w) x a) s i o) (trace_of n o) ≡ told (trace_of n o) (leave (fate_of w) x q b (data_of n a s i o))
    leave_gone e h = drop_in (fate_of w) (dropping w e) h

    pub leave_kept_out : w ≡ 1 → n.cells ≤ b → lost ≡ told (trace_of n o) (leave (fate_of w) x q b (data_of n a s i o))
    unfolding leave told guard
    leave_kept_out e h = rw (fate_kept w e, cells_length n.cells s, le-ltb b n.cells h)

    module _ (e : w ≡ 1) (h : b < n.cells) where
      rest_cells : drop (length (cells_of n.cells s) - suc b) (cells_of n.cells s) ≡ cell_at s b ∷ cells_of b s
      rest_cells =
          let l : n.cells - suc b ≤ n.cells = omega arith in
          let z : n.cells - (n.cells - suc b) ≡ b + 1 = omega arith in
          let y : b + 1 - 1 ≡ b = omega arith in
          let k = cells_cons (b + 1) s (omega arith) in
          rw (cells_length n.cells s, cells_drop (n.cells - suc b) n.cells s l, z) (k ∙ rw y)

      pub leave_unset : {t : Form} → cell_at s b ≡ Unset t → ill notAssigned q ≡ told (trace_of n o) (leave (fate_of w) x q b (data_of n a s i o))
      unfolding leave told guard given
      leave_unset u = rw (fate_kept w e, rest_cells, u, cells_length n.cells s, lt-ltb b n.cells h)

      pub leave_named : {m : ℕ} → cell_at s b ≡ Named m → lost ≡ told (trace_of n o) (leave (fate_of w) x q b (data_of n a s i o))
      unfolding leave told guard given
      leave_named u = rw (fate_kept w e, rest_cells, u, cells_length n.cells s, lt-ltb b n.cells h)

      pub leave_kept : {v : Value} → cell_at s b ≡ Holds v → fine (data_of (cut (b + 1) n) (left (fate_of w) x a) s i o) (trace_of n o) ≡ told (trace_of n o) (leave (fate_of w) x q b (data_of n a s i o))
      unfolding leave told guard given
      leave_kept u =
          let y : b + 1 - 1 ≡ b = omega arith in
          rw (fate_kept w e, rest_cells, cells_cons (b + 1) s (omega arith), y, u, cells_length n.cells s, lt-ltb b n.cells h)
