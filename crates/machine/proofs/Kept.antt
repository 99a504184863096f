-- The data that the counts and the store hold: what each change of a count or a cell is on them.
use mathlib.Core.Path.{◌≡◌, refl, sym, ap, ◌∙◌}
use mathlib.Core.List.{List, [], ◌∷◌}
use Prim.Native.Nat.{ℕ, suc, ◌+◌, ◌-◌, ◌≤◌, ◌<◌}
use native.Mathlib.Omega.{arith}
use lib.ListN.{length, drop, length-replicate, length-append}
use lib.Dec.{ltb}
use mathlib.Core.Bool.{Bool, true, false}
use mathlib.Core.Path.{subst}
use mathlib.Core.Logic.{◌≢◌, ⊎_elim}
use native.Mathlib.Nat.{eq-or-lt_of_le, le_of_suc-le-suc}
use native.Mathlib.Numerals.{add-one}
use borrow.Author.Tests.{lt-ltb, le-ltb, le-leb, lt-leb}
use lib.IntN.{ℤ}
use Rattle.answers.specs.declared.Answer.{Answer}
use Rattle.answers.specs.Numbers.{cells as noCell}
use Rattle.reals.specs.declared.Form.{Form}
use Rattle.reals.specs.declared.Value.{Value}
use Rattle.reals.specs.declared.Outcome.{Outcome}
use Rattle.reals.specs.declared.Outcome.TheVariants.{Is, Fault, Stray}
use Rattle.reals.specs.declared.Cell.{Cell}
use Rattle.reals.specs.declared.Cell.TheVariants.{Unset, Holds, Named}
use Rattle.reals.specs.model.Stored.{Fitting, FittingC}
use Rattle.machine.specs.declared.Counts.{Counts}
use Rattle.std.specs.Prelude.{Option, Some, None, Result as Returned, Ok, Err}
use Rattle.machine.specs.declared.Trouble.{Trouble}
use Rattle.machine.specs.declared.Trouble.TheVariants.{Fault as Bad, Stray as Astray}
use Rattle.machine.specs.Run.{Trace, quiet}
use Rattle.machine.specs.Data.{Data, contents, cells, Result, bad, wrong, good, check, value, nothing, newest, two, back, put, look, plain, new_cells, open_block, valued, Counted, in_all, unset}
use Rattle.machine.specs.model.Holding.{Own, cell_at, put_at, room_of, unassigned_all, cells_of, held_of, data_of, trace_of, seen_u, on_pair, told, fine, ill, lost, fewer, holding, UsedIn, PairIn, Sound, SoundD, SoundT}
use Rattle.machine.proofs.Stacks.{put_same, put_other, sound_put, sound_same, cells_all, held_all, room_all, sound_all, room_put, cells_length, cells_put, cells_new, cells_cons, cells_get, cells_set, held_length, held_put, held_new}

-- one cell more
abbrev pub more : ℕ → Counts → Counts
more k n = record { cells = n.cells + k; held = n.held; taken = n.taken; written = n.written }

pub unset_length : (k : Counted) → length (unset k) ≡ in_all k
unset_length k =
    simp (length-append, length-replicate) (omega arith)

module _ (n : Counts) (a : Own) (s i o : List ℤ) where
  pub newest_none : n.cells ≡ 0 → newest (data_of n a s i o) ≡ nothing
  unfolding newest cells_of
  newest_none e = rw e

  pub newest_unset : {t : Form} → 1 ≤ n.cells → cell_at s (n.cells - 1) ≡ Unset t → newest (data_of n a s i o) ≡ nothing
  unfolding newest
  newest_unset h e = rw (cells_cons n.cells s h, e)

  pub newest_named : {m : ℕ} → 1 ≤ n.cells → cell_at s (n.cells - 1) ≡ Named m → newest (data_of n a s i o) ≡ nothing
  unfolding newest
  newest_named h e = rw (cells_cons n.cells s h, e)

  pub newest_holds : {v : Value} → 1 ≤ n.cells → cell_at s (n.cells - 1) ≡ Holds v → newest (data_of n a s i o) ≡ value v (data_of (fewer 1 n) a s i o)
  unfolding newest
  newest_holds h e = rw (cells_cons n.cells s h, e)

  pub look_data : (c : ℕ) → c < n.cells → look c (data_of n a s i o) ≡ cell_at s c
  unfolding look
  look_data c h = rw (cells_length n.cells s) (cells_get n.cells s c h)

  pub put_data : (c : ℕ) (v : Value) → Fitting v → c < n.cells → n.cells + n.held ≤ room_of s → data_of n a (put_at s c (Holds v)) i o ≡ put c v (data_of n a s i o)
  unfolding put
  put_data c v f h r =
      let l : c + n.held < room_of s = omega arith in
      let m : n.cells ≤ room_of s = omega arith in
      rw (cells_length n.cells s, cells_set n.cells s c (Holds v) f h m, held_put n.held s c (Holds v) l, room_put s c (Holds v))

  -- a new cell
  pub new_data : (x : Cell) → FittingC x → n.cells + n.held < room_of s
      → data_of (more 1 n) a (put_at s n.cells x) i o
      ≡ contents (x ∷ cells_of n.cells s) (held_of n.held s) a.live (record { cells_lent = room_of s; input = drop n.taken i; space = length o - n.written; found = a.found })
  new_data x f h =
      let l : n.cells < room_of s = omega arith in
      rw (cells_new n.cells s x f l, held_put n.held s n.cells x h, room_put s n.cells x)

  pub back_data : (v : Value) → Fitting v → n.cells + n.held < room_of s → data_of (more 1 n) a (put_at s n.cells (Holds v)) i o ≡ back v (data_of n a s i o)
  unfolding back
  back_data v f h = new_data (Holds v) f h

  -- cell c is in use, or not
  pub cell_in : (c : ℕ) → c < n.cells → ltb c (cells (data_of n a s i o)) ≡ true
  cell_in c h = rw (cells_length n.cells s) (lt-ltb c n.cells h)

  pub cell_out : (c : ℕ) → n.cells ≤ c → ltb c (cells (data_of n a s i o)) ≡ false
  cell_out c h = rw (cells_length n.cells s) (le-ltb c n.cells h)

  pub plain_data : {b : Bool} (c : ℕ) → c < n.cells → plain (cell_at s c) ≡ b → plain (look c (data_of n a s i o)) ≡ b
  plain_data c h e = rw (look_data c h) e

  pub new_none : (q : ℕ) (x : Cell) → room_of s ≤ n.cells + n.held → new_cells q (x ∷ []) (data_of n a s i o) ≡ bad noCell q
  unfolding new_cells check
  new_none q x h =
      let l : room_of s < n.cells + n.held + 1 = omega arith in
      rw (cells_length n.cells s, held_length n.held s, lt-leb (n.cells + n.held + 1) (room_of s) l)

  pub new_some : (q : ℕ) (x : Cell) → FittingC x → n.cells + n.held < room_of s
      → new_cells q (x ∷ []) (data_of n a s i o) ≡ good quiet (data_of (more 1 n) a (put_at s n.cells x) i o)
  unfolding new_cells check
  new_some q x f h =
      let l : n.cells + n.held + 1 ≤ room_of s = omega arith in
      rw (cells_length n.cells s, held_length n.held s, le-leb (n.cells + n.held + 1) (room_of s) l) (ap (good quiet) (sym (new_data x f h)))

  -- a block's cells
  pub open_none : (q : ℕ) (k : Counted) → room_of s < n.cells + n.held + in_all k → open_block q k (data_of n a s i o) ≡ bad noCell q
  unfolding open_block new_cells check
  open_none q k h =
      rw (cells_length n.cells s, held_length n.held s, unset_length k, lt-leb (n.cells + n.held + in_all k) (room_of s) h)

  pub open_full : (q : ℕ) (k : Counted) → room_of s < n.cells + n.held + in_all k → ill noCell q ≡ told (trace_of n o) (open_block q k (data_of n a s i o))
  unfolding told
  open_full q k h = rw (open_none q k h)

  pub open_some : (q : ℕ) (k : Counted) → n.cells + n.held + in_all k ≤ room_of s
      → open_block q k (data_of n a s i o) ≡ good quiet (data_of (more (in_all k) n) a (unassigned_all k s n.cells) i o)
  unfolding open_block new_cells check
  open_some q k h =
      let l : n.cells + in_all k ≤ room_of s = omega arith in
      let m : n.cells + in_all k + n.held ≤ room_of s = omega arith in
      rw (
        cells_length n.cells s,
        held_length n.held s,
        unset_length k,
        le-leb (n.cells + n.held + in_all k) (room_of s) h,
        cells_all k s n.cells l,
        held_all k s n.cells n.held m,
        room_all k s n.cells,
      )

  -- a value used, or none
  pub saw : {u : Option (Value × Counts)} {v : Value} {m : Counts} → u ≡ Some (v, m) → newest (data_of n a s i o) ≡ seen_u u a s i o → newest (data_of n a s i o) ≡ value v (data_of m a s i o)
  saw e p = p ∙ ap (λ (w : Option (Value × Counts)). seen_u w a s i o) e

  pub saw_none : {u : Option (Value × Counts)} → u ≡ None → newest (data_of n a s i o) ≡ seen_u u a s i o → newest (data_of n a s i o) ≡ nothing
  saw_none e p = p ∙ ap (λ (w : Option (Value × Counts)). seen_u w a s i o) e

  -- two values used, or not
  pub saw_two : {u : Option (Value × Value × Counts)} {x y : Value} {m : Counts} → u ≡ Some (x, y, m) → ((f : Value → Value → Data → Result Data) → two f (data_of n a s i o) ≡ on_pair f u a s i o)
      → (f : Value → Value → Data → Result Data) → two f (data_of n a s i o) ≡ f x y (data_of m a s i o)
  saw_two e p f = p f ∙ ap (λ (w : Option (Value × Value × Counts)). on_pair f w a s i o) e

  pub saw_no_two : {u : Option (Value × Value × Counts)} → u ≡ None → ((f : Value → Value → Data → Result Data) → two f (data_of n a s i o) ≡ on_pair f u a s i o)
      → (f : Value → Value → Data → Result Data) → two f (data_of n a s i o) ≡ wrong
  saw_no_two e p f = p f ∙ ap (λ (w : Option (Value × Value × Counts)). on_pair f w a s i o) e

  -- the store after a cell was put
  module _ {s' : List ℤ} where
    pub back_done : (v : Value) → s' ≡ put_at s n.cells (Holds v) → Fitting v → n.cells + n.held < room_of s
        → fine (data_of (more 1 n) a s' i o) (trace_of n o) ≡ fine (back v (data_of n a s i o)) (trace_of n o)
    back_done v e f h = rw e (ap (λ (d : Data). fine d (trace_of n o)) (back_data v f h))

    pub put_is : {c : ℕ} (v : Value) → s' ≡ put_at s c (Holds v) → Fitting v → c < n.cells → n.cells + n.held ≤ room_of s
        → data_of n a s' i o ≡ put c v (data_of n a s i o)
    put_is {c} v e f h r = rw e (put_data c v f h r)

    pub put_done : {c : ℕ} (v : Value) → s' ≡ put_at s c (Holds v) → Fitting v → c < n.cells → n.cells + n.held ≤ room_of s
        → fine (data_of n a s' i o) (trace_of n o) ≡ fine (put c v (data_of n a s i o)) (trace_of n o)
    put_done {c} v e f h r = ap (λ (d : Data). fine d (trace_of n o)) (put_is v e f h r)

    pub new_done : (q : ℕ) (x : Cell) → s' ≡ put_at s n.cells x → FittingC x → n.cells + n.held < room_of s
        → fine (data_of (more 1 n) a s' i o) (trace_of n o) ≡ told (trace_of n o) (new_cells q (x ∷ []) (data_of n a s i o))
    unfolding told
    new_done q x e f h = rw (e, new_some q x f h)

    pub open_done : (q : ℕ) (k : Counted) → s' ≡ unassigned_all k s n.cells → n.cells + n.held + in_all k ≤ room_of s
        → fine (data_of (more (in_all k) n) a s' i o) (trace_of n o) ≡ told (trace_of n o) (open_block q k (data_of n a s i o))
    unfolding told
    open_done q k e h = rw (e, open_some q k h)

  pub new_full : (q : ℕ) (x : Cell) → room_of s ≤ n.cells + n.held → ill noCell q ≡ told (trace_of n o) (new_cells q (x ∷ []) (data_of n a s i o))
  unfolding told
  new_full q x h = rw (new_none q x h)

  -- one more is held
  pub hold_data : (v : Value) → Fitting v → n.cells + n.held < room_of s
      → data_of (holding n) a (put_at s (room_of s - 1 - n.held) (Holds v)) i o
      ≡ contents (cells_of n.cells s) (v ∷ held_of n.held s) a.live (record { cells_lent = room_of s; input = drop n.taken i; space = length o - n.written; found = a.found })
  hold_data v f h =
      let c = room_of s - 1 - n.held in
      let l : n.cells ≤ c = omega arith in
      let k : n.held < room_of s = omega arith in
      rw (cells_put n.cells s c (Holds v) l, held_new n.held s v f k, room_put s c (Holds v))

-- ---- what the code relies on

pub sound_hold : (n : Counts) (s : List ℤ) (v : Value) → Fitting v → Sound n s → n.cells + n.held < room_of s → Sound (holding n) (put_at s (room_of s - 1 - n.held) (Holds v))
sound_hold n s v f g h =
    let c = room_of s - 1 - n.held in
    let r = room_put s c (Holds v) in
    record {
      room = rw r (omega arith);
      few = rw r g.few;
      holds =
          λ k b.
          rw r
          (⊎_elim
          (λ e.
          let z : room_of s - suc k ≡ c = omega arith in
          let y = put_same s c (Holds v) f (omega arith) in
          rw (z, y))
          (λ l.
          let z : room_of s - suc k ≢ c = omega arith in
          rw (put_other s c (room_of s - suc k) (Holds v) z) (g.holds k l))
          (eq-or-lt_of_le (le_of_suc-le-suc (rw add-one at b))));
    }

pub fewer_sound : (k : ℕ) (n m : Counts) (s : List ℤ) → Sound n s → m ≡ fewer k n → Sound m s
fewer_sound k n m s g e = rw e (sound_same n (fewer k n) s g (omega arith) (omega (arith, g.room)))

pub fewer_room : (k : ℕ) (n m : Counts) (s : List ℤ) → Sound n s → k ≤ n.cells → m ≡ fewer k n → m.cells + m.held + k ≤ room_of s
fewer_room k n m s g h e = rw e (omega (arith, g.room))

pub fewer_fewer : (n m l : Counts) → m ≡ fewer 1 n → l ≡ fewer 1 m → l ≡ fewer 2 n
fewer_fewer n m l e f =
    let z : n.cells - 1 - 1 ≡ n.cells - 2 = omega arith in
    f ∙ ap (fewer 1) e ∙ ap (λ (c : ℕ). record { cells = c; held = n.held; taken = n.taken; written = n.written }) z

pub sound_as : (n m : Counts) (r : Returned Counts Trouble) (s : List ℤ) → m.written ≡ n.written → SoundD m r s → SoundD n r s
sound_as n m (Ok l) s e h = (h.0, h.1 ∙ e)
sound_as n m (Err (Bad x q)) s e h = tt
sound_as n m (Err Astray) s e h = tt

pub test_as : (n m : Counts) (r : Returned (Bool × Counts) Trouble) (s : List ℤ) → m.written ≡ n.written → SoundT m r s → SoundT n r s
test_as n m (Ok (true, l)) s e h = (h.0, h.1 ∙ e)
test_as n m (Ok (false, l)) s e h = (h.0, h.1 ∙ e)
test_as n m (Err (Bad x q)) s e h = tt
test_as n m (Err Astray) s e h = tt

pub written_as : (k : ℕ) (n m : Counts) → m ≡ fewer k n → m.written ≡ n.written
written_as k n m e = ap (λ (l : Counts). l.written) e

pub trace_as : (k : ℕ) (n m : Counts) (o : List ℤ) → m ≡ fewer k n → trace_of m o ≡ trace_of n o
trace_as k n m o e = ap (λ (l : Counts). trace_of l o) e

-- ---- what a function that used values says of the counts

used_as_lem : (n : Counts) {m : Counts} {u : Option (Value × Counts)} {v : Value} → u ≡ Some (v, m) → UsedIn n u → (1 ≤ n.cells) × (m ≡ fewer 1 n) × Fitting v
used_as_lem n e h = subst (UsedIn n) e h

pair_as : (n : Counts) {m : Counts} {u : Option (Value × Value × Counts)} {x y : Value} → u ≡ Some (x, y, m) → PairIn n u → (2 ≤ n.cells) × (m ≡ fewer 2 n) × Fitting x × Fitting y
pair_as n e h = subst (PairIn n) e h

module _ (n : Counts) {m : Counts} {u : Option (Value × Counts)} {v : Value} (e : u ≡ Some (v, m)) (h : UsedIn n u) where
  pub used_sound : {s : List ℤ} → Sound n s → Sound m s
  used_sound g = fewer_sound 1 n m _ g (used_as_lem n e h).1

  pub used_room : {s : List ℤ} → Sound n s → m.cells + m.held < room_of s
  used_room g = omega (arith, fewer_room 1 n m _ g (used_as_lem n e h).0 (used_as_lem n e h).1)

  pub used_trace : (o : List ℤ) → trace_of m o ≡ trace_of n o
  used_trace o = trace_as 1 n m o (used_as_lem n e h).1

  pub used_written : m.written ≡ n.written
  used_written = written_as 1 n m (used_as_lem n e h).1

  pub used_did : (r : Returned Counts Trouble) (s : List ℤ) → SoundD m r s → SoundD n r s
  used_did r s g = sound_as n m r s used_written g

  pub used_fits : Fitting v
  used_fits = (used_as_lem n e h).2

  -- and once more
  pub used_twice : {w : Option (Value × Counts)} {x : Value} {l : Counts} → w ≡ Some (x, l) → UsedIn m w → (2 ≤ n.cells) × (l ≡ fewer 2 n) × Fitting x × Fitting v
  used_twice {w} {x} {l} f k =
      let a = used_as_lem n e h in
      let b = used_as_lem m f k in
      let z : m.cells ≡ n.cells - 1 = ap (λ (c : Counts). c.cells) a.1 in
      (omega arith, fewer_fewer n m l a.1 b.1, b.2, a.2)

module _ (n : Counts) {m : Counts} {u : Option (Value × Value × Counts)} {x y : Value} (e : u ≡ Some (x, y, m)) (h : PairIn n u) where
  pub pair_sound : {s : List ℤ} → Sound n s → Sound m s
  pair_sound g = fewer_sound 2 n m _ g (pair_as n e h).1

  pub pair_room : {s : List ℤ} → Sound n s → m.cells + m.held + 2 ≤ room_of s
  pair_room g = fewer_room 2 n m _ g (pair_as n e h).0 (pair_as n e h).1

  pub pair_trace : (o : List ℤ) → trace_of m o ≡ trace_of n o
  pair_trace o = trace_as 2 n m o (pair_as n e h).1

  pub pair_written : m.written ≡ n.written
  pair_written = written_as 2 n m (pair_as n e h).1

  pub pair_did : (r : Returned Counts Trouble) (s : List ℤ) → SoundD m r s → SoundD n r s
  pair_did r s g = sound_as n m r s pair_written g

-- ---- what the store holds after a cell was put

module _ {n : Counts} {s s' : List ℤ} (c : ℕ) (x : Cell) (e : s' ≡ put_at s c x) (g : Sound n s) where
  pub put_sound : c < n.cells → Sound n s'
  put_sound h = rw e (sound_put n n s c x g refl g.room (omega (arith, g.room)))

  pub new_sound : c ≡ n.cells → n.cells + n.held < room_of s → Sound (more 1 n) s'
  new_sound h k = rw e (sound_put n (more 1 n) s c x g refl (omega arith) (omega arith))

  pub put_room : room_of s' ≡ room_of s
  put_room = rw e (room_put s c x)

-- ---- an operator's value, or its fault

module _ {A : Type 0} (q : ℕ) (t : Trace) (g : Value → A) (w : Outcome) where
  pub valued_fault : {a : Answer} → w ≡ Fault a → ill a.number q ≡ told t (valued q (λ v. good quiet (g v)) w)
  unfolding told valued
  valued_fault e = rw e

  pub valued_stray : w ≡ Stray → lost ≡ told t (valued q (λ v. good quiet (g v)) w)
  unfolding told valued
  valued_stray e = rw e

  pub valued_is : {x : Value} → w ≡ Is x → fine (g x) t ≡ told t (valued q (λ v. good quiet (g v)) w)
  unfolding told valued
  valued_is e = rw e

pub open_sound : (n : Counts) (s : List ℤ) {s' : List ℤ} (k : Counted) → s' ≡ unassigned_all k s n.cells → Sound n s → n.cells + n.held + in_all k ≤ room_of s → Sound (more (in_all k) n) s'
open_sound n s k e g h =
    let u = sound_all k s n.cells n g (omega arith) in
    rw e (sound_same n (more (in_all k) n) (unassigned_all k s n.cells) u (omega arith) (rw (room_all k s n.cells) (omega arith)))
