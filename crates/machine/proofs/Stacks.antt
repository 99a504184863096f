-- The cells in the store: what is put into a cell is found there and nowhere else. The cells in use are a list, the newest first, and so are the
-- held values, and each change of one cell is the change of one entry.
use mathlib.Core.Path.{◌≡◌, refl, sym, ap, subst, ◌∙◌}
use mathlib.Core.Logic.{◌≢◌, ⊎_elim}
use mathlib.Core.List.{List, ◌∷◌, ◌++◌, append_assoc}
use Prim.Native.Nat.{ℕ, zero, suc, ◌+◌, ◌-◌, ◌*◌, ◌≤◌, ◌<◌}
use native.Mathlib.Omega.{arith}
use native.Mathlib.Nat.{not-suc-le-zero, le_of_suc-le-suc, eq-or-lt_of_le}
use native.Mathlib.Numerals.{add-one}
use lib.ListN.{length, get_or, set, drop, replicate, length-set}
use lib.Seq.{get_or-set_same, get_or-set_other}
use lib.IntN.{ℤ, pos}
use mir.Syntax.{w64}
use mir.Val.{of_z}
use Rattle.reals.specs.declared.Form.{Form}
use Rattle.reals.specs.declared.Form.TheVariants.{Truths, Wholes, Reals}
use Rattle.reals.specs.declared.Value.{Value}
use Rattle.reals.specs.declared.Cell.{Cell}
use Rattle.reals.specs.declared.Cell.TheVariants.{Unset, Holds}
use Rattle.reals.specs.model.Stored.{Fitting, FittingC, kind_of, load_of}
use Rattle.reals.proofs.ReadBack.{decoded, fitting_of}
use Rattle.machine.specs.declared.Counts.{Counts}
use Rattle.machine.specs.Data.{Counted, in_all, unset}
use Rattle.machine.specs.model.Holding.{cell_at, put_at, room_of, unassigned, unassigned_all, cells_of, held_in, held_of, Sound}

-- ---- cells

-- any two numbers are a cell that fits
pub cell_fits : (s : List ℤ) (c : ℕ) → FittingC (cell_at s c)
unfolding cell_at
cell_fits s c = fitting_of (of_z w64 (get_or s (2 * c) (pos 0))) (get_or s (2 * c + 1) (pos 0))

pub held_fits : (s : List ℤ) (c : ℕ) {v : Value} → cell_at s c ≡ Holds v → Fitting v
held_fits s c e = subst FittingC e (cell_fits s c)

pub room_put : (s : List ℤ) (c : ℕ) (x : Cell) → room_of (put_at s c x) ≡ room_of s
unfolding room_of put_at
room_put s c x = simp length-set

pub put_same : (s : List ℤ) (c : ℕ) (x : Cell) → FittingC x → c < room_of s → cell_at (put_at s c x) c ≡ x
unfolding room_of put_at cell_at
put_same s c x f h =
    let n : 2 * c ≢ 2 * c + 1 = omega arith in
    let l : 2 * c < length s = omega arith in
    let m : 2 * c + 1 < length (set s (2 * c) (kind_of x)) = rw (length-set s (2 * c) (kind_of x)) (omega arith) in
    rw (
      get_or-set_other (set s (2 * c) (kind_of x)) (2 * c + 1) (2 * c) (load_of x) (pos 0) n,
      get_or-set_same s (2 * c) (kind_of x) (pos 0) l,
      get_or-set_same (set s (2 * c) (kind_of x)) (2 * c + 1) (load_of x) (pos 0) m,
    )
    (decoded x f)

pub put_other : (s : List ℤ) (c e : ℕ) (x : Cell) → e ≢ c → cell_at (put_at s c x) e ≡ cell_at s e
unfolding put_at cell_at
put_other s c e x h =
    let n1 : 2 * e ≢ 2 * c + 1 = omega arith in
    let n2 : 2 * e ≢ 2 * c = omega arith in
    let n3 : 2 * e + 1 ≢ 2 * c + 1 = omega arith in
    let n4 : 2 * e + 1 ≢ 2 * c = omega arith in
    rw (
      get_or-set_other (set s (2 * c) (kind_of x)) (2 * c + 1) (2 * e) (load_of x) (pos 0) n1,
      get_or-set_other s (2 * c) (2 * e) (kind_of x) (pos 0) n2,
      get_or-set_other (set s (2 * c) (kind_of x)) (2 * c + 1) (2 * e + 1) (load_of x) (pos 0) n3,
      get_or-set_other s (2 * c) (2 * e + 1) (kind_of x) (pos 0) n4,
    )

-- ---- the cells in use

pub cells_length : (n : ℕ) (s : List ℤ) → length (cells_of n s) ≡ n
unfolding cells_of
cells_length zero s = refl
cells_length (suc n) s = ap suc (cells_length n s)

pub cells_put : (n : ℕ) (s : List ℤ) (c : ℕ) (x : Cell) → n ≤ c → cells_of n (put_at s c x) ≡ cells_of n s
unfolding cells_of
cells_put zero s c x h = refl
cells_put (suc n) s c x h =
    let k : n ≢ c = omega arith in
    let l : n ≤ c = omega arith in
    rw (put_other s c n x k, cells_put n s c x l)

pub cells_new : (n : ℕ) (s : List ℤ) (x : Cell) → FittingC x → n < room_of s → cells_of (n + 1) (put_at s n x) ≡ x ∷ cells_of n s
unfolding cells_of
cells_new n s x f h =
    let l : n ≤ n = omega arith in
    rw (add-one, put_same s n x f h, cells_put n s n x l)

cells_top : (n : ℕ) (s : List ℤ) (x : Cell) → FittingC x → n < room_of s → cells_of (suc n) (put_at s n x) ≡ x ∷ cells_of n s
cells_top n s x f h = rw (← add-one n) (cells_new n s x f h)

pub cells_cons : (n : ℕ) (s : List ℤ) → 1 ≤ n → cells_of n s ≡ cell_at s (n - 1) ∷ cells_of (n - 1) s
unfolding cells_of
cells_cons zero s h = absurd (not-suc-le-zero h)
cells_cons (suc n) s h = let e : suc n - 1 ≡ n = omega arith in rw e

pub cells_get : (n : ℕ) (s : List ℤ) (c : ℕ) → c < n → get_or (cells_of n s) (n - suc c) (Unset Wholes) ≡ cell_at s c
unfolding cells_of
cells_get zero s c h = absurd (not-suc-le-zero h)
cells_get (suc n) s c h =
    ⊎_elim
    (λ e. let z : suc n - suc c ≡ 0 = omega arith in rw z (ap (cell_at s) (sym e)))
    (λ l. let z : suc n - suc c ≡ suc (n - suc c) = omega arith in rw z (cells_get n s c l))
    (eq-or-lt_of_le (le_of_suc-le-suc h))

pub cells_set : (n : ℕ) (s : List ℤ) (c : ℕ) (x : Cell) → FittingC x → c < n → n ≤ room_of s → set (cells_of n s) (n - suc c) x ≡ cells_of n (put_at s c x)
unfolding cells_of
cells_set zero s c x f h r = absurd (not-suc-le-zero h)
cells_set (suc n) s c x f h r =
    ⊎_elim
    (λ e.
    let z : suc n - suc c ≡ 0 = omega arith in
    rw z (sym (cells_top n s x f r) ∙ ap (λ (d : ℕ). cells_of (suc n) (put_at s d x)) (sym e)))
    (λ l.
    let z : suc n - suc c ≡ suc (n - suc c) = omega arith in
    let k : n ≢ c = omega arith in
    let m : n ≤ room_of s = omega arith in
    rw (z, put_other s c n x k, ← cells_set n s c x f l m))
    (eq-or-lt_of_le (le_of_suc-le-suc h))

pub cells_drop : (k n : ℕ) (s : List ℤ) → k ≤ n → drop k (cells_of n s) ≡ cells_of (n - k) s
unfolding cells_of
cells_drop zero n s h = let e : n - 0 ≡ n = omega arith in rw e
cells_drop (suc k) zero s h = absurd (not-suc-le-zero h)
cells_drop (suc k) (suc n) s h = let e : suc n - suc k ≡ n - k = omega arith in rw e (cells_drop k n s (le_of_suc-le-suc h))

-- ---- the held values

pub held_length : (n : ℕ) (s : List ℤ) → length (held_of n s) ≡ n
unfolding held_of
held_length zero s = refl
held_length (suc n) s = ap suc (held_length n s)

pub held_put : (n : ℕ) (s : List ℤ) (c : ℕ) (x : Cell) → c + n < room_of s → held_of n (put_at s c x) ≡ held_of n s
unfolding held_of
held_put zero s c x h = refl
held_put (suc n) s c x h =
    let k : room_of s - suc n ≢ c = omega arith in
    let l : c + n < room_of s = omega arith in
    rw (room_put s c x, put_other s c (room_of s - suc n) x k, held_put n s c x l)

-- one more is held
pub held_new : (n : ℕ) (s : List ℤ) (v : Value) → Fitting v → n < room_of s → held_of (n + 1) (put_at s (room_of s - 1 - n) (Holds v)) ≡ v ∷ held_of n s
unfolding held_of
held_new n s v f h =
    let c = room_of s - 1 - n in
    let e : room_of s - suc n ≡ c = omega arith in
    let l : c < room_of s = omega arith in
    let k : c + n < room_of s = omega arith in
    rw (add-one, room_put s c (Holds v), e, put_same s c (Holds v) f l, held_put n s c (Holds v) k)

pub held_cons : (n : ℕ) (s : List ℤ) → 1 ≤ n → held_of n s ≡ held_in (cell_at s (room_of s - n)) ∷ held_of (n - 1) s
unfolding held_of
held_cons zero s h = absurd (not-suc-le-zero h)
held_cons (suc n) s h = let e : suc n - 1 ≡ n = omega arith in rw e

pub held_drop : (n : ℕ) (s : List ℤ) → 1 ≤ n → drop 1 (held_of n s) ≡ held_of (n - 1) s
held_drop n s h = rw (held_cons n s h)

-- ---- what the code relies on, kept

-- the held cells are as they were: a cell below them was put, and as many or fewer cells are in use
pub sound_put : (n m : Counts) (s : List ℤ) (c : ℕ) (x : Cell)
    → Sound n s → m.held ≡ n.held → m.cells + m.held ≤ room_of s → c + n.held < room_of s → Sound m (put_at s c x)
sound_put n m s c x g e h l =
    record {
      room = rw (room_put s c x) h;
      few = rw (room_put s c x) g.few;
      holds =
          λ k b.
          let d : k < n.held = omega arith in
          let a : room_of s - suc k ≢ c = omega arith in
          rw (room_put s c x, put_other s c (room_of s - suc k) x a) (g.holds k d);
    }

pub sound_same : (n m : Counts) (s : List ℤ) → Sound n s → m.held ≤ n.held → m.cells + m.held ≤ room_of s → Sound m s
sound_same n m s g e h = record { room = h; few = g.few; holds = λ k b. let d : k < n.held = omega arith in g.holds k d }

-- ---- unassigned cells

pub length_put : (s : List ℤ) (c : ℕ) (x : Cell) → length (put_at s c x) ≡ length s
unfolding put_at
length_put s c x = length-set (set s (2 * c) (kind_of x)) (2 * c + 1) (load_of x) ∙ length-set s (2 * c) (kind_of x)

module _ (t : Form) where
  pub length_unassigned : (s : List ℤ) (c k : ℕ) → length (unassigned t s c k) ≡ length s
  unfolding unassigned
  length_unassigned s c zero = refl
  length_unassigned s c (suc k) = length_put (unassigned t s c k) (c + k) (Unset t) ∙ length_unassigned s c k

  pub room_unassigned : (s : List ℤ) (c k : ℕ) → room_of (unassigned t s c k) ≡ room_of s
  unfolding unassigned
  room_unassigned s c zero = refl
  room_unassigned s c (suc k) = room_put (unassigned t s c k) (c + k) (Unset t) ∙ room_unassigned s c k

  cells_unassigned : (s : List ℤ) (c k : ℕ) → c + k ≤ room_of s → cells_of (c + k) (unassigned t s c k) ≡ replicate k (Unset t) ++ cells_of c s
  unfolding unassigned
  cells_unassigned s c zero h = let e : c + 0 ≡ c = omega arith in rw e
  cells_unassigned s c (suc k) h =
      let e : c + suc k ≡ c + k + 1 = omega arith in
      let l : c + k ≤ room_of s = omega arith in
      let m : c + k < room_of (unassigned t s c k) = rw (room_unassigned s c k) (omega arith) in
      rw e (cells_new (c + k) (unassigned t s c k) (Unset t) tt m ∙ ap (λ (w : List Cell). Unset t ∷ w) (cells_unassigned s c k l))

  held_unassigned : (n : ℕ) (s : List ℤ) (c k : ℕ) → c + k + n ≤ room_of s → held_of n (unassigned t s c k) ≡ held_of n s
  unfolding unassigned
  held_unassigned n s c zero h = refl
  held_unassigned n s c (suc k) h =
      let l : c + k + n ≤ room_of s = omega arith in
      let m : c + k + n < room_of (unassigned t s c k) = rw (room_unassigned s c k) (omega arith) in
      held_put n (unassigned t s c k) (c + k) (Unset t) m ∙ held_unassigned n s c k l

  sound_unassigned : (n : Counts) (s : List ℤ) (c k : ℕ) → Sound n s → c + k + n.held ≤ room_of s → Sound n (unassigned t s c k)
  unfolding unassigned
  sound_unassigned n s c zero g h = g
  sound_unassigned n s c (suc k) g h =
      let r = room_unassigned s c k in
      let u = sound_unassigned n s c k g (omega arith) in
      let m : c + k + n.held < room_of (unassigned t s c k) = rw r (omega arith) in
      sound_put n n (unassigned t s c k) (c + k) (Unset t) u refl u.room m

  pub unassigned_more : (s : List ℤ) (c k : ℕ) → put_at (unassigned t s c k) (c + k) (Unset t) ≡ unassigned t s c (k + 1)
  unfolding unassigned
  unassigned_more s c k = rw add-one

-- a block's cells
module _ (n : Counted) (s : List ℤ) (c : ℕ) where
  abbrev s1 : List ℤ
  s1 = unassigned Wholes s c n.wholes

  abbrev s2 : List ℤ
  s2 = unassigned Reals s1 (c + n.wholes) n.reals

  r1 : room_of s1 ≡ room_of s
  r1 = room_unassigned Wholes s c n.wholes

  r2 : room_of s2 ≡ room_of s
  r2 = room_unassigned Reals s1 (c + n.wholes) n.reals ∙ r1

  pub room_all : room_of (unassigned_all n s c) ≡ room_of s
  unfolding unassigned_all
  room_all = room_unassigned Truths s2 (c + n.wholes + n.reals) n.truths ∙ r2

  pub cells_all : c + in_all n ≤ room_of s → cells_of (c + in_all n) (unassigned_all n s c) ≡ unset n ++ cells_of c s
  unfolding unassigned_all
  cells_all h =
      let e : c + (n.wholes + n.reals + n.truths) ≡ c + n.wholes + n.reals + n.truths = omega arith in
      let h1 : c + n.wholes ≤ room_of s = omega arith in
      let h2 : c + n.wholes + n.reals ≤ room_of s1 = rw r1 (omega arith) in
      let h3 : c + n.wholes + n.reals + n.truths ≤ room_of s2 = rw r2 (omega arith) in
      rw (
        e,
        cells_unassigned Truths s2 (c + n.wholes + n.reals) n.truths h3,
        cells_unassigned Reals s1 (c + n.wholes) n.reals h2,
        cells_unassigned Wholes s c n.wholes h1,
      )
      (simp append_assoc)

  pub held_all : (k : ℕ) → c + in_all n + k ≤ room_of s → held_of k (unassigned_all n s c) ≡ held_of k s
  unfolding unassigned_all
  held_all k h =
      let h1 : c + n.wholes + k ≤ room_of s = omega arith in
      let h2 : c + n.wholes + n.reals + k ≤ room_of s1 = rw r1 (omega arith) in
      let h3 : c + n.wholes + n.reals + n.truths + k ≤ room_of s2 = rw r2 (omega arith) in
      held_unassigned Truths k s2 (c + n.wholes + n.reals) n.truths h3 ∙ held_unassigned Reals k s1 (c + n.wholes) n.reals h2 ∙ held_unassigned Wholes k s c n.wholes h1

  pub sound_all : (m : Counts) → Sound m s → c + in_all n + m.held ≤ room_of s → Sound m (unassigned_all n s c)
  unfolding unassigned_all
  sound_all m g h =
      let h1 : c + n.wholes + m.held ≤ room_of s = omega arith in
      let h2 : c + n.wholes + n.reals + m.held ≤ room_of s1 = rw r1 (omega arith) in
      let h3 : c + n.wholes + n.reals + n.truths + m.held ≤ room_of s2 = rw r2 (omega arith) in
      sound_unassigned Truths m s2 (c + n.wholes + n.reals) n.truths (sound_unassigned Reals m s1 (c + n.wholes) n.reals (sound_unassigned Wholes m s c n.wholes g h1) h2) h3
