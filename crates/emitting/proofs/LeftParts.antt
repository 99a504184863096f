-- Left parts, the newest of what is open: the one behind n others, what is open behind them all, and one stored after the other from the first on.
use mathlib.Core.Path.{◌≡◌, refl, sym, ap, ◌∙◌}
use mathlib.Core.Bool.{Bool, true, false, cond}
use mathlib.Core.List.{List, [], ◌∷◌}
use Prim.Native.Nat.{ℕ, zero, suc, ◌+◌, ◌*◌, ◌-◌, ◌≤◌, ◌<◌}
use native.Mathlib.Omega.{arith}
use native.Mathlib.Numerals.{add-one}
use lib.Dec.{eqb}
use borrow.Author.Tests.{ne_eqb}
use lib.ListN.{length}
use Rattle.emitting.specs.model.Emission.{State, Opened, put, on_cell, top, below, stored, lefts_of, behind_lefts}
use Rattle.machine.specs.Instructions.{low}
use Rattle.emitting.specs.declared.Thing.{Thing}
use Rattle.emitting.specs.model.Arrays.{things_of, AllSlim}
use Rattle.emitting.proofs.Stacked.{things_below}

-- what stored leaves alone: all but the address, which grows by no more than k, and the words
pub record Storing (k : ℕ) (st su : State) : Type 0 where
  pub at : su.at ≤ st.at + k
  pub slots : su.slots ≡ st.slots
  pub level : su.level ≡ st.level
  pub loops : su.loops ≡ st.loops
  pub cells : su.cells ≡ st.cells
  pub variable : su.variable ≡ st.variable
  pub declared : su.declared ≡ st.declared

storing_either : {k : ℕ} {st su sv : State} (x : Bool) → Storing k st su → Storing k st sv → Storing k st (cond x su sv)
storing_either true p q = p
storing_either false p q = q

-- at most two instructions
storing_one : (o q p v : ℕ) (st : State) → Storing 2 st (on_cell o q p v st)
unfolding on_cell put
storing_one o q p v st =
    storing_either (eqb (low v) 2)
    (record { at = omega arith; slots = refl; level = refl; loops = refl; cells = refl; variable = refl; declared = refl })
    (record { at = omega arith; slots = refl; level = refl; loops = refl; cells = refl; variable = refl; declared = refl })

pub slim_below : (b : ℕ) (l : List Opened) → AllSlim b l → AllSlim b (below l)
unfolding AllSlim below
slim_below b [] h = h
slim_below b (f ∷ l) h = h.1

pub one_below : (n : ℕ) (l : List Opened) → length l ≤ n → 1 ≤ n → length (below l) + 1 ≤ n
unfolding below
one_below n [] h k = omega arith
one_below n (f ∷ l) h k = omega arith

pub fewer_below : (n : ℕ) (l : List Opened) → length l ≤ n → length (below l) ≤ n
unfolding below
fewer_below n [] h = h
fewer_below n (f ∷ l) h = omega arith

module _ (vs ly ks es : List ℕ) where
  pub behind_things : (n m : ℕ) (s : List Thing) → behind_lefts vs ly ks es n (things_of m s) ≡ things_of (m - n) s
  unfolding behind_lefts
  behind_things zero m s = let e : m - 0 ≡ m = omega arith in rw e
  behind_things (suc n) m s =
      let e : m - 1 - n ≡ m - suc n = omega arith in
      ap (behind_lefts vs ly ks es n) (sym (things_below m s)) ∙ behind_things n (m - 1) s ∙ ap (λ (i : ℕ). things_of i s) e

  lefts_more : (n : ℕ) (l acc : List Opened) → lefts_of vs ly ks es (suc n) l acc ≡ top (behind_lefts vs ly ks es n l) ∷ lefts_of vs ly ks es n l acc
  unfolding lefts_of behind_lefts
  lefts_more zero l acc = refl
  lefts_more (suc n) l acc = lefts_more n (below l) (top l ∷ acc)

  pub length_lefts : (n : ℕ) (l acc : List Opened) → length (lefts_of vs ly ks es n l acc) ≡ n + length acc
  unfolding lefts_of
  length_lefts zero l acc = omega arith
  length_lefts (suc n) l acc = let e = length_lefts n (below l) (top l ∷ acc) in omega arith

  stored_two : (x y : Opened) (l : List Opened) (st : State) → stored vs ly ks es (x ∷ y ∷ l) st ≡ stored vs ly ks es (y ∷ l) (on_cell 15 x.third x.third x.second st)
  unfolding stored
  stored_two x y l st = refl

  stored_more : (n : ℕ) (l : List Opened) (st : State)
      → stored vs ly ks es (lefts_of vs ly ks es (suc (suc n)) l []) st ≡ stored vs ly ks es (lefts_of vs ly ks es (suc n) l []) (on_cell 15 (top (behind_lefts vs ly ks es (suc n) l)).third (top (behind_lefts vs ly ks es (suc n) l)).third (top (behind_lefts vs ly ks es (suc n) l)).second st)
  stored_more n l st = rw (lefts_more (suc n) l [], lefts_more n l []) (stored_two _ _ _ st)

  -- the first of n + 1 left parts is stored; the last one takes the value away
  pub stored_on : (n : ℕ) (l : List Opened) (st : State)
      → stored vs ly ks es (lefts_of vs ly ks es (n + 1) l []) st ≡ stored vs ly ks es (lefts_of vs ly ks es n l []) (on_cell (cond (eqb n 0) 14 15) (top (behind_lefts vs ly ks es n l)).third (top (behind_lefts vs ly ks es n l)).third (top (behind_lefts vs ly ks es n l)).second st)
  unfolding stored lefts_of behind_lefts
  stored_on zero l st = refl
  stored_on (suc n) l st = let d : suc n ≡ 0 → ⊥ = λ e. omega arith in rw (add-one, ne_eqb (suc n) 0 d) (stored_more n l st)

  pub stored_step : (n m : ℕ) (op : List Thing) (st : State) → 0 < n
      → stored vs ly ks es (lefts_of vs ly ks es n (things_of m op) []) st ≡ stored vs ly ks es (lefts_of vs ly ks es (n - 1) (things_of m op) []) (on_cell (cond (eqb (n - 1) 0) 14 15) (top (things_of (m - (n - 1)) op)).third (top (things_of (m - (n - 1)) op)).third (top (things_of (m - (n - 1)) op)).second st)
  stored_step n m op st h =
      let e : n ≡ n - 1 + 1 = omega arith in
      ap (λ (i : ℕ). stored vs ly ks es (lefts_of vs ly ks es i (things_of m op) []) st) e
      ∙ stored_on (n - 1) (things_of m op) st
      ∙ ap (λ (l : List Opened). stored vs ly ks es (lefts_of vs ly ks es (n - 1) (things_of m op) []) (on_cell (cond (eqb (n - 1) 0) 14 15) (top l).third (top l).third (top l).second st)) (behind_things (n - 1) m op)

  pub slim_behind : (b n : ℕ) (l : List Opened) → AllSlim b l → AllSlim b (behind_lefts vs ly ks es n l)
  unfolding behind_lefts
  slim_behind b zero l h = h
  slim_behind b (suc n) l h = slim_behind b n (below l) (slim_below b l h)

  pub fewer_behind : (m n : ℕ) (l : List Opened) → length l ≤ m → length (behind_lefts vs ly ks es n l) ≤ m
  unfolding behind_lefts
  fewer_behind m zero l h = h
  fewer_behind m (suc n) l h = fewer_behind m n (below l) (fewer_below m l h)

  pub storing : (l : List Opened) (st : State) → Storing (2 * length l) st (stored vs ly ks es l st)
  unfolding stored
  storing [] st = record { at = omega arith; slots = refl; level = refl; loops = refl; cells = refl; variable = refl; declared = refl }
  storing (x ∷ []) st =
      let r = storing_one 14 x.third x.third x.second st in
      let e = r.at in
      record { at = omega arith; slots = r.slots; level = r.level; loops = r.loops; cells = r.cells; variable = r.variable; declared = r.declared }
  storing (x ∷ y ∷ l) st =
      let q = storing_one 15 x.third x.third x.second st in
      let r = storing (y ∷ l) (on_cell 15 x.third x.third x.second st) in
      let d = q.at in
      let e = r.at in
      record {
        at = omega arith;
        slots = r.slots ∙ q.slots;
        level = r.level ∙ q.level;
        loops = r.loops ∙ q.loops;
        cells = r.cells ∙ q.cells;
        variable = r.variable ∙ q.variable;
        declared = r.declared ∙ q.declared;
      }
