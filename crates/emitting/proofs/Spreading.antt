-- The open scopes of the layout as they stand in an array, and how far it spreads: a node adds no more than one activation, one cell and one scope,
-- so that behind i nodes there are at most i of each.
use mathlib.Core.Path.{◌≡◌, refl}
use mathlib.Core.Bool.{Bool, true, false, cond}
use mathlib.Core.List.{List, [], ◌∷◌}
use Prim.Native.Nat.{ℕ, zero, suc, ◌+◌, ◌-◌, ◌≤◌}
use native.Mathlib.Omega.{arith}
use lib.Dec.{eqb}
use lib.ListN.{length, get_or}
use Rattle.grammar.specs.NodeKinds.{n_block, n_block_end, n_type, n_variable, n_procedure, n_formal, n_procedure_end}
use Rattle.names.specs.model.Rows.{opens_of}
use Rattle.emitting.specs.model.Layout.{Laying, one_of, outermost, further, celled, procedured, blocked, closed, typed, lay_node}
use Rattle.emitting.specs.model.Arrays.{AllWithin, Spread}

-- ---- the newest scope

pub opens_outermost : (n : ℕ) (s : List ℕ) → (n ≡ 0 → ⊥) → get_or s (n - 1) 0 ≡ outermost (opens_of n s)
unfolding opens_of outermost
opens_outermost zero s h = absurd (h refl)
opens_outermost (suc n) s h = let e : suc n - 1 ≡ n = omega arith in rw e

pub opens_further : (n : ℕ) (s : List ℕ) → opens_of (n - 1) s ≡ further (opens_of n s)
unfolding opens_of further
opens_further zero s = refl
opens_further (suc n) s = let e : suc n - 1 ≡ n = omega arith in rw e

pub length_opens : (n : ℕ) (s : List ℕ) → length (opens_of n s) ≡ n
unfolding opens_of
length_opens zero s = refl
length_opens (suc n) s = let e = length_opens n s in omega arith

-- ---- a node

all_on : (i : ℕ) (l : List ℕ) → AllWithin l i → AllWithin l (i + 1)
unfolding AllWithin
all_on i [] h = h
all_on i (n ∷ l) h = (let k = h.0 in omega arith, all_on i l h.1)

pub outermost_within : (i : ℕ) (l : List ℕ) → AllWithin l i → outermost l ≤ i
unfolding AllWithin outermost
outermost_within i [] h = omega arith
outermost_within i (n ∷ l) h = h.0

further_within : (i : ℕ) (l : List ℕ) → AllWithin l i → AllWithin (further l) i
unfolding AllWithin further
further_within i [] h = h
further_within i (n ∷ l) h = h.1

further_length : (i : ℕ) (l : List ℕ) → length l ≤ i → length (further l) ≤ i
unfolding further
further_length i [] h = h
further_length i (n ∷ l) h = omega arith

one_small : (i t : ℕ) (b : Bool) → cond b 0 1 ≤ i + 1
one_small i t true = omega arith
one_small i t false = omega arith

module _ (i : ℕ) where
  either : (b : Bool) {x y : Laying} → Spread (i + 1) x → Spread (i + 1) y → Spread (i + 1) (cond b x y)
  either true p q = p
  either false p q = q

module _ (i : ℕ) (st : Laying) (h : Spread i st) where
  on : Spread (i + 1) st
  on =
      let a = h.level in
      let b = h.reach in
      let d = h.open_scopes in
      let e = h.declared in
      record { level = omega arith; reach = omega arith; open_scopes = omega arith; declared = omega arith; outside = all_on i st.around h.outside }

  on_typed : (t : ℕ) → Spread (i + 1) (typed t st)
  unfolding typed
  on_typed t = record { level = on.level; reach = on.reach; open_scopes = on.open_scopes; declared = on.declared; outside = on.outside }

  on_celled : (o : ℕ) → Spread (i + 1) (celled o st)
  unfolding celled
  on_celled o =
      let b = h.reach in
      let e = h.declared in
      record { level = on.level; reach = omega arith; open_scopes = on.open_scopes; declared = omega arith; outside = on.outside }

  on_blocked : Spread (i + 1) (blocked st)
  unfolding blocked AllWithin
  on_blocked =
      let d = h.open_scopes in
      record { level = on.level; reach = on.reach; open_scopes = omega arith; declared = on.declared; outside = (on.reach, on.outside) }

  on_procedured : Spread (i + 1) (procedured st)
  unfolding procedured one_of AllWithin
  on_procedured =
      let a = h.level in
      let d = h.open_scopes in
      let e = h.declared in
      record { level = omega arith; reach = one_small i st.sort (eqb st.sort 0); open_scopes = omega arith; declared = omega arith; outside = (on.reach, on.outside) }

  on_closed : (n : ℕ) → n ≤ i → Spread (i + 1) (closed n st)
  unfolding closed
  on_closed n l =
      record {
        level = omega arith;
        reach = outermost_within (i + 1) st.around on.outside;
        open_scopes = further_length (i + 1) st.around on.open_scopes;
        declared = on.declared;
        outside = further_within (i + 1) st.around on.outside;
      }

  pub spread_node : (rows : List ℕ) (k p a b : ℕ) → Spread (i + 1) (lay_node rows k p a b st)
  unfolding lay_node
  spread_node rows k p a b =
      let l = h.level in
      either i (eqb k n_type) (on_typed a)
      (either i (eqb k n_variable) (on_celled _)
      (either i (eqb k n_formal) (on_celled _)
      (either i (eqb k n_procedure) on_procedured
      (either i (eqb k n_procedure_end) (on_closed (st.level - 1) (omega arith))
      (either i (eqb k n_block) on_blocked
      (either i (eqb k n_block_end) (on_closed st.level l)
      on))))))

-- ---- more room

all_up : (i j : ℕ) (l : List ℕ) → i ≤ j → AllWithin l i → AllWithin l j
unfolding AllWithin
all_up i j [] e h = h
all_up i j (n ∷ l) e h = (let k = h.0 in omega arith, all_up i j l e h.1)

pub spread_up : (i j : ℕ) (st : Laying) → i ≤ j → Spread i st → Spread j st
spread_up i j st q h =
    let a = h.level in
    let b = h.reach in
    let d = h.open_scopes in
    let f = h.declared in
    record { level = omega arith; reach = omega arith; open_scopes = omega arith; declared = omega arith; outside = all_up i j st.around q h.outside }
