-- The actuals of a call in the pass that writes code. What is begun for an actual of a name formal stands in front of its expression, and is written
-- where the node before it is passed: so actuals go from what the call begins to where nothing more begins. Assumes nothing.
use Prim.Native.Nat.{ℕ, zero, suc, ◌+◌, ◌-◌, ◌<◌, ◌%◌}
use native.Mathlib.Omega.{arith}
use native.Mathlib.Numerals.{add-one}
use native.Mathlib.Nat.{mod-eq_of_lt}
use mathlib.Core.Path.{◌≡◌, refl, sym, ap, ◌∙◌}
use mathlib.Core.Bool.{Bool, true, false, cond}
use mathlib.Core.List.{List, [], ◌∷◌, ◌++◌, append-nil}
use mathlib.Core.Option.{Option, none, some}
use lib.Dec.{eqb, ltb}
use lib.ListN.{length, get_or, drop, set, length-append, length-set}
use borrow.Author.Tests.{ne_eqb, le-ltb}
use Rattle.machine.specs.Data.{link, unlinked}
use Rattle.machine.specs.Instructions.{Instruction, RETURN, NAME, low, pack, form_number}
use Rattle.grammar.specs.NodeKinds.{n_actual}
use Rattle.names.specs.Program.{Name, Sort, Expression, number, decimal, logical, name, call, signed, operated, chosen, nested, done, first_symbol, Procedure}
use Rattle.names.specs.Scopes.{Thing, variable, routine, formal, by_name, Declared, Scope, sort_of, Meaning, declared, given, nothing, meaning}
use Rattle.names.specs.Nodes.{node, mark, nodes_e}
use Rattle.names.specs.model.Rows.{fold_nodes, is_use}
use Rattle.names.specs.Uses.{Use, uses_e}
use Rattle.rules.specs.Entered.{form_as}
use Rattle.rules.specs.Calls.{with_type, thing_as, given_as, primary}
use Rattle.translation.specs.model.Translate.{Around, an_actual, scopes, AS, store_name, store_part}
use Rattle.translation.specs.model.Scoped.{OkPrimary, OkE}
use Rattle.machine.specs.model.Words.{Parts, parts_of, InstrFits, CodeFits, words}
use Rattle.emitting.specs.model.Emission.{opened, State, put, with_open, with_slot, within, noted, replaced, top, below, bare, lending, ahead_at, name_begun, name_ended, formal_at, form_at, begun, actual_in, code_node}
use Rattle.translating.proofs.SlotLists.{Fills, longer, then_slots, refill, slot_read, slot_past, slots_past, there}
use Rattle.translating.proofs.Written.{Tables, Frame, Flow, use_kind, kind_of, means_of, with_opens, slotted, taken, slot_real, noted_real, put_all, wrote_all, puts_real, Same, wrote_all_lem, fits_apart, step, run, state, Goes, Passed, goes_node, goes_then}
use Rattle.translating.proofs.NameWords.{Known}
use Rattle.translating.proofs.WrittenNames.{parts, cell_word, sought_word}
use Rattle.translating.proofs.ActualWords.{name_word, word_in, name_word_lem, routine_word, given_word, last_word}
use Rattle.translation.proofs.Ranges.{owns}

-- a frame within a call of the procedure n, behind j actuals, which are D deep
abbrev pub in_call : ℕ → ℕ → ℕ → Frame → Frame
in_call n j D fr = with_opens (opened 2 n j D ∷ fr.opens) fr

-- within an actual of a name formal, whose first slot is s
abbrev pub in_name : ℕ → ℕ → ℕ → ℕ → Frame → Frame
in_name s n j D fr =
    record { level = suc fr.level; loops = fr.loops; cells = fr.cells; lefts = fr.lefts; awaits = fr.awaits; opens = opened (4 + s) n j D ∷ fr.opens }

-- ---- the store part

abbrev lend_part : ℕ → ℕ → Parts
lend_part w p = cond (eqb (low w) 0) (parts 44 0 0) (cond (eqb (low w) 1) (parts 43 0 (bare w)) (parts 42 p (bare w)))

module _ (tb : Tables) where
  lend_put : (w p : ℕ) (st : State)
      → lending tb.values tb.layout tb.ahead tb.entries w p st ≡ put (lend_part w p).operation (lend_part w p).place (lend_part w p).operand st
  unfolding lending
  lend_put w p st = go (eqb (low w) 0) (eqb (low w) 1)
    where
      go : (a b : Bool) → cond a (put 44 0 0 st) (cond b (put 43 0 (bare w) st) (put 42 p (bare w) st))
          ≡ put (cond a (parts 44 0 0) (cond b (parts 43 0 (bare w)) (parts 42 p (bare w)))).operation (cond a (parts 44 0 0) (cond b (parts 43 0 (bare w)) (parts 42 p (bare w)))).place (cond a (parts 44 0 0) (cond b (parts 43 0 (bare w)) (parts 42 p (bare w)))).operand st
      go true b = refl
      go false true = refl
      go false false = refl

  plain_lend : (w p v : ℕ) → low w ≡ 1 → bare w ≡ v → lend_part w p ≡ parts 43 0 v
  plain_lend w p v e f = rw (e, f)

  found_lend : (w p v : ℕ) → low w ≡ 2 → bare w ≡ v → lend_part w p ≡ parts 42 p v
  found_lend w p v e f = rw (e, f)

  module _ (g : List Around) (known : Known tb.key tb.layout g) where
    abbrev Lends : Name → Meaning → Type 0
    Lends y M =
        InstrFits (store_name tb.place (primary M done) g y)
        → lend_part (name_word tb.layout (owns g) (kind_of M) (means_of tb.key M)) (tb.place y.symbol) ≡ parts_of (store_name tb.place (primary M done) g y)

    -- of a name alone
    name_lends : (y : Name) → OkPrimary (scopes g) y 0 (primary (meaning (scopes g) y) done) → Lends y (meaning (scopes g) y)
    unfolding primary
    name_lends y ok = go (meaning (scopes g) y) refl ok
      where
        typed : (D : Declared) (p : Procedure) (s : Option Sort) → lend_part 0 (tb.place y.symbol) ≡ parts_of (store_name tb.place (with_type s p) g y)
        typed D p none = refl
        typed D p (some t) = refl

        thing : (D : Declared) (hs : List Scope) → meaning (scopes g) y ≡ declared D hs → (t : Thing) → D.thing ≡ t → OkPrimary (scopes g) y 0 (thing_as t done)
            → InstrFits (store_name tb.place (thing_as t done) g y)
            → lend_part (name_word tb.layout (owns g) (use_kind t) (tb.key D.name.symbol)) (tb.place y.symbol) ≡ parts_of (store_name tb.place (thing_as t done) g y)
        thing D hs e (variable t) i ok c =
            let w = cell_word tb g known y (owns g) 1 (tb.key D.name.symbol) ok refl (ap kind_of e ∙ ap use_kind i) (ap (means_of tb.key) e) c in
            rw (name_word_lem tb.values tb.layout tb.ahead tb.entries (owns g) 1 (tb.key D.name.symbol) refl refl) (plain_lend _ (tb.place y.symbol) _ w.plain w.bared)
        thing D hs e (formal t) i ok c =
            let w = cell_word tb g known y (owns g) 3 (tb.key D.name.symbol) ok refl (ap kind_of e ∙ ap use_kind i) (ap (means_of tb.key) e) c in
            rw (name_word_lem tb.values tb.layout tb.ahead tb.entries (owns g) 3 (tb.key D.name.symbol) refl refl) (plain_lend _ (tb.place y.symbol) _ w.plain w.bared)
        thing D hs e (by_name t) i ok c =
            let w = sought_word tb g known y (owns g) D hs t refl e i c in
            rw (name_word_lem tb.values tb.layout tb.ahead tb.entries (owns g) 4 (tb.key D.name.symbol) refl refl) (found_lend _ (tb.place y.symbol) _ w.found w.bared)
        thing D hs e (routine p) i ok c = rw (routine_word tb.layout (owns g) (tb.key D.name.symbol)) (typed D p (sort_of p))

        other : (n : ℕ) → lend_part 0 (tb.place y.symbol) ≡ parts_of (store_name tb.place (given_as n done) g y)
        other zero = refl
        other (suc zero) = refl
        other (suc (suc n)) = refl

        go : (M : Meaning) → meaning (scopes g) y ≡ M → OkPrimary (scopes g) y 0 (primary M done) → Lends y M
        go (declared D hs) e ok c = thing D hs e D.thing refl ok c
        go (given n z) e ok c = rw (given_word tb.layout (owns g) n) (other n)
        go nothing e ok c = rw (given_word tb.layout (owns g) 0) refl

    pub lends : (e : Expression) → OkE (scopes g) e → InstrFits (store_part tb.place g e)
        → lend_part (word_in tb.key tb.layout g e) (tb.place (first_symbol e)) ≡ parts_of (store_part tb.place g e)
    unfolding first_symbol
    lends (number q v) ok c = refl
    lends (decimal q v i) ok c = refl
    lends (logical q t) ok c = refl
    lends (name y) ok c = name_lends y ok c
    lends (call x e es) ok c = refl
    lends (signed q o e) ok c = refl
    lends (operated q o e f) ok c = refl
    lends (chosen q r c' e f) ok c = refl
    lends (nested q e) ok c = refl

-- ---- nodes

module _ (tb : Tables) where
  -- what an actual begins with, behind j others
  abbrev pub start : ℕ → ℕ → ℕ → Frame → Flow → State
  start n j D fr fl = begun tb.values tb.layout tb.ahead tb.entries tb.rows n j D (state tb (in_call n j D fr) fl)

  -- by value, or none: nothing
  pub start_none : (n j D : ℕ) (fr : Frame) (fl : Flow) → eqb (formal_at tb.rows (n + 1 + j)) 2 ≡ false → start n j D fr fl ≡ state tb (in_call n j D fr) fl
  unfolding begun
  start_none n j D fr fl e = rw e

  -- by name: three instructions, three slots
  abbrev ahead_of : ℕ → ℕ
  ahead_of i = get_or tb.ahead i 0

  -- f: the formal's type
  abbrev name_parts : ℕ → ℕ → List Parts
  name_parts f s =
      parts 39 (ahead_of (s + 1) % 65536) (ahead_of s) ∷ lend_part (ahead_of (s + 2)) (ahead_of (s + 1) % 65536) ∷ parts 7 (ahead_of (s + 1) % 65536) f ∷ []

  -- the type of the j-th formal of the procedure n
  abbrev pub type_at : ℕ → ℕ → ℕ
  type_at n j = form_at tb.rows (n + 1 + j)

  abbrev three_slots : List ℕ → List ℕ
  three_slots l = ((l ++ (0 ∷ [])) ++ (0 ∷ [])) ++ (0 ∷ [])

  abbrev pub name_flow : ℕ → Flow → Flow
  name_flow f fl = slotted (three_slots fl.slots) (wrote_all (name_parts f (length fl.slots)) fl)

  three_real : (fr : Frame) (fl : Flow) → with_slot (with_slot (with_slot (state tb fr fl))) ≡ state tb fr (slotted (three_slots fl.slots) fl)
  three_real fr fl =
      ap (λ (st : State). with_slot (with_slot st)) (slot_real tb.key fr fl)
      ∙ ap with_slot (slot_real tb.key fr (slotted (fl.slots ++ (0 ∷ [])) fl))
      ∙ slot_real tb.key fr (slotted ((fl.slots ++ (0 ∷ [])) ++ (0 ∷ [])) fl)

  name_puts : (f s : ℕ) (st : State)
      → put 7 (ahead_of (s + 1) % 65536) f (lending tb.values tb.layout tb.ahead tb.entries (ahead_of (s + 2)) (ahead_of (s + 1) % 65536) (put 39 (ahead_of (s + 1) % 65536) (ahead_of s) st)) ≡ put_all (name_parts f s) st
  name_puts f s st = ap (put 7 (ahead_of (s + 1) % 65536) f) (lend_put tb (ahead_of (s + 2)) (ahead_of (s + 1) % 65536) (put 39 (ahead_of (s + 1) % 65536) (ahead_of s) st))

  start_name : (n j D : ℕ) (fr : Frame) (fl : Flow) → eqb (formal_at tb.rows (n + 1 + j)) 2 ≡ true
      → start n j D fr fl ≡ state tb (in_name (length fl.slots) n j D fr) (name_flow (type_at n j) fl)
  unfolding begun name_begun ahead_at within replaced with_open below
  start_name n j D fr fl e =
      let s = length fl.slots in
      let fr' = with_opens (opened (4 + s) n j D ∷ fr.opens) fr in
      let f = type_at n j in
      let fl' = wrote_all (name_parts f s) fl in
      rw e
      (ap (λ (st : State). within (fr.level + 1) fr.loops fr.cells (with_slot (with_slot (with_slot (replaced (4 + s) n j D st))))) (name_puts f s (state tb (in_call n j D fr) fl) ∙ puts_real tb.key (name_parts f s) (in_call n j D fr) fl)
      ∙ ap (within (fr.level + 1) fr.loops fr.cells) (three_real fr' fl')
      ∙ ap (λ (k : ℕ). within k fr.loops fr.cells (state tb fr' (slotted (three_slots fl'.slots) fl'))) (add-one fr.level))

  -- an actual of a value formal ends: its value becomes one of the formal's type
  pub value_step : (q n j D : ℕ) (fr : Frame) (fl : Flow)
      → step tb n_actual q 0 0 (state tb (in_call n j D fr) fl)
      ≡ begun tb.values tb.layout tb.ahead tb.entries tb.rows n (j + 1) D (put_all (parts 50 (tb.place q) (type_at n j) ∷ []) (state tb (in_call n (j + 1) D fr) fl))
  unfolding step code_node is_use actual_in replaced with_open top below put
  value_step q n j D fr fl = refl

  -- one of a name formal: its slots i, i₁, i₂ are filled
  abbrev end_slots : ℕ → ℕ → ℕ → ℕ → ℕ → ℕ → List ℕ → List ℕ
  end_slots i i₁ i₂ e p w l = set (set (set l i₂ w) i₁ p) i (there e)

  abbrev end_parts : ℕ → ℕ → List Parts
  end_parts p f = parts 50 p f ∷ parts 7 0 0 ∷ []

  named_step : (q n j D s i₁ i₂ e w : ℕ) (fr : Frame) (fl : Flow) → s + 1 ≡ i₁ → s + 2 ≡ i₂ → i₂ < length fl.slots → fl.at ≡ e → fl.variable ≡ w
      → step tb n_actual q 0 0 (state tb (in_name s n j D fr) fl)
      ≡ start n (j + 1) D fr (slotted (end_slots s i₁ i₂ (suc (suc e)) (tb.place q) w fl.slots) (wrote_all (end_parts (tb.place q) (type_at n j)) fl))
  unfolding step code_node is_use actual_in replaced with_open top below name_ended within noted put
  named_step q n j D s i₁ i₂ e w fr fl e₁ e₂ h a v =
      let z : eqb (4 + s) 0 ≡ false = ne_eqb (4 + s) 0 (λ e. omega arith) in
      let y : ltb (4 + s) 4 ≡ false = le-ltb (4 + s) 4 (omega arith) in
      let x : 4 + s - 4 ≡ s = omega arith in
      let u : suc fr.level - 1 ≡ fr.level = omega arith in
      let p = tb.place q in
      let ps = end_parts p (type_at n j) in
      let fl₀ = wrote_all ps fl in
      let f : State → State = λ st. begun tb.values tb.layout tb.ahead tb.entries tb.rows n (j + 1) D (with_open (opened 2 n (j + 1) D ∷ fr.opens) st) in
      let t = fl.variable in
      let k : fl.at + 1 + 1 ≡ suc (suc e) = omega arith in
      let l₂ = set fl.slots i₂ t in
      let l₁ = set l₂ i₁ p in
      let fr' = with_opens (opened (4 + s) n j D ∷ fr.opens) fr in
      rw (z, y, x, u, e₁, e₂)
      (ap (λ (st : State). f (noted s (there (fl.at + 1 + 1)) (noted i₁ p (noted i₂ t (within fr.level fr.loops fr.cells st))))) (puts_real tb.key ps (in_name s n j D fr) fl)
      ∙ ap (λ (st : State). f (noted s (there (fl.at + 1 + 1)) (noted i₁ p st))) (noted_real tb.key i₂ t fr' fl₀ h)
      ∙ ap (λ (st : State). f (noted s (there (fl.at + 1 + 1)) st)) (noted_real tb.key i₁ p fr' (slotted l₂ fl₀) (omega (arith, length-set fl.slots i₂ t)))
      ∙ ap (λ (k : ℕ). f (noted s (there k) (state tb fr' (slotted l₁ fl₀)))) k
      ∙ ap f (noted_real tb.key s (there (suc (suc e))) fr' (slotted l₁ fl₀) (omega (arith, length-set fl.slots i₂ t, length-set l₂ i₁ p))))
      ∙ ap (λ (w : ℕ). start n (j + 1) D fr (slotted (end_slots s i₁ i₂ (suc (suc e)) p w fl.slots) fl₀)) v

-- ---- actuals, from the j-th on: what Passed says, but from their start

module _ (tb : Tables) where
  pub record Acted (R : Type 0) (n j D : ℕ) (fr : Frame) (j' : ℕ) (ws : List ℕ) (us : List Use) (e : ℕ) (A : List ℕ → List ℕ) (C : List Instruction → List Instruction) (fl : Flow) : Type 0 where
    pub next : Flow
    pub goes : Goes tb ws (start tb n j D fr fl) (state tb (in_call n j' D fr) next)
    pub uses : next.uses ≡ us
    pub at : next.at ≡ e
    pub fills : Fills fl.slots next.slots A
    pub enters : next.entries ≡ fl.entries
    pub right : R → (k : List ℕ) (r : List Instruction) → drop (length fl.slots) tb.ahead ≡ A k → CodeFits (C r) → (next.code ++ words r ≡ fl.code ++ words (C r)) × CodeFits r

module _ {tb : Tables} where
  goes_from : {ws : List ℕ} {s s' t : State} → s ≡ s' → Goes tb ws s' t → Goes tb ws s t
  goes_from {ws} e x = record { so = λ rest. ap (run tb (ws ++ rest)) e ∙ x.so rest }

  -- where nothing begins
  pub acted_passed : {R : Type 0} {n j D : ℕ} {fr : Frame} {j' : ℕ} {ws : List ℕ} {us : List Use} {e : ℕ} {A : List ℕ → List ℕ} {C : List Instruction → List Instruction} {fl : Flow}
      → eqb (formal_at tb.rows (n + 1 + j)) 2 ≡ false → Passed tb R (in_call n j D fr) (in_call n j' D fr) ws us e A (λ t. t) C fl → Acted tb R n j D fr j' ws us e A C fl
  acted_passed {n = n} {j = j} {D = D} {fr = fr} {fl = fl} h x =
      record { next = x.next; goes = goes_from (start_none tb n j D fr fl h) x.goes; uses = x.uses; at = x.at; fills = x.fills; enters = x.enters; right = x.right }

  -- behind a node that writes some instructions, and with which the actuals begin
  pub passed_acted : {R : Type 0} {fr₀ fr : Frame} {n j D j' : ℕ} {ws : List ℕ} {us : List Use} {e e₀ : ℕ} {A : List ℕ → List ℕ} {C : List Instruction → List Instruction} (us₀ : List Use) (is : List Instruction) (ps : List Parts) (k s a b : ℕ) {fl : Flow}
      → step tb k s a b (state tb fr₀ fl) ≡ begun tb.values tb.layout tb.ahead tb.entries tb.rows n j D (put_all ps (state tb (in_call n j D fr) (taken us₀ fl))) → fl.at ≡ e₀ → (R → CodeFits is → Same ps is)
      → Acted tb R n j D fr j' ws us e A C (wrote_all ps (taken us₀ fl)) → Passed tb R fr₀ (in_call n j' D fr) (node k s a b ++ ws) us e A (λ t. t) (λ r. is ++ C r) fl
  passed_acted {fr = fr} {n = n} {j = j} {D = D} {e₀ = e₀} {C = C} us₀ is ps k s a b {fl} i i₀ h x =
      let w = wrote_all_lem ps e₀ (taken us₀ fl) i₀ in
      record {
        next = x.next;
        goes =
            goes_then (goes_node k s a b (i ∙ ap (begun tb.values tb.layout tb.ahead tb.entries tb.rows n j D) (puts_real tb.key ps (in_call n j D fr) (taken us₀ fl)))) x.goes;
        uses = x.uses;
        at = x.at;
        fills = rw w.slots at x.fills;
        enters = x.enters ∙ w.entries;
        right = λ z k r d c.
            let f = fits_apart is (C r) c in
            let p = x.right z k r (rw w.slots d) f.1 in
            (p.0 ∙ w.code is (C r) (h z f.0), p.1);
      }

-- ---- an actual of a name formal, and those behind it

name_word_is : (v e : ℕ) → v ≡ there e → e < 8192 → v ≡ pack 0 0 e
name_word_is v e i h = omega arith

module _ (tb : Tables) (g : List Around) (known : Known tb.key tb.layout g) (x : Expression) where
  -- its word and its first symbol's place
  abbrev W : ℕ
  W = word_in tb.key tb.layout (an_actual ∷ g) x

  abbrev Q : ℕ
  Q = tb.place (first_symbol x)

  -- the flow behind it, whose slots were S and whose expression ends at e; f: its formal's type
  abbrev pub end_flow : ℕ → List ℕ → ℕ → Flow → Flow
  end_flow f S e fl =
      slotted (end_slots tb (length S) (length (S ++ (0 ∷ []))) (length ((S ++ (0 ∷ [])) ++ (0 ∷ []))) (suc (suc e)) Q W fl.slots) (wrote_all (end_parts tb Q f) fl)

  -- what stands before its expression, and what behind
  abbrev name_instrs : Option Sort → ℕ → List Instruction
  name_instrs t e = NAME Q (suc (suc e)) ∷ store_part tb.place (an_actual ∷ g) x ∷ RETURN (link (form_as t) Q) ∷ []

  abbrev end_instrs : Option Sort → List Instruction
  end_instrs t = AS tb.place x (form_as t) ∷ RETURN unlinked ∷ []

  name_same : (t : Option Sort) (f s i₁ i₂ e : ℕ) → OkE (scopes g) x → f ≡ form_number (form_as t) → s + 1 ≡ i₁ → s + 2 ≡ i₂ → get_or tb.ahead s 0 ≡ there (suc (suc e)) → get_or tb.ahead i₁ 0 ≡ Q → get_or tb.ahead i₂ 0 ≡ W
      → CodeFits (name_instrs t e) → Same (name_parts tb f s) (name_instrs t e)
  name_same t f s i₁ i₂ e ok i e₁ e₂ r₀ r₁ r₂ c =
      let q : get_or tb.ahead (s + 1) 0 % 65536 ≡ Q = rw (e₁, r₁) (mod-eq_of_lt (tb.small (first_symbol x))) in
      let w : get_or tb.ahead (s + 2) 0 ≡ W = rw e₂ r₂ in (
        ap (λ (p : ℕ). parts 39 p (get_or tb.ahead s 0)) q ∙ ap (parts 39 Q) (name_word_is _ (suc (suc e)) r₀ c.0),
        (
          ap (λ (p : ℕ). lend_part (get_or tb.ahead (s + 2) 0) p) q ∙ ap (λ (v : ℕ). lend_part v Q) w ∙ lends tb (an_actual ∷ g) known x ok c.1.0,
          (ap (λ (p : ℕ). parts 7 p f) q ∙ ap (parts 7 Q) i, tt),
        ),
      )

  pub named_acted : {R : Type 0} {n j D j' : ℕ} {fr : Frame} {fl : Flow} {us us' : List Use} {e e' : ℕ} {ws : List ℕ} {A A' : List ℕ → List ℕ} {C C' : List Instruction → List Instruction} (t : Option Sort)
      → eqb (formal_at tb.rows (n + 1 + j)) 2 ≡ true → type_at tb n j ≡ form_number (form_as t) → OkE (scopes g) x → fl.uses ≡ uses_e (scopes g) x ++ us → fr.awaits ≡ 0 → fr.level ≡ owns g
      → (y : Passed tb R (in_name (length fl.slots) n j D fr) (in_name (length fl.slots) n j D fr) (nodes_e D x) us e A (λ t. t) C (name_flow tb (type_at tb n j) fl))
      → Acted tb R n (j + 1) D fr j' ws us' e' A' C' (end_flow (type_at tb n j) fl.slots e y.next)
      → Acted tb R n j D fr j' (nodes_e D x ++ (mark n_actual (first_symbol x) ++ ws)) us' e' (λ k. there (suc (suc e)) ∷ Q ∷ W ∷ A (A' k)) (λ r. NAME Q (suc (suc e)) ∷ store_part tb.place (an_actual ∷ g) x ∷ RETURN (link (form_as t) Q) ∷ C (AS tb.place x (form_as t) ∷ RETURN unlinked ∷ C' r)) fl
  unfolding fold_nodes top
  named_acted {n = n} {j = j} {D = D} {fr = fr} {fl = fl} {us = us} {e = e} {A = A} {A' = A'} {C = C} {C' = C'} t h i ok u aw lv y z =
      let f = type_at tb n j in
      let S = fl.slots in
      let S₁ : List ℕ = S ++ (0 ∷ []) in
      let S₂ : List ℕ = S₁ ++ (0 ∷ []) in
      let s = length S in
      let fr' = in_name s n j D fr in
      let e₁ : s + 1 ≡ length S₁ = sym (length-append S (0 ∷ [])) in
      let e₂ : s + 2 ≡ length S₂ = omega (arith, length-append S (0 ∷ []), length-append S₁ (0 ∷ [])) in
      let l : length S₂ < length y.next.slots = omega (arith, longer y.fills, length-append S₂ (0 ∷ [])) in
      let v : y.next.variable ≡ W =
      sym (ap (λ (st : State). st.variable) (y.goes.so []))
      ∙ ap (λ (l : List ℕ). (run tb l (state tb fr' (name_flow tb f fl))).variable) (append-nil (nodes_e D x))
      ∙ last_word tb x D (an_actual ∷ g) us fr' (name_flow tb f fl) u refl aw (ap suc lv) in
      let filled : Fills S (end_flow f S e y.next).slots (λ k. there (suc (suc e)) ∷ Q ∷ W ∷ A k) = refill 0 (there (suc (suc e))) (refill 0 Q (refill 0 W y.fills)) in
      let w = wrote_all_lem (name_parts tb f s) fl.at fl refl in
      let w' = wrote_all_lem (end_parts tb Q f) e y.next y.at in
      record {
        next = z.next;
        goes =
            goes_from (start_name tb n j D fr fl h)
            (goes_then y.goes (goes_then (goes_node n_actual (first_symbol x) 0 0 (named_step tb (first_symbol x) n j D s (length S₁) (length S₂) e W fr y.next e₁ e₂ l y.at v)) z.goes));
        uses = z.uses;
        at = z.at;
        fills = then_slots filled z.fills;
        enters = z.enters ∙ y.enters ∙ w.entries;
        right = λ o k r d c.
            let k₀ : List ℕ = A (A' k) in
            let k₁ : List ℕ = W ∷ k₀ in
            let k₂ : List ℕ = Q ∷ k₁ in
            let r₀ : List Instruction = end_instrs t ++ C' r in
            let d₁ = slot_past tb.ahead S k₂ 0 (there (suc (suc e))) d in
            let d₂ = slot_past tb.ahead S₁ k₁ 0 Q d₁ in
            let d₃ = slot_past tb.ahead S₂ k₀ 0 W d₂ in
            let same = name_same t f s (length S₁) (length S₂) e ok i e₁ e₂ (slot_read tb.ahead S k₂ (there (suc (suc e))) d) (slot_read tb.ahead S₁ k₁ Q d₁) (slot_read tb.ahead S₂ k₀ W d₂) (c.0, (c.1.0, (tt, tt))) in
            let p₁ = y.right o (A' k) r₀ d₃ c.1.1.1 in
            let p₂ = z.right o k r (slots_past tb.ahead (A' k) filled d) p₁.1.1.1 in
            (p₂.0 ∙ w'.code (end_instrs t) (C' r) (ap (parts 50 Q) i, (refl, tt)) ∙ p₁.0 ∙ w.code (name_instrs t e) (C r₀) same, p₂.1);
      }
