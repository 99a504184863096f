-- The elements of a for statement in the pass that writes code: each goes to the body, which a slot tells, and on to where its own slot tells; the
-- last one's slot is filled behind the loop. Assumes nothing.
use Prim.Native.Nat.{ℕ, suc, ◌+◌, ◌<◌}
use native.Mathlib.Omega.{arith}
use native.Mathlib.Numerals.{add-one}
use mathlib.Core.Path.{◌≡◌, refl, sym, ap, ap₂, ◌∙◌}
use mathlib.Core.List.{List, [], ◌∷◌, ◌++◌, append_assoc, append-nil}
use lib.Dec.{eqb}
use lib.ListN.{length, get_or, set, drop, length-append}
use lib.Seq.{set-append_seam}
use Rattle.machine.specs.Data.{store, keep, sum, condition, upto}
use Rattle.machine.specs.Instructions.{Location, located, cell_found, Instruction, DO, IF, JUMP, GO, NEXT, pack, high, mid, low}
use Rattle.grammar.specs.NodeKinds.{n_start, n_once, n_while, n_step, n_amount}
use Rattle.names.specs.Program.{Name, Expression, first_symbol, Element, value, while, step as by_step}
use Rattle.names.specs.Scopes.{Scope, meaning}
use Rattle.names.specs.Nodes.{mark, nodes_e, nodes_l, nodes_ls}
use Rattle.names.specs.model.Rows.{is_use}
use Rattle.names.specs.Uses.{Use, uses_e, uses_l}
use Rattle.rules.specs.Calls.{Way, direct, sought, way}
use Rattle.translation.specs.model.Translate.{Around, scopes, loc, end_e, end_store, end_way, end_sum, end_l, onward, SEEKS, code_e, code_store, code_test, code_sum, code_step, code_l}
use Rattle.machine.specs.model.Words.{Parts, beside, CodeFits, words}
use Rattle.emitting.specs.model.Layout.{packed}
use Rattle.translation.specs.model.Scoped.{OkE, OkL}
use Rattle.emitting.specs.model.Emission.{opened, State, put, with_open, with_slot, noted, pushed, popped, replaced, top, below, bare, found_word, on_cell, ahead_at, element, bodied, tested, added, step_begun, step_held, step_again, turning, stepping, amount, element_node, code_node}
use Rattle.translating.proofs.ToldCalls.{ToldL}
use Rattle.translating.proofs.SlotLists.{Fills, a_slot, then_slots, longer, refill, slot_read, slot_past, slots_past, there, ahead_e, ahead_x, ahead_l, end_x, end_element}
use Rattle.translating.proofs.Written.{Tables, Frame, Flow, with_opens, wrote, slotted, taken, put_real, slot_real, noted_real, put_all, wrote_all, puts_real, past, Same, wrote_all_lem, fits_apart, step, state, Goes, Passed, Fits, goes_node, goes_then, wrote_right, ◌and_then◌, passed_all, passed_as}
use Rattle.translating.proofs.WrittenChoices.{address, fits_open}
use Rattle.translating.proofs.WrittenNames.{parts, Numbered, Pointed, Moded, seeks, Worded, way_parts, on_cell_lem, way_past, way_instrs, way_code, way_same}
use Rattle.translating.proofs.ActualWords.{word_in}
use Rattle.translating.proofs.WrittenExpressions.{Marked, IsTold, emits_e}
use Rattle.translating.proofs.NameWords.{Known, Targets}

-- a frame within a for statement: the slot of its body's address, its variable's word and place, the address of the element
abbrev pub in_loop : ℕ → ℕ → ℕ → ℕ → Frame → Frame
in_loop s v p a fr = with_opens (opened s v p a ∷ fr.opens) fr

-- a frame within a step element: the slot of where its step is held, 0, the place of 'step', the step's address; then the bound's address and 1
abbrev in_step : ℕ → ℕ → ℕ → ℕ → Frame → Frame
in_step i n q f fr = with_opens (opened i n q f ∷ fr.opens) fr

module _ (tb : Tables) where
  -- behind an element: it goes on there
  element_real : (s v p a : ℕ) (fr : Frame) (fl : Flow)
      → element tb.values tb.layout tb.ahead tb.entries (opened s v p a) (state tb (in_loop s v p a fr) fl)
      ≡ state tb (in_loop s v p fl.at fr) (slotted (fl.slots ++ (there fl.at ∷ [])) fl)
  unfolding element replaced with_open below
  element_real s v p a fr fl =
      let S = fl.slots in
      let fr' = in_loop s v p fl.at fr in
      ap (noted (length S) (there fl.at)) (slot_real tb.key fr' fl)
      ∙ noted_real tb.key (length S) (there fl.at) fr' (slotted (S ++ (0 ∷ [])) fl) (omega (arith, length-append S (0 ∷ [])))
      ∙ ap (λ (l : List ℕ). state tb fr' (slotted l fl)) (set-append_seam S 0 [] (there fl.at))

  -- ---- an element, or some: A: what lies ahead in their expressions; C: their code, with the address of the body and the one where they go on

  pub record Turned (R : Type 0) (s v p a : ℕ) (fr : Frame) (ws : List ℕ) (us : List Use) (e : ℕ) (A : List ℕ → List ℕ) (C : ℕ → ℕ → List Instruction → List Instruction) (fl : Flow) : Type 0 where
    pub next : Flow
    pub front : List ℕ
    pub goes : Goes tb ws (state tb (in_loop s v p a fr) fl) (state tb (in_loop s v p e fr) next)
    pub uses : next.uses ≡ us
    pub at : next.at ≡ e
    pub slots : next.slots ≡ front ++ (there e ∷ [])
    pub fills : Fills fl.slots front A
    pub enters : next.entries ≡ fl.entries
    pub right : R → (i o : ℕ) (k : List ℕ) (r : List Instruction) → get_or tb.ahead s 0 ≡ there i → drop (length fl.slots) tb.ahead ≡ A (there o ∷ k) → CodeFits (C i o r)
        → (next.code ++ words r ≡ fl.code ++ words (C i o r)) × CodeFits r

  -- the node behind an element
  turn : {R : Type 0} {s v p a : ℕ} {fr fr' : Frame} {ws : List ℕ} {us : List Use} {e : ℕ} {A : List ℕ → List ℕ} {C : List Instruction → List Instruction} {fl : Flow}
      (x : Passed tb R (in_loop s v p a fr) fr' ws us e A (λ t. t) C fl) (is : ℕ → ℕ → List Instruction) (ps : List Parts) (n q : ℕ)
      → step tb n q 0 0 (state tb fr' x.next) ≡ element tb.values tb.layout tb.ahead tb.entries (opened s v p a) (put_all ps (state tb (in_loop s v p a fr) x.next))
      → (R → (i o : ℕ) → get_or tb.ahead s 0 ≡ there i → get_or tb.ahead (length x.next.slots) 0 ≡ there o → CodeFits (is i o) → Same ps (is i o))
      → Turned R s v p a fr (ws ++ mark n q) us (past ps e) A (λ i o r. C (is i o ++ r)) fl
  turn {s = s} {v = v} {p = p} {a = a} {fr = fr} {e = e} {A = A} {fl = fl} x is ps n q i h =
      let w = wrote_all_lem ps e x.next x.at in
      let fl' = wrote_all ps x.next in
      record {
        next = slotted (fl'.slots ++ (there (past ps e) ∷ [])) fl';
        front = fl'.slots;
        goes =
            goes_then x.goes
            (goes_node n q 0 0
            (i
            ∙ ap (element tb.values tb.layout tb.ahead tb.entries (opened s v p a)) (puts_real tb.key ps (in_loop s v p a fr) x.next)
            ∙ element_real s v p a fr fl'
            ∙ ap (λ (n : ℕ). state tb (in_loop s v p n fr) (slotted (fl'.slots ++ (there n ∷ [])) fl')) w.at));
        uses = w.uses ∙ x.uses;
        at = w.at;
        slots = refl;
        fills = rw w.slots x.fills;
        enters = w.entries ∙ x.enters;
        right = λ z i o k r b d c.
            let p₁ = x.right z (there o ∷ k) (is i o ++ r) d c in
            let f = fits_apart (is i o) r p₁.1 in
            let l = slot_read tb.ahead x.next.slots k (there o) (slots_past tb.ahead (there o ∷ k) x.fills d) in
            (w.code (is i o) r (h z i o b l f.0) ∙ p₁.0, f.1);
      }

  -- one after the other
  turn_then : {R : Type 0} {s v p a : ℕ} {fr : Frame} {ws ws' : List ℕ} {us us' : List Use} {e e' : ℕ} {A A' : List ℕ → List ℕ} {C C' : ℕ → ℕ → List Instruction → List Instruction} {fl : Flow}
      (x : Turned R s v p a fr ws us e A C fl) → Turned R s v p e fr ws' us' e' A' C' x.next
      → Turned R s v p a fr (ws ++ ws') us' e' (λ k. A (there e ∷ A' k)) (λ i n r. C i e (C' i n r)) fl
  turn_then {e = e} {A' = A'} {C' = C'} x y =
      record {
        next = y.next;
        front = y.front;
        goes = goes_then x.goes y.goes;
        uses = y.uses;
        at = y.at;
        slots = y.slots;
        fills = then_slots x.fills (then_slots (a_slot (there e)) (rw x.slots at y.fills));
        enters = y.enters ∙ x.enters;
        right = λ z i n k r b d c.
            let p₁ = x.right z i e (A' (there n ∷ k)) (C' i n r) b d c in
            let d₁ = slot_past tb.ahead x.front (A' (there n ∷ k)) (there e) (there e) (slots_past tb.ahead (there e ∷ A' (there n ∷ k)) x.fills d) in
            let p₂ = y.right z i n k r b (rw x.slots d₁) p₁.1 in
            (p₂.0 ∙ p₁.0, p₂.1);
      }

  -- ---- the nodes

  start_step : (w : Way) (n s v p a : ℕ) (fr : Frame) (fl : Flow) → eqb (low v) 2 ≡ seeks w
      → step tb n_start n 0 0 (state tb (in_loop s v p a fr) fl) ≡ put_all (way_parts w 14 p p v) (state tb (in_loop s v p a fr) fl)
  unfolding step code_node is_use element_node top
  start_step w n s v p a fr fl e = on_cell_lem w 14 p p v (state tb (in_loop s v p a fr) fl) e

  abbrev ahead_of : ℕ → ℕ
  ahead_of i = get_or tb.ahead i 0

  abbrev once_parts : ℕ → Frame → Flow → List Parts
  once_parts s fr fl = parts 8 0 (packed fr.loops (ahead_of (length fl.slots)) (ahead_of s)) ∷ []

  once_step : (s v p a : ℕ) (fr : Frame) (fl : Flow)
      → step tb n_once 0 0 0 (state tb (in_loop s v p a fr) fl) ≡ element tb.values tb.layout tb.ahead tb.entries (opened s v p a) (put_all (once_parts s fr fl) (state tb (in_loop s v p a fr) fl))
  unfolding step code_node is_use element_node bodied ahead_at top
  once_step s v p a fr fl = refl

  abbrev while_parts : ℕ → ℕ → Frame → Flow → List Parts
  while_parts s a fr fl = parts 10 0 (there (ahead_of (length fl.slots))) ∷ parts 8 0 (packed fr.loops a (ahead_of s)) ∷ []

  while_step : (q s v p a : ℕ) (fr : Frame) (fl : Flow)
      → step tb n_while q 0 0 (state tb (in_loop s v p a fr) fl) ≡ element tb.values tb.layout tb.ahead tb.entries (opened s v p a) (put_all (while_parts s a fr fl) (state tb (in_loop s v p a fr) fl))
  unfolding step code_node is_use element_node bodied ahead_at top put
  while_step q s v p a fr fl = refl

  -- 'step': to the step, and one address more lies ahead
  abbrev step_flow : ℕ → Frame → Flow → Flow
  step_flow a fr fl = slotted (fl.slots ++ (0 ∷ [])) (wrote 8 0 (packed fr.loops (ahead_of (length fl.slots)) (suc a)) fl)

  begun_step : (q a : ℕ) (fr : Frame) (fl : Flow) → fl.at ≡ a
      → step tb n_step q 0 0 (state tb fr fl) ≡ state tb (in_step (length fl.slots) 0 (tb.place q) (suc a) fr) (step_flow a fr fl)
  unfolding step code_node is_use element_node step_begun ahead_at pushed with_open
  begun_step q a fr fl e =
      let S = fl.slots in
      let j : fl.at + 1 ≡ suc a = add-one fl.at ∙ ap suc e in
      let v = packed fr.loops (ahead_of (length S)) (suc a) in
      ap (λ (u : ℕ). with_slot (pushed (length S) 0 (tb.place q) u (put 8 0 (packed fr.loops (ahead_of (length S)) u) (state tb fr fl)))) j
      ∙ ap (λ (st : State). with_slot (pushed (length S) 0 (tb.place q) (suc a) st)) (put_real tb.key 8 0 v fr fl)
      ∙ slot_real tb.key (in_step (length S) 0 (tb.place q) (suc a) fr) (wrote 8 0 v fl)

  -- behind the step: where it is held is known
  abbrev held_parts : Frame → List Parts
  held_parts fr = parts 9 0 (packed fr.loops 0 0) ∷ parts 20 0 0 ∷ []

  abbrev held_flow : ℕ → ℕ → Frame → Flow → Flow
  held_flow i c fr fl = slotted (set fl.slots i (there (suc c))) (wrote_all (held_parts fr) fl)

  held_step : (n i f q c : ℕ) (fr : Frame) (fl : Flow) → i < length fl.slots → fl.at ≡ c
      → step tb n_amount n 0 0 (state tb (in_step i 0 q f fr) fl) ≡ state tb (in_step (suc (suc c)) 1 q f fr) (held_flow i c fr fl)
  unfolding step code_node is_use element_node amount step_held replaced top below with_open
  held_step n i f q c fr fl h e =
      let j : fl.at + 1 ≡ suc c = add-one fl.at ∙ ap suc e in
      let j' : fl.at + 1 + 1 ≡ suc (suc c) = add-one (fl.at + 1) ∙ ap suc j in
      ap (λ (st : State). noted i (there (fl.at + 1)) (replaced (fl.at + 1 + 1) 1 q f st)) (puts_real tb.key (held_parts fr) (in_step i 0 q f fr) fl)
      ∙ ap₂ (λ (u t : ℕ). noted i (there u) (state tb (in_step t 1 q f fr) (wrote_all (held_parts fr) fl))) j j'
      ∙ noted_real tb.key i (there (suc c)) (in_step (suc (suc c)) 1 q f fr) (wrote_all (held_parts fr) fl) h

  -- behind the bound: the test, the body, the step again, the addition, back to the bound; f: the step's address, t: the bound's
  abbrev step_parts : Way → ℕ → ℕ → ℕ → ℕ → ℕ → ℕ → Frame → Flow → List Parts
  step_parts direct q f t s v p fr fl =
      parts 11 p (packed (high v) (mid v) (ahead_of (length fl.slots))) ∷
      parts 8 0 (packed fr.loops (fl.at + 1 + 1) (ahead_of s)) ∷
      parts 8 0 (packed fr.loops (fl.at + 1 + 1 + 1) f) ∷ parts 21 q (bare v) ∷ parts 14 p (bare v) ∷ parts 2 0 (there t) ∷ []
  step_parts sought q f t s v p fr fl =
      parts 41 p (bare v) ∷
      parts 11 p (packed 0 8191 (ahead_of (length fl.slots))) ∷
      parts 8 0 (packed fr.loops (fl.at + 1 + 1 + 1) (ahead_of s)) ∷
      parts 8 0 (packed fr.loops (fl.at + 1 + 1 + 1 + 1) f) ∷
      parts 41 p (bare v) ∷ parts 21 q found_word ∷ parts 41 p (bare v) ∷ parts 14 p found_word ∷ parts 2 0 (there t) ∷ []

  abbrev test_parts : Way → ℕ → ℕ → ℕ → List Parts
  test_parts direct p v o = parts 11 p (packed (high v) (mid v) o) ∷ []
  test_parts sought p v o = parts 41 p (bare v) ∷ parts 11 p (packed 0 8191 o) ∷ []

  tested_puts : (w : Way) (p v o : ℕ) (st : State) → eqb (low v) 2 ≡ seeks w → tested tb.values tb.layout tb.ahead tb.entries p v o st ≡ put_all (test_parts w p v o) st
  unfolding tested
  tested_puts direct p v o st e = rw e
  tested_puts sought p v o st e = rw e

  added_puts : (w : Way) (p v q : ℕ) (st : State) → eqb (low v) 2 ≡ seeks w → added tb.values tb.layout tb.ahead tb.entries p v q st ≡ put_all (way_parts w 14 p p v) (put_all (way_parts w 21 q p v) st)
  unfolding added
  added_puts w p v q st e = ap (on_cell 14 p p v) (on_cell_lem w 21 q p v st e) ∙ on_cell_lem w 14 p p v (put_all (way_parts w 21 q p v) st) e

  -- both in their places
  stepping_puts : (w : Way) (f q t s v p a : ℕ) (st : State) → eqb (low v) 2 ≡ seeks w
      → let u = put_all (test_parts w p v (get_or tb.ahead st.slots 0)) st in
      stepping tb.values tb.layout tb.ahead tb.entries (opened s v p a) (opened t 1 q f) st
      ≡ put 2 0 (there t)
      (put_all (way_parts w 14 p p v) (put_all (way_parts w 21 q p v)
      (step_again tb.values tb.layout tb.ahead tb.entries (opened t 1 q f) (bodied tb.values tb.layout tb.ahead tb.entries (opened s v p a) (u.at + 1) u))))
  unfolding stepping turning ahead_at
  stepping_puts w f q t s v p a st e =
      let o = get_or tb.ahead st.slots 0 in
      let u = put_all (test_parts w p v o) st in
      let on : State → State = λ (u : State). step_again tb.values tb.layout tb.ahead tb.entries (opened t 1 q f) (bodied tb.values tb.layout tb.ahead tb.entries (opened s v p a) (u.at + 1) u) in
      ap (λ (u : State). put 2 0 (there t) (added tb.values tb.layout tb.ahead tb.entries p v q (on u))) (tested_puts w p v o st e)
      ∙ ap (put 2 0 (there t)) (added_puts w p v q (on u) e)

  turned_step : (w : Way) (n f q t s v p a : ℕ) (fr : Frame) (fl : Flow) → eqb (low v) 2 ≡ seeks w
      → step tb n_amount n 0 0 (state tb (in_step t 1 q f (in_loop s v p a fr)) fl)
      ≡ element tb.values tb.layout tb.ahead tb.entries (opened s v p a) (put_all (step_parts w q f t s v p fr fl) (state tb (in_loop s v p a fr) fl))
  unfolding step code_node is_use element_node amount popped with_open bodied step_again ahead_at top below put
  turned_step direct n f q t s v p a fr fl e = ap (element tb.values tb.layout tb.ahead tb.entries (opened s v p a)) (stepping_puts direct f q t s v p a (state tb (in_loop s v p a fr) fl) e)
  turned_step sought n f q t s v p a fr fl e = ap (element tb.values tb.layout tb.ahead tb.entries (opened s v p a)) (stepping_puts sought f q t s v p a (state tb (in_loop s v p a fr) fl) e)

  -- ---- words

  go_word : (n m o i u w : ℕ) → n ≡ m → u ≡ there o → w ≡ there i → (m < 64) × (i < 8192) × (o < 8192) → packed n u w ≡ pack m o i
  go_word n m o i u w e f g h = omega arith

  go_back : (n m o i u w : ℕ) → n ≡ m → u ≡ o → w ≡ there i → (m < 64) × (i < 8192) × (o < 8192) → packed n u w ≡ pack m o i
  go_back n m o i u w e f g h = omega arith

  go_step : (n m o i u : ℕ) → n ≡ m → u ≡ o → (m < 64) × (i < 8192) × (o < 8192) → packed n u i ≡ pack m o i
  go_step n m o i u e f h = omega arith

  go_there : (n m o i : ℕ) → n ≡ m → (m < 64) × (i < 8192) × (o < 8192) → packed n (there o) i ≡ pack m o i
  go_there n m o i e h = omega arith

  next_word : (n m : ℕ) → n ≡ m → m < 64 → packed n 0 0 ≡ pack m 0 0
  next_word n m e h = omega arith

  jump_word : (u n : ℕ) → u ≡ n → n < 8192 → there u ≡ pack 0 0 n
  jump_word u n e h = omega arith

  upto_word : (v o u : ℕ) (l : Location) → bare v ≡ beside l 0 → u ≡ there o → o < 8192 → packed (high v) (mid v) u ≡ beside l o
  unfolding bare
  upto_word v o u (located a b) e f h = omega arith
  upto_word v o u cell_found e f h = omega arith

  upto_found : (o u : ℕ) → u ≡ there o → o < 8192 → packed 0 8191 u ≡ beside cell_found o
  upto_found o u e h = omega arith

-- ---- the elements

abbrev uses_x : List Scope → Element → List Use
uses_x g (value e) = uses_e g e
uses_x g (while q e c) = uses_e g e ++ uses_e g c
uses_x g (by_step q e f h) = uses_e g e ++ (uses_e g f ++ uses_e g h)

uses_more : (g : List Scope) (l : Element) (ls : List Element) → uses_l g (l ∷ ls) ≡ uses_x g l ++ uses_l g ls
unfolding uses_l
uses_more g (value e) ls = refl
uses_more g (while q e f) ls = sym (append_assoc (uses_e g e) (uses_e g f) (uses_l g ls))
uses_more g (by_step q e f h) ls = simp append_assoc

abbrev OkX : List Scope → Element → Type 0
OkX g (value e) = OkE g e
OkX g (while q e c) = OkE g e × OkE g c
OkX g (by_step q e f h) = OkE g e × OkE g f × OkE g h

ok_more : (g : List Scope) (l : Element) (ls : List Element) → OkL g (l ∷ ls) → OkX g l × OkL g ls
ok_more g (value e) ls ok = ok
ok_more g (while q e c) ls ok = ((ok.0, ok.1), ok.2)
ok_more g (by_step q e f h) ls ok = ((ok.0, ok.1, ok.2), ok.3)

abbrev ToldX : Tables → List Scope → Element → Type 0
ToldX tb g (value e) = IsTold tb g e
ToldX tb g (while q e c) = IsTold tb g e × IsTold tb g c
ToldX tb g (by_step q e f h) = IsTold tb g e × IsTold tb g f × IsTold tb g h

told_more : (tb : Tables) (g : List Scope) (l : Element) (ls : List Element) → ToldL (Numbered tb) (Pointed tb) (Marked tb) (Moded tb) g (l ∷ ls) → ToldX tb g l × ToldL (Numbered tb) (Pointed tb) (Marked tb) (Moded tb) g ls
told_more tb g (value e) ls ok = ok
told_more tb g (while q e c) ls ok = ((ok.0, ok.1), ok.2)
told_more tb g (by_step q e f h) ls ok = ((ok.0, ok.1, ok.2), ok.3)

-- one element's code: in the scopes g and m for statements, over x; i: the body, o: where it goes on
abbrev code_x : Tables → List Around → ℕ → Name → Element → ℕ → ℕ → ℕ → List Instruction → List Instruction
code_x tb g m x (value e) b i o r = code_e tb.place g e b (code_store tb.place g x (GO m i o ∷ r))
code_x tb g m x (while q e c) b i o r =
    let a = end_store (scopes g) x (end_e (scopes g) e b) in
    code_e tb.place g e b (code_store tb.place g x (code_e tb.place g c a (IF condition o ∷ GO m i b ∷ r)))
code_x tb g m x (by_step q e f h) b i o r =
    let a = end_store (scopes g) x (end_e (scopes g) e b) in
    code_e tb.place g e b (code_store tb.place g x (code_step tb.place (way (meaning (scopes g) x)) g m q x f h i o a r))

module _ {tb : Tables} where
  turned_words : {R : Type 0} {s v p a : ℕ} {fr : Frame} {ws : List ℕ} {us : List Use} {e : ℕ} {A : List ℕ → List ℕ} {C : ℕ → ℕ → List Instruction → List Instruction} {fl : Flow} (ws' : List ℕ) → ws ≡ ws'
      → Turned tb R s v p a fr ws us e A C fl → Turned tb R s v p a fr ws' us e A C fl
  turned_words ws' i x = rw i at x

  turned_end : {R : Type 0} {s v p a : ℕ} {fr : Frame} {ws : List ℕ} {us : List Use} {e : ℕ} {A : List ℕ → List ℕ} {C : ℕ → ℕ → List Instruction → List Instruction} {fl : Flow} (e' : ℕ) → e ≡ e'
      → Turned tb R s v p a fr ws us e A C fl → Turned tb R s v p a fr ws us e' A C fl
  turned_end e' i x = rw i at x

  turned_code : {R : Type 0} {s v p a : ℕ} {fr : Frame} {ws : List ℕ} {us : List Use} {e : ℕ} {A : List ℕ → List ℕ} {C : ℕ → ℕ → List Instruction → List Instruction} {fl : Flow} (C' : ℕ → ℕ → List Instruction → List Instruction)
      → ((i o : ℕ) (r : List Instruction) → C i o r ≡ C' i o r) → Turned tb R s v p a fr ws us e A C fl → Turned tb R s v p a fr ws us e A C' fl
  turned_code {fl = fl} C' f x =
      record {
        next = x.next;
        front = x.front;
        goes = x.goes;
        uses = x.uses;
        at = x.at;
        slots = x.slots;
        fills = x.fills;
        enters = x.enters;
        right = λ z i o k r b d c.
            let q = x.right z i o k r b d (rw (f i o r) c) in
            (q.0 ∙ ap (λ (l : List Instruction). fl.code ++ words l) (f i o r), q.1);
      }

module _ (tb : Tables) (R : Type 0) (g : List Around) (right : R → Targets tb.key tb.entries g) (known : Known tb.key tb.layout g) (m : ℕ) (x : Name) (s v : ℕ) (tell : eqb (low v) 2 ≡ seeks (way (meaning (scopes g) x))) (word : Worded (way (meaning (scopes g) x)) g x v) where
  abbrev F : ℕ → Frame → Frame
  F a fr = in_loop s v (tb.place x.symbol) a fr

  abbrev ahead : Expression → ℕ → List ℕ → List ℕ
  ahead e b = ahead_e tb.place (word_in tb.key tb.layout) g e b

  -- the start: an expression, and the store
  abbrev start_words : ℕ → Expression → List ℕ
  start_words d e = nodes_e d e ++ mark n_start (first_symbol e)

  start_passed : (e : Expression) (d b : ℕ) → OkE (scopes g) e → IsTold tb (scopes g) e → (us : List Use) (fr : Frame) (fl : Flow) → Fits tb g 0 m fr → fl.uses ≡ uses_e (scopes g) e ++ us → fl.at ≡ b
      → Passed tb R (F b fr) (F b fr) (start_words d e) us (end_store (scopes g) x (end_e (scopes g) e b)) (ahead e b) (λ t. t) (λ r. code_e tb.place g e b (code_store tb.place g x r)) fl
  start_passed e d b ok n us fr fl w u a =
      let p = tb.place x.symbol in
      let z = way (meaning (scopes g) x) in
      let y = (emits_e tb R 0 m g right known e d b ok n).pass us (F b fr) fl (fits_open (opened s v p b ∷ fr.opens) w) u a in
      y
      and_then (passed_as (end_store (scopes g) x (end_e (scopes g) e b)) (code_store tb.place g x) (way_past z 14 p p v (end_e (scopes g) e b)) (way_code tb z g x (λ l. store p l))
      (passed_all y.next.variable (way_instrs tb z g x (λ l. store p l)) (way_parts z 14 p p v) n_start (first_symbol e) 0 0
      (start_step tb z (first_symbol e) s v p b fr y.next tell ∙ ap (λ (us : List Use). put_all (way_parts z 14 p p v) (state tb (F b fr) (taken us y.next))) y.uses)
      y.at (λ t c. way_same tb z g x (λ l. store p l) 14 p v (λ l. refl) (λ l f. f) word c)))

  -- from 'step' to where the step is held: to its code, which ends at c, and on
  held_passed : (q n a c : ℕ) {wf : List ℕ} {us : List Use} {Af : List ℕ → List ℕ} {Cf : List Instruction → List Instruction} {fr : Frame} {fl : Flow} → fr.loops ≡ m → fl.at ≡ a
      → let i = length fl.slots in
      Passed tb R (in_step i 0 (tb.place q) (suc a) fr) (in_step i 0 (tb.place q) (suc a) fr) wf us c Af (λ t. t) Cf (step_flow tb a fr fl)
      → Passed tb R fr (in_step (suc (suc c)) 1 (tb.place q) (suc a) fr) (mark n_step q ++ (wf ++ mark n_amount n)) us (suc (suc c)) (λ k. there (suc c) ∷ Af k) (λ t. t) (λ r. GO m (suc a) (suc c) ∷ Cf (NEXT m ∷ DO keep ∷ r)) fl
  held_passed q n a c {Af = Af} {Cf = Cf} {fr = fr} {fl = fl} w e s =
      let i = length fl.slots in
      let j : i < length s.next.slots = omega (arith, longer s.fills, length-append fl.slots (0 ∷ [])) in
      let y = wrote_all_lem (held_parts tb fr) c s.next s.at in
      record {
        next = held_flow tb i c fr s.next;
        goes =
            goes_then (goes_node n_step q 0 0 (begun_step tb q a fr fl e))
            (goes_then s.goes (goes_node n_amount n 0 0 (held_step tb n i (suc a) (tb.place q) c fr s.next j s.at)));
        uses = y.uses ∙ s.uses;
        at = y.at;
        fills = refill 0 (there (suc c)) s.fills;
        enters = y.entries ∙ s.enters;
        right = λ z k r d f.
            let l = slot_read tb.ahead fl.slots (Af k) (there (suc c)) d in
            let p = s.right z k (NEXT m ∷ DO keep ∷ r) (slot_past tb.ahead fl.slots (Af k) 0 (there (suc c)) d) f.1 in
            let b = fits_apart (NEXT m ∷ DO keep ∷ []) r p.1 in (
              y.code (NEXT m ∷ DO keep ∷ []) r (ap (parts 9 0) (next_word tb fr.loops m w b.0.0), (refl, tt))
                  ∙ p.0
                  ∙ wrote_right (GO m (suc a) (suc c)) 8 0 _ fl.code (Cf (NEXT m ∷ DO keep ∷ r)) refl (ap (λ (u : ℕ). packed fr.loops u (suc a)) l ∙ go_there tb fr.loops m (suc c) (suc a) w f.0),
              b.1,
            );
      }

  abbrev IsX : Element → ℕ → ℕ → Type 0
  IsX l d b =
      (us : List Use) (fr : Frame) (fl : Flow) → Fits tb g 0 m fr → fl.uses ≡ uses_x (scopes g) l ++ us → fl.at ≡ b
      → Turned tb R s v (tb.place x.symbol) b fr (nodes_l d l) us (end_x (scopes g) x l b) (ahead_x tb.place (word_in tb.key tb.layout) g x l b) (code_x tb g m x l b) fl

  value_turned : (e : Expression) (d b : ℕ) → OkE (scopes g) e → IsTold tb (scopes g) e → IsX (value e) d b
  unfolding nodes_l end_x ahead_x
  value_turned e d b ok n us fr fl w u a =
      let p = tb.place x.symbol in
      let y = start_passed e d b ok n us fr fl w u a in
      turned_words (nodes_l d (value e)) (append_assoc (nodes_e d e) (mark n_start (first_symbol e)) (mark n_once 0))
      (turn tb y (λ i o. GO m i o ∷ []) (once_parts tb s fr y.next) n_once 0 (once_step tb s v p b fr y.next)
      (λ z i o h l c. (ap (parts 8 0) (go_word tb fr.loops m o i _ _ w.loops l h c.0), tt)))

  while_turned : (q : ℕ) (e c : Expression) (d b : ℕ) → OkX (scopes g) (while q e c) → ToldX tb (scopes g) (while q e c) → IsX (while q e c) d b
  unfolding nodes_l end_x ahead_x
  while_turned q e c d b ok n us fr fl w u a =
      let p = tb.place x.symbol in
      let f = end_store (scopes g) x (end_e (scopes g) e b) in
      let ue = uses_e (scopes g) e in
      let uc = uses_e (scopes g) c in
      let y = start_passed e d b ok.0 n.0 (uc ++ us) fr fl w (u ∙ append_assoc ue uc us) a in
      let y' = (emits_e tb R 0 m g right known c d f ok.1 n.1).pass us (F b fr) y.next (fits_open (opened s v p b ∷ fr.opens) w) y.uses y.at in
      let t = y and_then y' in
      turned_words (nodes_l d (while q e c)) (simp append_assoc)
      (turn tb t (λ i o. IF condition o ∷ GO m i b ∷ []) (while_parts tb s b fr t.next) n_while q (while_step tb q s v p b fr t.next)
      (λ z i o h l c. (ap (parts 10 0) (address _ o l c.0.1), (ap (parts 8 0) (go_back tb fr.loops m b i _ _ w.loops refl h c.1.0), tt))))

  -- behind the bound, which ends at n; a: where the code of the step begins
  bound_end : (w : Way) (q n a b t z : ℕ) {ws : List ℕ} {us : List Use} {A : List ℕ → List ℕ} {C : List Instruction → List Instruction} {fr : Frame} {fl : Flow} → eqb (low v) 2 ≡ seeks w → Worded w g x v → Fits tb g 0 m fr
      → Passed tb R (F b fr) (in_step t 1 (tb.place q) (suc a) (F b fr)) ws us n A (λ t. t) C fl
      → Turned tb R s v (tb.place x.symbol) b fr (ws ++ mark n_amount z) us (suc (end_sum w (suc (suc (end_way w n))))) A (λ i o r. C (code_test tb.place w g x o (GO m i (suc (end_way w n)) ∷ GO m (suc a) (suc (suc (end_way w n))) ∷ code_sum tb.place w g q x (JUMP t ∷ r)))) fl
  unfolding end_way end_sum code_test code_sum
  bound_end direct q n a b t z {fr = fr} tell word w y =
      let p = tb.place x.symbol in
      let at₂ : y.next.at + 1 + 1 ≡ suc (suc n) = omega (arith, y.at) in
      let at₃ : y.next.at + 1 + 1 + 1 ≡ suc (suc (suc n)) = omega (arith, y.at) in
      turn tb y (λ i o. IF (upto p (loc g x)) o ∷ GO m i (suc (suc n)) ∷ GO m (suc a) (suc (suc (suc n))) ∷ DO (sum (tb.place q) (loc g x)) ∷ DO (store p (loc g x)) ∷ JUMP t ∷ []) (step_parts tb direct (tb.place q) (suc a) t s v p fr y.next) n_amount z (turned_step tb direct z (suc a) (tb.place q) t s v p b fr y.next tell)
      (λ z i o h l c. (
        ap (parts 11 p) (upto_word tb v o _ (loc g x) (word c.0.0).bared l c.0.1),
        (
          ap (parts 8 0) (go_back tb fr.loops m (suc (suc n)) i _ _ w.loops at₂ h c.1.0),
          (
            ap (parts 8 0) (go_step tb fr.loops m (suc (suc (suc n))) (suc a) _ w.loops at₃ c.1.1.0),
            (ap (parts 21 (tb.place q)) (word c.1.1.1.0).bared, (ap (parts 14 p) (word c.1.1.1.1.0).bared, (ap (parts 2 0) (jump_word tb _ t refl c.1.1.1.1.1.0), tt))),
          ),
        ),
      ))
  bound_end sought q n a b t z {fr = fr} tell word w y =
      let p = tb.place x.symbol in
      let at₃ : y.next.at + 1 + 1 + 1 ≡ suc (suc (suc n)) = omega (arith, y.at) in
      let at₄ : y.next.at + 1 + 1 + 1 + 1 ≡ suc (suc (suc (suc n))) = omega (arith, y.at) in
      let k = SEEKS tb.place g x in
      turn tb y (λ i o. k ∷ IF (upto p cell_found) o ∷ GO m i (suc (suc (suc n))) ∷ GO m (suc a) (suc (suc (suc (suc n)))) ∷ k ∷ DO (sum (tb.place q) cell_found) ∷ k ∷ DO (store p cell_found) ∷ JUMP t ∷ []) (step_parts tb sought (tb.place q) (suc a) t s v p fr y.next) n_amount z (turned_step tb sought z (suc a) (tb.place q) t s v p b fr y.next tell)
      (λ z i o h l c.
      let e = ap (parts 41 p) (word c.0).bared in (
        e,
        (
          ap (parts 11 p) (upto_found tb o _ l c.1.0.1),
          (
            ap (parts 8 0) (go_back tb fr.loops m (suc (suc (suc n))) i _ _ w.loops at₃ h c.1.1.0),
            (
              ap (parts 8 0) (go_step tb fr.loops m (suc (suc (suc (suc n)))) (suc a) _ w.loops at₄ c.1.1.1.0),
              (e, (refl, (e, (refl, (ap (parts 2 0) (jump_word tb _ t refl c.1.1.1.1.1.1.1.1.0), tt))))),
            ),
          ),
        ),
      ))

  step_turned : (q : ℕ) (e f h : Expression) (d b : ℕ) → OkX (scopes g) (by_step q e f h) → ToldX tb (scopes g) (by_step q e f h) → IsX (by_step q e f h) d b
  unfolding nodes_l end_x ahead_x
  step_turned q e f h d b ok n us fr fl w u a =
      let p = tb.place x.symbol in
      let k = end_store (scopes g) x (end_e (scopes g) e b) in
      let c = end_e (scopes g) f (suc k) in
      let ue = uses_e (scopes g) e in
      let uf = uses_e (scopes g) f in
      let uh = uses_e (scopes g) h in
      let L = F b fr in
      let y₁ = start_passed e d b ok.0 n.0 ((uf ++ uh) ++ us) fr fl w (u ∙ append_assoc ue (uf ++ uh) us) a in
      let i = length y₁.next.slots in
      let j = tb.place q in
      let w' = fits_open (opened s v p b ∷ fr.opens) w in
      let y₂ = (emits_e tb R 0 m g right known f d (suc k) ok.1 n.1).pass (uh ++ us) (in_step i 0 j (suc k) L) (step_flow tb k L y₁.next) (fits_open (opened i 0 j (suc k) ∷ L.opens) w') (y₁.uses ∙ append_assoc uf uh us) (ap suc y₁.at) in
      let y₃ = held_passed q (first_symbol f) k c w.loops y₁.at y₂ in
      let y₄ = (emits_e tb R 0 m g right known h d (suc (suc c)) ok.2 n.2).pass us (in_step (suc (suc c)) 1 j (suc k) L) y₃.next (fits_open (opened (suc (suc c)) 1 j (suc k) ∷ L.opens) w') y₃.uses y₃.at in
      turned_words (nodes_l d (by_step q e f h)) (simp append_assoc) (bound_end (way (meaning (scopes g) x)) q (end_e (scopes g) h (suc (suc c))) k b (suc (suc c)) (first_symbol h) tell word w (y₁ and_then y₃ and_then y₄))

  element_turned : (l : Element) (d b : ℕ) → OkX (scopes g) l → ToldX tb (scopes g) l → IsX l d b
  element_turned (value e) d b ok n = value_turned e d b ok n
  element_turned (while q e c) d b ok n = while_turned q e c d b ok n
  element_turned (by_step q e f h) d b ok n = step_turned q e f h d b ok n

  -- the code of elements is that of the first in front of the others'
  code_more : (l : Element) (ls : List Element) (b i n : ℕ) (r : List Instruction)
      → code_x tb g m x l b i (onward ls (end_x (scopes g) x l b) n) (code_l tb.place g m x ls i n (end_x (scopes g) x l b) r) ≡ code_l tb.place g m x (l ∷ ls) i n b r
  unfolding code_l end_x
  code_more (value e) ls b i n r = refl
  code_more (while q e c) ls b i n r = refl
  code_more (by_step q e f h) ls b i n r = refl

  abbrev IsL : Element → List Element → ℕ → ℕ → Type 0
  IsL l ls d b =
      (us : List Use) (fr : Frame) (fl : Flow) → Fits tb g 0 m fr → fl.uses ≡ uses_l (scopes g) (l ∷ ls) ++ us → fl.at ≡ b
      → Turned tb R s v (tb.place x.symbol) b fr (nodes_l d l ++ nodes_ls d ls) us (end_l (scopes g) x (l ∷ ls) b) (ahead_l tb.place (word_in tb.key tb.layout) g x l ls b) (λ i n r. code_l tb.place g m x (l ∷ ls) i n b r) fl

  pub elements_turned : (l : Element) (ls : List Element) (d b : ℕ) → OkL (scopes g) (l ∷ ls) → ToldL (Numbered tb) (Pointed tb) (Marked tb) (Moded tb) (scopes g) (l ∷ ls) → IsL l ls d b
  unfolding nodes_ls uses_l ahead_l end_l code_l
  elements_turned l [] d b ok n = λ us fr fl w u a.
      let y = element_turned l d b (ok_more (scopes g) l [] ok).0 (told_more tb (scopes g) l [] n).0 us fr fl w (u ∙ ap (λ (z : List Use). z ++ us) (uses_more (scopes g) l []) ∙ append_assoc (uses_x (scopes g) l) [] us) a in
      turned_code (λ i n r. code_l tb.place g m x (l ∷ []) i n b r) (λ i n r. code_more l [] b i n r)
      (turned_end (end_l (scopes g) x (l ∷ []) b) (sym (end_element (scopes g) x l [] b)) (turned_words (nodes_l d l ++ []) (sym (append-nil (nodes_l d l))) y))
  elements_turned l (l' ∷ ls) d b ok n = λ us fr fl w u a.
      let ok' = ok_more (scopes g) l (l' ∷ ls) ok in
      let n' = told_more tb (scopes g) l (l' ∷ ls) n in
      let e = end_x (scopes g) x l b in
      let vs = uses_l (scopes g) (l' ∷ ls) in
      let y = element_turned l d b ok'.0 n'.0 (vs ++ us) fr fl w (u ∙ ap (λ (z : List Use). z ++ us) (uses_more (scopes g) l (l' ∷ ls)) ∙ append_assoc (uses_x (scopes g) l) vs us) a in
      let z = elements_turned l' ls d e ok'.1 n'.1 us fr y.next w y.uses y.at in
      turned_code (λ i n r. code_l tb.place g m x (l ∷ l' ∷ ls) i n b r) (λ i n r. code_more l (l' ∷ ls) b i n r)
      (turned_end (end_l (scopes g) x (l ∷ l' ∷ ls) b) (sym (end_element (scopes g) x l (l' ∷ ls) b)) (turn_then tb y z))
