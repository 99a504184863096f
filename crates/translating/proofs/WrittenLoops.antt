-- For statements in the pass that writes code: the slot of the body's address is filled at the body, and the last element's own slot behind the loop.
-- Assumes nothing.
use Prim.Native.Nat.{ℕ, suc, ◌+◌, ◌-◌, ◌<◌}
use native.Mathlib.Omega.{arith}
use native.Mathlib.Numerals.{add-one}
use mathlib.Core.Path.{◌≡◌, refl, ap, ◌∙◌}
use mathlib.Core.List.{List, [], ◌∷◌, ◌++◌, append_assoc}
use lib.ListN.{length, set, length-append, length-set}
use lib.Seq.{set-append_left}
use Rattle.machine.specs.Instructions.{Instruction, NEXT, pack}
use Rattle.grammar.specs.NodeKinds.{n_for, n_do, n_for_end}
use Rattle.names.specs.Program.{Name, Element, Statement, repeat}
use Rattle.names.specs.Scopes.{Scope, meaning}
use Rattle.names.specs.Nodes.{node, mark, nodes_l, nodes_ls, nodes_s}
use Rattle.names.specs.model.Rows.{is_use}
use Rattle.names.specs.Uses.{Use, used, uses_l, uses_s}
use Rattle.translation.specs.model.Translate.{Around, scopes, end_l, end_s, code_s}
use Rattle.emitting.specs.model.Layout.{packed}
use Rattle.translation.specs.model.Scoped.{OkW, OkL}
use Rattle.emitting.specs.model.Emission.{opened, State, put, with_open, with_slot, within, noted, pushed, popped, replaced, top, below, cell_of, repeated, use_node, loop_node, code_node}
use Rattle.translating.proofs.ToldCalls.{ToldL}
use Rattle.translating.proofs.SlotLists.{Fills, longer, then_slots, refill, slot_read, slot_past, slots_past, there, ahead_s}
use Rattle.translating.proofs.Written.{Tables, Frame, Flow, kind_of, means_of, wrote, slotted, taken, put_real, slot_real, noted_real, step, state, Passed, EmitsBehind, wrote_right, goes_node, goes_then, passed_words, use_step}
use Rattle.translating.proofs.WrittenNames.{Numbered, Pointed, Moded, word_at, seeks_is, worded}
use Rattle.translating.proofs.ActualWords.{word_in}
use Rattle.translating.proofs.WrittenExpressions.{Marked}
use Rattle.translating.proofs.WrittenElements.{in_loop, Turned, elements_turned}
use Rattle.translating.proofs.NameWords.{Known, Targets}
use Rattle.translating.proofs.EntryTables.{entered_s}

-- a frame within a body, with the slot of where its loop goes on
abbrev in_body : ℕ → Frame → Frame
in_body j fr = record { level = fr.level; loops = suc fr.loops; cells = fr.cells; lefts = fr.lefts; awaits = fr.awaits; opens = opened j 0 0 0 ∷ fr.opens }

module _ (tb : Tables) where
  -- ---- the nodes

  abbrev for_flow : List Use → Flow → Flow
  for_flow us fl = slotted (fl.slots ++ (0 ∷ [])) (taken us fl)

  for_step : (s d v b : ℕ) (fr : Frame) (fl : Flow) (gs : List Scope) (x : Name) (us : List Use) → fl.uses ≡ used gs x ∷ us → fl.at ≡ b
      → cell_of tb.values tb.layout tb.ahead tb.entries fr.level (kind_of (meaning gs x)) (means_of tb.key (meaning gs x)) ≡ v
      → step tb n_for s d 0 (state tb fr fl) ≡ state tb (in_loop (length fl.slots) v (tb.place s) b fr) (for_flow us fl)
  unfolding use_node is_use repeated pushed with_open
  for_step s d v b fr fl gs x us u i e =
      use_step tb n_for s d 0 fr fl gs x us (kind_of (meaning gs x)) (means_of tb.key (meaning gs x)) refl u refl refl
      ∙ ap (λ (v : ℕ). with_slot (state tb (in_loop (length fl.slots) v (tb.place s) fl.at fr) (taken us fl))) e
      ∙ ap (λ (b : ℕ). with_slot (state tb (in_loop (length fl.slots) v (tb.place s) b fr) (taken us fl))) i
      ∙ slot_real tb.key (in_loop (length fl.slots) v (tb.place s) b fr) (taken us fl)

  abbrev do_slots : ℕ → ℕ → List ℕ → List ℕ
  do_slots s e front = set front s (there e)

  do_step : (s v p a e : ℕ) (front : List ℕ) (fr : Frame) (fl : Flow) → fl.slots ≡ front ++ (there e ∷ []) → fl.at ≡ e → s < length front
      → step tb n_do 0 0 0 (state tb (in_loop s v p a fr) fl) ≡ state tb (in_body (length (do_slots s e front)) fr) (slotted (do_slots s e front ++ (there e ∷ [])) fl)
  unfolding step code_node is_use loop_node replaced within with_open top below
  do_step s v p a e front fr fl u i h =
      let n : length fl.slots - 1 ≡ length (do_slots s e front) = omega (arith, ap length u, length-append front (there e ∷ []), length-set front s (there e)) in
      let h' : s < length fl.slots = omega (arith, ap length u, length-append front (there e ∷ [])) in
      let j = length (do_slots s e front) in
      let fr' = in_loop j 0 0 0 fr in
      ap (λ (k : ℕ). within fr.level (fr.loops + 1) fr.cells (noted s (there fl.at) (state tb (in_loop k 0 0 0 fr) fl))) n
      ∙ ap (λ (k : ℕ). within fr.level (fr.loops + 1) fr.cells (noted s (there k) (state tb fr' fl))) i
      ∙ ap (within fr.level (fr.loops + 1) fr.cells) (noted_real tb.key s (there e) fr' fl h')
      ∙ ap (λ (k : ℕ). within fr.level k fr.cells (state tb fr' (slotted (set fl.slots s (there e)) fl))) (add-one fr.loops)
      ∙ ap (λ (l : List ℕ). state tb (in_body j fr) (slotted l fl)) (ap (λ (l : List ℕ). set l s (there e)) u ∙ set-append_left front (there e ∷ []) s (there e) h)

  end_step : (s j e : ℕ) (fr : Frame) (fl : Flow) → fl.at ≡ e → j < length fl.slots
      → step tb n_for_end s 0 0 (state tb (in_body j fr) fl) ≡ state tb fr (slotted (set fl.slots j (there (suc e))) (wrote 9 0 (packed fr.loops 0 0) fl))
  unfolding step code_node is_use loop_node popped within with_open top below
  end_step s j e fr fl i h =
      let n : suc fr.loops - 1 ≡ fr.loops = omega arith in
      let v = packed fr.loops 0 0 in
      ap (λ (k : ℕ). noted j (there (fl.at + 1)) (popped (within fr.level k fr.cells (put 9 0 (packed k 0 0) (state tb (in_body j fr) fl))))) n
      ∙ ap (λ (st : State). noted j (there (fl.at + 1)) (popped (within fr.level fr.loops fr.cells st))) (put_real tb.key 9 0 v (in_body j fr) fl)
      ∙ ap (λ (k : ℕ). noted j (there k) (state tb fr (wrote 9 0 v fl))) (add-one fl.at ∙ ap suc i)
      ∙ noted_real tb.key j (there (suc e)) fr (wrote 9 0 v fl) h

-- ---- the whole

next_word : (n m : ℕ) → n ≡ m → m < 64 → packed n 0 0 ≡ pack m 0 0
next_word n m e h = omega arith

module _ {tb : Tables} {R : Type 0} {wl wb : List ℕ} {us us' : List Use} {b i e v : ℕ} {A B E : List ℕ → List ℕ} {C : ℕ → ℕ → List Instruction → List Instruction} {D : List Instruction → List Instruction} where
  -- the elements, which end at i, and the body
  loop_passed : (gs : List Scope) (x : Name) (d q m : ℕ) (us₀ : List Use) {fr : Frame} {fl : Flow} → fr.loops ≡ m → fl.uses ≡ used gs x ∷ us₀ → fl.at ≡ b
      → cell_of tb.values tb.layout tb.ahead tb.entries fr.level (kind_of (meaning gs x)) (means_of tb.key (meaning gs x)) ≡ v
      → (t : Turned tb R (length fl.slots) v (tb.place x.symbol) b fr wl us i A C (for_flow tb us₀ fl))
      → let l = do_slots tb (length fl.slots) i t.front in
      (y : Passed tb R (in_body (length l) fr) (in_body (length l) fr) wb us' e B E D (slotted (l ++ (there i ∷ [])) t.next))
      → Passed tb R fr fr (node n_for x.symbol d 0 ++ (wl ++ (mark n_do 0 ++ (wb ++ mark n_for_end q)))) us' (suc e) (λ k. there i ∷ A (there (suc e) ∷ B k)) E (λ r. C i (suc e) (D (NEXT m ∷ r))) fl
  loop_passed gs x d q m us₀ {fr} {fl} ml u a ev t y =
      let s = length fl.slots in
      let l = do_slots tb s i t.front in
      let h : s < length t.front = omega (arith, longer t.fills, length-append fl.slots (0 ∷ [])) in
      let h' : length l < length y.next.slots = omega (arith, longer y.fills, length-append l (there i ∷ [])) in
      let filled : Fills fl.slots l (λ k. there i ∷ A k) = refill 0 (there i) t.fills in
      record {
        next = slotted (set y.next.slots (length l) (there (suc e))) (wrote 9 0 (packed fr.loops 0 0) y.next);
        goes =
            goes_then (goes_node n_for x.symbol d 0 (for_step tb x.symbol d v b fr fl gs x us₀ u a ev))
            (goes_then t.goes
            (goes_then (goes_node n_do 0 0 0 (do_step tb s v (tb.place x.symbol) i i t.front fr t.next t.slots t.at h))
            (goes_then y.goes (goes_node n_for_end q 0 0 (end_step tb q (length l) e fr y.next y.at h')))));
        uses = y.uses;
        at = ap suc y.at;
        fills = then_slots filled (refill (there i) (there (suc e)) y.fills);
        enters = y.enters ∙ ap E t.enters;
        right = λ z k r f c.
            let k₁ : List ℕ = there (suc e) ∷ B k in
            let at_body = slot_read tb.ahead fl.slots (A k₁) (there i) f in
            let p₁ = t.right z i (suc e) (B k) (D (NEXT m ∷ r)) at_body (slot_past tb.ahead fl.slots (A k₁) 0 (there i) f) c in
            let f₂ = slots_past tb.ahead k₁ filled f in
            let p₂ = y.right z k (NEXT m ∷ r) (slot_past tb.ahead l (B k) (there i) (there (suc e)) f₂) p₁.1 in
            (wrote_right (NEXT m) 9 0 (packed fr.loops 0 0) y.next.code r refl (next_word fr.loops m ml p₂.1.0) ∙ p₂.0 ∙ p₁.0, p₂.1.1);
      }

module _ (tb : Tables) (R : Type 0) (g : List Around) (right : R → Targets tb.key tb.entries g) (known : Known tb.key tb.layout g) (m n : ℕ) where
  pub loop_part : (x : Name) (l : Element) (ls : List Element) (s : Statement) (d b : ℕ) → OkW (scopes g) x → OkL (scopes g) (l ∷ ls) → ToldL (Numbered tb) (Pointed tb) (Marked tb) (Moded tb) (scopes g) (l ∷ ls)
      → let i = end_l (scopes g) x (l ∷ ls) b in
      EmitsBehind tb n R g 0 (suc m) (nodes_s (d + 1) s) (uses_s (scopes g) s) i (end_s (scopes g) s i) (ahead_s tb.place (word_in tb.key tb.layout) g s i) (entered_s (scopes g) s i) (code_s tb.place g (suc m) s i)
      → EmitsBehind tb n R g 0 m (nodes_s d (repeat x l ls s)) (uses_s (scopes g) (repeat x l ls s)) b (end_s (scopes g) (repeat x l ls s) b) (ahead_s tb.place (word_in tb.key tb.layout) g (repeat x l ls s) b) (entered_s (scopes g) (repeat x l ls s) b) (code_s tb.place g m (repeat x l ls s) b)
  unfolding nodes_s uses_s end_s ahead_s entered_s code_s
  loop_part x l ls s d b ok ok' told body =
      record {
        pass = λ us fr fl w u a c.
            let i = end_l (scopes g) x (l ∷ ls) b in
            let v = word_at tb g fr.level x in
            let ul = uses_l (scopes g) (l ∷ ls) in
            let ub = uses_s (scopes g) s in
            let us₀ : List Use = (ul ++ ub) ++ us in
            let t = elements_turned tb R g right known m x (length fl.slots) v (seeks_is tb g fr.level x) (worded tb g known x fr.level w.level ok) l ls d b ok' told (ub ++ us) fr (for_flow tb us₀ fl) w (append_assoc ul ub us) a in
            let l' = do_slots tb (length fl.slots) i t.front in
            let y = body.pass us (in_body (length l') fr) (slotted (l' ++ (there i ∷ [])) t.next) (record { level = w.level; loops = ap suc w.loops; lefts = w.lefts; awaits = w.awaits }) t.uses t.at (ap length t.enters ∙ c) in
            passed_words (nodes_s d (repeat x l ls s))
            (ap (λ (z : List ℕ). node n_for x.symbol d 0 ++ z) (append_assoc (nodes_l d l) (nodes_ls d ls) (mark n_do 0 ++ (nodes_s (d + 1) s ++ mark n_for_end (x.symbol - 1)))))
            (loop_passed (scopes g) x d (x.symbol - 1) m us₀ w.loops u a refl t y);
      }
