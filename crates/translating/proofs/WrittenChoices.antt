-- Conditions in the pass that writes code: the test goes on at a slot that is filled where the other part begins, or where the choice ends. Both kinds
-- of choice, of expressions and of statements, by one law each. A part of an expression becomes a real where the mark of its 'if' says so.
use Prim.Native.Nat.{ℕ, suc, ◌+◌, ◌<◌}
use native.Mathlib.Omega.{arith}
use native.Mathlib.Numerals.{add-one}
use mathlib.Core.Path.{◌≡◌, refl, ap, ◌∙◌}
use mathlib.Core.Bool.{Bool, true, false}
use mathlib.Core.List.{List, [], ◌∷◌, ◌++◌, append_assoc}
use lib.Dec.{eqb}
use lib.ListN.{length, get_or, set, length-append, length-set}
use lib.Seq.{set-append_left}
use Rattle.reals.specs.declared.Form.TheVariants.{Reals}
use Rattle.machine.specs.Data.{turn, condition}
use Rattle.machine.specs.Instructions.{Instruction, DO, IF, JUMP, pack}
use Rattle.grammar.specs.NodeKinds.{n_then, n_else, n_if_end, n_condition_end}
use Rattle.names.specs.Nodes.{mark}
use Rattle.names.specs.model.Rows.{is_use}
use Rattle.names.specs.Uses.{Use}
use Rattle.translation.specs.model.Translate.{Around, end_wide, code_wide}
use Rattle.machine.specs.model.Words.{Parts, CodeFits, words}
use Rattle.emitting.specs.model.Emission.{Opened, opened, State, mark_at, with_open, with_slot, noted, pushed, popped, replaced, top, below, nameless, with_variable, ahead_at, widened, otherwise, joined, choice_node, code_node}
use Rattle.translating.proofs.SlotLists.{Fills, longer, then_slots, refill, slot_read, slot_past, slots_past, there}
use Rattle.translating.proofs.Written.{Tables, Frame, Flow, with_opens, wrote, slotted, varied, put_real, slot_real, noted_real, put_all, wrote_all, puts_real, past, Same, wrote_all_lem, step, state, Passed, Fits, Emits, EmitsBehind, wrote_right, goes_node, goes_then}
use Rattle.translating.proofs.WrittenNames.{parts}

-- an address that a table has
pub address : (v n : ℕ) → v ≡ there n → n < 8192 → there v ≡ pack 0 0 n
address v n e h = omega arith

-- a frame with something opened is a frame of the same scopes
pub fits_open : {tb : Tables} {g : List Around} {h m : ℕ} {fr : Frame} (l : List Opened) → Fits tb g h m fr → Fits tb g h m (with_opens l fr)
fits_open l w = record { level = w.level; loops = w.loops; lefts = w.lefts; awaits = w.awaits }

-- ---- a part ends, which becomes a real or does not

abbrev wide_parts : Bool → List Parts
wide_parts true = parts 50 0 1 ∷ []
wide_parts false = []

abbrev wide_instrs : Bool → List Instruction
wide_instrs true = DO (turn 0 Reals) ∷ []
wide_instrs false = []

abbrev wide_flow : Bool → Flow → Flow
wide_flow u fl = wrote_all (wide_parts u) fl

wide_code : (u : Bool) (r : List Instruction) → wide_instrs u ++ r ≡ code_wide u r
unfolding code_wide
wide_code true r = refl
wide_code false r = refl

wide_past : (u : Bool) (e : ℕ) → past (wide_parts u) e ≡ end_wide u e
unfolding end_wide
wide_past true e = refl
wide_past false e = refl

wide_same : (u : Bool) → Same (wide_parts u) (wide_instrs u)
wide_same true = (refl, tt)
wide_same false = tt

wide_rest : (u : Bool) (r : List Instruction) → CodeFits (code_wide u r) → CodeFits r
unfolding code_wide
wide_rest true r c = c.1
wide_rest false r c = c

-- what is then so of the flow behind the part, which ends at e
record Widened (u : Bool) (e : ℕ) (fl : Flow) : Type 0 where
  pub uses : (wide_flow u fl).uses ≡ fl.uses
  pub at : (wide_flow u fl).at ≡ end_wide u e
  pub slots : (wide_flow u fl).slots ≡ fl.slots
  pub entries : (wide_flow u fl).entries ≡ fl.entries
  pub code : (r : List Instruction) → (wide_flow u fl).code ++ words r ≡ fl.code ++ words (code_wide u r)

wide : (u : Bool) (e : ℕ) (fl : Flow) → fl.at ≡ e → Widened u e fl
wide u e fl i =
    let k = wrote_all_lem (wide_parts u) e fl i in
    record {
      uses = k.uses;
      at = k.at ∙ wide_past u e;
      slots = k.slots;
      entries = k.entries;
      code = λ r. k.code (wide_instrs u) r (wide_same u) ∙ ap (λ (l : List Instruction). fl.code ++ words l) (wide_code u r);
    }

module _ (tb : Tables) where
  -- ---- the nodes; w: the mark of the 'if'

  abbrev then_flow : Flow → Flow
  then_flow fl = slotted (fl.slots ++ (0 ∷ [])) (wrote 10 0 (there (get_or tb.ahead (length fl.slots) 0)) fl)

  then_step : (q w : ℕ) (fr : Frame) (fl : Flow) → mark_at tb.marks q ≡ w
      → step tb n_then q 0 0 (state tb fr fl) ≡ state tb (with_opens (opened (length fl.slots) w 0 0 ∷ fr.opens) fr) (then_flow fl)
  unfolding step code_node is_use choice_node ahead_at pushed with_open
  then_step q w fr fl e =
      let v = there (get_or tb.ahead (length fl.slots) 0) in
      ap (λ (st : State). with_slot (pushed (length fl.slots) (mark_at tb.marks q) 0 0 st)) (put_real tb.key 10 0 v fr fl)
      ∙ ap (λ (w : ℕ). with_slot (pushed (length fl.slots) w 0 0 (state tb fr (wrote 10 0 v fl)))) e
      ∙ slot_real tb.key (with_opens (opened (length fl.slots) w 0 0 ∷ fr.opens) fr) (wrote 10 0 v fl)

  widened_puts : (i a w : ℕ) (u : Bool) (st : State) → eqb w i ≡ u → widened tb.values tb.layout tb.ahead tb.entries i (opened a w 0 0) st ≡ put_all (wide_parts u) st
  unfolding widened
  widened_puts i a w true st e = rw e
  widened_puts i a w false st e = rw e

  abbrev else_slots : ℕ → ℕ → Flow → List ℕ
  else_slots i n fl = set fl.slots i (there (suc n))

  abbrev else_flow : ℕ → ℕ → Flow → Flow
  else_flow i n fl = slotted (else_slots i n fl ++ (0 ∷ [])) (wrote 2 0 (there (get_or tb.ahead (length (else_slots i n fl)) 0)) fl)

  otherwise_real : (i w n : ℕ) (os : List Opened) (fr : Frame) (fl : Flow) → i < length fl.slots → fl.at ≡ n
      → otherwise tb.values tb.layout tb.ahead tb.entries (opened i w 0 0) (state tb (with_opens (opened i w 0 0 ∷ os) fr) fl)
      ≡ state tb (with_opens (opened (length (else_slots i n fl)) w 0 0 ∷ os) fr) (else_flow i n fl)
  unfolding otherwise ahead_at replaced below with_open
  otherwise_real i w n os fr fl h e =
      let S = fl.slots in
      let v = there (get_or tb.ahead (length S) 0) in
      let fr' = with_opens (opened (length S) w 0 0 ∷ os) fr in
      let h' : i < length (S ++ (0 ∷ [])) = omega (arith, length-append S (0 ∷ [])) in
      let j : fl.at + 1 ≡ suc n = add-one fl.at ∙ ap suc e in
      ap (λ (st : State). noted i (there (fl.at + 1)) (with_slot (replaced (length S) w 0 0 st))) (put_real tb.key 2 0 v (with_opens (opened i w 0 0 ∷ os) fr) fl)
      ∙ ap (noted i (there (fl.at + 1))) (slot_real tb.key fr' (wrote 2 0 v fl))
      ∙ ap (λ (u : ℕ). noted i (there u) (state tb fr' (slotted (S ++ (0 ∷ [])) (wrote 2 0 v fl)))) j
      ∙ noted_real tb.key i (there (suc n)) fr' (slotted (S ++ (0 ∷ [])) (wrote 2 0 v fl)) h'
      ∙ rw (set-append_left S (0 ∷ []) i (there (suc n)) h, length-set S i (there (suc n)))

  else_step : (i w n : ℕ) (u : Bool) (os : List Opened) (fr : Frame) (fl : Flow) → eqb w 1 ≡ u → i < length (wide_flow u fl).slots → (wide_flow u fl).at ≡ n
      → step tb n_else 0 0 0 (state tb (with_opens (opened i w 0 0 ∷ os) fr) fl)
      ≡ state tb (with_opens (opened (length (else_slots i n (wide_flow u fl))) w 0 0 ∷ os) fr) (else_flow i n (wide_flow u fl))
  unfolding step code_node is_use choice_node top
  else_step i w n u os fr fl m h e =
      let fr' = with_opens (opened i w 0 0 ∷ os) fr in
      ap (otherwise tb.values tb.layout tb.ahead tb.entries (opened i w 0 0)) (widened_puts 1 i w u (state tb fr' fl) m ∙ puts_real tb.key (wide_parts u) fr' fl)
      ∙ otherwise_real i w n os fr (wide_flow u fl) h e

  -- the end of a choice, of expressions or of statements
  abbrev pub closing : Bool → ℕ
  closing true = n_condition_end
  closing false = n_if_end

  joined_real : (i w n : ℕ) (os : List Opened) (fr : Frame) (fl : Flow) → i < length fl.slots → fl.at ≡ n
      → joined tb.values tb.layout tb.ahead tb.entries (opened i w 0 0) (state tb (with_opens (opened i w 0 0 ∷ os) fr) fl)
      ≡ state tb (with_opens os fr) (varied 0 (slotted (set fl.slots i (there n)) fl))
  unfolding joined popped below with_open nameless with_variable
  joined_real i w n os fr fl h e =
      ap (λ (u : ℕ). nameless (noted i (there u) (state tb (with_opens os fr) fl))) e ∙ ap nameless (noted_real tb.key i (there n) (with_opens os fr) fl h)

  end_step : (t : Bool) (q i w n : ℕ) (v : Bool) (os : List Opened) (fr : Frame) (fl : Flow) → eqb w 2 ≡ v → i < length (wide_flow v fl).slots → (wide_flow v fl).at ≡ n
      → step tb (closing t) q 0 0 (state tb (with_opens (opened i w 0 0 ∷ os) fr) fl)
      ≡ state tb (with_opens os fr) (varied 0 (slotted (set (wide_flow v fl).slots i (there n)) (wide_flow v fl)))
  unfolding step code_node is_use choice_node top
  end_step true q i w n v os fr fl m h e =
      let fr' = with_opens (opened i w 0 0 ∷ os) fr in
      ap (joined tb.values tb.layout tb.ahead tb.entries (opened i w 0 0)) (widened_puts 2 i w v (state tb fr' fl) m ∙ puts_real tb.key (wide_parts v) fr' fl)
      ∙ joined_real i w n os fr (wide_flow v fl) h e
  end_step false q i w n v os fr fl m h e =
      let fr' = with_opens (opened i w 0 0 ∷ os) fr in
      ap (joined tb.values tb.layout tb.ahead tb.entries (opened i w 0 0)) (widened_puts 2 i w v (state tb fr' fl) m ∙ puts_real tb.key (wide_parts v) fr' fl)
      ∙ joined_real i w n os fr (wide_flow v fl) h e

-- the mark of an 'if' that is one number of 16 bits
pub mark_is : (tb : Tables) (q w : ℕ) → get_or tb.marks q 0 ≡ w → w < 65536 → mark_at tb.marks q ≡ w
mark_is tb q w e h = omega arith

-- ---- a choice with one part only: a statement's

-- a frame with a slot held open, and a mark
abbrev held_open : ℕ → ℕ → Frame → Frame
held_open i w fr = with_opens (opened i w 0 0 ∷ fr.opens) fr

module _ {tb : Tables} {R : Type 0} {wc we : List ℕ} {us us' : List Use} {c e : ℕ} {Ac Ae Ec Ee : List ℕ → List ℕ} {Cc Ce : List Instruction → List Instruction} where
  one_way_passed : (q r : ℕ) → mark_at tb.marks q ≡ 0 → {fr : Frame} {fl : Flow} (p : Passed tb R fr fr wc us c Ac Ec Cc fl)
      (s : Passed tb R (held_open (length p.next.slots) 0 fr) (held_open (length p.next.slots) 0 fr) we us' e Ae Ee Ce (then_flow tb p.next))
      → Passed tb R fr fr (wc ++ (mark n_then q ++ (we ++ mark n_if_end r))) us' e (λ k. Ac (there e ∷ Ae k)) (λ l. Ee (Ec l)) (λ r. Cc (IF condition e ∷ Ce r)) fl
  one_way_passed q r m {fr} {fl} p s =
      let i = length p.next.slots in
      let j : i < length s.next.slots = omega (arith, longer s.fills, length-append p.next.slots (0 ∷ [])) in
      record {
        next = varied 0 (slotted (set s.next.slots i (there e)) s.next);
        goes =
            goes_then p.goes
            (goes_then (goes_node n_then q 0 0 (then_step tb q 0 fr p.next m))
            (goes_then s.goes (goes_node n_if_end r 0 0 (end_step tb false r i 0 e false fr.opens fr s.next refl j s.at))));
        uses = s.uses;
        at = s.at;
        fills = then_slots p.fills (refill 0 (there e) s.fills);
        enters = s.enters ∙ ap Ee p.enters;
        right = λ z k r d f.
            let p₁ = p.right z (there e ∷ Ae k) (IF condition e ∷ Ce r) d f in
            let d₁ = slots_past tb.ahead (there e ∷ Ae k) p.fills d in
            let l = slot_read tb.ahead p.next.slots (Ae k) (there e) d₁ in
            let p₂ = s.right z k r (slot_past tb.ahead p.next.slots (Ae k) 0 (there e) d₁) p₁.1.1 in
            (p₂.0 ∙ wrote_right (IF condition e) 10 0 _ p.next.code (Ce r) refl (address _ e l p₁.1.0.1) ∙ p₁.0, p₂.1);
      }

module _ {tb : Tables} {R : Type 0} {g : List Around} {h m n : ℕ} where
  -- a condition that is an expression, which declares nothing; behind n declarations
  pub one_way : (q r : ℕ) → mark_at tb.marks q ≡ 0 → {wc we : List ℕ} {vc ve : List Use} {b c e : ℕ} {Ac Ae Ee : List ℕ → List ℕ} {Cc Ce : List Instruction → List Instruction}
      → Emits tb R g h m wc vc b c Ac (λ t. t) Cc → EmitsBehind tb n R g h m we ve (suc c) e Ae Ee Ce
      → EmitsBehind tb n R g h m (wc ++ (mark n_then q ++ (we ++ mark n_if_end r))) (vc ++ ve) b e (λ k. Ac (there e ∷ Ae k)) Ee (λ r. Cc (IF condition e ∷ Ce r))
  one_way q r o {vc = vc} {ve = ve} x y =
      record {
        pass = λ us fr fl w u a l.
            let p = x.pass (ve ++ us) fr fl w (u ∙ append_assoc vc ve us) a in
            one_way_passed q r o p (y.pass us _ (then_flow tb p.next) (fits_open (opened (length p.next.slots) 0 0 0 ∷ fr.opens) w) p.uses (ap suc p.at) (ap length p.enters ∙ l));
      }

-- ---- a choice with both parts

module _ {tb : Tables} {R : Type 0} {wc we wf : List ℕ} {us us' us'' : List Use} {c n₀ e₀ : ℕ} {Ac Ae Af Ec Ee Ef : List ℕ → List ℕ} {Cc Ce Cf : List Instruction → List Instruction} where
  two_way_passed : (t : Bool) (q r w : ℕ) (u v : Bool) → mark_at tb.marks q ≡ w → eqb w 1 ≡ u → eqb w 2 ≡ v → {fr : Frame} {fl : Flow} (p : Passed tb R fr fr wc us c Ac Ec Cc fl)
      (s : Passed tb R (held_open (length p.next.slots) w fr) (held_open (length p.next.slots) w fr) we us' n₀ Ae Ee Ce (then_flow tb p.next))
      → let n = end_wide u n₀ in
      let e = end_wide v e₀ in
      let fl₁ = wide_flow u s.next in
      let l = else_slots tb (length p.next.slots) n fl₁ in
      (z : Passed tb R (held_open (length l) w fr) (held_open (length l) w fr) wf us'' e₀ Af Ef Cf (else_flow tb (length p.next.slots) n fl₁))
      → Passed tb R fr fr (wc ++ (mark n_then q ++ (we ++ (mark n_else 0 ++ (wf ++ mark (closing tb t) r))))) us'' e (λ k. Ac (there (suc n) ∷ Ae (there e ∷ Af k))) (λ l. Ef (Ee (Ec l))) (λ r. Cc (IF condition (suc n) ∷ Ce (code_wide u (JUMP e ∷ Cf (code_wide v r))))) fl
  two_way_passed t q r w u v m m₁ m₂ {fr} {fl} p s z =
      let n = end_wide u n₀ in
      let e = end_wide v e₀ in
      let i = length p.next.slots in
      let s₁ = wide u n₀ s.next s.at in
      let fl₁ = wide_flow u s.next in
      let l = else_slots tb i n fl₁ in
      let z₁ = wide v e₀ z.next z.at in
      let fl₂ = wide_flow v z.next in
      let j : i < length fl₁.slots = omega (arith, ap length s₁.slots, longer s.fills, length-append p.next.slots (0 ∷ [])) in
      let j' : length l < length fl₂.slots = omega (arith, ap length z₁.slots, longer z.fills, length-append l (0 ∷ [])) in
      let filled : Fills p.next.slots l (λ k. there (suc n) ∷ Ae k) = refill 0 (there (suc n)) (slots_as s₁.slots s.fills) in
      record {
        next = varied 0 (slotted (set fl₂.slots (length l) (there e)) fl₂);
        goes =
            goes_then p.goes
            (goes_then (goes_node n_then q 0 0 (then_step tb q w fr p.next m))
            (goes_then s.goes
            (goes_then (goes_node n_else 0 0 0 (else_step tb i w n u fr.opens fr s.next m₁ j s₁.at))
            (goes_then z.goes (goes_node (closing tb t) r 0 0 (end_step tb t r (length l) w e v fr.opens fr z.next m₂ j' z₁.at))))));
        uses = z₁.uses ∙ z.uses;
        at = z₁.at;
        fills = then_slots p.fills (then_slots filled (refill 0 (there e) (slots_as z₁.slots z.fills)));
        enters = z₁.entries ∙ z.enters ∙ ap Ef (s₁.entries ∙ s.enters ∙ ap Ee p.enters);
        right = λ y k r d f.
            let k₁ : List ℕ = there e ∷ Af k in
            let r₁ : List Instruction = JUMP e ∷ Cf (code_wide v r) in
            let p₁ = p.right y (there (suc n) ∷ Ae k₁) (IF condition (suc n) ∷ Ce (code_wide u r₁)) d f in
            let d₁ = slots_past tb.ahead (there (suc n) ∷ Ae k₁) p.fills d in
            let l₁ = slot_read tb.ahead p.next.slots (Ae k₁) (there (suc n)) d₁ in
            let p₂ = s.right y k₁ (code_wide u r₁) (slot_past tb.ahead p.next.slots (Ae k₁) 0 (there (suc n)) d₁) p₁.1.1 in
            let c₂ = wide_rest u r₁ p₂.1 in
            let d₂ = slots_past tb.ahead k₁ filled d₁ in
            let l₂ = slot_read tb.ahead l (Af k) (there e) d₂ in
            let p₃ = z.right y k (code_wide v r) (slot_past tb.ahead l (Af k) 0 (there e) d₂) c₂.1 in (
              z₁.code r
                  ∙ p₃.0
                  ∙ wrote_right (JUMP e) 2 0 _ fl₁.code (Cf (code_wide v r)) refl (address _ e l₂ c₂.0)
                  ∙ s₁.code r₁
                  ∙ p₂.0
                  ∙ wrote_right (IF condition (suc n)) 10 0 _ p.next.code (Ce (code_wide u r₁)) refl (address _ (suc n) l₁ p₁.1.0.1)
                  ∙ p₁.0,
              wide_rest v r p₃.1,
            );
      }
    where
      -- slots that are the same
      slots_as : {S T T' : List ℕ} {A : List ℕ → List ℕ} → T' ≡ T → Fills S T A → Fills S T' A
      slots_as {S} {T} {T'} {A} e x = record { so = λ k. ap (λ (l : List ℕ). l ++ k) e ∙ x.so k }

-- of expressions: u of the 'then' part, v of the 'else' part
module _ {tb : Tables} {R : Type 0} {g : List Around} {h m : ℕ} where
  pub two_way : (q r w : ℕ) (u v : Bool) → mark_at tb.marks q ≡ w → eqb w 1 ≡ u → eqb w 2 ≡ v → {wc we wf : List ℕ} {vc ve vf : List Use} {b c n₀ e₀ : ℕ} {Ac Ae Af Ec Ee Ef : List ℕ → List ℕ} {Cc Ce Cf : List Instruction → List Instruction}
      → let n = end_wide u n₀ in
      let e = end_wide v e₀ in
      Emits tb R g h m wc vc b c Ac Ec Cc → Emits tb R g h m we ve (suc c) n₀ Ae Ee Ce → Emits tb R g h m wf vf (suc n) e₀ Af Ef Cf
      → Emits tb R g h m (wc ++ (mark n_then q ++ (we ++ (mark n_else 0 ++ (wf ++ mark n_condition_end r))))) (vc ++ (ve ++ vf)) b e (λ k. Ac (there (suc n) ∷ Ae (there e ∷ Af k))) (λ l. Ef (Ee (Ec l))) (λ r. Cc (IF condition (suc n) ∷ Ce (code_wide u (JUMP e ∷ Cf (code_wide v r)))))
  two_way q r o u v i₀ i₁ i₂ {vc = vc} {ve = ve} {vf = vf} {n₀ = n₀} x y z =
      record {
        pass = λ us fr fl w a b.
            let p = x.pass ((ve ++ vf) ++ us) fr fl w (a ∙ append_assoc vc (ve ++ vf) us) b in
            let i = length p.next.slots in
            let s = y.pass (vf ++ us) _ (then_flow tb p.next) (fits_open (opened i o 0 0 ∷ fr.opens) w) (p.uses ∙ append_assoc ve vf us) (ap suc p.at) in
            let s₁ = wide u n₀ s.next s.at in
            let fl₁ = wide_flow u s.next in
            let l = else_slots tb i (end_wide u n₀) fl₁ in
            two_way_passed true q r o u v i₀ i₁ i₂ p s (z.pass us _ (else_flow tb i (end_wide u n₀) fl₁) (fits_open (opened (length l) o 0 0 ∷ fr.opens) w) (s₁.uses ∙ s.uses) (ap suc s₁.at));
      }

-- of statements, behind n declarations and then behind n'
module _ {tb : Tables} {R : Type 0} {g : List Around} {h m n n' : ℕ} where
  pub either_way : (q r : ℕ) → mark_at tb.marks q ≡ 0 → {wc we wf : List ℕ} {vc ve vf : List Use} {b c i e : ℕ} {Ac Ae Af Ee Ef : List ℕ → List ℕ} {Cc Ce Cf : List Instruction → List Instruction}
      → ((l : List ℕ) → length l ≡ n → length (Ee l) ≡ n')
      → Emits tb R g h m wc vc b c Ac (λ t. t) Cc → EmitsBehind tb n R g h m we ve (suc c) i Ae Ee Ce → EmitsBehind tb n' R g h m wf vf (suc i) e Af Ef Cf
      → EmitsBehind tb n R g h m (wc ++ (mark n_then q ++ (we ++ (mark n_else 0 ++ (wf ++ mark n_if_end r))))) (vc ++ (ve ++ vf)) b e (λ k. Ac (there (suc i) ∷ Ae (there e ∷ Af k))) (λ l. Ef (Ee l)) (λ r. Cc (IF condition (suc i) ∷ Ce (JUMP e ∷ Cf r)))
  unfolding end_wide code_wide
  either_way q r o {vc = vc} {ve = ve} {vf = vf} {i = i} f x y z =
      record {
        pass = λ us fr fl w u a l.
            let p = x.pass ((ve ++ vf) ++ us) fr fl w (u ∙ append_assoc vc (ve ++ vf) us) a in
            let j = length p.next.slots in
            let c = ap length p.enters ∙ l in
            let s = y.pass (vf ++ us) _ (then_flow tb p.next) (fits_open (opened j 0 0 0 ∷ fr.opens) w) (p.uses ∙ append_assoc ve vf us) (ap suc p.at) c in
            let k = else_slots tb j i s.next in
            two_way_passed false q r 0 false false o refl refl p s
            (z.pass us _ (else_flow tb j i s.next) (fits_open (opened (length k) 0 0 0 ∷ fr.opens) w) s.uses (ap suc s.at) (ap length s.enters ∙ f p.next.entries c));
      }
