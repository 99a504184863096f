-- What some nodes do in the pass that writes code: the state is what is around a part, its frame, and what goes through it, its flow. Parts that follow
-- one another are passed one after the other; if the tables tell what lies ahead, the words written are those of the part's code.
use Prim.Native.Nat.{ℕ, suc, ◌+◌, ◌*◌, ◌<◌}
use native.Mathlib.Omega.{arith}
use native.Mathlib.Numerals.{add-one}
use mathlib.Core.Path.{◌≡◌, refl, sym, ap, ◌∙◌}
use mathlib.Core.Bool.{true}
use mathlib.Core.List.{List, [], ◌∷◌, ◌++◌, append_assoc}
use lib.ListN.{length, drop, set, length-append, length-set}
use Rattle.machine.specs.Instructions.{Instruction}
use Rattle.names.specs.Nodes.{node}
use Rattle.names.specs.model.Rows.{fold_nodes, is_use}
use Rattle.names.specs.Scopes.{Thing, variable, routine, formal, by_name, Scope, Meaning, declared, given, nothing, meaning}
use Rattle.names.specs.Uses.{Use, used}
use Rattle.names.specs.Program.{Name}
use Rattle.translation.specs.model.Translate.{Around}
use Rattle.machine.specs.model.Words.{Parts, parts_of, first_word, words, CodeFits}
use Rattle.emitting.specs.model.Emission.{Used, Opened, State, put, with_slot, noted, with_uses, with_cell, with_entry, kind_next, means_next, others_next, use_node, code_node}
use Rattle.translating.proofs.Shown.{shown, shown_next, shown_set, shown_zero, shown_two}
use Rattle.translating.proofs.SlotLists.{Fills, no_slot, then_slots, slots_past}
use Rattle.translation.proofs.Ranges.{owns}

-- what the pass is told: the places of symbols, which have 16 bits, and the declarations' numbers by their names' symbols; of symbols their values, of
-- declarations how they lie, of slots what lies ahead, of procedures where they begin; the rows; the marks of symbols
pub record Tables : Type 0 where
  pub place : ℕ → ℕ
  pub key : ℕ → ℕ
  pub values : List ℕ
  pub layout : List ℕ
  pub ahead : List ℕ
  pub entries : List ℕ
  pub rows : List ℕ
  pub marks : List ℕ
  pub small : (q : ℕ) → place q < 65536

-- what is around a part
pub record Frame : Type 0 where
  pub level : ℕ
  pub loops : ℕ
  pub cells : ℕ
  pub lefts : ℕ
  pub awaits : ℕ
  pub opens : List Opened

-- what goes through it: the uses to come, the address, the word of the last node where that was a name, the words so far, the slots so far, and the
-- entries so far: a word for each declaration, which of a procedure is where it begins
pub record Flow : Type 0 where
  pub uses : List Use
  pub at : ℕ
  pub variable : ℕ
  pub code : List ℕ
  pub slots : List ℕ
  pub entries : List ℕ
  pub long : length code ≡ 2 * at

-- ---- uses, as the pass has them

abbrev pub use_kind : Thing → ℕ
use_kind (variable t) = 1
use_kind (routine p) = 2
use_kind (formal t) = 3
use_kind (by_name t) = 4

abbrev pub kind_of : Meaning → ℕ
kind_of (declared d g) = use_kind d.thing
kind_of (given n e) = 0
kind_of nothing = 0

abbrev pub means_of : (ℕ → ℕ) → Meaning → ℕ
means_of key (declared d g) = key d.name.symbol
means_of key (given n e) = n
means_of key nothing = 0

abbrev pub used_for : (ℕ → ℕ) → Meaning → Used
used_for key m = record { kind = kind_of m; means = means_of key m }

unfoldable pub uses_as : (ℕ → ℕ) → List Use → List Used
uses_as key [] = []
uses_as key (u ∷ us) = used_for key (meaning u.around u.name) ∷ uses_as key us

-- ---- the state

abbrev pub real : (ℕ → ℕ) → Frame → Flow → State
real key fr fl =
    record { uses = uses_as key fl.uses; at = fl.at; slots = length fl.slots; level = fr.level; loops = fr.loops; cells = fr.cells; lefts = fr.lefts; awaits = fr.awaits; variable = fl.variable; declared = length fl.entries; open_ones = fr.opens; code = shown 16384 fl.code; ahead = shown 8192 fl.slots; entries = shown 2048 fl.entries }

abbrev pub with_opens : List Opened → Frame → Frame
with_opens l fr = record { level = fr.level; loops = fr.loops; cells = fr.cells; lefts = fr.lefts; awaits = fr.awaits; opens = l }

-- an instruction more
pub wrote_long : (c : List ℕ) (b w v : ℕ) → length c ≡ 2 * b → length (c ++ (w ∷ v ∷ [])) ≡ 2 * suc b
wrote_long c b w v h = omega (arith, length-append c (w ∷ v ∷ []))

abbrev pub wrote : ℕ → ℕ → ℕ → Flow → Flow
wrote o p v fl =
    record { uses = fl.uses; at = suc fl.at; variable = fl.variable; code = fl.code ++ ((o + 64 * p) ∷ v ∷ []); slots = fl.slots; entries = fl.entries; long = wrote_long fl.code fl.at (o + 64 * p) v fl.long }

-- other slots, other uses
abbrev pub slotted : List ℕ → Flow → Flow
slotted l fl =
    record { uses = fl.uses; at = fl.at; variable = fl.variable; code = fl.code; slots = l; entries = fl.entries; long = fl.long }

abbrev pub taken : List Use → Flow → Flow
taken us fl =
    record { uses = us; at = fl.at; variable = fl.variable; code = fl.code; slots = fl.slots; entries = fl.entries; long = fl.long }

abbrev pub varied : ℕ → Flow → Flow
varied v fl = record { uses = fl.uses; at = fl.at; variable = v; code = fl.code; slots = fl.slots; entries = fl.entries; long = fl.long }

-- other entries
abbrev pub with_entries : List ℕ → Flow → Flow
with_entries l fl = record { uses = fl.uses; at = fl.at; variable = fl.variable; code = fl.code; slots = fl.slots; entries = l; long = fl.long }

pub put_real : (key : ℕ → ℕ) (o p v : ℕ) (fr : Frame) (fl : Flow) → put o p v (real key fr fl) ≡ real key fr (wrote o p v fl)
unfolding put
put_real key o p v fr fl = rw (shown_two 16384 fl.at fl.code (o + 64 * p) v fl.long, add-one fl.at)

pub slot_real : (key : ℕ → ℕ) (fr : Frame) (fl : Flow) → with_slot (real key fr fl) ≡ real key fr (slotted (fl.slots ++ (0 ∷ [])) fl)
unfolding with_slot
slot_real key fr fl = rw (← shown_zero 8192 fl.slots, length-append fl.slots (0 ∷ []))

pub noted_real : (key : ℕ → ℕ) (i v : ℕ) (fr : Frame) (fl : Flow) → i < length fl.slots
    → noted i v (real key fr fl) ≡ real key fr (slotted (set fl.slots i v) fl)
unfolding noted
noted_real key i v fr fl h = rw (shown_set 8192 fl.slots i v h, length-set fl.slots i v)

pub cell_real : (key : ℕ → ℕ) (fr : Frame) (fl : Flow) → with_cell (real key fr fl) ≡ real key fr (with_entries (fl.entries ++ (0 ∷ [])) fl)
unfolding with_cell
cell_real key fr fl = rw (← shown_zero 2048 fl.entries, length-append fl.entries (0 ∷ []))

pub entry_real : (key : ℕ → ℕ) (fr : Frame) (fl : Flow) → with_entry (real key fr fl) ≡ real key fr (with_entries (fl.entries ++ (fl.at ∷ [])) fl)
unfolding with_entry
entry_real key fr fl = rw (shown_next 2048 fl.entries fl.at, length-append fl.entries (fl.at ∷ []))

-- ---- the pass

module _ (tb : Tables) where
  unfoldable pub step : ℕ → ℕ → ℕ → ℕ → State → State
  step k s a b st = code_node tb.values tb.layout tb.ahead tb.entries tb.rows tb.marks k s (tb.place s) a b st

  abbrev pub run : List ℕ → State → State
  run = fold_nodes step

  abbrev pub state : Frame → Flow → State
  state = real tb.key

  pub record Goes (ws : List ℕ) (s t : State) : Type 0 where
    pub so : (rest : List ℕ) → run (ws ++ rest) s ≡ run rest t

  -- ---- what some nodes do: in the frame fr, which becomes fr'; us: the uses behind; e: the address behind; A: what lies ahead in front of what lies
  -- ahead behind; E: the entries; C: their code in front of what follows; R: what must be right of the tables

  pub record Passed (R : Type 0) (fr fr' : Frame) (ws : List ℕ) (us : List Use) (e : ℕ) (A E : List ℕ → List ℕ) (C : List Instruction → List Instruction) (fl : Flow) : Type 0 where
    pub next : Flow
    pub goes : Goes ws (state fr fl) (state fr' next)
    pub uses : next.uses ≡ us
    pub at : next.at ≡ e
    pub fills : Fills fl.slots next.slots A
    pub enters : next.entries ≡ E fl.entries
    pub right : R → (k : List ℕ) (r : List Instruction) → drop (length fl.slots) tb.ahead ≡ A k → CodeFits (C r) → (next.code ++ words r ≡ fl.code ++ words (C r)) × CodeFits r

  -- a frame in the scopes g, with h left parts before and m for statements around
  pub record Fits (g : List Around) (h m : ℕ) (fr : Frame) : Type 0 where
    pub level : fr.level ≡ owns g
    pub loops : fr.loops ≡ m
    pub lefts : fr.lefts ≡ h
    pub awaits : fr.awaits ≡ 0

  -- a part with its uses, from the address b to e, wherever it stands
  pub record Emits (R : Type 0) (g : List Around) (h m : ℕ) (ws : List ℕ) (vs : List Use) (b e : ℕ) (A E : List ℕ → List ℕ) (C : List Instruction → List Instruction) : Type 0 where
    pub pass : (us : List Use) (fr : Frame) (fl : Flow) → Fits g h m fr → fl.uses ≡ vs ++ us → fl.at ≡ b → Passed R fr fr ws us e A E C fl

  -- the same where n declarations and formals stand before
  pub record EmitsBehind (n : ℕ) (R : Type 0) (g : List Around) (h m : ℕ) (ws : List ℕ) (vs : List Use) (b e : ℕ) (A E : List ℕ → List ℕ) (C : List Instruction → List Instruction) : Type 0 where
    pub pass : (us : List Use) (fr : Frame) (fl : Flow) → Fits g h m fr → fl.uses ≡ vs ++ us → fl.at ≡ b → length fl.entries ≡ n → Passed R fr fr ws us e A E C fl

-- the words of an instruction, behind others
pub wrote_right : (i : Instruction) (o p v : ℕ) (c : List ℕ) (r : List Instruction) → o + 64 * p ≡ first_word (parts_of i) → v ≡ (parts_of i).operand
    → (c ++ ((o + 64 * p) ∷ v ∷ [])) ++ words r ≡ c ++ words (i ∷ r)
unfolding words
wrote_right i o p v c r e e' = rw (e, e') (append_assoc c (first_word (parts_of i) ∷ (parts_of i).operand ∷ []) (words r))

-- ---- nodes one by one

module _ {tb : Tables} where
  pub goes_node : (k s a b : ℕ) {st st' : State} → step tb k s a b st ≡ st' → Goes tb (node k s a b) st st'
  unfolding fold_nodes
  goes_node k s a b e = record { so = λ rest. ap (run tb rest) e }

  pub goes_then : {ws ws' : List ℕ} {s t u : State} → Goes tb ws s t → Goes tb ws' t u → Goes tb (ws ++ ws') s u
  goes_then {ws} {ws'} {s} x y = record { so = λ rest. ap (λ (l : List ℕ). run tb l s) (append_assoc ws ws' rest) ∙ x.so (ws' ++ rest) ∙ y.so rest }

  pub goes_to : {ws : List ℕ} {s t u : State} → Goes tb ws s t → t ≡ u → Goes tb ws s u
  goes_to x e = record { so = λ rest. x.so rest ∙ ap (run tb rest) e }

  -- ---- one after the other

  infixr 20 ◌and_then◌
  pub ◌and_then◌ : {R : Type 0} {fr fr₁ fr₂ : Frame} {ws ws' : List ℕ} {us us' : List Use} {e e' : ℕ} {A A' E E' : List ℕ → List ℕ} {C C' : List Instruction → List Instruction} {fl : Flow}
      (x : Passed tb R fr fr₁ ws us e A E C fl) → Passed tb R fr₁ fr₂ ws' us' e' A' E' C' x.next
      → Passed tb R fr fr₂ (ws ++ ws') us' e' (λ k. A (A' k)) (λ t. E' (E t)) (λ r. C (C' r)) fl
  ◌and_then◌ {A' = A'} {E' = E'} {C' = C'} x y =
      record {
        next = y.next;
        goes = goes_then x.goes y.goes;
        uses = y.uses;
        at = y.at;
        fills = then_slots x.fills y.fills;
        enters = y.enters ∙ ap E' x.enters;
        right = λ w k r d c.
            let p = x.right w (A' k) (C' r) d c in
            let q = y.right w k r (slots_past tb.ahead (A' k) x.fills d) p.1 in
            (q.0 ∙ p.0, q.1);
      }

  infixr 20 ◌followed_by◌
  pub ◌followed_by◌ : {R : Type 0} {g : List Around} {h m : ℕ} {ws ws' : List ℕ} {vs vs' : List Use} {b c e : ℕ} {A A' E E' : List ℕ → List ℕ} {C C' : List Instruction → List Instruction}
      → Emits tb R g h m ws vs b c A E C → Emits tb R g h m ws' vs' c e A' E' C'
      → Emits tb R g h m (ws ++ ws') (vs ++ vs') b e (λ k. A (A' k)) (λ t. E' (E t)) (λ r. C (C' r))
  ◌followed_by◌ {vs = vs} {vs' = vs'} x y =
      record {
        pass = λ us fr fl w u b.
            let p = x.pass (vs' ++ us) fr fl w (u ∙ append_assoc vs vs' us) b in
            p and_then (y.pass us fr p.next w p.uses p.at);
      }

  -- behind any number of declarations
  pub behind_any : {n : ℕ} {R : Type 0} {g : List Around} {h m : ℕ} {ws : List ℕ} {vs : List Use} {b e : ℕ} {A E : List ℕ → List ℕ} {C : List Instruction → List Instruction}
      → Emits tb R g h m ws vs b e A E C → EmitsBehind tb n R g h m ws vs b e A E C
  behind_any x = record { pass = λ us fr fl w u b l. x.pass us fr fl w u b }

  -- behind n, and then behind n'
  pub behind_then : {n n' : ℕ} {R : Type 0} {g : List Around} {h m : ℕ} {ws ws' : List ℕ} {vs vs' : List Use} {b c e : ℕ} {A A' E E' : List ℕ → List ℕ} {C C' : List Instruction → List Instruction}
      → ((l : List ℕ) → length l ≡ n → length (E l) ≡ n') → EmitsBehind tb n R g h m ws vs b c A E C → EmitsBehind tb n' R g h m ws' vs' c e A' E' C'
      → EmitsBehind tb n R g h m (ws ++ ws') (vs ++ vs') b e (λ k. A (A' k)) (λ t. E' (E t)) (λ r. C (C' r))
  behind_then {vs = vs} {vs' = vs'} f x y =
      record {
        pass = λ us fr fl w u b l.
            let p = x.pass (vs' ++ us) fr fl w (u ∙ append_assoc vs vs' us) b l in
            p and_then (y.pass us fr p.next w p.uses p.at (ap length p.enters ∙ f fl.entries l));
      }

  -- a last part with no use
  infixr 20 ◌closed_by◌
  pub ◌closed_by◌ : {R : Type 0} {g : List Around} {h m : ℕ} {ws ws' : List ℕ} {vs : List Use} {b c e : ℕ} {A A' E E' : List ℕ → List ℕ} {C C' : List Instruction → List Instruction}
      → Emits tb R g h m ws vs b c A E C → Emits tb R g h m ws' [] c e A' E' C'
      → Emits tb R g h m (ws ++ ws') vs b e (λ k. A (A' k)) (λ t. E' (E t)) (λ r. C (C' r))
  ◌closed_by◌ x y =
      record {
        pass = λ us fr fl w u b.
            let p = x.pass us fr fl w u b in
            p and_then (y.pass us fr p.next w p.uses p.at);
      }

  -- no node
  pub passed_nothing : {R : Type 0} {fr : Frame} {us : List Use} {e : ℕ} {fl : Flow} → fl.uses ≡ us → fl.at ≡ e → Passed tb R fr fr [] us e (λ k. k) (λ t. t) (λ r. r) fl
  passed_nothing {fl = fl} u i =
      record { next = fl; goes = record { so = λ rest. refl }; uses = u; at = i; fills = no_slot; enters = refl; right = λ w k r d c. (refl, c) }

-- ---- a node that writes instructions

abbrev pub put_all : List Parts → State → State
put_all [] st = st
put_all (p ∷ ps) st = put_all ps (put p.operation p.place p.operand st)

abbrev pub wrote_all : List Parts → Flow → Flow
wrote_all [] fl = fl
wrote_all (p ∷ ps) fl = wrote_all ps (wrote p.operation p.place p.operand fl)

pub puts_real : (key : ℕ → ℕ) (ps : List Parts) (fr : Frame) (fl : Flow) → put_all ps (real key fr fl) ≡ real key fr (wrote_all ps fl)
puts_real key [] fr fl = refl
puts_real key (p ∷ ps) fr fl = ap (put_all ps) (put_real key p.operation p.place p.operand fr fl) ∙ puts_real key ps fr (wrote p.operation p.place p.operand fl)

-- the address behind some instructions
abbrev pub past : List Parts → ℕ → ℕ
past [] e = e
past (p ∷ ps) e = past ps (suc e)

-- these are the instructions' parts
abbrev pub Same : List Parts → List Instruction → Type 0
Same [] [] = Unit {0}
Same [] (i ∷ is) = ⊥
Same (p ∷ ps) [] = ⊥
Same (p ∷ ps) (i ∷ is) = (p ≡ parts_of i) × Same ps is

-- what stays as it was
pub record Kept (ps : List Parts) (e : ℕ) (fl fl' : Flow) : Type 0 where
  pub uses : fl'.uses ≡ fl.uses
  pub at : fl'.at ≡ past ps e
  pub slots : fl'.slots ≡ fl.slots
  pub entries : fl'.entries ≡ fl.entries
  pub code : (is : List Instruction) (r : List Instruction) → Same ps is → fl'.code ++ words r ≡ fl.code ++ words (is ++ r)

pub wrote_all_lem : (ps : List Parts) (e : ℕ) (fl : Flow) → fl.at ≡ e → Kept ps e fl (wrote_all ps fl)
wrote_all_lem [] e fl i = record { uses = refl; at = i; slots = refl; entries = refl; code = none }
  where
    none : (is : List Instruction) (r : List Instruction) → Same [] is → fl.code ++ words r ≡ fl.code ++ words (is ++ r)
    none [] r s = refl
    none (i ∷ is) r s = absurd s
wrote_all_lem (p ∷ ps) e fl i =
    let w = wrote_all_lem ps (suc e) (wrote p.operation p.place p.operand fl) (ap suc i) in
    record { uses = w.uses; at = w.at; slots = w.slots; entries = w.entries; code = more w.code }
  where
    more : ((is : List Instruction) (r : List Instruction) → Same ps is → (wrote_all ps (wrote p.operation p.place p.operand fl)).code ++ words r ≡ (fl.code ++ (first_word p ∷ p.operand ∷ [])) ++ words (is ++ r))
        → (is : List Instruction) (r : List Instruction) → Same (p ∷ ps) is → (wrote_all ps (wrote p.operation p.place p.operand fl)).code ++ words r ≡ fl.code ++ words (is ++ r)
    more f [] r s = absurd s
    more f (i ∷ is) r s = f is r s.1 ∙ wrote_right i p.operation p.place p.operand fl.code (is ++ r) (ap first_word s.0) (ap (λ (p : Parts). p.operand) s.0)

pub fits_apart : (is r : List Instruction) → CodeFits (is ++ r) → CodeFits is × CodeFits r
fits_apart [] r h = (tt, h)
fits_apart (i ∷ is) r h =
    let w = fits_apart is r h.1 in
    ((h.0, w.0), w.1)

module _ {tb : Tables} where
  -- v: the word of the last node behind it
  pub passed_all : {R : Type 0} {fr fr' : Frame} {us : List Use} {e : ℕ} (v : ℕ) (is : List Instruction) (ps : List Parts) (k s a b : ℕ) {fl : Flow}
      → step tb k s a b (state tb fr fl) ≡ put_all ps (state tb fr' (varied v (taken us fl))) → fl.at ≡ e → (R → CodeFits is → Same ps is)
      → Passed tb R fr fr' (node k s a b) us (past ps e) (λ k. k) (λ t. t) (λ r. is ++ r) fl
  passed_all {fr' = fr'} {us = us} {e = e} v is ps k s a b {fl} i j h =
      let fl' = varied v (taken us fl) in
      let w = wrote_all_lem ps e fl' j in
      record {
        next = wrote_all ps fl';
        goes = goes_node k s a b (i ∙ puts_real tb.key ps fr' fl');
        uses = w.uses;
        at = w.at;
        fills = rw w.slots no_slot;
        enters = w.entries;
        right = λ z k r d c.
            let f = fits_apart is r c in
            (w.code is r (h z f.0), f.1);
      }

  -- the same address, the same code
  pub passed_as : {R : Type 0} {fr fr' : Frame} {ws : List ℕ} {us : List Use} {e : ℕ} {A E : List ℕ → List ℕ} {C : List Instruction → List Instruction} {fl : Flow} (e' : ℕ) (C' : List Instruction → List Instruction)
      → e ≡ e' → ((r : List Instruction) → C r ≡ C' r) → Passed tb R fr fr' ws us e A E C fl → Passed tb R fr fr' ws us e' A E C' fl
  passed_as {fl = fl} e' C' i f x =
      record {
        next = x.next;
        goes = x.goes;
        uses = x.uses;
        at = x.at ∙ i;
        fills = x.fills;
        enters = x.enters;
        right = λ z k r d c.
            let q = x.right z k r d (rw (f r) c) in
            (q.0 ∙ ap (λ (l : List Instruction). fl.code ++ words l) (f r), q.1);
      }

  -- the same nodes
  pub passed_words : {R : Type 0} {fr fr' : Frame} {ws : List ℕ} {us : List Use} {e : ℕ} {A E : List ℕ → List ℕ} {C : List Instruction → List Instruction} {fl : Flow} (ws' : List ℕ)
      → ws ≡ ws' → Passed tb R fr fr' ws us e A E C fl → Passed tb R fr fr' ws' us e A E C fl
  passed_words {fr = fr} {fl = fl} ws' i x =
      record {
        next = x.next;
        goes = record { so = λ rest. ap (λ (l : List ℕ). run tb (l ++ rest) (state tb fr fl)) (sym i) ∙ x.goes.so rest };
        uses = x.uses;
        at = x.at;
        fills = x.fills;
        enters = x.enters;
        right = x.right;
      }

  -- a node that writes nothing
  pub passed_idle : {R : Type 0} {fr fr' : Frame} {us : List Use} {e : ℕ} (k s a b : ℕ) {fl : Flow} → step tb k s a b (state tb fr fl) ≡ state tb fr' fl
      → fl.uses ≡ us → fl.at ≡ e → Passed tb R fr fr' (node k s a b) us e (λ k. k) (λ t. t) (λ r. r) fl
  passed_idle k s a b {fl} e u i =
      record { next = fl; goes = goes_node k s a b e; uses = u; at = i; fills = no_slot; enters = refl; right = λ w k r d c. (refl, c) }

  -- as a part
  pub emits_all : {R : Type 0} {g : List Around} {h m : ℕ} {b : ℕ} (word : Flow → ℕ) (is : List Instruction) (ps : List Parts) (k s a b' : ℕ)
      → ((fr : Frame) (fl : Flow) → step tb k s a b' (state tb fr fl) ≡ put_all ps (state tb fr (varied (word fl) fl))) → (R → CodeFits is → Same ps is)
      → Emits tb R g h m (node k s a b') [] b (past ps b) (λ k. k) (λ t. t) (λ r. is ++ r)
  emits_all word is ps k s a b' i h =
      record {
        pass = λ us fr fl w u j. passed_all (word fl) is ps k s a b' (i fr fl ∙ ap (λ (us : List Use). put_all ps (state tb fr (varied (word fl) (taken us fl)))) u) j h;
      }

-- ---- a use: its kind and what it means

module _ (tb : Tables) where
  pub use_step : (n s a b : ℕ) (fr : Frame) (fl : Flow) (gs : List Scope) (x : Name) (us : List Use) (k m : ℕ) → is_use n ≡ true
      → fl.uses ≡ used gs x ∷ us → kind_of (meaning gs x) ≡ k → means_of tb.key (meaning gs x) ≡ m
      → step tb n s a b (state tb fr fl) ≡ use_node tb.values tb.layout tb.ahead tb.entries tb.rows n k m b (tb.place s) a (state tb fr (taken us fl))
  unfolding step code_node with_uses kind_next means_next others_next uses_as
  use_step n s a b fr fl gs x us k m i u e e' = rw (i, u, e, e')
