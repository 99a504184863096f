-- Blocks and procedures in the pass that writes code: a block's slot tells where it opens, behind its procedures, and the first of these jumps there; a
-- procedure notes where it begins, by the number of its declaration. Assumes nothing.
use Prim.Native.Nat.{ℕ, suc, ◌+◌, ◌-◌, ◌<◌}
use native.Mathlib.Omega.{arith}
use native.Mathlib.Numerals.{add-one}
use mathlib.Core.Path.{◌≡◌, refl, sym, ap, ◌∙◌}
use mathlib.Core.Bool.{Bool, true, false}
use mathlib.Core.List.{List, [], ◌∷◌, ◌++◌}
use mathlib.Core.Option.{some}
use lib.ListN.{length, get_or, set, length-append}
use Rattle.machine.specs.Data.{unlinked, Counted}
use Rattle.machine.specs.Instructions.{Instruction, JUMP, ENTER, LEAVE, RETURN, pack, pack_counted}
use Rattle.grammar.specs.NodeKinds.{n_block, n_statements, n_block_end, n_type, n_variable, n_procedure, n_formal, n_value, n_specified, n_body, n_procedure_end}
use Rattle.names.specs.Program.{Name, Specification}
use Rattle.names.specs.Nodes.{node, mark, sort_number, nodes_n, nodes_sp}
use Rattle.names.specs.model.Rows.{is_use}
use Rattle.names.specs.Uses.{Use}
use Rattle.translation.specs.model.Translate.{Around, end_jump, code_jump}
use Rattle.machine.specs.model.Words.{Parts, CodeFits, words}
use Rattle.emitting.specs.model.Layout.{packed, counts_for}
use Rattle.emitting.specs.model.Emission.{opened, State, with_open, with_variable, nameless, within, with_cell, noted, pushed, popped, replaced, top, below, ahead_at, opening, block_node, skipped, proceeding, procedure_node, plain_node, code_node}
use Rattle.translating.proofs.SlotLists.{Fills, no_slot, longer, then_slots, refill, slot_read, slot_past, slots_past, there}
use Rattle.translating.proofs.EntryTables.{blanks, blanks_many}
use Rattle.translating.proofs.Written.{Tables, Frame, Flow, with_opens, wrote, slotted, varied, with_entries, put_real, slot_real, noted_real, cell_real, entry_real, put_all, wrote_all, puts_real, past, Same, wrote_all_lem, fits_apart, step, run, state, Goes, Passed, Emits, EmitsBehind, wrote_right, goes_node, goes_then, ◌and_then◌, ◌followed_by◌, behind_any, behind_then, passed_nothing, emits_all}
use Rattle.translating.proofs.WrittenChoices.{address}
use Rattle.translating.proofs.WrittenNames.{parts}

-- a frame within a block: its slot, the cells noted, the cells so far
abbrev pub in_block : ℕ → ℕ → ℕ → Frame → Frame
in_block s t c fr = record { level = fr.level; loops = fr.loops; cells = c; lefts = fr.lefts; awaits = fr.awaits; opens = opened s 0 t fr.cells ∷ fr.opens }

abbrev pub with_cells : ℕ → Frame → Frame
with_cells c fr = record { level = fr.level; loops = fr.loops; cells = c; lefts = fr.lefts; awaits = fr.awaits; opens = fr.opens }

-- a frame within a procedure
abbrev pub in_procedure : Frame → Frame
in_procedure fr = record { level = suc fr.level; loops = 0; cells = fr.cells; lefts = fr.lefts; awaits = fr.awaits; opens = opened fr.loops 0 0 0 ∷ fr.opens }

module _ (tb : Tables) where
  -- ---- the nodes of a block

  abbrev pub block_flow : Flow → Flow
  block_flow fl = slotted (fl.slots ++ (0 ∷ [])) (varied 0 fl)

  block_step : (q : ℕ) (fr : Frame) (fl : Flow) → step tb n_block q 0 0 (state tb fr fl) ≡ state tb (in_block (length fl.slots) (length fl.entries) 0 fr) (block_flow fl)
  unfolding step code_node is_use block_node pushed within with_open nameless with_variable
  block_step q fr fl =
      ap (within fr.level fr.loops 0) (slot_real tb.key (with_opens (opened (length fl.slots) 0 (length fl.entries) fr.cells ∷ fr.opens) fr) (varied 0 fl))

  -- behind the declarations, of which the first has the number n: the counts of its cells
  abbrev pub opened_flow : ℕ → ℕ → ℕ → ℕ → Flow → Flow
  opened_flow q s n e fl = slotted (set fl.slots s (there e)) (wrote 3 (tb.place q) (counts_for tb.rows n) fl)

  statements_step : (q s n c e : ℕ) (fr : Frame) (fl : Flow) → fl.at ≡ e → s < length fl.slots
      → step tb n_statements q 0 0 (state tb (in_block s n c fr) fl) ≡ state tb (in_block s c c fr) (opened_flow q s n e fl)
  unfolding step code_node is_use block_node opening replaced with_open top below
  statements_step q s n c e fr fl i h =
      let v = counts_for tb.rows n in
      ap (λ (st : State). noted s (there fl.at) (replaced s 0 c fr.cells st)) (put_real tb.key 3 (tb.place q) v (in_block s n c fr) fl)
      ∙ ap (λ (k : ℕ). noted s (there k) (state tb (in_block s c c fr) (wrote 3 (tb.place q) v fl))) i
      ∙ noted_real tb.key s (there e) (in_block s c c fr) (wrote 3 (tb.place q) v fl) h

  end_step : (q s t c : ℕ) (fr : Frame) (fl : Flow) → step tb n_block_end q 0 0 (state tb (in_block s t c fr) fl) ≡ state tb fr (wrote 4 0 (packed 0 t 0) fl)
  unfolding step code_node is_use block_node popped within with_open top below
  end_step q s t c fr fl = ap (λ (st : State). within fr.level fr.loops fr.cells (popped st)) (put_real tb.key 4 0 (packed 0 t 0) (in_block s t c fr) fl)

  -- ---- the nodes of a procedure

  -- j: none of the block's stood before, so that a jump leads to the block's opening; its slot is s
  abbrev jump_parts : Bool → ℕ → List Parts
  jump_parts true s = parts 2 0 (there (get_or tb.ahead s 0)) ∷ []
  jump_parts false s = []

  abbrev pub flag : Bool → ℕ
  flag true = 0
  flag false = 1

  skipped_puts : (j : Bool) (s : ℕ) (fr : Frame) (fl : Flow) → (top fr.opens).first ≡ s → fl.variable ≡ flag j
      → skipped tb.values tb.layout tb.ahead tb.entries (top fr.opens) (state tb fr fl) ≡ put_all (jump_parts j s) (state tb fr fl)
  unfolding skipped ahead_at
  skipped_puts true s fr fl o e = rw (e, o)
  skipped_puts false s fr fl o e = rw e

  proceeding_real : (b : ℕ) (fr : Frame) (fl : Flow) → fl.at ≡ b
      → proceeding tb.values tb.layout tb.ahead tb.entries (state tb fr fl) ≡ state tb (in_procedure fr) (with_entries (fl.entries ++ (b ∷ [])) fl)
  unfolding proceeding pushed within with_open
  proceeding_real b fr fl i =
      ap (λ (st : State). within (fr.level + 1) 0 fr.cells (pushed fr.loops 0 0 0 st)) (entry_real tb.key fr fl)
      ∙ ap (λ (k : ℕ). within (fr.level + 1) 0 fr.cells (pushed fr.loops 0 0 0 (state tb fr (with_entries (fl.entries ++ (k ∷ [])) fl)))) i
      ∙ ap (λ (k : ℕ). within k 0 fr.cells (pushed fr.loops 0 0 0 (state tb fr (with_entries (fl.entries ++ (b ∷ [])) fl)))) (add-one fr.level)

  -- the flow where its body begins, at b
  abbrev pub entry_flow : Bool → ℕ → ℕ → Flow → Flow
  entry_flow j s b fl = with_entries ((wrote_all (jump_parts j s) fl).entries ++ (b ∷ [])) (wrote_all (jump_parts j s) fl)

  procedure_step : (j : Bool) (f s b : ℕ) (fr : Frame) (fl : Flow) → (top fr.opens).first ≡ s → fl.variable ≡ flag j → (wrote_all (jump_parts j s) fl).at ≡ b
      → step tb n_procedure f 0 0 (state tb fr fl) ≡ state tb (in_procedure fr) (entry_flow j s b fl)
  unfolding step code_node is_use procedure_node
  procedure_step j f s b fr fl o e i =
      ap (proceeding tb.values tb.layout tb.ahead tb.entries) (skipped_puts j s fr fl o e ∙ puts_real tb.key (jump_parts j s) fr fl)
      ∙ proceeding_real b fr (wrote_all (jump_parts j s) fl) i

  return_step : (f : ℕ) (fr : Frame) (fl : Flow) → step tb n_procedure_end f 0 0 (state tb (in_procedure fr) fl) ≡ state tb fr (varied 1 (wrote 7 0 0 fl))
  unfolding step code_node is_use procedure_node popped within with_open with_variable top below
  return_step f fr fl =
      let n : suc fr.level - 1 ≡ fr.level = omega arith in
      ap (λ (st : State). with_variable fr.awaits 1 (within (suc fr.level - 1) fr.loops fr.cells (popped st))) (put_real tb.key 7 0 0 (in_procedure fr) fl)
      ∙ ap (λ (k : ℕ). with_variable fr.awaits 1 (within k fr.loops fr.cells (popped (state tb (in_procedure fr) (wrote 7 0 0 fl))))) n

  -- ---- nodes of declarations

  variable_step : (s : ℕ) (fr : Frame) (fl : Flow) → step tb n_variable s 0 0 (state tb fr fl) ≡ state tb (with_cells (suc fr.cells) fr) (with_entries (fl.entries ++ (0 ∷ [])) fl)
  unfolding step code_node is_use plain_node within
  variable_step s fr fl = ap (λ (k : ℕ). with_cell (state tb (with_cells k fr) fl)) (add-one fr.cells) ∙ cell_real tb.key (with_cells (suc fr.cells) fr) fl

  formal_step : (s : ℕ) (fr : Frame) (fl : Flow) → step tb n_formal s 0 0 (state tb fr fl) ≡ state tb fr (with_entries (fl.entries ++ (0 ∷ [])) fl)
  unfolding step code_node is_use plain_node
  formal_step s fr fl = cell_real tb.key fr fl

  abbrev Idle : ℕ → Type 0
  Idle k = (s a : ℕ) (fr : Frame) (fl : Flow) → step tb k s a 0 (state tb fr fl) ≡ state tb fr fl

  type_idle : Idle n_type
  unfolding step code_node is_use plain_node
  type_idle s a fr fl = refl

  value_idle : Idle n_value
  unfolding step code_node is_use plain_node
  value_idle s a fr fl = refl

  specified_idle : Idle n_specified
  unfolding step code_node is_use plain_node
  specified_idle s a fr fl = refl

  body_idle : Idle n_body
  unfolding step code_node is_use plain_node
  body_idle s a fr fl = refl

-- ---- nodes that only stand there, and variables

-- the cells behind some variables
abbrev pub cells_behind : ℕ → List Name → ℕ
cells_behind c [] = c
cells_behind c (x ∷ xs) = cells_behind (suc c) xs

module _ (tb : Tables) where
  variables_go : (xs : List Name) (fr : Frame) (fl : Flow) → Goes tb (nodes_n n_variable xs) (state tb fr fl) (state tb (with_cells (cells_behind fr.cells xs) fr) (with_entries (blanks xs fl.entries) fl))
  unfolding nodes_n
  variables_go [] fr fl = record { so = λ rest. refl }
  variables_go (x ∷ xs) fr fl =
      goes_then (goes_node n_variable x.symbol 0 0 (variable_step tb x.symbol fr fl)) (variables_go xs (with_cells (suc fr.cells) fr) (with_entries (fl.entries ++ (0 ∷ [])) fl))

module _ {tb : Tables} {R : Type 0} where
  -- a node that declares
  declaring_passed : (k s : ℕ) {us : List Use} {b : ℕ} {fr fr' : Frame} {fl : Flow} → step tb k s 0 0 (state tb fr fl) ≡ state tb fr' (with_entries (fl.entries ++ (0 ∷ [])) fl)
      → fl.uses ≡ us → fl.at ≡ b → Passed tb R fr fr' (mark k s) us b (λ k. k) (λ t. t ++ (0 ∷ [])) (λ r. r) fl
  declaring_passed k s {fl = fl} e u i =
      record { next = with_entries (fl.entries ++ (0 ∷ [])) fl; goes = goes_node k s 0 0 e; uses = u; at = i; fills = no_slot; enters = refl; right = λ w k r d c. (refl, c) }

  formals_passed : (xs : List Name) {us : List Use} {b : ℕ} (fr : Frame) (fl : Flow) → fl.uses ≡ us → fl.at ≡ b
      → Passed tb R fr fr (nodes_n n_formal xs) us b (λ k. k) (λ t. blanks xs t) (λ r. r) fl
  unfolding nodes_n
  formals_passed [] fr fl u i = passed_nothing u i
  formals_passed (x ∷ xs) {us} {b} fr fl u i =
      let p : Passed tb R fr fr (mark n_formal x.symbol) us b (λ k. k) (λ t. t ++ (0 ∷ [])) (λ r. r) fl = declaring_passed n_formal x.symbol (formal_step tb x.symbol fr fl) u i in
      p and_then (formals_passed xs fr p.next p.uses p.at)

  -- a declaration of variables, which leaves what is known of procedures
  pub declared_passed : (a : ℕ) (xs : List Name) {us : List Use} {b : ℕ} (fr : Frame) (fl : Flow) → fl.uses ≡ us → fl.at ≡ b
      → (x : Passed tb R fr (with_cells (cells_behind fr.cells xs) fr) (node n_type 0 a 0 ++ nodes_n n_variable xs) us b (λ k. k) (λ t. blanks xs t) (λ r. r) fl) × (x.next.variable ≡ fl.variable)
  declared_passed a xs fr fl u i = (
    record {
      next = with_entries (blanks xs fl.entries) fl;
      goes = goes_then (goes_node n_type 0 a 0 (type_idle tb 0 a fr fl)) (variables_go tb xs fr fl);
      uses = u;
      at = i;
      fills = no_slot;
      enters = refl;
      right = λ w k r d c. (refl, c);
    },
    refl,
  )

  module _ {g : List Around} {h m b : ℕ} where
    idle_part : (k s a : ℕ) → Idle tb k → Emits tb R g h m (node k s a 0) [] b b (λ k. k) (λ t. t) (λ r. r)
    idle_part k s a f = emits_all (λ fl. fl.variable) [] [] k s a 0 (f s a) (λ z c. tt)

    pub nothing_part : Emits tb R g h m [] [] b b (λ k. k) (λ t. t) (λ r. r)
    nothing_part = record { pass = λ us fr fl w u i. passed_nothing u i }

    names_part : (k : ℕ) (xs : List Name) → Idle tb k → Emits tb R g h m (nodes_n k xs) [] b b (λ k. k) (λ t. t) (λ r. r)
    unfolding nodes_n
    names_part k [] f = nothing_part
    names_part k (x ∷ xs) f = idle_part k x.symbol 0 f followed_by names_part k xs f

    specifications_part : (ss : List Specification) → Emits tb R g h m (nodes_sp ss) [] b b (λ k. k) (λ t. t) (λ r. r)
    unfolding nodes_sp
    specifications_part [] = nothing_part
    specifications_part (s ∷ ss) =
        idle_part n_type 0 (sort_number (some s.sort)) (type_idle tb) followed_by (names_part n_specified s.names (specified_idle tb) followed_by specifications_part ss)

    -- what stands between the name of a procedure and its body's code
    formals_part : (xs : List Name) → Emits tb R g h m (nodes_n n_formal xs) [] b b (λ k. k) (λ t. blanks xs t) (λ r. r)
    formals_part xs = record { pass = λ us fr fl w u i. formals_passed xs fr fl u i }

    pub heading_part : (n f : ℕ) (xs vs : List Name) (ss : List Specification) {ws : List ℕ} {us : List Use} {e : ℕ} {A E : List ℕ → List ℕ} {C : List Instruction → List Instruction}
        → EmitsBehind tb (n + length xs) R g h m ws us b e A E C
        → EmitsBehind tb n R g h m (nodes_n n_formal xs ++ (nodes_n n_value vs ++ (nodes_sp ss ++ (mark n_body f ++ ws)))) us b e A (λ t. E (blanks xs t)) C
    heading_part n f xs vs ss y =
        behind_then (λ l e. blanks_many xs l ∙ ap (λ (k : ℕ). k + length xs) e) (behind_any (formals_part xs))
        (behind_then (λ l e. e) (behind_any (names_part n_value vs (value_idle tb)))
        (behind_then (λ l e. e) (behind_any (specifications_part ss)) (behind_then (λ l e. e) (behind_any (idle_part n_body f 0 (body_idle tb))) y)))

-- ---- a procedure

module _ (tb : Tables) where
  abbrev jump_instrs : Bool → ℕ → List Instruction
  jump_instrs true i = JUMP i ∷ []
  jump_instrs false i = []

  jump_code : (j : Bool) (i : ℕ) (r : List Instruction) → jump_instrs j i ++ r ≡ code_jump tb.place j i r
  unfolding code_jump
  jump_code true i r = refl
  jump_code false i r = refl

  jump_past : (j : Bool) (s b : ℕ) → past (jump_parts tb j s) b ≡ end_jump j b
  unfolding end_jump
  jump_past true s b = refl
  jump_past false s b = refl

  jump_same : (j : Bool) (s i : ℕ) → get_or tb.ahead s 0 ≡ there i → CodeFits (jump_instrs j i) → Same (jump_parts tb j s) (jump_instrs j i)
  jump_same true s i e c = (ap (parts 2 0) (address _ i e c.0), tt)
  jump_same false s i e c = tt

  -- what is right of the tables within a block's declarations: its slot s tells that it opens at i
  abbrev pub Opens : Type 0 → ℕ → ℕ → Type 0
  Opens R s i = R × (get_or tb.ahead s 0 ≡ there i)

  -- where a procedure begins
  pub begins_at : (j : Bool) (s b : ℕ) (fl : Flow) → fl.at ≡ b → (wrote_all (jump_parts tb j s) fl).at ≡ end_jump j b
  begins_at j s b fl i = (wrote_all_lem (jump_parts tb j s) b fl i).at ∙ jump_past j s b

  -- what stands there
  pub entry_uses : (j : Bool) (s b : ℕ) (fl : Flow) → (entry_flow tb j s b fl).uses ≡ fl.uses
  entry_uses j s b fl = (wrote_all_lem (jump_parts tb j s) fl.at fl refl).uses

  pub entry_many : (j : Bool) (s b n : ℕ) (fl : Flow) → length fl.entries ≡ n → length (entry_flow tb j s b fl).entries ≡ n + 1
  entry_many j s b n fl e =
      let k = wrote_all_lem (jump_parts tb j s) fl.at fl refl in
      let l = (wrote_all (jump_parts tb j s) fl).entries in
      omega (arith, length-append l (b ∷ []), ap length k.entries)

module _ {tb : Tables} {R : Type 0} {ws : List ℕ} {us : List Use} {e : ℕ} {A E : List ℕ → List ℕ} {C : List Instruction → List Instruction} where
  pub procedure_passed : (j : Bool) (a f s i b : ℕ) (ws' : List ℕ) {fr : Frame} {fl : Flow} → node n_type 0 a 0 ++ (mark n_procedure f ++ (ws ++ mark n_procedure_end f)) ≡ ws'
      → (top fr.opens).first ≡ s → fl.variable ≡ flag tb j → fl.at ≡ b
      → (y : Passed tb R (in_procedure fr) (in_procedure fr) ws us e A E C (entry_flow tb j s (end_jump j b) fl))
      → (x : Passed tb (Opens tb R s i) fr fr ws' us (suc e) A (λ l. E (l ++ (end_jump j b ∷ []))) (λ r. code_jump tb.place j i (C (RETURN unlinked ∷ r))) fl) × (x.next.variable ≡ 1)
  procedure_passed j a f s i b ws' {fr} {fl} same o v h y =
      let k = wrote_all_lem (jump_parts tb j s) b fl h in
      let on =
      goes_then (goes_node n_type 0 a 0 (type_idle tb 0 a fr fl))
      (goes_then (goes_node n_procedure f 0 0 (procedure_step tb j f s (end_jump j b) fr fl o v (begins_at tb j s b fl h)))
      (goes_then y.goes (goes_node n_procedure_end f 0 0 (return_step tb f fr y.next)))) in (
        record {
          next = varied 1 (wrote 7 0 0 y.next);
          goes = record { so = λ rest. ap (λ (l : List ℕ). run tb (l ++ rest) (state tb fr fl)) (sym same) ∙ on.so rest };
          uses = y.uses;
          at = ap suc y.at;
          fills = rw k.slots at y.fills;
          enters = y.enters ∙ ap (λ (l : List ℕ). E (l ++ (end_jump j b ∷ []))) k.entries;
          right = λ z m r d c.
              let t = jump_code tb j i (C (RETURN unlinked ∷ r)) in
              let f = fits_apart (jump_instrs tb j i) (C (RETURN unlinked ∷ r)) (rw t c) in
              let p = y.right z.0 m (RETURN unlinked ∷ r) (rw k.slots d) f.1 in (
                wrote_right (RETURN unlinked) 7 0 0 y.next.code r refl refl
                    ∙ p.0
                    ∙ k.code (jump_instrs tb j i) (C (RETURN unlinked ∷ r)) (jump_same tb j s i z.1 f.0)
                    ∙ ap (λ (l : List Instruction). fl.code ++ words l) t,
                p.1.1,
              );
        },
        refl,
      )

-- ---- a block

leave_word : (c n : ℕ) → c ≡ n → n < 8192 → packed 0 c 0 ≡ pack 0 n 0
leave_word c n e h = omega arith

module _ {tb : Tables} {R : Type 0} {wd ws : List ℕ} {us us' : List Use} {c i e : ℕ} {A B E E' : List ℕ → List ℕ} {C D : List Instruction → List Instruction} where
  -- declarations with c cells, which is n, and the counts m of them; statements
  pub block_passed : (q n : ℕ) (m : Counted) {fr : Frame} {fl : Flow} → c ≡ n → counts_for tb.rows (length fl.entries) ≡ pack_counted m
      → (y : Passed tb (Opens tb R (length fl.slots) i) (in_block (length fl.slots) (length fl.entries) 0 fr) (in_block (length fl.slots) (length fl.entries) c fr) wd us i A E C (block_flow tb fl))
      → (z : Passed tb R (in_block (length fl.slots) c c fr) (in_block (length fl.slots) c c fr) ws us' e B E' D (opened_flow tb q (length fl.slots) (length fl.entries) i y.next))
      → Passed tb R fr fr (mark n_block q ++ (wd ++ (mark n_statements q ++ (ws ++ mark n_block_end q)))) us' (suc e) (λ k. there i ∷ A (B k)) (λ l. E' (E l)) (λ r. C (ENTER (tb.place q) m ∷ D (LEAVE n ∷ r))) fl
  block_passed q n m {fr} {fl} cn cm y z =
      let s = length fl.slots in
      let h : s < length y.next.slots = omega (arith, longer y.fills, length-append fl.slots (0 ∷ [])) in
      let filled : Fills fl.slots (set y.next.slots s (there i)) (λ k. there i ∷ A k) = refill 0 (there i) y.fills in
      record {
        next = wrote 4 0 (packed 0 c 0) z.next;
        goes =
            goes_then (goes_node n_block q 0 0 (block_step tb q fr fl))
            (goes_then y.goes
            (goes_then (goes_node n_statements q 0 0 (statements_step tb q s (length fl.entries) c i fr y.next y.at h)) (goes_then z.goes (goes_node n_block_end q 0 0 (end_step tb q s c c fr z.next)))));
        uses = z.uses;
        at = ap suc z.at;
        fills = then_slots filled z.fills;
        enters = z.enters ∙ ap E' y.enters;
        right = λ w k r f g.
            let v = slot_read tb.ahead fl.slots (A (B k)) (there i) f in
            let p₁ = y.right (w, v) (B k) (ENTER (tb.place q) m ∷ D (LEAVE n ∷ r)) (slot_past tb.ahead fl.slots (A (B k)) 0 (there i) f) g in
            let p₂ = z.right w k (LEAVE n ∷ r) (slots_past tb.ahead (B k) filled f) p₁.1.1 in (
              wrote_right (LEAVE n) 4 0 (packed 0 c 0) z.next.code r refl (leave_word c n cn p₂.1.0)
                  ∙ p₂.0
                  ∙ wrote_right (ENTER (tb.place q) m) 3 (tb.place q) _ y.next.code (D (LEAVE n ∷ r)) refl cm
                  ∙ p₁.0,
              p₂.1.1,
            );
      }
