-- The pass that writes code over the nodes of a statement or declaration: the words are those of its code if the tables tell what lies ahead of it and
-- where procedures begin; and such tables are what it leaves. One line a construct.
use Prim.Native.Nat.{ℕ, suc, ◌+◌}
use native.Mathlib.Omega.{arith}
use mathlib.Core.Path.{◌≡◌, refl, ap, ◌∙◌}
use mathlib.Core.Bool.{Bool, true, false, ◌&&◌}
use mathlib.Core.List.{List, [], ◌∷◌, ◌++◌, append_assoc}
use mathlib.Core.Option.{Option, some}
use lib.ListN.{length}
use Rattle.machine.specs.Instructions.{pack_counted}
use Rattle.names.specs.Program.{Name, Sort, Specification, Statement, dummy, assignment, procedure, when, either, repeat, compound, block, Statements, last, first, Declarations, none as no_more, variables, declare, Procedure, heading}
use Rattle.names.specs.Scopes.{of_block, in_block as declaredIn}
use Rattle.names.specs.Nodes.{sort_number, nodes_s, nodes_ss, nodes_d, nodes_p}
use Rattle.names.specs.Uses.{Use, uses_s, uses_ss, uses_d, uses_p}
use Rattle.rules.specs.Entered.{total, cells_in, counted}
use Rattle.translation.specs.model.Translate.{Around, a_block, a_body, scopes, reach, routines, end_jump, end_head, end_e, end_l, end_s, end_ss, end_ds, end_p, code_jump, code_s, code_ss, code_ds, code_p}
use Rattle.translation.specs.model.Scoped.{OkS, OkSs, OkDs, OkP}
use Rattle.emitting.specs.model.Layout.{counts_for}
use Rattle.emitting.specs.model.Emission.{top}
use Rattle.translating.proofs.ToldCalls.{ToldS, ToldSs, ToldDs, ToldP}
use Rattle.translating.proofs.Sites.{LaidS, LaidSs, LaidDs, LaidP}
use Rattle.translating.proofs.Counts.{many_s, many_ds, many_p, CountsS, CountsSs, CountsDs, CountsP}
use Rattle.translating.proofs.SlotLists.{ahead_s, ahead_ss, ahead_ds, ahead_p}
use Rattle.translating.proofs.EntryTables.{entered_s, entered_ss, entered_ds, entered_p, blanks_many, entered_s_many, entered_ds_many, entered_p_many, RightS, RightSs, RightDs, RightP, entry_is}
use Rattle.translating.proofs.NameWords.{Known, Targets}
use Rattle.translating.proofs.Written.{Tables, Frame, Flow, Passed, Fits, EmitsBehind, ◌and_then◌, behind_any, behind_then, passed_nothing}
use Rattle.translating.proofs.WrittenChoices.{mark_is, one_way, either_way}
use Rattle.translating.proofs.WrittenNames.{Numbered, Pointed, Moded}
use Rattle.translating.proofs.WrittenExpressions.{Marked, emits_e}
use Rattle.translating.proofs.ActualWords.{word_in}
use Rattle.translating.proofs.WrittenAssignments.{assignment_part}
use Rattle.translating.proofs.WrittenCommands.{command_part}
use Rattle.translating.proofs.WrittenLoops.{loop_part}
use Rattle.translating.proofs.WrittenBlocks.{in_block, with_cells, in_procedure, block_flow, opened_flow, flag, entry_flow, Opens, begins_at, entry_uses, entry_many, cells_behind, declared_passed, nothing_part, heading_part, procedure_passed, block_passed}
use Rattle.translation.proofs.Ranges.{owns, total_variables}

-- ---- the cells of declarations

abbrev cells_up : ℕ → Declarations → ℕ
cells_up c no_more = c
cells_up c (variables t xs ds) = cells_up (cells_behind c xs) ds
cells_up c (declare p ds) = cells_up c ds

behind_is : (c : ℕ) (xs : List Name) → cells_behind c xs ≡ c + length xs
behind_is c [] = omega arith
behind_is c (x ∷ xs) = omega (arith, behind_is (suc c) xs)

cells_up_lem : (c : ℕ) (ds : Declarations) → cells_up c ds ≡ c + total (declaredIn ds)
unfolding declaredIn total
cells_up_lem c no_more = omega arith
cells_up_lem c (variables t xs ds) = omega (arith, cells_up_lem (cells_behind c xs) ds, behind_is c xs, total_variables t xs (declaredIn ds))
cells_up_lem c (declare p ds) = omega (arith, cells_up_lem c ds)

-- ---- where the declarations behind the first procedure, and behind any other, begin

jumped_right : (j : Bool) (b : ℕ) (P : ℕ → Type 0) → P (end_jump (j && true) b) → P (end_jump j b)
jumped_right true b P h = h
jumped_right false b P h = h

further_right : (b : ℕ) (P : ℕ → Type 0) → P b → P (end_jump false b)
unfolding end_jump
further_right b P h = h

module _ (tb : Tables) where
  -- n: the declarations and formals before
  abbrev IsS : Type 0 → List Around → ℕ → Statement → ℕ → ℕ → ℕ → Type 0
  IsS R g m s d b n =
      EmitsBehind tb n R g 0 m (nodes_s d s) (uses_s (scopes g) s) b (end_s (scopes g) s b) (ahead_s tb.place (word_in tb.key tb.layout) g s b) (entered_s (scopes g) s b) (code_s tb.place g m s b)

  abbrev IsSs : Type 0 → List Around → ℕ → Statements → ℕ → ℕ → ℕ → Type 0
  IsSs R g m ss d b n =
      EmitsBehind tb n R g 0 m (nodes_ss d ss) (uses_ss (scopes g) ss) b (end_ss (scopes g) ss b) (ahead_ss tb.place (word_in tb.key tb.layout) g ss b) (entered_ss (scopes g) ss b) (code_ss tb.place g m ss b)

  -- a procedure of a block whose slot s tells that it opens at i; j: it is the first, and jumps there
  abbrev IsP : Type 0 → List Around → ℕ → Bool → Procedure → ℕ → ℕ → ℕ → Type 0
  IsP R g m j p d b n =
      let a = end_jump j b in
      (s i : ℕ) (us : List Use) (fr : Frame) (fl : Flow) → Fits tb g 0 m fr → fl.uses ≡ uses_p (scopes g) p ++ us → fl.at ≡ b → length fl.entries ≡ n → (top fr.opens).first ≡ s → fl.variable ≡ flag tb j
      → (x : Passed tb (Opens tb R s i) fr fr (nodes_p d p) us (end_p (scopes g) p a) (ahead_p tb.place (word_in tb.key tb.layout) g p a) (entered_p (scopes g) p a) (λ r. code_jump tb.place j i (code_p tb.place g p a r)) fl) × (x.next.variable ≡ 1)

  -- declarations add their cells to a frame; j: no procedure stood before
  abbrev IsD : Type 0 → List Around → ℕ → Bool → Declarations → ℕ → ℕ → ℕ → Type 0
  IsD R g m j ds d b n =
      let a = end_jump (j && routines ds) b in
      (s i : ℕ) (us : List Use) (fr : Frame) (fl : Flow) → Fits tb g 0 m fr → fl.uses ≡ uses_d (scopes g) ds ++ us → fl.at ≡ b → length fl.entries ≡ n → (top fr.opens).first ≡ s → fl.variable ≡ flag tb j
      → Passed tb (Opens tb R s i) fr (with_cells (cells_up fr.cells ds) fr) (nodes_d d ds) us (end_ds (scopes g) ds a) (ahead_ds tb.place (word_in tb.key tb.layout) g ds a) (entered_ds (scopes g) ds a) (λ r. code_jump tb.place (j && routines ds) i (code_ds tb.place g ds a r)) fl

  -- ---- a block and a procedure, of their parts

  block_part : (R : Type 0) (g : List Around) (m q : ℕ) (ds : Declarations) (ss : Statements) (d b n : ℕ)
      → let g' : List Around = a_block (reach g) ds (end_head ds b) ∷ g in
      counts_for tb.rows n ≡ pack_counted (counted (declaredIn ds)) → IsD R g' m true ds d b n → IsSs R g' m ss (d + 1) (suc (end_ds (scopes g') ds (end_head ds b))) (n + many_ds ds) → IsS R g m (block q ds ss) d b n
  unfolding nodes_s uses_s end_s ahead_s entered_s code_s top
  block_part R g m q ds ss d b n counts x y =
      record {
        pass = λ us fr fl w u a k.
            let p = end_head ds b in
            let g' : List Around = a_block (reach g) ds p ∷ g in
            let i = end_ds (scopes g') ds p in
            let s = length fl.slots in
            let f = length fl.entries in
            let c = cells_up 0 ds in
            let z = x s i (uses_ss (scopes g') ss ++ us) (in_block s f 0 fr) (block_flow tb fl) (record { level = w.level; loops = w.loops; lefts = w.lefts; awaits = w.awaits }) (u ∙ append_assoc (uses_d (scopes g') ds) (uses_ss (scopes g') ss) us) a k refl refl in
            block_passed q (cells_in (of_block ds)) (counted (declaredIn ds)) (cells_up_lem 0 ds) (ap (counts_for tb.rows) k ∙ counts) z
            (y.pass us (in_block s c c fr) (opened_flow tb q s f i z.next) (record { level = w.level; loops = w.loops; lefts = w.lefts; awaits = w.awaits }) z.uses (ap suc z.at)
            (ap length z.enters ∙ entered_ds_many (scopes g') ds p fl.entries ∙ ap (λ (k : ℕ). k + many_ds ds) k));
      }

  procedure_part : (R : Type 0) (g : List Around) (m : ℕ) (j : Bool) (t : Option Sort) (f : Name) (xs vs : List Name) (ss : List Specification) (s : Statement) (d b n : ℕ)
      → IsS R (a_body (heading t f xs vs ss s) ∷ g) 0 s (d + 1) (end_jump j b) (n + 1 + length xs) → IsP R g m j (heading t f xs vs ss s) d b n
  unfolding nodes_s uses_s end_s ahead_s entered_s code_s
  procedure_part R g m j t f xs vs ss s d b n x o i us fr fl w u a k e v =
      let y =
      (heading_part (n + 1) f.symbol xs vs ss x).pass us (in_procedure fr) (entry_flow tb j o (end_jump j b) fl) (record { level = ap suc w.level; loops = refl; lefts = w.lefts; awaits = w.awaits }) (entry_uses tb j o (end_jump j b) fl ∙ u) (begins_at tb j o b fl a) (entry_many tb j o (end_jump j b) n fl k) in
      procedure_passed j (sort_number t) f.symbol o i b (nodes_p d (heading t f xs vs ss s)) (simp append_assoc) e v a y

  none_part : (R : Type 0) (g : List Around) (m : ℕ) (j : Bool) (d b n : ℕ) → IsD R g m j no_more d b n
  unfolding nodes_s uses_s end_s ahead_s entered_s code_s end_jump code_jump
  none_part R g m true d b n s i us fr fl w u a k e v = passed_nothing u a
  none_part R g m false d b n s i us fr fl w u a k e v = passed_nothing u a

  variables_part : (R : Type 0) (g : List Around) (m : ℕ) (j : Bool) (t : Sort) (xs : List Name) (ds : Declarations) (d b n : ℕ) → IsD R g m j ds d b (n + length xs) → IsD R g m j (variables t xs ds) d b n
  unfolding nodes_s uses_s end_s ahead_s entered_s code_s
  variables_part R g m j t xs ds d b n x s i us fr fl w u a k e v =
      let p = declared_passed {R = Opens tb R s i} (sort_number (some t)) xs fr fl u a in
      p.0
      and_then (x s i us (with_cells (cells_behind fr.cells xs) fr) p.0.next (record { level = w.level; loops = w.loops; lefts = w.lefts; awaits = w.awaits }) p.0.uses p.0.at
      (ap length p.0.enters ∙ blanks_many xs fl.entries ∙ ap (λ (k : ℕ). k + length xs) k) e (p.1 ∙ v))

  declare_part : (R : Type 0) (g : List Around) (m : ℕ) (j : Bool) (p : Procedure) (ds : Declarations) (d b n : ℕ)
      → IsP R g m j p d b n → IsD R g m false ds d (end_p (scopes g) p (end_jump j b)) (n + many_p p) → IsD R g m j (declare p ds) d b n
  unfolding nodes_s uses_s end_s ahead_s entered_s code_s end_jump code_jump
  declare_part R g m true p ds d b n x y s i us fr fl w u a k e v =
      let z = x s i (uses_d (scopes g) ds ++ us) fr fl w (u ∙ append_assoc (uses_p (scopes g) p) (uses_d (scopes g) ds) us) a k e v in
      z.0 and_then (y s i us fr z.0.next w z.0.uses z.0.at (ap length z.0.enters ∙ entered_p_many (scopes g) p (suc b) fl.entries ∙ ap (λ (k : ℕ). k + many_p p) k) e z.1)
  declare_part R g m false p ds d b n x y s i us fr fl w u a k e v =
      let z = x s i (uses_d (scopes g) ds ++ us) fr fl w (u ∙ append_assoc (uses_p (scopes g) p) (uses_d (scopes g) ds) us) a k e v in
      z.0 and_then (y s i us fr z.0.next w z.0.uses z.0.at (ap length z.0.enters ∙ entered_p_many (scopes g) p b fl.entries ∙ ap (λ (k : ℕ). k + many_p p) k) e z.1)

  -- ---- one line a construct

  mutual
    unfolding nodes_s uses_s end_s ahead_s entered_s code_s

    pub emits_s : (R : Type 0) (g : List Around) (m : ℕ) (s : Statement) (d b n : ℕ) → (R → Targets tb.key tb.entries g) → (R → RightS tb.key tb.entries (scopes g) s b)
        → Known tb.key tb.layout g → OkS (scopes g) s → ToldS (Numbered tb) (Pointed tb) (Marked tb) (Moded tb) (scopes g) s → LaidS tb.key tb.layout (owns g) (reach g) s → CountsS tb.rows n s → IsS R g m s d b n
    emits_s R g m dummy d b n rt rs known ok told laid cs = behind_any nothing_part
    emits_s R g m (assignment x xs q e) d b n rt rs known ok told laid cs = behind_any (assignment_part tb R g rt known m x xs q e d b ok.0 ok.1 told)
    emits_s R g m (procedure x es) d b n rt rs known ok told laid cs = behind_any (command_part tb R g rt known m x es d b ok told.0 told.1)
    emits_s R g m (when q c s) d b n rt rs known ok told laid cs =
        one_way q q (mark_is tb q 0 told.0 (omega arith)) (emits_e tb R 0 m g rt known c d b ok.0 told.1) (emits_s R g m s (d + 1) (suc (end_e (scopes g) c b)) n rt rs known ok.1 told.2 laid cs)
    emits_s R g m (either q c s t) d b n rt rs known ok told laid cs =
        let i = suc (end_e (scopes g) c b) in
        let j = suc (end_s (scopes g) s i) in
        either_way q q (mark_is tb q 0 told.0 (omega arith)) (λ l e. entered_s_many (scopes g) s i l ∙ ap (λ (k : ℕ). k + many_s s) e) (emits_e tb R 0 m g rt known c d b ok.0 told.1)
        (emits_s R g m s (d + 1) i n rt (λ z. (rs z).0) known ok.1 told.2 laid.0 cs.0) (emits_s R g m t (d + 1) j (n + many_s s) rt (λ z. (rs z).1) known ok.2 told.3 laid.1 cs.1)
    emits_s R g m (repeat x l ls s) d b n rt rs known ok told laid cs =
        loop_part tb R g rt known m n x l ls s d b ok.0 ok.1 told.0 (emits_s R g (suc m) s (d + 1) (end_l (scopes g) x (l ∷ ls) b) n rt rs known ok.2 told.1 laid cs)
    emits_s R g m (compound ss) d b n rt rs known ok told laid cs = emits_ss R g m ss (d + 1) b n rt rs known ok told laid cs
    emits_s R g m (block q ds ss) d b n rt rs known ok told laid cs =
        let p = end_head ds b in
        let g' : List Around = a_block (reach g) ds p ∷ g in
        let rt' : R → Targets tb.key tb.entries g' = λ z. (entry_is tb.key tb.entries (scopes g') ds p (rs z).0, rt z) in
        block_part R g m q ds ss d b n cs.0 (emits_d R g' m true ds d b n rt' (λ z. (rs z).0) (laid.0, known) ok.0 told.0 laid.1 cs.1)
        (emits_ss R g' m ss (d + 1) (suc (end_ds (scopes g') ds p)) (n + many_ds ds) rt' (λ z. (rs z).1) (laid.0, known) ok.1 told.1 laid.2 cs.2)

    emits_ss : (R : Type 0) (g : List Around) (m : ℕ) (ss : Statements) (d b n : ℕ) → (R → Targets tb.key tb.entries g) → (R → RightSs tb.key tb.entries (scopes g) ss b)
        → Known tb.key tb.layout g → OkSs (scopes g) ss → ToldSs (Numbered tb) (Pointed tb) (Marked tb) (Moded tb) (scopes g) ss → LaidSs tb.key tb.layout (owns g) (reach g) ss → CountsSs tb.rows n ss → IsSs R g m ss d b n
    emits_ss R g m (last s) d b n rt rs known ok told laid cs = emits_s R g m s d b n rt rs known ok told laid cs
    emits_ss R g m (first s ss) d b n rt rs known ok told laid cs =
        behind_then (λ l e. entered_s_many (scopes g) s b l ∙ ap (λ (k : ℕ). k + many_s s) e) (emits_s R g m s d b n rt (λ z. (rs z).0) known ok.0 told.0 laid.0 cs.0)
        (emits_ss R g m ss d (end_s (scopes g) s b) (n + many_s s) rt (λ z. (rs z).1) known ok.1 told.1 laid.1 cs.1)

    emits_d : (R : Type 0) (g : List Around) (m : ℕ) (j : Bool) (ds : Declarations) (d b n : ℕ) → (R → Targets tb.key tb.entries g) → (R → RightDs tb.key tb.entries (scopes g) ds (end_jump (j && routines ds) b))
        → Known tb.key tb.layout g → OkDs (scopes g) ds → ToldDs (Numbered tb) (Pointed tb) (Marked tb) (Moded tb) (scopes g) ds → LaidDs tb.key tb.layout (owns g) ds → CountsDs tb.rows n ds → IsD R g m j ds d b n
    emits_d R g m j no_more d b n rt rs known ok told laid cs = none_part R g m j d b n
    emits_d R g m j (variables t xs ds) d b n rt rs known ok told laid cs = variables_part R g m j t xs ds d b n (emits_d R g m j ds d b (n + length xs) rt rs known ok told laid cs)
    emits_d R g m j (declare p ds) d b n rt rs known ok told laid cs =
        let f : R → RightDs tb.key tb.entries (scopes g) (declare p ds) (end_jump j b) = λ z. jumped_right j b (λ a. RightDs tb.key tb.entries (scopes g) (declare p ds) a) (rs z) in
        declare_part R g m j p ds d b n (emits_p R g m j p d b n rt (λ z. (f z).0) known ok.0 told.0 laid.0 cs.0)
        (emits_d R g m false ds d (end_p (scopes g) p (end_jump j b)) (n + many_p p) rt (λ z. further_right (end_p (scopes g) p (end_jump j b)) (λ a. RightDs tb.key tb.entries (scopes g) ds a) (f z).1) known ok.1 told.1 laid.1 cs.1)

    emits_p : (R : Type 0) (g : List Around) (m : ℕ) (j : Bool) (p : Procedure) (d b n : ℕ) → (R → Targets tb.key tb.entries g) → (R → RightP tb.key tb.entries (scopes g) p (end_jump j b))
        → Known tb.key tb.layout g → OkP (scopes g) p → ToldP (Numbered tb) (Pointed tb) (Marked tb) (Moded tb) (scopes g) p → LaidP tb.key tb.layout (owns g) p → CountsP tb.rows n p → IsP R g m j p d b n
    emits_p R g m j (heading t f xs vs ss s) d b n rt rs known ok told laid cs =
        let g' : List Around = a_body (heading t f xs vs ss s) ∷ g in
        procedure_part R g m j t f xs vs ss s d b n (emits_s R g' 0 s (d + 1) (end_jump j b) (n + 1 + length xs) rt (λ z. (rs z).1) (laid.1, laid.0, known) ok told laid.2 cs)
