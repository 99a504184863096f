-- Assignments in the pass that writes code: left parts are kept until the value is there, and are stored to from the first to the last. Nothing is
-- assumed of what else is open.
use Prim.Native.Nat.{ℕ, suc}
use native.Mathlib.Numerals.{add-one}
use mathlib.Core.Path.{◌≡◌, refl, sym, ap, ◌∙◌}
use mathlib.Core.List.{List, [], ◌∷◌, ◌++◌, map, append_assoc, append-nil}
use Rattle.machine.specs.Data.{store, assign}
use lib.Dec.{eqb}
use Rattle.machine.specs.Instructions.{Instruction, low}
use Rattle.grammar.specs.NodeKinds.{n_left, n_assign}
use Rattle.names.specs.Program.{Name, Expression, assignment}
use Rattle.names.specs.Scopes.{meaning}
use Rattle.names.specs.Nodes.{node, nodes_left, nodes_s}
use Rattle.names.specs.model.Rows.{is_use}
use Rattle.names.specs.Uses.{Use, used, uses_e, uses_s}
use Rattle.rules.specs.Calls.{Way, way}
use Rattle.translation.specs.model.Translate.{Around, scopes, end_e, end_stores, end_s, code_stores, code_s}
use Rattle.machine.specs.model.Words.{Parts, CodeFits}
use Rattle.translation.specs.model.Scoped.{OkW, OkVs, OkE}
use Rattle.emitting.specs.model.Emission.{Opened, opened, State, put, with_open, with_lefts, pushed, top, below, use_node, stored, lefts_of, behind_lefts, assigned, plain_node, code_node}
use Rattle.translating.proofs.SlotLists.{ahead_s}
use Rattle.translating.proofs.Written.{Tables, Frame, Flow, kind_of, means_of, taken, put_all, past, Same, fits_apart, step, state, Passed, Emits, ◌and_then◌, passed_nothing, passed_all, passed_as, use_step}
use Rattle.translating.proofs.NameWords.{Known, Targets}
use Rattle.translating.proofs.WrittenNames.{word_at, seeks, seeks_is, worded, way_parts, on_cell_lem, way_past, way_instrs, way_code, way_same}
use Rattle.translating.proofs.ActualWords.{word_in}
use Rattle.translating.proofs.WrittenExpressions.{IsTold, emits_e}
use Rattle.translation.proofs.Ranges.{owns}

-- ---- left parts kept, newest first: their words, the ways they are stored to and their places

pub record Left : Type 0 where
  pub word : ℕ
  pub goes : Way
  pub place : ℕ

abbrev push_lefts : List Left → List Opened → List Opened
push_lefts [] os = os
push_lefts (w ∷ ws) os = push_lefts ws (opened 0 w.word w.place 0 ∷ os)

abbrev tally : ℕ → List Left → ℕ
tally n [] = n
tally n (w ∷ ws) = tally (suc n) ws

abbrev lefted : List Left → Frame → Frame
lefted ws fr = record { level = fr.level; loops = fr.loops; cells = fr.cells; lefts = tally fr.lefts ws; awaits = fr.awaits; opens = push_lefts ws fr.opens }

abbrev kept : List Left → List Opened
kept [] = []
kept (w ∷ ws) = opened 0 w.word w.place 0 ∷ kept ws

abbrev store_parts : Left → List Left → List Parts
store_parts w [] = way_parts w.goes 14 w.place w.place w.word
store_parts w (v ∷ ws) = way_parts w.goes 15 w.place w.place w.word ++ store_parts v ws

-- a word tells whether its cell is sought
abbrev Tells : Left → List Left → Type 0
Tells w [] = eqb (low w.word) 2 ≡ seeks w.goes
Tells w (v ∷ ws) = (eqb (low w.word) 2 ≡ seeks w.goes) × Tells v ws

puts_append : (ps qs : List Parts) (st : State) → put_all (ps ++ qs) st ≡ put_all qs (put_all ps st)
puts_append [] qs st = refl
puts_append (p ∷ ps) qs st = puts_append ps qs (put p.operation p.place p.operand st)

past_append : (ps qs : List Parts) (e : ℕ) → past (ps ++ qs) e ≡ past qs (past ps e)
past_append [] qs e = refl
past_append (p ∷ ps) qs e = past_append ps qs (suc e)

same_append : (ps qs : List Parts) (is js : List Instruction) → Same ps is → Same qs js → Same (ps ++ qs) (is ++ js)
same_append [] qs [] js h k = k
same_append [] qs (i ∷ is) js h k = absurd h
same_append (p ∷ ps) qs [] js h k = absurd h
same_append (p ∷ ps) qs (i ∷ is) js h k = (h.0, same_append ps qs is js h.1 k)

module _ (tb : Tables) where
  lefts_back : (ws : List Left) (n : ℕ) (os acc : List Opened)
      → lefts_of tb.values tb.layout tb.ahead tb.entries (tally n ws) (push_lefts ws os) acc ≡ lefts_of tb.values tb.layout tb.ahead tb.entries n os (kept ws ++ acc)
  unfolding lefts_of top below
  lefts_back [] n os acc = refl
  lefts_back (w ∷ ws) n os acc = lefts_back ws (suc n) (opened 0 w.word w.place 0 ∷ os) acc

  behind_back : (ws : List Left) (n : ℕ) (os : List Opened)
      → behind_lefts tb.values tb.layout tb.ahead tb.entries (tally n ws) (push_lefts ws os) ≡ behind_lefts tb.values tb.layout tb.ahead tb.entries n os
  unfolding behind_lefts below
  behind_back [] n os = refl
  behind_back (w ∷ ws) n os = behind_back ws (suc n) (opened 0 w.word w.place 0 ∷ os)

  stored_all : (w : Left) (ws : List Left) (st : State) → Tells w ws → stored tb.values tb.layout tb.ahead tb.entries (kept (w ∷ ws)) st ≡ put_all (store_parts w ws) st
  unfolding stored
  stored_all w [] st h = on_cell_lem w.goes 14 w.place w.place w.word st h
  stored_all w (v ∷ ws) st h =
      ap (stored tb.values tb.layout tb.ahead tb.entries (kept (v ∷ ws))) (on_cell_lem w.goes 15 w.place w.place w.word st h.0)
      ∙ stored_all v ws (put_all (way_parts w.goes 15 w.place w.place w.word) st) h.1
      ∙ sym (puts_append (way_parts w.goes 15 w.place w.place w.word) (store_parts v ws) st)

  -- what is open is none of an instruction's
  aside : (ps : List Parts) (os : List Opened) (st : State) → with_lefts 0 (with_open os (put_all ps st)) ≡ put_all ps (with_lefts 0 (with_open os st))
  unfolding put with_lefts with_open
  aside [] os st = refl
  aside (p ∷ ps) os st = aside ps os (put p.operation p.place p.operand st)

  assign_step : (q : ℕ) (w : Left) (ws : List Left) (fr : Frame) (fl : Flow) → Tells w ws → fr.lefts ≡ 0 → step tb n_assign q 0 0 (state tb (lefted (w ∷ ws) fr) fl) ≡ put_all (store_parts w ws) (state tb fr fl)
  unfolding step code_node is_use plain_node assigned lefts_of behind_lefts with_lefts with_open
  assign_step q w ws fr fl t e =
      let st = state tb (lefted (w ∷ ws) fr) fl in
      let ls = lefts_of tb.values tb.layout tb.ahead tb.entries (tally fr.lefts (w ∷ ws)) (push_lefts (w ∷ ws) fr.opens) [] in
      let l : ls ≡ kept (w ∷ ws) =
      lefts_back (w ∷ ws) fr.lefts fr.opens []
      ∙ ap (λ (n : ℕ). lefts_of tb.values tb.layout tb.ahead tb.entries n fr.opens (kept (w ∷ ws) ++ [])) e
      ∙ append-nil (kept (w ∷ ws)) in
      let b : behind_lefts tb.values tb.layout tb.ahead tb.entries (tally fr.lefts (w ∷ ws)) (push_lefts (w ∷ ws) fr.opens) ≡ fr.opens =
      behind_back (w ∷ ws) fr.lefts fr.opens ∙ ap (λ (n : ℕ). behind_lefts tb.values tb.layout tb.ahead tb.entries n fr.opens) e in
      ap (λ (os : List Opened). with_lefts 0 (with_open os (stored tb.values tb.layout tb.ahead tb.entries ls st))) b
      ∙ ap (λ (l : List Opened). with_lefts 0 (with_open fr.opens (stored tb.values tb.layout tb.ahead tb.entries l st))) l
      ∙ ap (λ (s : State). with_lefts 0 (with_open fr.opens s)) (stored_all w ws st t)
      ∙ aside (store_parts w ws) fr.opens st
      ∙ rw e

-- ---- the parts

module _ (tb : Tables) (R : Type 0) (g : List Around) (right : R → Targets tb.key tb.entries g) (known : Known tb.key tb.layout g) (m : ℕ) where
  -- a left part, n activations in
  abbrev left_of : ℕ → Name → Left
  left_of n x = record { word = word_at tb g n x; goes = way (meaning (scopes g) x); place = tb.place x.symbol }

  left_step : (x : Name) (d : ℕ) (us : List Use) (fr : Frame) (fl : Flow) → fl.uses ≡ used (scopes g) x ∷ us
      → step tb n_left x.symbol d 0 (state tb fr fl) ≡ state tb (lefted (left_of fr.level x ∷ []) fr) (taken us fl)
  unfolding use_node is_use with_lefts pushed with_open
  left_step x d us fr fl u =
      use_step tb n_left x.symbol d 0 fr fl (scopes g) x us (kind_of (meaning (scopes g) x)) (means_of tb.key (meaning (scopes g) x)) refl u refl refl
      ∙ rw (add-one fr.lefts)

  lefts_passed : (xs : List Name) (d b : ℕ) → (us : List Use) (fr : Frame) (fl : Flow) → fl.uses ≡ map (used (scopes g)) xs ++ us → fl.at ≡ b
      → Passed tb R fr (lefted (map (left_of fr.level) xs) fr) (nodes_left d xs) us b (λ k. k) (λ t. t) (λ r. r) fl
  unfolding nodes_left
  lefts_passed [] d b us fr fl u a = passed_nothing u a
  lefts_passed (x ∷ xs) d b us fr fl u a =
      let p : Passed tb R fr (lefted (left_of fr.level x ∷ []) fr) (node n_left x.symbol d 0) (map (used (scopes g)) xs ++ us) b (λ k. k) (λ t. t) (λ r. r) fl =
      passed_all fl.variable [] [] n_left x.symbol d 0 (left_step x d (map (used (scopes g)) xs ++ us) fr fl u) a (λ z c. tt) in
      p and_then (lefts_passed xs d b us (lefted (left_of fr.level x ∷ []) fr) p.next p.uses p.at)

  lefts_tell : (n : ℕ) (x : Name) (xs : List Name) → Tells (left_of n x) (map (left_of n) xs)
  lefts_tell n x [] = seeks_is tb g n x
  lefts_tell n x (y ∷ ys) = (seeks_is tb g n x, lefts_tell n y ys)

  -- the instructions of the stores
  abbrev stores_of : Name → List Name → List Instruction
  stores_of x [] = way_instrs tb (way (meaning (scopes g) x)) g x (λ l. store (tb.place x.symbol) l)
  stores_of x (y ∷ ys) = way_instrs tb (way (meaning (scopes g) x)) g x (λ l. assign (tb.place x.symbol) l) ++ stores_of y ys

  stores_code : (x : Name) (xs : List Name) (r : List Instruction) → stores_of x xs ++ r ≡ code_stores tb.place g x xs r
  unfolding code_stores
  stores_code x [] r = way_code tb (way (meaning (scopes g) x)) g x (λ l. store (tb.place x.symbol) l) r
  stores_code x (y ∷ ys) r =
      let w = way (meaning (scopes g) x) in
      append_assoc (way_instrs tb w g x (λ l. assign (tb.place x.symbol) l)) (stores_of y ys) r
      ∙ ap (λ (l : List Instruction). way_instrs tb w g x (λ l. assign (tb.place x.symbol) l) ++ l) (stores_code y ys r)
      ∙ way_code tb w g x (λ l. assign (tb.place x.symbol) l) (code_stores tb.place g y ys r)

  stores_end : (n : ℕ) (x : Name) (xs : List Name) (e : ℕ) → past (store_parts (left_of n x) (map (left_of n) xs)) e ≡ end_stores (scopes g) x xs e
  unfolding end_stores
  stores_end n x [] e = way_past (way (meaning (scopes g) x)) 14 (tb.place x.symbol) (tb.place x.symbol) (word_at tb g n x) e
  stores_end n x (y ∷ ys) e =
      let ps = way_parts (way (meaning (scopes g) x)) 15 (tb.place x.symbol) (tb.place x.symbol) (word_at tb g n x) in
      past_append ps (store_parts (left_of n y) (map (left_of n) ys)) e
      ∙ stores_end n y ys (past ps e)
      ∙ ap (end_stores (scopes g) y ys) (way_past (way (meaning (scopes g) x)) 15 (tb.place x.symbol) (tb.place x.symbol) (word_at tb g n x) e)

  stores_same : (n : ℕ) (x : Name) (xs : List Name) → n ≡ owns g → OkW (scopes g) x → OkVs (scopes g) xs → CodeFits (stores_of x xs)
      → Same (store_parts (left_of n x) (map (left_of n) xs)) (stores_of x xs)
  stores_same n x [] e ok oks c = way_same tb (way (meaning (scopes g) x)) g x (λ l. store (tb.place x.symbol) l) 14 (tb.place x.symbol) (word_at tb g n x) (λ l. refl) (λ l f. f) (worded tb g known x n e ok) c
  stores_same n x (y ∷ ys) e ok oks c =
      let w = way (meaning (scopes g) x) in
      let is = way_instrs tb w g x (λ l. assign (tb.place x.symbol) l) in
      let f = fits_apart is (stores_of y ys) c in
      same_append (way_parts w 15 (tb.place x.symbol) (tb.place x.symbol) (word_at tb g n x)) (store_parts (left_of n y) (map (left_of n) ys)) is (stores_of y ys)
      (way_same tb w g x (λ l. assign (tb.place x.symbol) l) 15 (tb.place x.symbol) (word_at tb g n x) (λ l. refl) (λ l f. f) (worded tb g known x n e ok) f.0) (stores_same n y ys e oks.0 oks.1 f.1)

  pub assignment_part : (x : Name) (xs : List Name) (q : ℕ) (y : Expression) (d b : ℕ) → OkVs (scopes g) (x ∷ xs) → OkE (scopes g) y → IsTold tb (scopes g) y
      → Emits tb R g 0 m (nodes_s d (assignment x xs q y)) (uses_s (scopes g) (assignment x xs q y)) b (end_s (scopes g) (assignment x xs q y) b) (ahead_s tb.place (word_in tb.key tb.layout) g (assignment x xs q y) b) (λ t. t) (code_s tb.place g m (assignment x xs q y) b)
  unfolding nodes_s uses_s end_s ahead_s code_s
  assignment_part x xs q y d b ok ok' n =
      record {
        pass = λ us fr fl w u a.
            let vs = uses_e (scopes g) y in
            let ws : List Left = map (left_of fr.level) xs in
            let v = left_of fr.level x in
            let p = lefts_passed (x ∷ xs) d b (vs ++ us) fr fl (u ∙ append_assoc (map (used (scopes g)) (x ∷ xs)) vs us) a in
            let z = (emits_e tb R (tally fr.lefts (v ∷ ws)) m g right known y d b ok' n).pass us (lefted (v ∷ ws) fr) p.next (record { level = w.level; loops = w.loops; lefts = refl; awaits = w.awaits }) p.uses p.at in
            let e = end_e (scopes g) y b in
            p
            and_then z
            and_then (passed_as (end_stores (scopes g) x xs e) (code_stores tb.place g x xs) (stores_end fr.level x xs e) (stores_code x xs)
            (passed_all z.next.variable (stores_of x xs) (store_parts v ws) n_assign q 0 0
            (assign_step tb q v ws fr z.next (lefts_tell fr.level x xs) w.lefts ∙ ap (λ (us : List Use). put_all (store_parts v ws) (state tb fr (taken us z.next))) z.uses)
            z.at (λ _ c. stores_same fr.level x xs w.level ok.0 ok.1 c)));
      }
