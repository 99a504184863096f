-- Request 7: a prelude by itself. Its procedures in the marks of a block around nothing are a program, so the passes tell its faults 7 to 10; without one it is a prelude.
use Prim.Native.Nat.{ℕ, ◌*◌, ◌-◌, ◌/◌, ◌<◌, ◌≤◌}
use native.Mathlib.Omega.{arith}
use native.Mathlib.Decide.{ℕ_discrete}
use mathlib.Core.Path.{◌≡◌, refl, sym, ap, subst, ◌∙◌}
use mathlib.Core.List.{List, [], ◌∷◌, ◌++◌, map}
use lib.ListN.{length, get_or, take}
use lib.Seq.{take-append_seam}
use Rattle.answers.specs.Numbers.{long, grammar, depth, types}
use Rattle.answers.specs.Answers.{answer, refusal}
use Rattle.answers.specs.declared.Answer.{Answer}
use Rattle.answers.specs.declared.Refusal.{Refusal}
use Rattle.answers.specs.declared.Verdict.TheVariants.{Refused}
use Rattle.symbols.specs.Names.{letters_at}
use Rattle.symbols.specs.Scan.{scan, values_of}
use Rattle.symbols.specs.model.Steps.{Filled}
use Rattle.symbols.proofs.FirstFault.{first_fault}
use Rattle.grammar.specs.Program.{PreludeFault, PreludeDeep}
use Rattle.grammar.specs.Trees.{yield}
use Rattle.grammar.specs.model.Text.{text}
use Rattle.grammar.specs.model.Marked.{prelude_nodes}
use Rattle.grammar.specs.model.Parsing.{zeros, Parsed as Outcome, read_to, fault_at}
use Rattle.syntax.specs.model.Preludes.{WholePrelude, PreludeSays}
use Rattle.names.specs.Program.{Name, Statement, dummy, Procedure}
use Rattle.names.specs.Scopes.{in_block}
use Rattle.names.specs.Uses.{Fault, name_faults, least, joined, twice_in, heading_in, each, scopes_s, uses_s}
use Rattle.names.specs.Nodes.{nodes_s, nodes_d}
use Rattle.names.specs.Outline.{rows_s, declarations}
use Rattle.names.specs.Prelude.{declarations_of, with_prelude, prelude_alone}
use Rattle.names.proofs.AllNames.{AllS, AllD}
use Rattle.names.proofs.Weaken.{map_all}
use Rattle.names.proofs.Bridge.{bridge_prelude}
use Rattle.names.proofs.Fours.{none as no-four, one, fours_append, fours_weaken}
use Rattle.names.proofs.Named.{named_prelude}
use Rattle.names.proofs.NearNodes.{SymbolsWithin, prelude_near}
use Rattle.names.proofs.Resolved.{matches_length}
use Rattle.types.specs.Types.{type_faults, type_fault, faults_s}
use Rattle.types.proofs.TreeStatements.{At, deep, outermost}
use Rattle.table.specs.model.Writing.{among}
use Rattle.table.proofs.Few.{is_declared}
use Rattle.table.proofs.Fits.{rows_length, alone_room, prelude_room}
use Rattle.reading.specs.Judging as any
use Rattle.reading.specs.Judges.{further, JudgedBy, too_long, unreadable, ungrammatical, too_deep, misnamed, mistyped}
use Rattle.reading.specs.Two.{beyond, symbols, prelude_place, procedures_in, prelude_judge}
use Rattle.reading.specs.declared.Sizes.{Sizes}
use Rattle.std.proofs.Common.{Result, Ok, Err}
use Rattle.reading.specs.model.Moves.{marked}
use Rattle.reading.specs.model.Passing.{place_from, Passes}
use Rattle.reading.specs.model.Preluding.{SymbolsIn, PreludeNodes, PreludeFills, PreludeTold, prelude_refused, prelude_stands, PreludeFound, found_refused, depth_with}
use Rattle.reading.proofs.Answers.{place-from}
use Rattle.reading.proofs.Passed.{Stands, Said, at_names, at_types, right, said, same_found, same_refusal, rows_here_lem, uses_here}
use Rattle.reading.proofs.Places.{place_inside}
use Rattle.reading.proofs.Stages.{text_is, refused_in, behind_in}
use Rattle.reading.proofs.Together.{marked_is}

-- ---- 2 to 6

-- 2
pub as_long : {prelude places values nodes : List ℕ} {x : Refusal} → 16384 < length prelude → x ≡ refusal long 16384 → PreludeTold prelude places values nodes (Err x)
as_long {prelude} {x = x} l e =
    prelude_refused x (omega (arith, ap (λ z. z.place.at) e)) (subst (λ z. JudgedBy prelude_judge prelude (Refused (further beyond z)) (zeros 0)) (sym e) (too_long l))

module _ {prelude kinds kinds' places places' values values' : List ℕ} {t : Result ℕ Refusal} (f : Filled symbols prelude t kinds kinds' places places' values values') (l : length prelude ≤ 16384) where
  -- 3 and 4
  pub unread : (r : Refusal) → t ≡ Err r → JudgedBy prelude_judge prelude (Refused (further beyond r)) (zeros 0)
  unread r q = unreadable l r (refused_in symbols f r q)

  pub unread_inside : (r : Refusal) → t ≡ Err r → r.place.at ≤ 16384
  unread_inside r q = let h = (first_fault symbols prelude r (refused_in symbols f r q)).inside in omega arith

pub place_small : {prelude places values : List ℕ} {n : ℕ} → SymbolsIn symbols prelude places values n → (k : ℕ) → any.place_in symbols prelude k ≤ 16384
place_small {prelude} s k = omega (arith, place_inside symbols prelude k, s.scanned.short)

-- the place of a symbol, and behind the last one the end
pub place_in : (most : ℕ) {source places values : List ℕ} {n : ℕ} → most ≤ 2048 → SymbolsIn most source places values n → (k : ℕ) → place_from places n (length source) k ≡ any.place_in most source k
place_in most {source} {places} {values} {n} l s = place-from places n (length source) (any.place_in most source) (omega (arith, s.few)) s.placed (behind_in most s)

module _ (kinds : List ℕ) {prelude places values : List ℕ} {n : ℕ} (s : SymbolsIn symbols prelude places values n) (kinded : take n kinds ≡ any.kinds_in symbols prelude) {new : List ℕ} {r : Outcome} (v : PreludeSays (text (take n kinds)) new r) where
  kinds_are : text (take n kinds) ≡ any.kinds_in symbols prelude
  kinds_are = ap text kinded ∙ text_is (scan symbols prelude).found

  -- the nodes stand
  pub words_stand : (j b : ℕ) → r ≡ read_to j b → PreludeNodes prelude places values new n b
  words_stand j b q =
      let w : WholePrelude (any.kinds_in symbols prelude) new j b = subst (λ ks. WholePrelude ks new j b) kinds_are (v.accepted j b q) in
      record {
        symbols_in = s;
        read = record { scanned = record { short = s.scanned.short; whole = s.scanned.whole }; tree = w.tree; keeps = w.keeps };
        words = ap (take b) w.wrote ∙ ap (λ m. take m (prelude_nodes w.tree ++ zeros (32768 - b))) w.words ∙ take-append_seam (prelude_nodes w.tree) (zeros (32768 - b));
        many = w.words;
      }

  -- 5 or 6
  pub refusals : (a : Answer) (k : ℕ) → r ≡ fault_at a k → JudgedBy prelude_judge prelude (Refused (refusal a.number (prelude_place prelude k))) (zeros 0)
  refusals a k q = go (ℕ_discrete a.number grammar)
    where
      said_so : (m : ℕ) → a.number ≡ m → r ≡ fault_at (answer m) k
      said_so m e = q ∙ ap (λ i. fault_at (answer i) k) e

      go : Dec (a.number ≡ grammar) → JudgedBy prelude_judge prelude (Refused (refusal a.number (prelude_place prelude k))) (zeros 0)
      go (yes e) =
          subst (λ m. JudgedBy prelude_judge prelude (Refused (refusal m (prelude_place prelude k))) (zeros 0)) (sym e)
          (ungrammatical (record { short = s.scanned.short; whole = s.scanned.whole }) k (subst (λ ks. PreludeFault ks k) kinds_are (v.wrong k (said_so grammar e))))
      go (no e) =
          let d : a.number ≡ depth = ap (λ x. x.number) (v.numbers a k q (λ x. e (ap (λ y. y.number) x))) in
          subst (λ m. JudgedBy prelude_judge prelude (Refused (refusal m (prelude_place prelude k))) (zeros 0)) (sym d)
          (too_deep (record { short = s.scanned.short; whole = s.scanned.whole }) k (subst (λ ks. PreludeDeep ks k) kinds_are (v.deep k (said_so depth d))))

  -- at a symbol, or behind the last one
  pub refused_at_lem : (a : Answer) (k : ℕ) → r ≡ fault_at a k → k ≤ 1024
  refused_at_lem a k q = go (ℕ_discrete a.number grammar)
    where
      said_so : (m : ℕ) → a.number ≡ m → r ≡ fault_at (answer m) k
      said_so m e = q ∙ ap (λ i. fault_at (answer i) k) e

      go : Dec (a.number ≡ grammar) → k ≤ 1024
      go (yes e) = let w : PreludeFault (any.kinds_in symbols prelude) k = subst (λ ks. PreludeFault ks k) kinds_are (v.wrong k (said_so grammar e)) in omega (arith, w.inside, s.count, s.few)
      go (no e) =
          let d : a.number ≡ depth = ap (λ x. x.number) (v.numbers a k q (λ x. e (ap (λ y. y.number) x))) in
          let w : PreludeDeep (any.kinds_in symbols prelude) k = subst (λ ks. PreludeDeep ks k) kinds_are (v.deep k (said_so depth d)) in
          omega (arith, w.deep.inside, s.count, s.few)

  -- the refusal before 32,768 is added
  pub refused_so : (a : Answer) (k : ℕ) → r ≡ fault_at a k → (x : Refusal) → x ≡ refusal a.number (place_from places n (length prelude) k) → PreludeTold prelude places values new (Err x)
  refused_so a k q x e =
      let p = place_in symbols (omega arith) s k in
      let y : x ≡ refusal a.number (any.place_in symbols prelude k) = e ∙ ap (refusal a.number) p in
      prelude_refused x (omega (arith, ap (λ z. z.place.at) y, place_small s k))
      (subst (λ z. JudgedBy prelude_judge prelude (Refused (further beyond z)) (zeros 0)) (sym y) (refusals a k q))

-- ---- a statement with a prelude around it, for the passes

pub there_with : (q : ℕ) (ps : List Procedure) (s : Statement) → At (depth_with ps) (with_prelude q ps s)
there_with q [] s = deep 1 s (omega arith)
there_with q (p ∷ ps) s = outermost 0 q (declarations_of (p ∷ ps)) _

pub all_with : (A : Name → Type 0) (q : ℕ) (ps : List Procedure) (s : Statement) → AllD A (declarations_of ps) → AllS A s → AllS A (with_prelude q ps s)
all_with A q [] s h k = k
all_with A q (p ∷ ps) s h k = (h, k)

pub within_marked : (n q : ℕ) (ps ws : List ℕ) → q ≤ n → SymbolsWithin n ps → SymbolsWithin n ws → SymbolsWithin n (marked q ps ws)
within_marked n q [] ws l h k = k
within_marked n q (x ∷ ps) ws l h k = one l (fours_append h (one l (fours_append k (one l no-four))))

-- ---- alone

alone_named : (ps : List Procedure) → name_faults (prelude_alone ps) ≡ name_faults (with_prelude 0 ps dummy)
unfolding name_faults scopes_s uses_s joined twice_in heading_in each in_block
alone_named [] = refl
alone_named (p ∷ ps) = refl

alone_typed : (ps : List Procedure) → type_faults (prelude_alone ps) ≡ type_faults (with_prelude 0 ps dummy)
unfolding type_faults faults_s
alone_typed [] = refl
alone_typed (p ∷ ps) = refl

alone_type : (ps : List Procedure) → type_fault (prelude_alone ps) ≡ type_fault (with_prelude 0 ps dummy)
unfolding type_fault
alone_type ps = ap (λ l. least (map (λ q. record { symbol = q; answer = types }) l)) (alone_typed ps)

alone_uses : (ps : List Procedure) → uses_s [] (prelude_alone ps) ≡ uses_s [] (with_prelude 0 ps dummy)
unfolding uses_s
alone_uses [] = refl
alone_uses (p ∷ ps) = refl

alone_declared : (ps : List Procedure) → declarations (prelude_alone ps) ≡ rows_s 0 0 (with_prelude 0 ps dummy)
unfolding declarations rows_s
alone_declared [] = refl
alone_declared (p ∷ ps) = refl

-- rows are four words each
alone_four : (ps : List Procedure) → length (declarations (prelude_alone ps)) ≡ 4 * among is_declared (nodes_s 0 (prelude_alone ps))
unfolding declarations
alone_four ps = rows_length 0 0 0 (prelude_alone ps)

four_times : (k a : ℕ) (l : List ℕ) → a ≡ length l → length l ≡ 4 * k → 4 * (a / 4) ≡ length l
four_times k a l e h = omega arith

no_words : nodes_s 1 dummy ≡ []
unfolding nodes_s
no_words = refl

module _ {prelude places values nodes : List ℕ} {n b : ℕ} (x : PreludeNodes prelude places values nodes n b) where
  abbrev worth : ℕ → ℕ
  worth k = get_or (values_of (scan symbols prelude).found) k 0

  abbrev letters : ℕ → List ℕ
  letters k = letters_at prelude (any.place_in symbols prelude k)

  abbrev ps : List Procedure
  ps = procedures_in prelude x.read.tree

  abbrev alone : Statement
  alone = with_prelude 0 ps dummy

  spelled : length (yield x.read.tree) ≡ n
  spelled = ap length x.read.keeps.spelled ∙ sym x.symbols_in.count

  short : length (yield x.read.tree) ≤ 1024
  short = omega (arith, spelled, x.symbols_in.few)

  pub nodes_few : b ≤ 16384
  nodes_few = omega (arith, x.many, prelude_room x.read.tree, short)

  -- the nodes in the marks of a block around nothing
  alone_words : (new : List ℕ) (w : ℕ) → take w new ≡ marked 0 (take b nodes) [] → take w new ≡ nodes_s (depth_with ps) alone
  alone_words new w e =
      e ∙ ap (λ (z : List ℕ). marked 0 z []) (x.words ∙ bridge_prelude worth letters x.read.tree)
      ∙ ap (λ (z : List ℕ). marked 0 (nodes_d 0 (declarations_of ps)) z) (sym no_words) ∙ marked_is 0 ps dummy

  alone_stands : (new : List ℕ) (w : ℕ) → take w new ≡ marked 0 (take b nodes) [] → Stands prelude places (take w new) n alone
  alone_stands new w e =
      let g : AllS (λ x. (x.letters ≡ letters x.symbol) × (x.symbol < n)) alone =
      subst (λ m. AllS (λ x. (x.letters ≡ letters x.symbol) × (x.symbol < m)) alone) spelled (all_with (λ y. (y.letters ≡ letters y.symbol) × (y.symbol < length (yield x.read.tree))) 0 ps dummy (named_prelude worth letters x.read.tree) tt) in
      let r : length (rows_s 0 0 alone) ≤ 16384 = subst (λ (z : List ℕ). length z ≤ 16384) (alone_declared ps) (alone_room worth letters x.read.tree short) in
      record {
        depth = depth_with ps;
        there = there_with 0 ps dummy;
        noded = alone_words new w e;
        few = omega (arith, x.symbols_in.few);
        named = map_all alone (λ y h. (h.0 ∙ ap (letters_at prelude) (sym (x.symbols_in.placed y.symbol h.1)), h.1)) g;
        within = subst (SymbolsWithin n) (sym (e ∙ ap (λ (z : List ℕ). marked 0 z []) x.words)) (within_marked n 0 (prelude_nodes x.read.tree) [] (omega arith) (fours_weaken (λ s h. omega (arith, spelled)) (prelude_near x.read.tree)) no-four);
        room = omega arith;
      }

  placed : (k : ℕ) → place_from places n (length prelude) k ≡ any.place_in symbols prelude k
  placed = place_in symbols (omega arith) x.symbols_in

  -- 7 to 10
  refused_for_lem : (i : Fault) (z : Refusal) → z ≡ refusal i.answer (place_from places n (length prelude) i.symbol)
      → JudgedBy prelude_judge prelude (Refused (refusal i.answer (prelude_place prelude i.symbol))) (zeros 0) → PreludeTold prelude places values nodes (Err z)
  refused_for_lem i z q j =
      let v : z ≡ refusal i.answer (any.place_in symbols prelude i.symbol) = q ∙ ap (refusal i.answer) (placed i.symbol) in
      prelude_refused z (omega (arith, ap (λ z. z.place.at) v, place_small x.symbols_in i.symbol))
      (subst (λ z. JudgedBy prelude_judge prelude (Refused (further beyond z)) (zeros 0)) (sym v) j)

  module _ (new : List ℕ) {rows uses was marks : List ℕ} (w : ℕ) (e : take w new ≡ marked 0 (take b nodes) []) where
    refused_go : {r : Result Sizes Refusal} → Said prelude places (take w new) rows uses was marks n (length prelude) w alone r → (z : Refusal) → r ≡ Err z → PreludeTold prelude places values nodes (Err z)
    refused_go (at_names i h y q) z d = subst (λ z. PreludeTold prelude places values nodes (Err z)) (same_refusal d) (refused_for_lem i y q (misnamed x.read i (ap least (alone_named ps) ∙ h)))
    refused_go (at_types i h k y q) z d = subst (λ z. PreludeTold prelude places values nodes (Err z)) (same_refusal d) (refused_for_lem i y q (mistyped x.read i (ap least (alone_named ps) ∙ h) (alone_type ps ∙ k)))
    refused_go (right y h k t m c v) z d = absurd (let z : ◌≡◌ {A = ℕ} 0 1 = cc in omega arith)

    -- or none
    program_go : {r : Result Sizes Refusal} → Said prelude places (take w new) rows uses was marks n (length prelude) w alone r → (z : Sizes) → r ≡ Ok z → (A B : List ℕ) → A ≡ take (4 * z.rows) rows → B ≡ take z.uses uses
        → PreludeTold prelude places values nodes (Ok (record { symbols = n; nodes = b; rows = length A / 4; uses = length B }))
    program_go (at_names i h y q) z d A B f g = absurd (let z : ◌≡◌ {A = ℕ} 0 1 = cc in omega arith)
    program_go (at_types i h k y q) z d A B f g = absurd (let z : ◌≡◌ {A = ℕ} 0 1 = cc in omega arith)
    program_go (right y h k t m c v) z d A B f g =
        let R : A ≡ declarations (prelude_alone ps) = f ∙ ap (λ z. take (4 * z.rows) rows) (sym (same_found d)) ∙ rows_here_lem (alone_stands new w e) t ∙ sym (alone_declared ps) in
        let U = matches_length (rows_s 0 0 alone) (take y.uses uses) (uses_s [] alone) (uses_here (alone_stands new w e) t) in
        let l = alone_four ps in
        (prelude_stands _ (record {
          whole = record { read = x.read; named = ap least (alone_named ps) ∙ h; typed = alone_type ps ∙ k };
          symbols_in = x.symbols_in;
          words = x.words;
          many = x.many;
          rows = four_times _ (length A) (declarations (prelude_alone ps)) (ap length R) l;
          uses = ap length (g ∙ ap (λ z. take z.uses uses) (sym (same_found d))) ∙ U ∙ ap length (sym (alone_uses ps));
        }))

    pub refused_alone : {r : Result Sizes Refusal} → Passes prelude places (take w new) rows uses was marks n (length prelude) w r → (z : Refusal) → r ≡ Err z → PreludeTold prelude places values nodes (Err z)
    refused_alone p z d = refused_go (said (alone_stands new w e) p) z d

    pub program_alone : {r : Result Sizes Refusal} → Passes prelude places (take w new) rows uses was marks n (length prelude) w r → (z : Sizes) → r ≡ Ok z → (A B : List ℕ) → A ≡ take (4 * z.rows) rows → B ≡ take z.uses uses
        → PreludeTold prelude places values nodes (Ok (record { symbols = n; nodes = b; rows = length A / 4; uses = length B }))
    program_alone p z d A B f g = program_go (said (alone_stands new w e) p) z d A B f g

-- ---- 32,768 added

pub told_refusal : {prelude places values nodes : List ℕ} {r : Result Sizes Refusal} → PreludeTold prelude places values nodes r → (x : Refusal) → r ≡ Err x → (x.place.at ≤ 16384) × JudgedBy prelude_judge prelude (Refused (further beyond x)) (zeros 0)
told_refusal {prelude} (prelude_refused y l j) x e = subst (λ z. (z.place.at ≤ 16384) × JudgedBy prelude_judge prelude (Refused (further beyond z)) (zeros 0)) (same_refusal e) (l, j)
told_refusal (prelude_stands z h) x e = absurd (let z : ◌≡◌ {A = ℕ} 0 1 = cc in omega arith)

pub told_fills : {prelude places values nodes : List ℕ} {r : Result Sizes Refusal} → PreludeTold prelude places values nodes r → (z : Sizes) → r ≡ Ok z → PreludeFills prelude places values nodes z
told_fills (prelude_refused y l j) z e = absurd (let z : ◌≡◌ {A = ℕ} 0 1 = cc in omega arith)
told_fills {prelude} {places} {values} {nodes} (prelude_stands y h) z e = subst (PreludeFills prelude places values nodes) (same_found e) h

pub as_found : {prelude places values nodes : List ℕ} {y : Refusal} (x : Refusal) → JudgedBy prelude_judge prelude (Refused (further beyond x)) (zeros 0) → y ≡ further beyond x → PreludeFound prelude places values nodes (Err y)
as_found {prelude} {y = y} x j e = found_refused y (subst (λ z. JudgedBy prelude_judge prelude (Refused z) (zeros 0)) (sym e) j)
