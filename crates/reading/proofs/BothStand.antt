-- Request 7: a prelude and a scheme, each found by itself, brought together: what the loops leave stands for the passes as the one program, and since the prelude is without a
-- fault, what the passes find is the scheme's.
use Prim.Native.Nat.{ℕ, zero, suc, ◌+◌, ◌*◌, ◌-◌, ◌/◌, ◌<◌, ◌≤◌}
use native.Mathlib.Omega.{arith}
use mathlib.Core.Path.{◌≡◌, refl, sym, ap, subst, ◌∙◌}
use mathlib.Core.List.{List, [], ◌∷◌, ◌++◌, map}
use lib.ListN.{length, get_or, take, drop, length-map}
use lib.Seq.{get_or-take, take-append_seam}
use Rattle.answers.specs.Numbers.{types}
use Rattle.answers.specs.Answers.{refusal}
use Rattle.answers.specs.declared.Verdict.TheVariants.{Refused}
use Rattle.symbols.specs.Names.{letters_at}
use Rattle.symbols.specs.Symbols.{kind}
use Rattle.symbols.specs.Scan.{scan, values_of}
use Rattle.grammar.specs.Trees.{yield}
use Rattle.grammar.specs.model.Marked.{nodes_of, prelude_nodes, nodes_behind}
use Rattle.grammar.specs.model.Parsing.{zeros}
use Rattle.names.specs.Program.{Name, Statement, dummy, block, last, Declarations, Procedure}
use Rattle.names.specs.Uses.{Fault, name_faults, least}
use Rattle.names.specs.Nodes.{nodes_s}
use Rattle.names.specs.Prelude.{declarations_of, with_prelude, prelude_alone, around_it, name_faults_with}
use Rattle.names.proofs.AllNames.{AllS, AllD}
use Rattle.names.proofs.Weaken.{map_all}
use Rattle.names.proofs.Behind.{faults_behind}
use Rattle.names.proofs.Bridge.{bridge_behind}
use Rattle.names.proofs.Fours.{Fours, none as no-four, one, fours_weaken}
use Rattle.names.proofs.Least.{none_empty}
use Rattle.names.proofs.Named.{named_behind, named_prelude}
use Rattle.names.proofs.NearNodes.{SymbolsWithin, nodes_near, some_symbols, prelude_near, behind_before_end}
use Rattle.types.specs.Types.{type_faults, type_fault, type_fault_in}
use Rattle.types.specs.model.Passes.{marks_of}
use Rattle.types.proofs.Behind.{types_behind}
use Rattle.table.proofs.Fits.{prelude_room, behind_room, rows_room_with}
use Rattle.reading.specs.Judging as any
use Rattle.reading.specs.Judges.{JudgedBy, misnamed, mistyped}
use Rattle.reading.specs.Two.{beyond, symbols, half_words, count_of, left, place_with, Prelude, procedures, scheme_judge, scheme_in}
use Rattle.std.proofs.Common.{Result}
use Rattle.answers.specs.declared.Refusal.{Refusal}
use Rattle.reading.specs.declared.Sizes.{Sizes}
use Rattle.reading.specs.model.Moves.{page, shift, first_raised, first_shifted, marked, Symbols, PlacedWith}
use Rattle.reading.specs.model.Passing.{Kept, place_from, Passes}
use Rattle.reading.specs.model.Preluding.{Apart, depth_with, as_scheme, JoinTold, both_refused, both_stand}
use Rattle.reading.proofs.Answers.{place-from}
use Rattle.reading.proofs.Passed.{Stands, Said, at_names, at_types, right, said}
use Rattle.reading.proofs.Places.{few_symbols}
use Rattle.reading.proofs.PreludeStands.{place_small, there_with, all_with, within_marked}
use Rattle.reading.proofs.Shifted.{shifted}
use Rattle.reading.proofs.Together.{one_program, behind_both, places_both, letters_prelude, letters_scheme}

unmapped : (l : List ℕ) → map {B = Fault} (λ q. record { symbol = q; answer = types }) l ≡ [] → l ≡ []
unmapped [] e = refl
unmapped (q ∷ l) e = absurd (let z : ◌≡◌ {A = ℕ} 0 1 = cc in omega arith)

-- what is so of every name of some declarations
pub weaken_d : {A B : Name → Type 0} (ds : Declarations) → ((x : Name) → A x → B x) → AllD A ds → AllD B ds
weaken_d ds f h = (map_all (block 0 ds (last dummy)) f (h, tt)).0

-- ---- nodes of four words

-- the symbol of node i
symbol_of : {A : ℕ → Type 0} {w : List ℕ} → Fours A w → (i : ℕ) → 4 * i + 1 < length w → A (get_or w (4 * i + 1) 0)
symbol_of no-four i l = absurd (omega arith)
symbol_of (one h f) zero l = h
symbol_of {A} (one {k} {s} {a} {b} {ws} h f) (suc i) l =
    let e : 4 * suc i + 1 ≡ suc (suc (suc (suc (4 * i + 1)))) = omega arith in
    subst (λ (j : ℕ). A (get_or (k ∷ s ∷ a ∷ b ∷ ws) j 0)) (sym e) (symbol_of f i (omega arith))

whole_length : {A : ℕ → Type 0} {w : List ℕ} → Fours A w → 4 * (length w / 4) ≡ length w
whole_length no-four = refl
whole_length (one {ws = ws} h f) = omega (arith, whole_length f)

shift_length : {A : ℕ → Type 0} {w : List ℕ} (m : ℕ) → Fours A w → length (shift m w) ≡ length w
unfolding shift
shift_length m no-four = refl
shift_length m (one h f) = ap (λ (k : ℕ). suc (suc (suc (suc k)))) (shift_length m f)

-- the words of nodes that begin an array, moved
moved_words : {A : ℕ → Type 0} (old : List ℕ) {new w : List ℕ} (c m : ℕ) → Fours A w → take c old ≡ w → c ≡ length w → new ≡ first_shifted m (4 * (c / 4)) old → take c new ≡ shift m w
moved_words {A} old {new} {w} c m f e l q =
    let z : 4 * (c / 4) ≡ c = ap (λ (k : ℕ). 4 * (k / 4)) l ∙ whole_length f ∙ sym l in
    let n : c ≡ length (shift m w) = l ∙ sym (shift_length m f) in
    ap (take c) (q ∙ ap (λ (k : ℕ). shift m (take k old) ++ drop k old) z ∙ ap (λ (y : List ℕ). shift m y ++ drop c old) e)
    ∙ ap (λ (k : ℕ). take k (shift m w ++ drop c old)) n ∙ take-append_seam (shift m w) (drop c old)

-- ---- both as one program, for the passes

module _ {prelude scheme : List ℕ} (p : Prelude prelude) (q : any.Grammatical (left prelude) scheme) where
  abbrev pub ps : List Procedure
  ps = procedures p

  abbrev pub own : Statement
  own = scheme_in prelude scheme q.tree

  abbrev pub both : Statement
  both = with_prelude (count_of prelude) ps own

  abbrev worth : ℕ → ℕ
  worth k = get_or (values_of (scan symbols prelude).found) k 0

  abbrev letters : ℕ → List ℕ
  letters k = letters_at prelude (any.place_in symbols prelude k)

  abbrev worth' : ℕ → ℕ
  worth' k = get_or (values_of (scan (left prelude) scheme).found) (k - count_of prelude) 0

  abbrev letters' : ℕ → List ℕ
  letters' k = letters_at scheme (any.place_in (left prelude) scheme (k - count_of prelude))

  pub spelled : length (yield p.read.tree) ≡ count_of prelude
  spelled = ap length p.read.keeps.spelled

  pub spelled' : length (yield q.tree) ≡ length (any.kinds_in (left prelude) scheme)
  spelled' = ap length q.keeps.spelled

  pub few_all : count_of prelude + length (any.kinds_in (left prelude) scheme) ≤ 1024
  few_all =
      let a = (scan symbols prelude).found in
      let b = (scan (left prelude) scheme).found in
      omega (arith, few_symbols symbols prelude, few_symbols (left prelude) scheme, length-map a (λ f. kind f.symbol), length-map b (λ f. kind f.symbol))

  -- the nodes
  both_nodes : marked (count_of prelude) (prelude_nodes p.read.tree) (shift (count_of prelude) (nodes_of q.tree)) ≡ nodes_s (depth_with ps) both
  both_nodes = one_program worth worth' letters letters' (count_of prelude) (count_of prelude) p.read.tree q.tree

  own_nodes : shift (count_of prelude) (nodes_of q.tree) ≡ nodes_s 1 own
  own_nodes = sym (shifted (count_of prelude) q.tree) ∙ bridge_behind worth' letters' (count_of prelude) q.tree

  -- every name of the prelude and of the scheme has a symbol of its own text
  pub early_names : AllD (λ x. (x.letters ≡ letters x.symbol) × (x.symbol < count_of prelude)) (declarations_of ps)
  early_names = subst (λ k. AllD (λ x. (x.letters ≡ letters x.symbol) × (x.symbol < k)) (declarations_of ps)) spelled (named_prelude worth letters p.read.tree)

  pub late_names : AllS (λ x. (x.letters ≡ letters' x.symbol) × (count_of prelude ≤ x.symbol) × (x.symbol < count_of prelude + length (any.kinds_in (left prelude) scheme))) own
  late_names =
      subst (λ k. AllS (λ x. (x.letters ≡ letters' x.symbol) × (count_of prelude ≤ x.symbol) × (x.symbol < count_of prelude + k)) own) spelled' (named_behind worth' letters' (count_of prelude) q.tree)

  -- the symbols of the scheme's nodes: the last one, 'end', is none of them
  pub own_within : (k : ℕ) → count_of prelude + length (any.kinds_in (left prelude) scheme) ≡ suc k → SymbolsWithin k (nodes_s 1 own)
  own_within k e = subst (SymbolsWithin k) (bridge_behind worth' letters' (count_of prelude) q.tree) (behind_before_end (count_of prelude) q.tree k (omega (arith, spelled', e)))

  pub own_few : length (nodes_s 1 own) ≤ 16384
  own_few = omega (arith, ap length (sym (bridge_behind worth' letters' (count_of prelude) q.tree)), behind_room (count_of prelude) q.tree, spelled', few_all)

  pub some_own : (k : ℕ) × (count_of prelude + length (any.kinds_in (left prelude) scheme) ≡ suc k)
  some_own = let k = some_symbols q.tree in (count_of prelude + k.0, omega (arith, k.1, spelled'))

  pub both_before_end : (k : ℕ) → count_of prelude + length (any.kinds_in (left prelude) scheme) ≡ suc k → SymbolsWithin k (nodes_s (depth_with ps) both)
  both_before_end k e =
      let j = some_symbols q.tree in
      subst (SymbolsWithin k) both_nodes
      (within_marked k (count_of prelude) (prelude_nodes p.read.tree) (shift (count_of prelude) (nodes_of q.tree)) (omega (arith, e, j.1, spelled'))
      (fours_weaken (λ s h. omega (arith, spelled, e, j.1, spelled')) (prelude_near p.read.tree))
      (subst (SymbolsWithin k) (sym own_nodes) (own_within k e)))

  -- on the page their letters are those of their own text
  module _ {new : List ℕ} {n : ℕ} (placed : PlacedWith prelude scheme new n) where
    abbrev Good : Name → Type 0
    Good x = (x.letters ≡ letters_at (page scheme prelude) (get_or new x.symbol 0)) × (x.symbol < n)

    early : (x : Name) → (x.letters ≡ letters x.symbol) × (x.symbol < count_of prelude) → Good x
    early x h =
        let l : x.symbol < n = omega (arith, h.1, placed.count) in
        (h.0 ∙ sym (letters_prelude prelude scheme x.symbol q.scanned.short p.read.scanned.short h.1) ∙ ap (letters_at (page scheme prelude)) (sym (placed.placed x.symbol l)), l)

    late : (x : Name) → (x.letters ≡ letters' x.symbol) × (count_of prelude ≤ x.symbol) × (x.symbol < count_of prelude + length (any.kinds_in (left prelude) scheme)) → Good x
    late x h =
        let l : x.symbol < n = omega (arith, h.2, placed.count) in
        (h.0 ∙ sym (letters_scheme prelude scheme x.symbol q.scanned.short h.1) ∙ ap (letters_at (page scheme prelude)) (sym (placed.placed x.symbol l)), l)

    both_within : SymbolsWithin n (nodes_s (depth_with ps) both)
    both_within = let k = some_own in fours_weaken (λ s h. omega (arith, k.1, placed.count)) (both_before_end k.0 k.1)

    pub both_stands : {ws : List ℕ} → ws ≡ nodes_s (depth_with ps) both → Stands (page scheme prelude) new ws n both
    both_stands e = record {
      depth = depth_with ps;
      there = there_with (count_of prelude) ps own;
      noded = e;
      few = omega (arith, few_all, placed.count);
      named = all_with Good (count_of prelude) ps own (weaken_d (declarations_of ps) early early_names) (map_all own late late_names);
      within = subst (SymbolsWithin n) (sym e) both_within;
      room = rows_room_with worth worth' letters letters' (count_of prelude) (count_of prelude) p.read.tree q.tree (omega (arith, spelled, few_all)) (omega (arith, spelled', few_all));
    }

    both_place : (k : ℕ) → place_from new n (length scheme) k ≡ place_with prelude scheme k
    both_place = place-from new n (length scheme) (place_with prelude scheme) (omega (arith, few_all, placed.count)) placed.placed (λ k l. sym (behind_both placed k l))

  -- the prelude is without a fault: so what is found of both is the scheme's
  alone_right : name_faults (prelude_alone ps) ≡ []
  alone_right = none_empty (name_faults (prelude_alone ps)) p.named

  alone_typed : type_faults (prelude_alone ps) ≡ []
  unfolding type_fault
  alone_typed = unmapped (type_faults (prelude_alone ps)) (none_empty (map {B = Fault} (λ q. record { symbol = q; answer = types }) (type_faults (prelude_alone ps))) p.typed)

  names_of : name_faults both ≡ name_faults_with ps own
  names_of = faults_behind (count_of prelude) ps own alone_right

  types_of : type_fault both ≡ type_fault_in (around_it ps) own
  unfolding type_fault type_fault_in
  types_of = ap (λ l. least (map {B = Fault} (λ q. record { symbol = q; answer = types }) l)) (types_behind (count_of prelude) ps own alone_typed)

-- ---- each by itself, brought together

module _ {prelude scheme places values places' values' first second : List ℕ} {m n b c : ℕ} (a : Apart prelude scheme places values places' values' first second m n b c) where
  m_is : m ≡ count_of prelude
  m_is = a.before.count

  n_is : n ≡ length (any.kinds_in (left prelude) scheme)
  n_is = a.behind.symbols_in.count

  pub few_both : m + n ≤ 1024
  few_both = omega (arith, few_all a.whole a.behind.read, m_is, n_is)

  -- what `beyond` asks
  pub places_small : (i : ℕ) → i < m → get_or places i 0 ≤ 16384
  places_small i l = omega (arith, a.before.placed i l, place_small a.before i)

  -- what `shift` asks
  near : Fours (λ s. s ≤ length (yield a.behind.read.tree)) (nodes_of a.behind.read.tree)
  near = nodes_near a.behind.read.tree

  pub symbols_small : Symbols 2048 (c / 4) second
  symbols_small i l =
      let N = nodes_of a.behind.read.tree in
      let k : 4 * i + 1 < c = omega arith in
      let h = symbol_of near i (omega (arith, a.behind.many)) in
      let e : get_or second (4 * i + 1) 0 ≡ get_or N (4 * i + 1) 0 = sym (get_or-take c second (4 * i + 1) 0 k) ∙ ap (λ (w : List ℕ). get_or w (4 * i + 1) 0) a.behind.words in
      omega (arith, h, e, spelled' a.whole a.behind.read, few_all a.whole a.behind.read)

  -- what `around` asks
  pub nodes_enough : b + c + 12 ≤ 32768
  nodes_enough =
      let e : length (nodes_behind 0 a.behind.read.tree) ≡ c = ap length (shifted 0 a.behind.read.tree) ∙ shift_length 0 near ∙ sym a.behind.many in
      omega (arith, a.many, prelude_room a.whole.read.tree, e, behind_room 0 a.behind.read.tree, spelled a.whole a.behind.read, spelled' a.whole a.behind.read, few_all a.whole a.behind.read)

  module _ {moved : List ℕ} (e : moved ≡ first_shifted m (4 * (c / 4)) second) where
    moved_is : take c moved ≡ shift (count_of prelude) (nodes_of a.behind.read.tree)
    moved_is = moved_words second c m near a.behind.words a.behind.many e ∙ ap (λ (k : ℕ). shift k (nodes_of a.behind.read.tree)) m_is

    joined_is : (nodes : List ℕ) (w : ℕ) → take w nodes ≡ marked m (take b first) (take c moved) → take w nodes ≡ nodes_s (depth_with (procedures a.whole)) (both a.whole a.behind.read)
    joined_is nodes w r =
        r ∙ ap (λ (x : List ℕ). marked m x (take c moved)) a.words ∙ ap (λ (x : List ℕ). marked m (prelude_nodes a.whole.read.tree) x) moved_is
        ∙ ap (λ (k : ℕ). marked k (prelude_nodes a.whole.read.tree) (shift (count_of prelude) (nodes_of a.behind.read.tree))) m_is ∙ both_nodes a.whole a.behind.read

    -- 7 to 10 of the scheme, or both stand
    pub told_both : {text new values₁ nodes rows uses was marks : List ℕ} {w : ℕ} {r : Result Sizes Refusal} → text ≡ page scheme prelude → take (m + n) new ≡ take m (first_raised beyond m places) ++ take n places'
        → take (m + n) values₁ ≡ take m values ++ take n values' → take w nodes ≡ marked m (take b first) (take c moved)
        → Passes text new (take w nodes) rows uses was marks (m + n) (length scheme) w r
        → JoinTold prelude scheme new values₁ nodes moved rows uses was marks a.whole a.behind.read c r
    told_both {text} {new} {values₁} {nodes} {rows} {uses} {was} {marks} {w} {r} i g v y x =
        go (said (both_stands a.whole a.behind.read placed (joined_is nodes w y)) (subst (λ t. Passes t new (take w nodes) rows uses was marks (m + n) (length scheme) w r) i x))
      where
        placed : PlacedWith prelude scheme new (m + n)
        placed = places_both prelude scheme places places' m n a.before.placed a.behind.symbols_in.placed m_is n_is a.before.long a.behind.symbols_in.long g

        valued : take (m + n) values₁ ≡ values_of (scan symbols prelude).found ++ values_of (scan (left prelude) scheme).found
        valued = v ∙ ap (λ (z : List ℕ). z ++ take n values') a.before.valued ∙ ap (λ (z : List ℕ). values_of (scan symbols prelude).found ++ z) a.behind.symbols_in.valued

        go : {r : Result Sizes Refusal} → Said (page scheme prelude) new (take w nodes) rows uses was marks (m + n) (length scheme) w (both a.whole a.behind.read) r → JoinTold prelude scheme new values₁ nodes moved rows uses was marks a.whole a.behind.read c r
        go (at_names f h z d) =
            both_refused z (subst (λ z. JudgedBy (scheme_judge prelude (procedures a.whole)) scheme (Refused z) (zeros half_words)) (sym (d ∙ ap (refusal f.answer) (both_place a.whole a.behind.read placed f.symbol)))
            (misnamed (as_scheme prelude scheme (procedures a.whole) a.behind.read) f (ap least (sym (names_of a.whole a.behind.read)) ∙ h)))
        go (at_types f h k z d) =
            both_refused z (subst (λ z. JudgedBy (scheme_judge prelude (procedures a.whole)) scheme (Refused z) (zeros half_words)) (sym (d ∙ ap (refusal f.answer) (both_place a.whole a.behind.read placed f.symbol)))
            (mistyped (as_scheme prelude scheme (procedures a.whole) a.behind.read) f (ap least (sym (names_of a.whole a.behind.read)) ∙ h) (sym (types_of a.whole a.behind.read) ∙ k)))
        go (right z h k t d i j) =
            both_stand z (record {
              placed = subst (PlacedWith prelude scheme new) (sym i) placed;
              few = omega (arith, i, few_both);
              valued = ap (λ (k : ℕ). take k values₁) i ∙ valued;
              noded = ap (λ (k : ℕ). take k nodes) j ∙ joined_is nodes w y;
              owned = moved_is ∙ own_nodes a.whole a.behind.read;
              kept = subst (λ (k : ℕ). Kept (page scheme prelude) new (take z.nodes nodes) rows uses k z.rows z.uses) (sym i) (subst (λ (k : ℕ). Kept (page scheme prelude) new (take k nodes) rows uses (m + n) z.rows z.uses) (sym j) t);
              named = ap least (sym (names_of a.whole a.behind.read)) ∙ h;
              typed = sym (types_of a.whole a.behind.read) ∙ k;
              marked = d ∙ ap (λ (k : ℕ). marks_of (take (4 * z.rows) rows) (take z.uses uses) (take k nodes) was) (sym j);
            })
