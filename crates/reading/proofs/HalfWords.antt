-- Request 7: the words of a half. What was found of both tells the scheme's uses, declarations and nodes; these are written over zeros, and then the uses of the prelude's
-- names get kind 4.
use Prim.Native.Nat.{ℕ, ◌+◌, ◌*◌, ◌-◌, ◌<◌, ◌≤◌}
use native.Mathlib.Omega.{arith}
use native.Mathlib.Nat.{mod-eq_of_lt}
use native.Mathlib.Decide.{dec_lt}
use mathlib.Core.Path.{◌≡◌, refl, sym, ap, subst, ◌∙◌}
use mathlib.Core.Bool.{not}
use mathlib.Core.List.{List, [], ◌∷◌, ◌++◌, append-nil, append_assoc}
use lib.Dec.{ltb}
use lib.ListN.{length, take, drop, length-append, length-map, length-take, length-drop}
use lib.Seq.{take_at, take_all, drop_at, drop-drop}
use borrow.Author.Tests.{lt-ltb, le-ltb}
use Rattle.answers.specs.declared.Verdict.{Verdict}
use Rattle.answers.specs.declared.Verdict.TheVariants.{Accepted}
use Rattle.grammar.specs.model.Parsing.{zeros}
use Rattle.names.specs.Program.{Statement, Procedure}
use Rattle.names.specs.Uses.{Use, uses_s, uses_d, joined, faults_here, scopes_s, unmeant}
use Rattle.names.specs.Scopes.{Scope, of_block}
use Rattle.names.specs.Nodes.{nodes_s}
use Rattle.names.specs.Outline.{rows_s, declarations}
use Rattle.names.specs.Prelude.{declarations_of, with_prelude, prelude_alone, around_it, fourth, rows_with, declarations_with, name_faults_with}
use Rattle.names.proofs.AllNames.{AllS, AllD}
use Rattle.names.proofs.Weaken.{map_all}
use Rattle.names.proofs.Behind.{declared_behind}
use Rattle.names.proofs.Fours.{fours_weaken}
use Rattle.names.proofs.Least.{none_empty}
use Rattle.names.proofs.Resolved.{Matches, matches_length, matches_split}
use Rattle.table.specs.Table.{fours, use_words, declaration_words, node_words, table_with}
use Rattle.table.specs.model.Writing.{Wrote, Enters, place_of, table_behind, fourths}
use Rattle.table.proofs.Fits.{three_words_lem}
use Rattle.table.proofs.Fourths.{fourth_rows, fourths_length}
use Rattle.table.proofs.SamePlaces.{SymbolsBelow, fours_below}
use Rattle.table.proofs.TableWords.{rows_behind, behind_words}
use Rattle.table.proofs.UseWords.{nil_both, words_length}
use Rattle.reading.specs.Judging as any
use Rattle.reading.specs.Judges.{accepted}
use Rattle.reading.specs.Two.{symbols, half_words, count_of, left, place_with, procedures, Half, behind, ReadsTwo, enough}
use Rattle.reading.specs.declared.Both.{Both}
use Rattle.reading.specs.model.Moves.{page}
use Rattle.reading.specs.model.Preluding.{depth_with, as_scheme, BothFill}
use Rattle.reading.proofs.Answers.{wrote-filled, length_zeros}
use Rattle.reading.proofs.BothStand.{both, own as scheme-of, both_stands, early_names, late_names, own_within, some_own, both_before_end, own_few, weaken_d}
use Rattle.reading.proofs.Independent.{half_fits, half_length}
use Rattle.reading.proofs.Passed.{Stands, rows_here_lem, uses_here}
use Rattle.reading.proofs.Places.{place_inside}

-- ---- lists

-- from a place to the end
pub part_is : (u : ℕ) (l : List ℕ) → take (length l - u) (drop u l) ≡ drop u l
part_is u l = take_all (length l - u) (drop u l) (omega (arith, length-drop u l))

-- ---- the uses of both are the prelude's, and then the scheme's

uses_behind : (q : ℕ) (ps : List Procedure) (s : Statement) → uses_s [] (with_prelude q ps s) ≡ uses_s [] (prelude_alone ps) ++ uses_s (around_it ps) s
unfolding uses_s
uses_behind q [] s = refl
uses_behind q (p ∷ ps) s = let g : List Scope = of_block (declarations_of (p ∷ ps)) ∷ [] in rw (append-nil (uses_d g (declarations_of (p ∷ ps)))) refl

-- ---- the places of the prelude's symbols, and of no others, are from 32,768 on

apart : (prelude scheme : List ℕ) → length scheme ≤ 16384 → (k : ℕ) → ltb (place_with prelude scheme k) 32768 ≡ not (ltb k (count_of prelude))
apart prelude scheme l k = go (dec_lt k (count_of prelude))
  where
    go : Dec (k < count_of prelude) → ltb (place_with prelude scheme k) 32768 ≡ not (ltb k (count_of prelude))
    go (yes h) = rw (lt-ltb k (count_of prelude) h) (le-ltb (any.place_in symbols prelude k + 32768) 32768 (omega arith))
    go (no h) = rw (le-ltb k (count_of prelude) (omega arith)) (lt-ltb (any.place_in (left prelude) scheme (k - count_of prelude)) 32768 (omega (arith, place_inside (left prelude) scheme (k - count_of prelude))))

pub small_place : (prelude scheme : List ℕ) → length prelude ≤ 16384 → length scheme ≤ 16384 → (k : ℕ) → place_with prelude scheme k < 65536
small_place prelude scheme l l' k = go (dec_lt k (count_of prelude))
  where
    go : Dec (k < count_of prelude) → place_with prelude scheme k < 65536
    go (yes h) = rw (lt-ltb k (count_of prelude) h) (omega (arith, place_inside symbols prelude k))
    go (no h) = rw (le-ltb k (count_of prelude) (omega arith)) (omega (arith, place_inside (left prelude) scheme (k - count_of prelude)))

-- ---- the words

-- of words whose second part are the uses: these get their kinds
fourths_in : (x : ℕ) (U rest Z : List ℕ) (k : ℕ) → length U ≡ 3 * k
    → take 1 (((x ∷ U) ++ rest) ++ Z) ++ (fourths (take (3 * k + 1 - 1) (drop 1 (((x ∷ U) ++ rest) ++ Z))) ++ drop (3 * k + 1 - 1) (drop 1 (((x ∷ U) ++ rest) ++ Z))) ≡ ((x ∷ fourths U) ++ rest) ++ Z
fourths_in x U rest Z k e =
    let h : length U ≡ 3 * k + 1 - 1 = omega arith in
    let a : take (3 * k + 1 - 1) ((U ++ rest) ++ Z) ≡ U = ap (take (3 * k + 1 - 1)) (append_assoc U rest Z) ∙ take_at U (rest ++ Z) (3 * k + 1 - 1) h in
    let d : drop (3 * k + 1 - 1) ((U ++ rest) ++ Z) ≡ rest ++ Z = ap (drop (3 * k + 1 - 1)) (append_assoc U rest Z) ∙ drop_at U (rest ++ Z) (3 * k + 1 - 1) h in
    ap (λ (w : List ℕ). x ∷ (fourths w ++ drop (3 * k + 1 - 1) ((U ++ rest) ++ Z))) a ∙ ap (λ (w : List ℕ). x ∷ (fourths U ++ w)) d ∙ ap (λ (w : List ℕ). x ∷ w) (sym (append_assoc (fourths U) rest Z))

module _ {prelude scheme places values nodes own rows uses was marks : List ℕ} {b : Both} (h : BothFill prelude scheme places values nodes own rows uses was marks b) where
  abbrev ps : List Procedure
  ps = procedures h.whole

  abbrev s : Statement
  s = scheme-of h.whole h.read

  abbrev whole : Statement
  whole = both h.whole h.read

  stand : Stands (page scheme prelude) places (take b.all.nodes nodes) b.all.symbols whole
  stand = both_stands h.whole h.read h.joined.placed h.joined.noded

  -- the rows
  rows_all : take (4 * b.all.rows) rows ≡ rows_s 0 0 whole
  rows_all = rows_here_lem stand h.joined.kept

  rows_split : rows_s 0 0 whole ≡ declarations (prelude_alone ps) ++ declarations_with ps s
  unfolding declarations
  rows_split = declared_behind (count_of prelude) ps s

  -- all that are kept, and the scheme's
  abbrev pub rows_kept : List ℕ
  rows_kept = take (4 * b.all.rows) rows

  abbrev pub rows_own : List ℕ
  rows_own = take (length rows_kept - 4 * b.before.rows) (drop (4 * b.before.rows) rows_kept)

  rows_are : rows_own ≡ declarations_with ps s
  rows_are =
      part_is (4 * b.before.rows) rows_kept ∙ ap (drop (4 * b.before.rows)) (rows_all ∙ rows_split)
      ∙ drop_at (declarations (prelude_alone ps)) (declarations_with ps s) (4 * b.before.rows) (sym h.rows_before)

  pub rows_order : 4 * b.before.rows ≤ length rows_kept
  rows_order = omega (arith, ap length (rows_all ∙ rows_split), length-append (declarations (prelude_alone ps)) (declarations_with ps s), h.rows_before)

  -- the uses
  abbrev pub uses_kept : List ℕ
  uses_kept = take b.all.uses uses

  abbrev pub uses_own : List ℕ
  uses_own = take (length uses_kept - b.before.uses) (drop b.before.uses uses_kept)

  uses_all : Matches (rows_s 0 0 whole) uses_kept (uses_s [] (prelude_alone ps) ++ uses_s (around_it ps) s)
  uses_all = subst (λ (us : List Use). Matches (rows_s 0 0 whole) uses_kept us) (uses_behind (count_of prelude) ps s) (uses_here stand h.joined.kept)

  uses_length : length uses_kept ≡ b.before.uses + length (uses_s (around_it ps) s)
  uses_length =
      omega (
        arith,
        matches_length (rows_s 0 0 whole) uses_kept (uses_s [] (prelude_alone ps) ++ uses_s (around_it ps) s) uses_all,
        length-append (uses_s [] (prelude_alone ps)) (uses_s (around_it ps) s),
        h.uses_before,
      )

  pub uses_order : b.before.uses ≤ length uses_kept
  uses_order = omega (arith, uses_length)

  uses_match : Matches (rows_s 0 0 whole) uses_own (uses_s (around_it ps) s)
  uses_match =
      subst (λ (w : List ℕ). Matches (rows_s 0 0 whole) w (uses_s (around_it ps) s)) (sym (part_is b.before.uses uses_kept))
      (subst (λ (k : ℕ). Matches (rows_s 0 0 whole) (drop k uses_kept) (uses_s (around_it ps) s)) (sym h.uses_before)
      (matches_split (rows_s 0 0 whole) uses_kept (uses_s [] (prelude_alone ps)) (uses_s (around_it ps) s) uses_all).1)

  all_mean : joined unmeant (uses_s (around_it ps) s) ≡ []
  unfolding name_faults_with
  all_mean = (nil_both (joined faults_here (scopes_s (around_it ps) s)) (joined unmeant (uses_s (around_it ps) s)) (none_empty (name_faults_with ps s) h.joined.named)).1

  -- the places
  agree : (k : ℕ) → k < b.all.symbols → place_of places k ≡ place_with prelude scheme k
  agree k l =
      let e = h.joined.placed.placed k l in
      mod-eq_of_lt (omega (arith, e, small_place prelude scheme h.whole.read.scanned.short h.read.scanned.short k)) ∙ e

  early : AllD (λ x. x.symbol < b.all.symbols) (declarations_of ps)
  early = weaken_d (declarations_of ps) (λ x g. omega (arith, g.1, h.joined.placed.count)) (early_names h.whole h.read)

  late : AllS (λ x. x.symbol < b.all.symbols) s
  late = map_all s (λ x g. omega (arith, g.2, h.joined.placed.count)) (late_names h.whole h.read)

  low : SymbolsBelow b.all.symbols (nodes_s 1 s)
  low = let k = some_own h.whole h.read in fours_below (fours_weaken (λ x g. omega (arith, k.1, h.joined.placed.count)) (own_within h.whole h.read k.0 k.1))

  pub whole_below : SymbolsBelow b.all.symbols (nodes_s (depth_with ps) whole)
  whole_below = let k = some_own h.whole h.read in fours_below (fours_weaken (λ x g. omega (arith, k.1, h.joined.placed.count)) (both_before_end h.whole h.read k.0 k.1))

  -- what is written first, and the table
  abbrev g : ℕ → ℕ
  g = place_with prelude scheme

  abbrev U : List ℕ
  U = joined (use_words g) (rows_behind ps s)

  abbrev rest : List ℕ
  rest = (fours (declarations_with ps s) ∷ declaration_words g (declarations_with ps s)) ++ (fours (nodes_s 1 s) ∷ node_words g (nodes_s 1 s))

  pub model_is : table_behind (place_of places) rows_kept rows_own (take b.own own) uses_own
      ≡ (length (rows_behind ps s) ∷ U) ++ rest
  model_is =
      ap (λ (r : List ℕ). table_behind (place_of places) r rows_own (take b.own own) uses_own) rows_all
      ∙ ap (λ (r : List ℕ). table_behind (place_of places) (rows_s 0 0 whole) r (take b.own own) uses_own) rows_are
      ∙ ap (λ (r : List ℕ). table_behind (place_of places) (rows_s 0 0 whole) (declarations_with ps s) r uses_own) h.joined.owned
      ∙ behind_words (rows_s 0 0 whole) uses_own b.all.symbols (place_of places) g agree ps s early late low uses_match all_mean

  table_is : (length (rows_behind ps s) ∷ fourths U) ++ rest ≡ table_with g (count_of prelude) ps s
  unfolding table_with rows_with
  table_is =
      (λ i. ((sym (length-map (rows_behind ps s) (fourth (count_of prelude))) i) ∷ fourth_rows g (count_of prelude) (apart prelude scheme h.read.scanned.short) (rows_behind ps s) i) ++ rest)

  fits : length ((length (rows_behind ps s) ∷ fourths U) ++ rest) ≤ half_words
  fits = subst (λ (w : List ℕ). length w ≤ half_words) (sym table_is) (half_fits prelude scheme ps (as_scheme prelude scheme ps h.read))

  same_length : length ((length (rows_behind ps s) ∷ U) ++ rest) ≡ length ((length (rows_behind ps s) ∷ fourths U) ++ rest)
  same_length = omega (arith, length-append (length (rows_behind ps s) ∷ U) rest, length-append (length (rows_behind ps s) ∷ fourths U) rest, fourths_length U)

  pub model-fits : length ((length (rows_behind ps s) ∷ U) ++ rest) ≤ half_words
  model-fits = omega (arith, fits, same_length)

  many : length (rows_behind ps s) ≡ length uses_kept - b.before.uses
  many =
      sym (words_length (rows_s 0 0 whole) uses_own (uses_s (around_it ps) s) uses_match all_mean)
      ∙ matches_length (rows_s 0 0 whole) uses_own (uses_s (around_it ps) s) uses_match ∙ omega (arith, uses_length)

  u_length : length U ≡ 3 * (length uses_kept - b.before.uses)
  u_length = omega (arith, three_words_lem g (rows_behind ps s), many)

  -- the uses end inside the half
  pub uses_inside : 3 * (length uses_kept - b.before.uses) + 1 ≤ half_words
  uses_inside = omega (arith, model-fits, length-append (length (rows_behind ps s) ∷ U) rest, u_length)

  -- there is room for what is written
  pub enters : {old : List ℕ} → old ≡ zeros half_words → length rows_kept ≤ 32768
      → Enters (take b.own own) uses_own rows_own old (table_behind (place_of places) rows_kept rows_own (take b.own own) uses_own)
  enters {old} z l = record {
    few_nodes = omega (arith, ap length h.joined.owned, own_few h.whole h.read);
    few_rows = omega (arith, length-take (length rows_kept - 4 * b.before.rows) (drop (4 * b.before.rows) rows_kept), length-drop (4 * b.before.rows) rows_kept);
    few_uses = omega (arith, length-take (length uses_kept - b.before.uses) (drop b.before.uses uses_kept), length-drop b.before.uses uses_kept, length-take b.all.uses uses, h.joined.kept.few);
    room = omega (arith, ap length z, length_zeros half_words, ap length model_is, model-fits);
  }

  -- written over zeros, and the kinds of the prelude's
  pub half_words_lem : {old mid ys : List ℕ} {k : ℕ} → old ≡ zeros half_words → k ≡ length uses_kept - b.before.uses
      → Wrote old mid 0 (table_behind (place_of places) rows_kept rows_own (take b.own own) uses_own)
      → ys ≡ fourths (take (3 * k + 1 - 1) (drop 1 mid)) → Half prelude scheme Accepted (take 1 mid ++ (ys ++ drop (3 * k + 1 - 1) (drop 1 mid)))
  half_words_lem {old} {mid} {ys} {k} z q w e =
      let T = (length (rows_behind ps s) ∷ U) ++ rest in
      let W = (length (rows_behind ps s) ∷ fourths U) ++ rest in
      let l : length U ≡ 3 * k = omega (arith, u_length, q) in
      let m : mid ≡ T ++ zeros (half_words - length T) = wrote-filled half_words mid T (subst (λ (x : List ℕ). Wrote x mid 0 T) z (subst (λ (x : List ℕ). Wrote old mid 0 x) model_is w)) in
      let new = take 1 mid ++ (ys ++ drop (3 * k + 1 - 1) (drop 1 mid)) in
      let n : new ≡ W ++ zeros (half_words - length T) =
      ap (λ (x : List ℕ). take 1 mid ++ (x ++ drop (3 * k + 1 - 1) (drop 1 mid))) e
      ∙ ap (λ (x : List ℕ). take 1 x ++ (fourths (take (3 * k + 1 - 1) (drop 1 x)) ++ drop (3 * k + 1 - 1) (drop 1 x))) m ∙ fourths_in (length (rows_behind ps s)) U rest (zeros (half_words - length T)) k l in
      let f : new ≡ any.filled half_words (table_with g (count_of prelude) ps s) =
      n ∙ ap (λ (j : ℕ). W ++ zeros (half_words - j)) same_length ∙ ap (λ (x : List ℕ). x ++ zeros (half_words - length x)) table_is in
      subst (Half prelude scheme Accepted) (sym f) (behind h.whole Accepted _ (accepted (as_scheme prelude scheme ps h.read) h.joined.named h.joined.typed))

-- ---- two halves

pub as_two : {prelude a b : List ℕ} {v v' : Verdict} (w w' table : List ℕ) → 32768 ≤ length table → Half prelude a v w → Half prelude b v' w'
    → ReadsTwo prelude a b table v v' (take 16384 (w ++ drop 16384 table) ++ (w' ++ drop 16384 (drop 16384 (w ++ drop 16384 table))))
as_two {prelude} {a} {b} {v} {v'} w w' table l h k =
    let e = half_length h in
    let d : drop 16384 (drop 16384 (w ++ drop 16384 table)) ≡ drop 32768 table = ap (drop 16384) (drop_at w (drop 16384 table) 16384 e) ∙ drop-drop 16384 16384 table in
    let q : take 16384 (w ++ drop 16384 table) ++ (w' ++ drop 16384 (drop 16384 (w ++ drop 16384 table))) ≡ w ++ (w' ++ drop 32768 table) =
    ap (λ (x : List ℕ). x ++ (w' ++ drop 16384 (drop 16384 (w ++ drop 16384 table)))) (take_at w (drop 16384 table) 16384 e) ∙ ap (λ (x : List ℕ). w ++ (w' ++ x)) d in
    subst (ReadsTwo prelude a b table v v') (sym q) (enough l v v' w w' h k)
