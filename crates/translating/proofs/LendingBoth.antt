-- Request 7: what the front end leaves of a prelude and a scheme is what the passes that write code are told of the one program.
use Prim.Native.Nat.{ℕ, ◌+◌, ◌-◌, ◌*◌, ◌/◌, ◌%◌, ◌<◌, ◌≤◌}
use mathlib.Core.Path.{◌≡◌, sym, ap, subst, ◌∙◌}
use mathlib.Core.List.{List, [], ◌∷◌, ◌++◌}
use native.Mathlib.Omega.{arith}
use lib.ListN.{length, get_or, take, replicate, length-append, length-map, length-replicate, get_or-replicate, get_or-append}
use lib.Seq.{get_or-append-add}
use Rattle.symbols.specs.Symbols.{kind, value_of}
use Rattle.symbols.specs.Names.{letters_at}
use Rattle.symbols.specs.Scan.{scan, values_of}
use Rattle.symbols.specs.model.Kinds.{unpacked}
use Rattle.grammar.specs.Trees.{yield}
use Rattle.names.specs.Program.{Statement, Procedure}
use Rattle.names.specs.Every.{AnyName, EveryS, EveryD}
use Rattle.names.specs.Outline.{rows_s, rows_d}
use Rattle.names.specs.ReadOff.{program_from}
use Rattle.names.specs.Prelude.{declarations_of, with_prelude}
use Rattle.types.specs.model.Marks.{marks_s}
use Rattle.reading.specs.Judging as any
use Rattle.reading.specs.Two.{symbols, count_of, left, place_with, procedures}
use Rattle.reading.specs.declared.Both.{Both}
use Rattle.reading.specs.model.Moves.{page}
use Rattle.reading.specs.model.Preluding.{depth_with, as_scheme, BothFill}
use Rattle.reading.proofs.BothStand.{both, own, both_stands, spelled, spelled', few_all}
use Rattle.reading.proofs.HalfWords.{small_place, whole_below}
use Rattle.reading.proofs.Passed.{Stands, rows_here_lem, uses_here, marks_here}
use Rattle.translation.specs.model.Sizes.{symbols_s, LimitedWith}
use Rattle.translation.proofs.Accepted.{accepted_scoped}
use Rattle.translation.proofs.Ranges.{ends, in_range_with}
use Rattle.translation.proofs.Lengths.{fits_words_with}
use Rattle.translating.specs.With.{Scheme}
use Rattle.translating.proofs.Accepting.{Valued, Pointed}
use Rattle.translating.proofs.Headed.{headed_behind, headed_prelude, headed_both}
use Rattle.translating.proofs.Lending.{first_word}
use Rattle.translating.proofs.Numbers.{all_behind, all_prelude}
use Rattle.translating.proofs.Preluded.{within_limits_with, faultless_with}
use Rattle.translating.proofs.Rising.{RowsRise, rising_behind, rising_prelude, rising_both}
use Rattle.translating.proofs.Standing.{StandS, standing_both}
use Rattle.translating.proofs.Emitted.{Marked, Roomy}
use Rattle.translating.proofs.Coded.{Lent}

-- ---- of a statement with a prelude around it

all_of : (Q : ℕ → ℕ → Type 0) (D : ℕ → ℕ → ℕ → Type 0) (q : ℕ) (ps : List Procedure) (s : Statement) → EveryD AnyName Q D (declarations_of ps) → EveryS AnyName Q D s → EveryS AnyName Q D (with_prelude q ps s)
all_of Q D q [] s h k = k
all_of Q D q (p ∷ ps) s h k = (h, k)

roomy_with : (place : ℕ → ℕ) (q : ℕ) (ps : List Procedure) (s : Statement) → LimitedWith ps s → Roomy place (with_prelude q ps s)
unfolding symbols_s
roomy_with place q [] s l =
    record { symbols = omega (arith, l.symbols); ended = ends place s l.whole (omega (arith, l.symbols)); ranged = in_range_with place q [] s l; fits = fits_words_with place q [] s l }
roomy_with place q (p ∷ ps) s l =
    record { symbols = omega (arith, l.symbols); ended = ends place (with_prelude q (p ∷ ps) s) tt (omega (arith, l.symbols)); ranged = in_range_with place q (p ∷ ps) s l; fits = fits_words_with place q (p ∷ ps) s l }

-- a word of two lists of them
first_part : (u v : List ℕ) (i : ℕ) → i < length u → get_or (u ++ v) i 0 ≡ get_or u i 0
first_part u v i l = get_or-append u v 0 i l

second_part : (u v : List ℕ) (i m : ℕ) → m ≡ length u → m ≤ i → get_or (u ++ v) i 0 ≡ get_or v (i - m) 0
second_part u v i m e l = let z : i ≡ length u + (i - m) = omega arith in ap (λ (k : ℕ). get_or (u ++ v) k 0) z ∙ get_or-append-add u v (i - m) 0

module _ {prelude scheme places values nodes own-nodes rows uses was marks : List ℕ} {b : Both} (h : BothFill prelude scheme places values nodes own-nodes rows uses was marks b) where
  abbrev ps : List Procedure
  ps = procedures h.whole

  abbrev s : Statement
  s = own h.whole h.read

  abbrev whole : Statement
  whole = both h.whole h.read

  abbrev pub scheme_read : Scheme h.whole scheme
  scheme_read = as_scheme prelude scheme ps h.read

  abbrev m : ℕ
  m = count_of prelude

  abbrev n : ℕ
  n = b.all.symbols

  abbrev worth : ℕ → ℕ
  worth k = get_or (values_of (scan symbols prelude).found) k 0

  abbrev letters : ℕ → List ℕ
  letters k = letters_at prelude (any.place_in symbols prelude k)

  abbrev worth' : ℕ → ℕ
  worth' k = get_or (values_of (scan (left prelude) scheme).found) (k - count_of prelude) 0

  abbrev letters' : ℕ → List ℕ
  letters' k = letters_at scheme (any.place_in (left prelude) scheme (k - count_of prelude))

  stand : Stands (page scheme prelude) places (take b.all.nodes nodes) n whole
  stand = both_stands h.whole h.read h.joined.placed h.joined.noded

  first_count : length (yield h.whole.read.tree) ≡ m
  first_count = spelled h.whole h.read

  all_count : m + length (yield h.read.tree) ≡ n
  all_count = omega (arith, spelled' h.whole h.read, h.joined.placed.count)

  -- the values, by symbol
  values_first : (i : ℕ) → i < m → get_or values i 0 ≡ worth i
  values_first i l =
      let u = values_of (scan symbols prelude).found in
      let v = values_of (scan (left prelude) scheme).found in
      let e : length u ≡ m = length-map (scan symbols prelude).found (λ f. value_of f.symbol) ∙ sym (length-map (scan symbols prelude).found (λ f. kind f.symbol)) in
      first_word n values (u ++ v) h.joined.valued i (omega (arith, length-append u v)) ∙ first_part u v i (omega arith)

  values_second : (i : ℕ) → m ≤ i → i < n → get_or values i 0 ≡ worth' i
  values_second i l k =
      let u = values_of (scan symbols prelude).found in
      let v = values_of (scan (left prelude) scheme).found in
      let e : length u ≡ m = length-map (scan symbols prelude).found (λ f. value_of f.symbol) ∙ sym (length-map (scan symbols prelude).found (λ f. kind f.symbol)) in
      let e' : length v ≡ length (any.kinds_in (left prelude) scheme) = length-map (scan (left prelude) scheme).found (λ f. value_of f.symbol) ∙ sym (length-map (scan (left prelude) scheme).found (λ f. kind f.symbol)) in
      first_word n values (u ++ v) h.joined.valued i (omega (arith, length-append u v, h.joined.placed.count)) ∙ second_part u v i m (sym e) l

  pointed : (i w : ℕ) → get_or values i 0 ≡ w → Valued values i w × Pointed values i (unpacked w).digits (unpacked w).behind
  unfolding unpacked
  pointed i w e = (e, (ap (λ (k : ℕ). k / 16) e, ap (λ (k : ℕ). k % 16) e))

  numbers : EveryS AnyName (Valued values) (Pointed values) whole
  numbers =
      all_of (Valued values) (Pointed values) m ps s
      (all_prelude worth letters (Valued values) (Pointed values) h.whole.read.tree (λ i l. pointed i (worth i) (values_first i (omega (arith, first_count)))))
      (all_behind worth' letters' (Valued values) (Pointed values) m h.read.tree (λ i l k. pointed i (worth' i) (values_second i l (omega (arith, all_count)))))

  -- the marks, over none
  marks_stand : was ≡ replicate 2048 0 → StandS (Marked marks) [] whole
  marks_stand z =
      let w : length was ≡ 2048 = ap length z ∙ length-replicate {A = ℕ} 2048 0 in
      let e : length (yield h.whole.read.tree) ≡ m = first_count in
      subst (λ (x : List ℕ). StandS (Marked x) [] whole) (sym (h.joined.marked ∙ marks_here stand h.joined.kept was))
      (subst (λ (k : ℕ). StandS (λ q w. get_or (marks_s [] (with_prelude m ps (program_from worth' letters' k h.read.tree)) was) q 0 ≡ w) [] (with_prelude m ps (program_from worth' letters' k h.read.tree))) e
      (standing_both worth worth' letters letters' m h.whole.read.tree h.read.tree was (omega (arith, w, few_all h.whole h.read, first_count, spelled' h.whole h.read))
      (λ k l. ap (λ (x : List ℕ). get_or x k 0) z ∙ get_or-replicate 2048 k 0 0 (omega arith))))

  -- the marks that were lent were none
  pub lent : was ≡ replicate 2048 0 → Lent (place_with prelude scheme) n (depth_with ps) whole (take b.all.nodes nodes) (take b.all.uses uses) (take (4 * b.all.rows) rows) places values marks
  lent z = record {
    noded = h.joined.noded;
    rowed = rows_here_lem stand h.joined.kept;
    used = uses_here stand h.joined.kept;
    placed = λ k l. let i = small_place prelude scheme h.whole.read.scanned.short h.read.scanned.short k in let e = h.joined.placed.placed k l in omega arith;
    valued = numbers;
    marked = marks_stand z;
    few = omega (arith, h.joined.few);
    small = small_place prelude scheme h.whole.read.scanned.short h.read.scanned.short;
    below = whole_below h;
    in_order = rising_both m m n ps s (λ c q. subst (λ (k : ℕ). RowsRise 0 k (rows_d c q (declarations_of ps))) first_count (rising_prelude worth letters h.whole.read.tree c q))
        (λ c q. subst (λ (k : ℕ). RowsRise m k (rows_s c q s)) all_count (rising_behind worth' letters' m h.read.tree c q));
    headed = headed_both m ps s (headed_prelude worth letters h.whole.read.tree) (headed_behind worth' letters' m h.read.tree);
    scoped = let f = faultless_with h.whole scheme_read h.joined.named h.joined.typed in accepted_scoped whole f.0 f.1;
    roomy = roomy_with (place_with prelude scheme) m ps s (within_limits_with h.whole scheme_read);
  }
