-- Request 7: a scheme behind a prelude, by itself: 2 to 6 whatever the prelude's procedures are, or its symbols and nodes stand. And from stage to stage: what was found of the
-- prelude, of the scheme and of both.
use Prim.Native.Nat.{ℕ, ◌-◌, ◌<◌, ◌≤◌, min}
use native.Mathlib.Omega.{arith}
use mathlib.Core.Path.{◌≡◌, sym, ap, subst, ◌∙◌}
use mathlib.Core.Logic.{⊎_elim}
use mathlib.Core.List.{List}
use mathlib.Core.Option.{some}
use lib.ListN.{length, take}
use Rattle.answers.specs.Numbers.{short, long}
use Rattle.answers.specs.Answers.{refusal}
use Rattle.answers.specs.declared.Answer.{Answer}
use Rattle.answers.specs.declared.Refusal.{Refusal}
use Rattle.answers.specs.declared.Verdict.{Verdict}
use Rattle.answers.specs.declared.Verdict.TheVariants.{Refused}
use Rattle.symbols.specs.Scan.{scan}
use Rattle.symbols.specs.model.Steps.{Filled}
use Rattle.grammar.specs.model.Text.{text}
use Rattle.grammar.specs.model.Parsing.{zeros, ParseSays, Parsed as Outcome, read_to, fault_at}
use Rattle.names.specs.Program.{Procedure}
use Rattle.reading.specs.Judging as any
use Rattle.reading.specs.Judges.{JudgedBy, too_long, unreadable, ungrammatical, too_deep}
use Rattle.reading.specs.Two.{half_words, count_of, left, prelude_judge, procedures, scheme_judge, Half, no_prelude, behind, ReadsTwo, too_short}
use Rattle.reading.specs.declared.Sizes.{Sizes}
use Rattle.std.proofs.Common.{Result, Ok, Err}
use Rattle.reading.specs.declared.Both.{Both}
use Rattle.reading.specs.model.Passing.{place_from}
use Rattle.reading.specs.model.Preluding.{SymbolsIn, PreludeFills, PreludeFound, found_refused, found_stands, SchemeNodes, SchemeTold, scheme_refused, scheme_stands, Apart, Joined, JoinTold, both_refused, both_stand, BothFill, FindsBoth, none_stands, program_stands}
use Rattle.reading.proofs.Empty.{no_further}
use Rattle.reading.proofs.PreludeStands.{place_in}
use Rattle.reading.proofs.Passed.{same_found, same_refusal}
use Rattle.reading.proofs.Stages.{refused_in, stand_in, kinds_in_lem, nodes_in_lem, five_or_six, refused_in_at}

-- ---- 2 to 4, or the symbols

pub scheme_long : {scheme places values nodes : List ℕ} {x : Refusal} (prelude : List ℕ) → 16384 < length scheme → x ≡ refusal long 16384 → SchemeTold prelude scheme places values nodes (Err x)
scheme_long {scheme} {x = x} prelude l e = scheme_refused x (λ ps. subst (λ z. JudgedBy (scheme_judge prelude ps) scheme (Refused z) (zeros half_words)) (sym e) (too_long l))

module _ {m : ℕ} (prelude : List ℕ) (e : m ≡ count_of prelude) {scheme kinds kinds' places places' values values' : List ℕ} {t : Result ℕ Refusal} (f : Filled (min (1024 - m) 2048) scheme t kinds kinds' places places' values values') where
  as_left_lem : min (1024 - m) 2048 ≡ left prelude
  as_left_lem = omega arith

  pub scheme_symbols : length scheme ≤ 16384 → (n : ℕ) → t ≡ Ok n → SymbolsIn (left prelude) scheme places' values' n
  scheme_symbols l n q = subst (λ k. SymbolsIn k scheme places' values' n) as_left_lem (stand_in (min (1024 - m) 2048) f l n q)

  pub scheme_kinds : (n : ℕ) → t ≡ Ok n → take n kinds' ≡ any.kinds_in (left prelude) scheme
  scheme_kinds n q = kinds_in_lem (min (1024 - m) 2048) f n q ∙ ap (λ k. any.kinds_in k scheme) as_left_lem

  pub scheme_unread : {nodes : List ℕ} → length scheme ≤ 16384 → (r : Refusal) → t ≡ Err r → SchemeTold prelude scheme places' values' nodes (Err r)
  scheme_unread l r q =
      let s : (scan (left prelude) scheme).refused ≡ some r = ap (λ k. (scan k scheme).refused) (sym as_left_lem) ∙ refused_in (min (1024 - m) 2048) f r q in
      scheme_refused r (λ ps. subst (λ z. JudgedBy (scheme_judge prelude ps) scheme (Refused z) (zeros half_words)) (no_further r) (unreadable l r s))

-- ---- 5 and 6, or the nodes

pub refused_within : (most : ℕ) (kinds : List ℕ) {scheme places values : List ℕ} {n : ℕ} → most ≤ 1024 → SymbolsIn most scheme places values n → take n kinds ≡ any.kinds_in most scheme → {new : List ℕ} {r : Outcome} → ParseSays (text (take n kinds)) new r
    → (a : Answer) (k : ℕ) → r ≡ fault_at a k → k ≤ 1024
refused_within most kinds {scheme} {n = n} l s h v a k q = omega (arith, refused_in_at most scheme kinds n h v a k q, s.count, s.few)

module _ (prelude kinds : List ℕ) {scheme places values : List ℕ} {n : ℕ} (s : SymbolsIn (left prelude) scheme places values n) (h : take n kinds ≡ any.kinds_in (left prelude) scheme) {new : List ℕ} {r : Outcome} (v : ParseSays (text (take n kinds)) new r) where
  pub scheme_nodes : (j b : ℕ) → r ≡ read_to j b → SchemeTold prelude scheme places values new (Ok (record { symbols = n; nodes = b; rows = 0; uses = 0 }))
  scheme_nodes j b q = let g = nodes_in_lem (left prelude) scheme kinds n h v s.scanned j b q in scheme_stands _ (record { symbols_in = s; read = g.0; words = g.1; many = g.2 })

  fault_of_lem : (a : Answer) (k : ℕ) → r ≡ fault_at a k → (ps : List Procedure) → JudgedBy (scheme_judge prelude ps) scheme (Refused (refusal a.number (any.place_in (left prelude) scheme k))) (zeros half_words)
  fault_of_lem a k q ps =
      ⊎_elim
      (λ w. subst (λ m. JudgedBy (scheme_judge prelude ps) scheme (Refused (refusal m (any.place_in (left prelude) scheme k))) (zeros half_words)) (sym w.0) (ungrammatical (record { short = s.scanned.short; whole = s.scanned.whole }) k w.1))
      (λ w. subst (λ m. JudgedBy (scheme_judge prelude ps) scheme (Refused (refusal m (any.place_in (left prelude) scheme k))) (zeros half_words)) (sym w.0) (too_deep (record { short = s.scanned.short; whole = s.scanned.whole }) k w.1))
      (five_or_six (left prelude) scheme kinds n h v a k q)

  pub scheme_refusals : (a : Answer) (k : ℕ) → r ≡ fault_at a k → (x : Refusal) → x ≡ refusal a.number (place_from places n (length scheme) k) → SchemeTold prelude scheme places values new (Err x)
  scheme_refusals a k q x e =
      scheme_refused x (λ ps. subst (λ z. JudgedBy (scheme_judge prelude ps) scheme (Refused z) (zeros half_words))
      (sym (e ∙ ap (refusal a.number) (place_in (left prelude) (omega arith) s k))) (fault_of_lem a k q ps))

-- ---- from stage to stage

pub told_nodes : {prelude scheme places values nodes : List ℕ} {r : Result Sizes Refusal} → SchemeTold prelude scheme places values nodes r → (z : Sizes) → r ≡ Ok z → SchemeNodes prelude scheme places values nodes z.symbols z.nodes
told_nodes (scheme_refused x j) z e = absurd (let z : ◌≡◌ {A = ℕ} 0 1 = cc in omega arith)
told_nodes {prelude} {scheme} {places} {values} {nodes} (scheme_stands y h) z e = subst (λ z. SchemeNodes prelude scheme places values nodes z.symbols z.nodes) (same_found e) h

told_refused : {prelude scheme places values nodes : List ℕ} {r : Result Sizes Refusal} → SchemeTold prelude scheme places values nodes r → (x : Refusal) → r ≡ Err x
    → (ps : List Procedure) → JudgedBy (scheme_judge prelude ps) scheme (Refused x) (zeros half_words)
told_refused {prelude} {scheme} (scheme_refused y j) x e ps = subst (λ z. JudgedBy (scheme_judge prelude ps) scheme (Refused z) (zeros half_words)) (same_refusal e) (j ps)
told_refused (scheme_stands y h) x e ps = absurd (let z : ◌≡◌ {A = ℕ} 0 1 = cc in omega arith)

module _ {prelude scheme places values first : List ℕ} {p : Sizes} (f : PreludeFills prelude places values first p) {places' values' own : List ℕ} {t : Result Sizes Refusal} (told : SchemeTold prelude scheme places' values' own t) where
  pub scheme_refused_both : {places₁ values₁ nodes own₁ rows uses was marks : List ℕ} (x : Refusal) → t ≡ Err x → FindsBoth prelude scheme places₁ values₁ nodes own₁ rows uses was marks (Err x)
  scheme_refused_both x e = none_stands x (behind f.whole (Refused x) (zeros half_words) (told_refused told x e (procedures f.whole)))

  module _ (z : Sizes) (e : t ≡ Ok z) where
    abbrev pub apart : Apart prelude scheme places values places' values' first own p.symbols z.symbols p.nodes z.nodes
    apart = record { whole = f.whole; before = f.symbols_in; behind = told_nodes told z e; words = f.words; many = f.many }

    module _ {places₁ values₁ nodes own₁ rows uses was marks : List ℕ} {r : Result Sizes Refusal}
        (j : (a : Apart prelude scheme places values places' values' first own p.symbols z.symbols p.nodes z.nodes) → JoinTold prelude scheme places₁ values₁ nodes own₁ rows uses was marks a.whole a.behind.read z.nodes r) where
      pub both_found : (y : Sizes) → r ≡ Ok y → FindsBoth prelude scheme places₁ values₁ nodes own₁ rows uses was marks (Ok (record { all = y; before = p; own = z.nodes }))
      both_found y d = go (j apart) d
        where
          go : {r : Result Sizes Refusal} → JoinTold prelude scheme places₁ values₁ nodes own₁ rows uses was marks f.whole (told_nodes told z e).read z.nodes r → r ≡ Ok y
              → FindsBoth prelude scheme places₁ values₁ nodes own₁ rows uses was marks (Ok (record { all = y; before = p; own = z.nodes }))
          go (both_refused x k) d = absurd (let z : ◌≡◌ {A = ℕ} 0 1 = cc in omega arith)
          go (both_stand y₀ k) d =
              program_stands _ (record {
                whole = f.whole;
                read = (told_nodes told z e).read;
                joined = subst (λ y. Joined prelude scheme places₁ values₁ nodes own₁ rows uses was marks f.whole (told_nodes told z e).read z.nodes y) (same_found d) k;
                rows_before = f.rows;
                uses_before = f.uses;
              })

      pub joined_refused_both : (x : Refusal) → r ≡ Err x → FindsBoth prelude scheme places₁ values₁ nodes own₁ rows uses was marks (Err x)
      joined_refused_both x d = go (j apart) d
        where
          go : {r : Result Sizes Refusal} → JoinTold prelude scheme places₁ values₁ nodes own₁ rows uses was marks f.whole (told_nodes told z e).read z.nodes r → r ≡ Err x → FindsBoth prelude scheme places₁ values₁ nodes own₁ rows uses was marks (Err x)
          go (both_refused y k) d = none_stands x (behind f.whole (Refused x) (zeros half_words) (subst (λ z. JudgedBy (scheme_judge prelude (procedures f.whole)) scheme (Refused z) (zeros half_words)) (same_refusal d) k))
          go (both_stand y k) d = absurd (let z : ◌≡◌ {A = ℕ} 0 1 = cc in omega arith)

pub prelude_fills : {prelude places values nodes : List ℕ} {r : Result Sizes Refusal} → PreludeFound prelude places values nodes r → (z : Sizes) → r ≡ Ok z → PreludeFills prelude places values nodes z
prelude_fills (found_refused x j) z e = absurd (let z : ◌≡◌ {A = ℕ} 0 1 = cc in omega arith)
prelude_fills {prelude} {places} {values} {nodes} (found_stands y h) z e = subst (PreludeFills prelude places values nodes) (same_found e) h

pub prelude_refused_both : {prelude places values first scheme places₁ values₁ nodes own rows uses was marks : List ℕ} {r : Result Sizes Refusal} → PreludeFound prelude places values first r → (x : Refusal) → r ≡ Err x
    → FindsBoth prelude scheme places₁ values₁ nodes own rows uses was marks (Err x)
prelude_refused_both {prelude} (found_refused y j) x e = none_stands x (no_prelude x (zeros 0) (subst (λ z. JudgedBy prelude_judge prelude (Refused z) (zeros 0)) (same_refusal e) j))
prelude_refused_both (found_stands y h) x e = absurd (let z : ◌≡◌ {A = ℕ} 0 1 = cc in omega arith)

-- ---- what every job is told

pub both_filled : {prelude scheme places values nodes own rows uses was marks : List ℕ} {r : Result Both Refusal} → FindsBoth prelude scheme places values nodes own rows uses was marks r → (b : Both) → r ≡ Ok b
    → BothFill prelude scheme places values nodes own rows uses was marks b
both_filled (none_stands x h) b e = absurd (let z : ◌≡◌ {A = ℕ} 0 1 = cc in omega arith)
both_filled {prelude} {scheme} {places} {values} {nodes} {own} {rows} {uses} {was} {marks} (program_stands y h) b e = subst (BothFill prelude scheme places values nodes own rows uses was marks) (same_found e) h

pub both_none : {prelude scheme places values nodes own rows uses was marks : List ℕ} {r : Result Both Refusal} → FindsBoth prelude scheme places values nodes own rows uses was marks r → (x : Refusal) → r ≡ Err x
    → Half prelude scheme (Refused x) (zeros half_words)
both_none {prelude} {scheme} (none_stands y h) x e = subst (λ z. Half prelude scheme (Refused z) (zeros half_words)) (same_refusal e) h
both_none (program_stands y h) x e = absurd (let z : ◌≡◌ {A = ℕ} 0 1 = cc in omega arith)

-- ---- the job

pub as_half : {prelude scheme w : List ℕ} {v : Verdict} → w ≡ zeros half_words → Half prelude scheme v (zeros half_words) → Half prelude scheme v w
as_half {prelude} {scheme} {v = v} e h = subst (Half prelude scheme v) (sym e) h

pub as_two_short : {prelude a b table : List ℕ} {r s : Refusal} → length table < 32768 → r ≡ refusal short 0 → s ≡ refusal short 0 → ReadsTwo prelude a b table (Refused r) (Refused s) table
as_two_short {prelude} {a} {b} {table} {r} {s} l e d =
    subst (λ x. ReadsTwo prelude a b table (Refused x) (Refused s) table) (sym e) (subst (λ y. ReadsTwo prelude a b table (Refused (refusal short 0)) (Refused y) table) (sym d) (too_short l))
