-- From the arrays to the definitions: what scanning and parsing left says that the symbols, and then the program, stand.
use Prim.Native.Nat.{ℕ, zero, suc, ◌-◌, ◌<◌, ◌≤◌}
use mathlib.Core.Path.{◌≡◌, refl, sym, ap, subst, ◌∙◌}
use mathlib.Core.Logic.{◌⊎◌, ⊎_elim, inl, inr}
use mathlib.Core.List.{List, [], ◌∷◌, ◌++◌}
use mathlib.Core.Option.{Option, none, some}
use native.Mathlib.Omega.{arith}
use native.Mathlib.Decide.{ℕ_discrete}
use lib.ListN.{length, get_or, take, drop, length-append, length-map, get_or-append, get_or-eq_default}
use lib.Seq.{take-append_seam}
use Rattle.answers.specs.Numbers.{grammar, depth}
use Rattle.answers.specs.Answers.{answer, refusal}
use Rattle.answers.specs.declared.Answer.{Answer}
use Rattle.answers.specs.declared.Refusal.{Refusal}
use Rattle.answers.specs.declared.Verdict.TheVariants.{Refused}
use Rattle.symbols.specs.Symbols.{kind, value_of}
use Rattle.symbols.specs.Scan.{Found, Scan, scan, kinds_of, places_of, values_of}
use Rattle.symbols.specs.model.Steps.{answer_of, over, Filled}
use Rattle.symbols.proofs.Stored.{same_kind}
use Rattle.std.specs.Prelude.{Result, Ok, Err}
use Rattle.grammar.specs.model.Text.{text}
use Rattle.grammar.specs.model.Marked.{nodes_of}
use Rattle.grammar.specs.Program.{GrammarFault, DepthFault}
use Rattle.grammar.specs.model.Parsing.{zeros, ParseSays, Whole, Parsed as Outcome, read_to, fault_at}
use Rattle.reading.specs.Judging as any
use Rattle.reading.specs.Judging.{unreadable, ungrammatical, too_deep}
use Rattle.reading.specs.Reading.{symbols, place_in, cleared, Judged}
use Rattle.reading.specs.model.Stages.{Placed, Symbols, Ready}
use Rattle.reading.specs.model.Preluding.{SymbolsIn}
use Rattle.reading.proofs.Places.{few_symbols}

-- ---- the text of the stored kinds

pub text_is : (l : List Found) → text (kinds_of l) ≡ kinds_of l
unfolding text
text_is [] = refl
text_is (f ∷ l) = ap₂ (same_kind f.symbol) (text_is l)
  where
    ap₂ : {a b : ℕ} {u v : List ℕ} → a ≡ b → u ≡ v → (a ∷ u) ≡ (b ∷ v)
    ap₂ p q = cc

-- ---- what scanning answered

pub answered : (s : Scan) (n : ℕ) → answer_of s ≡ Ok n → (s.refused ≡ none) × (length s.found ≡ n)
unfolding answer_of
answered s n q = go s.refused refl
  where
    read_refused : {m : ℕ} {r : Refusal} → Err r ≡ Ok m → ⊥
    read_refused e = let z : ◌≡◌ {A = ℕ} 0 1 = cc in omega arith

    same_count : {a b : ℕ} → ◌≡◌ {A = Result ℕ Refusal} (Ok a) (Ok b) → a ≡ b
    same_count e = cc

    go : (o : Option Refusal) → s.refused ≡ o → (s.refused ≡ none) × (length s.found ≡ n)
    go none e = (e, same_count (rw e at q))
    go (some r) e = absurd (read_refused (rw e at q))

pub refused_as : (s : Scan) (r : Refusal) → answer_of s ≡ Err r → s.refused ≡ some r
unfolding answer_of
refused_as s r q = go s.refused refl
  where
    refused_read : {m : ℕ} {x : Refusal} → Ok m ≡ Err x → ⊥
    refused_read e = let z : ◌≡◌ {A = ℕ} 0 1 = cc in omega arith

    same_refusal : {a b : Refusal} → ◌≡◌ {A = Result ℕ Refusal} (Err a) (Err b) → a ≡ b
    same_refusal e = cc

    go : (o : Option Refusal) → s.refused ≡ o → s.refused ≡ some r
    go none e = absurd (refused_read (rw e at q))
    go (some x) e = e ∙ ap some (same_refusal (rw e at q))

default_free : (l : List ℕ) (k a b : ℕ) → k < length l → get_or l k a ≡ get_or l k b
default_free [] k a b h = absurd (omega arith)
default_free (x ∷ l) zero a b h = refl
default_free (x ∷ l) (suc k) a b h = default_free l k a b (omega arith)

-- of any text, of which at most so many symbols may come
module _ (most : ℕ) {source kinds kinds' places places' values values' : List ℕ} {t : Result ℕ Refusal} (f : Filled most source t kinds kinds' places places' values values') where
  -- 3 and 4
  pub refused_in : (r : Refusal) → t ≡ Err r → (scan most source).refused ≡ some r
  refused_in r q = refused_as (scan most source) r (sym f.answers ∙ q)

  -- the symbols stand, and their kinds
  pub stand_in : length source ≤ 16384 → (n : ℕ) → t ≡ Ok n → SymbolsIn most source places' values' n
  stand_in l n q =
      let found = (scan most source).found in
      let a = answered (scan most source) n (sym f.answers ∙ q) in
      let ks : length (kinds_of found) ≡ n = length-map found (λ f. kind f.symbol) ∙ a.1 in
      let ps : length (places_of found) ≡ n = length-map found (λ f. f.place) ∙ a.1 in
      let vs : length (values_of found) ≡ n = length-map found (λ f. value_of f.symbol) ∙ a.1 in
      let placed : (k : ℕ) → k < n → get_or places' k 0 ≡ any.place_in most source k =
      λ k h. ap (λ p. get_or p k 0) f.placed ∙ get_or-append (places_of found) (drop (length (places_of found)) places) 0 k (omega (arith, ps)) ∙ default_free (places_of found) k 0 (length source) (omega (arith, ps)) in
      record {
        scanned = record { short = l; whole = a.0 };
        count = sym ks;
        few = omega (arith, a.1, few_symbols most source);
        long = omega (arith, ps, ap length f.placed, length-append (places_of found) (drop (length (places_of found)) places));
        placed = placed;
        valued = ap (take n) f.valued ∙ ap (λ m. take m (over (values_of found) values)) (sym vs) ∙ take-append_seam (values_of found) (drop (length (values_of found)) values);
      }

  pub kinds_in_lem : (n : ℕ) → t ≡ Ok n → take n kinds' ≡ any.kinds_in most source
  kinds_in_lem n q =
      let found = (scan most source).found in
      let ks : length (kinds_of found) ≡ n = length-map found (λ f. kind f.symbol) ∙ (answered (scan most source) n (sym f.answers ∙ q)).1 in
      ap (take n) f.kinded ∙ ap (λ m. take m (over (kinds_of found) kinds)) (sym ks) ∙ take-append_seam (kinds_of found) (drop (length (kinds_of found)) kinds)

-- behind the last symbol stands the length
pub behind_in : (most : ℕ) {source places values : List ℕ} {n : ℕ} → SymbolsIn most source places values n → (k : ℕ) → n ≤ k → length source ≡ any.place_in most source k
behind_in most {source} p k l =
    let found = (scan most source).found in
    sym (get_or-eq_default (places_of found) (length source) {n = k} (omega (arith, p.count, length-map found (λ f. kind f.symbol), length-map found (λ f. f.place))))

-- of a program by itself
pub unread : {source kinds kinds' places places' values values' : List ℕ} {t : Result ℕ Refusal} → Filled symbols source t kinds kinds' places places' values values'
    → length source ≤ 16384 → (r : Refusal) → t ≡ Err r → Judged source (Refused r) cleared
unread f l r q = unreadable l r (refused_in symbols f r q)

pub stand : {source kinds kinds' places places' values values' : List ℕ} {t : Result ℕ Refusal} → Filled symbols source t kinds kinds' places places' values values'
    → length source ≤ 16384 → (n : ℕ) → t ≡ Ok n → Symbols source kinds' places' n
stand f l n q =
    let x = stand_in symbols f l n q in
    record { scanned = x.scanned; kinded = kinds_in_lem symbols f n q; places_in = record { count = x.count; few = x.few; placed = x.placed } }

pub values_stand : {source kinds kinds' places places' values values' : List ℕ} {t : Result ℕ Refusal} → Filled symbols source t kinds kinds' places places' values values'
    → length source ≤ 16384 → (n : ℕ) → t ≡ Ok n → take n values' ≡ values_of (scan symbols source).found
values_stand f l n q = (stand_in symbols f l n q).valued

-- behind the last symbol stands the source's length
pub place_behind : {source places : List ℕ} {n : ℕ} → Placed source places n → (k : ℕ) → n ≤ k → place_in source k ≡ length source
place_behind {source} p k l =
    let found = (scan symbols source).found in
    get_or-eq_default (places_of found) (length source) {n = k} (omega (arith, p.count, length-map found (λ f. kind f.symbol), length-map found (λ f. f.place)))

-- ---- what parsing answered

-- the nodes are some of the words
pub nodes_inside : {ks new : List ℕ} {r : Outcome} → ParseSays ks new r → (j b : ℕ) → r ≡ read_to j b → b ≤ length new
nodes_inside {ks} {new} v j b q =
    let w = v.accepted j b q in
    omega (arith, w.words, ap length w.wrote, length-append (nodes_of w.tree) (zeros (32768 - b)))

module _ (most : ℕ) (source kinds : List ℕ) (n : ℕ) (kinded : take n kinds ≡ any.kinds_in most source) {new : List ℕ} {r : Outcome} (v : ParseSays (text (take n kinds)) new r) where
  kinds_are : text (take n kinds) ≡ any.kinds_in most source
  kinds_are = ap text kinded ∙ text_is (scan most source).found

  -- the program stands
  whole_in : (j b : ℕ) → r ≡ read_to j b → Whole (any.kinds_in most source) new j b
  whole_in j b q = subst (λ ks. Whole ks new j b) kinds_are (v.accepted j b q)

  pub nodes_in_lem : any.Scanned most source → (j b : ℕ) → r ≡ read_to j b → (g : any.Grammatical most source) × (take b new ≡ nodes_of g.tree) × (b ≡ length (nodes_of g.tree))
  nodes_in_lem s j b q =
      let w = whole_in j b q in (
        record { scanned = s; tree = w.tree; keeps = w.keeps },
        ap (take b) w.wrote ∙ ap (λ m. take m (nodes_of w.tree ++ zeros (32768 - b))) w.words ∙ take-append_seam (nodes_of w.tree) (zeros (32768 - b)),
        w.words,
      )

  -- 5 or 6
  pub five_or_six : (a : Answer) (k : ℕ) → r ≡ fault_at a k
      → ((a.number ≡ grammar) × GrammarFault (any.kinds_in most source) k) ⊎ ((a.number ≡ depth) × DepthFault (any.kinds_in most source) k)
  five_or_six a k q = go (ℕ_discrete a.number grammar)
    where
      said : (m : ℕ) → a.number ≡ m → r ≡ fault_at (answer m) k
      said m e = q ∙ ap (λ i. fault_at (answer i) k) e

      go : Dec (a.number ≡ grammar) → ((a.number ≡ grammar) × GrammarFault (any.kinds_in most source) k) ⊎ ((a.number ≡ depth) × DepthFault (any.kinds_in most source) k)
      go (yes e) = inl (e, subst (λ ks. GrammarFault ks k) kinds_are (v.wrong k (said grammar e)))
      go (no e) =
          let d : a.number ≡ depth = ap (λ x. x.number) (v.numbers a k q (λ x. e (ap (λ y. y.number) x))) in
          inr (d, subst (λ ks. DepthFault ks k) kinds_are (v.deep k (said depth d)))

  -- at a symbol, or behind the last one
  pub refused_in_at : (a : Answer) (k : ℕ) → r ≡ fault_at a k → k ≤ length (any.kinds_in most source)
  refused_in_at a k q = ⊎_elim (λ w. w.1.inside) (λ w. omega (arith, w.1.deep.inside)) (five_or_six a k q)

module _ {source kinds places : List ℕ} {n : ℕ} (s : Symbols source kinds places n) {new : List ℕ} {r : Outcome} (v : ParseSays (text (take n kinds)) new r) where
  -- the program stands
  pub ready : (j b : ℕ) → r ≡ read_to j b → Ready source places (take b new) n
  ready j b q = let g = nodes_in_lem symbols source kinds n s.kinded v s.scanned j b q in record { program = g.0; places_in = s.places_in; words = g.1 }

  pub refusals : (a : Answer) (k : ℕ) → r ≡ fault_at a k → Judged source (Refused (refusal a.number (place_in source k))) cleared
  refusals a k q =
      ⊎_elim
      (λ w. subst (λ m. Judged source (Refused (refusal m (place_in source k))) cleared) (sym w.0) (ungrammatical s.scanned k w.1))
      (λ w. subst (λ m. Judged source (Refused (refusal m (place_in source k))) cleared) (sym w.0) (too_deep s.scanned k w.1))
      (five_or_six symbols source kinds n s.kinded v a k q)

  pub refused_at_lem : (a : Answer) (k : ℕ) → r ≡ fault_at a k → k ≤ 2048
  refused_at_lem a k q = omega (arith, refused_in_at symbols source kinds n s.kinded v a k q, s.places_in.count, s.places_in.few)
