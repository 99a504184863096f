-- Laws of Commands: what a line's words decide, by what the functions that look at them tell. The row that is found stands in its line as the definition
-- has it; a command that has none has no row.
use mathlib.Core.Path.{◌≡◌, refl, sym, ap, ◌∙◌}
use mathlib.Core.Bool.{Bool, true, false, cond}
use mathlib.Core.List.{List, [], ◌∷◌, map}
use mathlib.Core.Option.{Option, none, some}
use Prim.Native.Nat.{ℕ, ◌≤◌, ◌<◌}
use native.Mathlib.Omega.{arith}
use lib.Dec.{leb}
use lib.ListN.{length, take, drop, length-map}
use lib.Seq.{length-take-le, take_all, take_at}
use borrow.Author.Tests.{leb-true, leb-false}
use Rattle.symbols.specs.Names.{equal}
use Rattle.symbols.specs.Scan.{before}
use Rattle.asking.specs.Words.{words_of, part, unblanked, First, LineOf}
use Rattle.asking.specs.Sorts.{is_named, those, asked, asked_from}
use Rattle.asking.specs.Table.{first_row, row_in, row_of}
use Rattle.asking.specs.declared.words.Word.{Word}
use Rattle.asking.specs.declared.sorts.Sort.{Sort}
use Rattle.asking.proofs.Choices.{part_empty}
use Rattle.desk.specs.Status.{good, nothing}
use Rattle.deed.specs.Commands.{is_none, helps, row_line, settled, well_asked, by_row, commanded, decided, Keeps}

-- ---- words of a sort

module _ (q : Sort) (arg line : List ℕ) (w : Word) (h : First (λ (p : ℕ). those q arg (words_of (drop p line))) line 0 w) where
  pub some_found : w.from < w.to → is_none (those q arg (words_of line)) ≡ false
  some_found l = ap is_none (h.first l)

  pub none_found : w.to ≤ w.from → is_none (those q arg (words_of line)) ≡ true
  none_found l = let e : w.from ≡ w.to = omega (arith, h.ordered) in ap is_none (h.none e)

-- ---- a row in its line

length_none : {A : Type 0} (l : List A) → length l ≡ 0 → l ≡ []
length_none [] e = refl
length_none (b ∷ l) e = absurd (omega arith)

module _ (w row row' : List ℕ) (n : ℕ) (h : LineOf (row_of w) row n row') (room : length row ≡ 256) where
  pub row_stands : take n row' ≡ row_line w
  unfolding row_line
  row_stands =
      let m = map unblanked (row_of w) in
      let k : n ≤ length m = omega (arith, h.many, length-map (row_of w) unblanked) in
      ap (take n) h.holds ∙ take_at (take n m) (drop n row) n (length-take-le n m k) ∙ cut (leb (length m) 256) refl
    where
      cut : (t : Bool) → leb (length (map unblanked (row_of w))) 256 ≡ t → take n (map unblanked (row_of w)) ≡ take 256 (map unblanked (row_of w))
      cut true e =
          let m = map unblanked (row_of w) in
          let l = leb-true (length m) 256 e in
          let k : length m ≤ n = omega (arith, h.many, length-map (row_of w) unblanked) in
          take_all n m k ∙ sym (take_all 256 m l)
      cut false e =
          let m = map unblanked (row_of w) in
          let l = leb-false (length m) 256 e in
          let k : n ≡ 256 = omega (arith, h.many, length-map (row_of w) unblanked) in
          ap (λ (x : ℕ). take x m) k

  pub no_row : n ≡ 0 → row_line w ≡ []
  no_row e = sym row_stands ∙ ap (λ (x : ℕ). take x row') e

  pub row_long : (n ≡ 0 → ⊥) → 0 < length (row_line w)
  row_long e =
      let k : n ≤ length row' = h.inside in
      let l : length (take n row') ≡ n = length-take-le n row' k in
      let m : length (row_line w) ≡ n = ap length (sym row_stands) ∙ l in
      positive m
    where
      positive : length (row_line w) ≡ n → 0 < length (row_line w)
      positive m = go (length (row_line w)) m
        where
          go : (x : ℕ) → x ≡ n → 0 < x
          go x m = go₂ (leb x 0) refl
            where
              go₂ : (t : Bool) → leb x 0 ≡ t → 0 < x
              go₂ true b = let l = leb-true x 0 b in absurd (e (omega arith))
              go₂ false b = leb-false x 0 b

-- the word that is none has no row
no_word : row_of [] ≡ []
unfolding row_of row_in first_row those is_named before equal
no_word = refl

-- ---- a line

by_none : (row : List ℕ) (s : Option ℕ) → by_row row s false ≡ some nothing
unfolding by_row
by_none [] s = refl
by_none (b ∷ row) s = refl

by_some : (row : List ℕ) (s : Option ℕ) → 0 < length row → by_row row s true ≡ s
unfolding by_row
by_some [] s h = absurd (omega arith)
by_some (b ∷ row) s h = refl

empty_row : (s : Option ℕ) (t : Bool) → by_row [] s t ≡ some nothing
unfolding by_row
empty_row s t = refl

module _ (line : List ℕ) where
  pub helped : helps (words_of line) ≡ true → Keeps (decided (words_of line)) good
  unfolding decided
  helped e = rw e refl

  module _ (plainly : helps (words_of line) ≡ false) (w : Word) (h : First (asked_from line) line 0 w) where
    abbrev word : List ℕ
    word = part line w.from w.to

    unhelped : decided (words_of line) ≡ commanded (words_of line) (asked (words_of line))
    unfolding decided
    unhelped = rw plainly

    -- there is no word, or it is the command's
    by_word : w.from < w.to → decided (words_of line) ≡ by_row (row_line word) (settled word) (well_asked (row_line word) (words_of line) (asked_from line w.to))
    unfolding commanded
    by_word l = unhelped ∙ ap (commanded (words_of line)) (h.first l)

    by_nothing : w.from ≡ w.to → decided (words_of line) ≡ some nothing
    unfolding commanded
    by_nothing e = unhelped ∙ ap (commanded (words_of line)) (h.none e)

    stands : (t : Bool) → leb w.to w.from ≡ t → (P : Option ℕ → Type 0) → P (some nothing)
        → (w.from < w.to → P (decided (words_of line))) → P (decided (words_of line))
    stands true e P p f =
        let l = leb-true w.to w.from e in
        let k : w.from ≡ w.to = omega (arith, h.ordered) in
        rw (by_nothing k) p
    stands false e P p f = f (leb-false w.to w.from e)

    pub not_known : row_line word ≡ [] → Keeps (decided (words_of line)) nothing
    not_known e = stands (leb w.to w.from) refl (λ (o : Option ℕ). Keeps o nothing) refl (λ l. unrowed l)
      where
        unrowed : w.from < w.to → Keeps (decided (words_of line)) nothing
        unrowed l =
            let k : decided (words_of line) ≡ some nothing = by_word l ∙ ap (λ (r : List ℕ). by_row r (settled word) (well_asked (row_line word) (words_of line) (asked_from line w.to))) e ∙ empty_row _ _ in
            rw k refl

    pub ill_asked : well_asked (row_line word) (words_of line) (asked_from line w.to) ≡ false → Keeps (decided (words_of line)) nothing
    ill_asked e = stands (leb w.to w.from) refl (λ (o : Option ℕ). Keeps o nothing) refl (λ l. unasked l)
      where
        unasked : w.from < w.to → Keeps (decided (words_of line)) nothing
        unasked l =
            let k : decided (words_of line) ≡ some nothing = by_word l ∙ ap (by_row (row_line word) (settled word)) e ∙ by_none (row_line word) (settled word) in
            rw k refl

    pub well_settled : 0 < length (row_line word) → well_asked (row_line word) (words_of line) (asked_from line w.to) ≡ true → (s : ℕ) → Keeps (settled word) s
        → Keeps (decided (words_of line)) s
    unfolding row_line
    well_settled long e s k = go (leb w.to w.from) refl
      where
        go : (t : Bool) → leb w.to w.from ≡ t → Keeps (decided (words_of line)) s
        go true b =
            let l = leb-true w.to w.from b in
            let z : row_of word ≡ [] = ap row_of (part_empty line w.from w.to l) ∙ no_word in
            let o : length (row_line word) ≡ 0 = ap (λ (r : List ℕ). length (take 256 (map unblanked r))) z in
            absurd (omega arith)
        go false b =
            let l = leb-false w.to w.from b in
            rw (by_word l ∙ ap (by_row (row_line word) (settled word)) e ∙ by_some (row_line word) (settled word) long) k

-- ---- whatever is decided, the status is one of the three

abbrev Small : Option ℕ → Type 0
Small (some d) = d ≤ nothing
Small none = Unit {0}

small_settled : (w : List ℕ) → Small (settled w)
unfolding settled
small_settled w = go (equal w _)
  where
    go : (t : Bool) → Small (cond t (some good) none)
    go true = omega arith
    go false = tt

small_row : (row : List ℕ) (s : Option ℕ) (well : Bool) → Small s → Small (by_row row s well)
unfolding by_row
small_row [] s well h = omega arith
small_row (b ∷ row) s true h = h
small_row (b ∷ row) s false h = omega arith

small_commanded : (all ws : List (List ℕ)) → Small (commanded all ws)
unfolding commanded
small_commanded all [] = omega arith
small_commanded all (w ∷ ws) = small_row (row_line w) (settled w) (well_asked (row_line w) all ws) (small_settled w)

small_decided : (all : List (List ℕ)) → Small (decided all)
unfolding decided
small_decided all = go (helps all)
  where
    go : (t : Bool) → Small (cond t (some good) (commanded all (asked all)))
    go true = omega arith
    go false = small_commanded all (asked all)

kept_small : (o : Option ℕ) (s : ℕ) → Small o → Keeps o s → s ≤ nothing
kept_small (some d) s h k = omega arith
kept_small none s h k = k

pub one_of_three : (all : List (List ℕ)) (s : ℕ) → Keeps (decided all) s → s ≤ nothing
one_of_three all s k = kept_small (decided all) s (small_decided all) k
