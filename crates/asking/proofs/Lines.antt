-- Laws of Words: where the next word of a line stands, by the words of what is left of the line.
use mathlib.Core.Path.{◌≡◌, refl, sym, ap, ◌∙◌}
use mathlib.Core.Bool.{Bool, true, false, cond, and-false}
use mathlib.Core.List.{List, [], ◌∷◌, ◌++◌, map, append-nil, append_assoc}
use Prim.Native.Nat.{ℕ, suc, ◌+◌, ◌-◌, ◌≤◌, ◌<◌, max}
use native.Mathlib.Omega.{arith}
use native.Mathlib.Numerals.{add-one}
use lib.Dec.{eqb, leb}
use lib.ListN.{length, get_or, take, drop, set, length-map, length-drop, drop_of_length-le, get_or-map}
use lib.Seq.{drop-drop, drop-nil, length-take-le, take-suc, set_at, append_snoc}
use borrow.Author.Tests.{eq-eqb, ne_eqb, le-leb, lt-leb, leb-true, leb-false}
use Rattle.symbols.specs.Names.{equal}
use Rattle.symbols.specs.Scan.{before}
use Rattle.symbols.proofs.Laws.{peel, before_take}
use Rattle.asking.specs.Words.{ended, cut, words_of, has, part, is_part, leading_zeros, WordFrom}
use Rattle.asking.specs.Sorts.{of_sort, those}
use Rattle.asking.specs.declared.sorts.Sort.{Sort}
use Rattle.asking.specs.declared.words.Word.{Word}

-- ---- zeros from a place on

module _ (s : List ℕ) (i : ℕ) where
  pub zeros_on : i < length s → get_or s i 0 ≡ 0 → leading_zeros (drop i s) ≡ suc (leading_zeros (drop (i + 1) s))
  unfolding leading_zeros
  zeros_on h e = rw (peel s i h, eq-eqb (get_or s i 0) 0 e)

  pub zeros_stop : i < length s → (get_or s i 0 ≡ 0 → ⊥) → leading_zeros (drop i s) ≡ 0
  unfolding leading_zeros
  zeros_stop h e = rw (peel s i h, ne_eqb (get_or s i 0) 0 e)

  pub zeros_end : length s ≤ i → leading_zeros (drop i s) ≡ 0
  unfolding leading_zeros
  zeros_end h = rw (drop_of_length-le s h)

-- what a search for another byte gives, on to the line's end or where it began
pub zeros_past : (s : List ℕ) (at i : ℕ) → at ≤ i → (at ≤ length s → i ≤ length s) → length s ≤ i → at + leading_zeros (drop at s) ≡ i + leading_zeros (drop i s) → max at (length s) ≡ at + leading_zeros (drop at s)
zeros_past s at i h k l e = go (leb at (length s)) refl
  where
    go : (b : Bool) → leb at (length s) ≡ b → max at (length s) ≡ at + leading_zeros (drop at s)
    go true q =
        let p = leb-true at (length s) q in
        let n = k p in
        omega (arith, zeros_end s i l)
    go false q =
        let p = leb-false at (length s) q in
        omega (arith, zeros_end s at (omega arith))

pub zeros_most : (bs : List ℕ) → leading_zeros bs ≤ length bs
unfolding leading_zeros
zeros_most [] = omega arith
zeros_most (b ∷ bs) = go (eqb b 0) (zeros_most bs)
  where
    go : (t : Bool) → leading_zeros bs ≤ length bs → cond t (suc (leading_zeros bs)) 0 ≤ suc (length bs)
    go true h = omega arith
    go false h = omega arith

-- behind the zeros there is none
zeros_gone : (bs : List ℕ) → leading_zeros (drop (leading_zeros bs) bs) ≡ 0
unfolding leading_zeros
zeros_gone [] = refl
zeros_gone (b ∷ bs) = go (eqb b 0) refl (zeros_gone bs)
  where
    go : (t : Bool) → eqb b 0 ≡ t → leading_zeros (drop (leading_zeros bs) bs) ≡ 0 → leading_zeros (drop (cond t (suc (leading_zeros bs)) 0) (b ∷ bs)) ≡ 0
    go true e h = h
    go false e h = rw e

-- ---- the words of a line, by its zeros and by its first run of other bytes

words_zeros : (bs : List ℕ) → words_of bs ≡ words_of (drop (leading_zeros bs) bs)
unfolding leading_zeros cut ended
words_zeros [] = refl
words_zeros (b ∷ bs) = go (eqb b 0) refl (words_zeros bs)
  where
    go : (t : Bool) → eqb b 0 ≡ t → cut [] bs ≡ cut [] (drop (leading_zeros bs) bs)
        → cond t (cut [] bs) (cut (b ∷ []) bs) ≡ cut [] (drop (cond t (suc (leading_zeros bs)) 0) (b ∷ bs))
    go true e h = h
    go false e h = rw e

cut_run : (w bs : List ℕ) → cut w bs ≡ ended (w ++ before 0 bs) (cut [] (drop (length (before 0 bs)) bs))
unfolding before cut ended
cut_run w [] = rw (append-nil w)
cut_run w (b ∷ bs) = go (eqb b 0) refl (cut_run (w ++ (b ∷ [])) bs)
  where
    go : (t : Bool) → eqb b 0 ≡ t → cut (w ++ (b ∷ [])) bs ≡ ended (w ++ (b ∷ []) ++ before 0 bs) (cut [] (drop (length (before 0 bs)) bs))
        → cond t (ended w (cut [] bs)) (cut (w ++ (b ∷ [])) bs) ≡ ended (w ++ cond t [] (b ∷ before 0 bs)) (cut [] (drop (length (cond t [] (b ∷ before 0 bs))) (b ∷ bs)))
    go true e h = rw (append-nil w, e)
    go false e h = h ∙ rw (append_assoc w (b ∷ []) (before 0 bs))

-- where no zero stands first and nothing before a zero, nothing is left
run_none : (bs : List ℕ) → leading_zeros bs ≡ 0 → length (before 0 bs) ≡ 0 → bs ≡ []
unfolding leading_zeros before
run_none [] z n = refl
run_none (b ∷ bs) z n = go (eqb b 0) z n
  where
    go : (t : Bool) → cond t (suc (leading_zeros bs)) 0 ≡ 0 → length (cond t [] (b ∷ before 0 bs)) ≡ 0 → b ∷ bs ≡ []
    go true z n = absurd (omega arith)
    go false z n = absurd (omega arith)

ended_some : (w : List ℕ) (ws : List (List ℕ)) → 0 < length w → ended w ws ≡ w ∷ ws
unfolding ended
ended_some [] ws h = absurd (omega arith)
ended_some (b ∷ w) ws h = refl

-- ---- the next word

module _ (line : List ℕ) (at : ℕ) (w : Word) (h : WordFrom line at w) where
  behind_zeros : drop w.from line ≡ drop (leading_zeros (drop at line)) (drop at line)
  behind_zeros = go (leb at (length line)) refl
    where
      go : (t : Bool) → leb at (length line) ≡ t → drop w.from line ≡ drop (leading_zeros (drop at line)) (drop at line)
      go true e =
          let f : w.from ≡ at + leading_zeros (drop at line) = omega (arith, h.starts, leb-true at (length line) e) in
          rw f (sym (drop-drop (leading_zeros (drop at line)) at line))
      go false e =
          let l = leb-false at (length line) e in
          let k : length line ≤ w.from = omega (arith, h.starts) in
          let m : length line ≤ at = omega arith in
          rw (drop_of_length-le line k, drop_of_length-le line m) (sym (drop-nil (leading_zeros [])))

  run_is : part line w.from w.to ≡ before 0 (drop w.from line)
  run_is = let e : w.to - w.from ≡ length (before 0 (drop w.from line)) = omega (arith, h.ends) in rw e (before_take 0 (drop w.from line))

  run_long : length (part line w.from w.to) ≡ w.to - w.from
  run_long = ap length run_is ∙ omega (arith, h.ends)

  words_run : words_of (drop at line) ≡ ended (part line w.from w.to) (words_of (drop w.to line))
  words_run =
      let bs = drop w.from line in
      let e : words_of (drop at line) ≡ words_of bs = words_zeros (drop at line) ∙ ap words_of (sym behind_zeros) in
      let d : drop (length (before 0 bs)) bs ≡ drop w.to line = drop-drop (length (before 0 bs)) w.from line ∙ ap (λ (n : ℕ). drop n line) (sym h.ends) in
      e ∙ cut_run [] bs ∙ rw (run_is, d)

  nothing_left : w.from ≡ w.to → drop w.from line ≡ []
  nothing_left e =
      let bs = drop w.from line in
      let n : length (before 0 bs) ≡ 0 = omega (arith, h.ends) in
      let z : leading_zeros bs ≡ 0 = rw behind_zeros (zeros_gone (drop at line)) in
      run_none bs z n

  pub word_end : w.from ≡ w.to → w.to ≡ length line
  word_end e = omega (arith, length-drop w.from line, ap length (nothing_left e), h.ordered, h.inside)

  pub word_none : w.from ≡ w.to → words_of (drop at line) ≡ []
  unfolding cut ended
  word_none e = words_zeros (drop at line) ∙ ap words_of (sym behind_zeros ∙ nothing_left e)

  pub word_first : w.from < w.to → words_of (drop at line) ≡ part line w.from w.to ∷ words_of (drop w.to line)
  word_first l = words_run ∙ ended_some (part line w.from w.to) (words_of (drop w.to line)) (omega (arith, run_long))

-- ---- the bytes from a place up to another

module _ (line : List ℕ) (from to : ℕ) (text : List ℕ) where
  pub part_here : from ≤ to → to ≤ length line → is_part line from to text ≡ equal (part line from to) text
  unfolding is_part
  part_here h k = rw (le-leb from to h, le-leb to (length line) k)

  pub part_turned : to < from → is_part line from to text ≡ false
  unfolding is_part
  part_turned h = rw (lt-leb from to h)

  pub part_outside : length line < to → is_part line from to text ≡ false
  unfolding is_part
  part_outside h = rw (lt-leb to (length line) h, and-false (leb from to))

-- ---- a word among those of a line

module _ (line : List ℕ) (at : ℕ) (w : Word) (h : WordFrom line at w) (text : List ℕ) where
  pub has_none_lem : w.from ≡ w.to → has (words_of (drop at line)) text ≡ false
  unfolding has
  has_none_lem e = rw (word_none line at w h e)

  pub has_here : w.from < w.to → is_part line w.from w.to text ≡ true → has (words_of (drop at line)) text ≡ true
  unfolding has
  has_here l e = rw (word_first line at w h l, sym (part_here line w.from w.to text h.ordered h.inside) ∙ e)

  pub has_later : w.from < w.to → is_part line w.from w.to text ≡ false → has (words_of (drop at line)) text ≡ has (words_of (drop w.to line)) text
  unfolding has
  has_later l e = rw (word_first line at w h l, sym (part_here line w.from w.to text h.ordered h.inside) ∙ e)

pub has_nothing : (line text : List ℕ) (at : ℕ) → length line ≤ at → has (words_of (drop at line)) text ≡ false
unfolding has cut ended
has_nothing line text at h = rw (drop_of_length-le line h)

-- ---- words of a sort

module _ (q : Sort) (arg line : List ℕ) where
  abbrev found : ℕ → List (List ℕ)
  found p = those q arg (words_of (drop p line))

  module _ (at : ℕ) (w : Word) (h : WordFrom line at w) where
    pub none_found : w.from ≡ w.to → found at ≡ []
    unfolding those
    none_found e = rw (word_none line at w h e)

    pub found_here : w.from < w.to → of_sort q arg (part line w.from w.to) (words_of (drop w.to line)) ≡ true
        → found at ≡ part line w.from w.to ∷ found w.to
    unfolding those
    found_here l e = rw (word_first line at w h l, e)

    pub found_later : w.from < w.to → of_sort q arg (part line w.from w.to) (words_of (drop w.to line)) ≡ false → found at ≡ found w.to
    unfolding those
    found_later l e = rw (word_first line at w h l, e)

-- ---- a text as a line: one byte more of it is put into the row

module _ (f : ℕ → ℕ) (text row : List ℕ) (i : ℕ) (h : i < length text) (k : i < length row) where
  pub row_more : set (take i (map f text) ++ drop i row) i (f (get_or text i 0)) ≡ take (i + 1) (map f text) ++ drop (i + 1) row
  row_more =
      let m = map f text in
      let v = f (get_or text i 0) in
      let l : i < length m = omega (arith, length-map text f) in
      let n : length (take i m) ≡ i = length-take-le i m (omega arith) in
      let e : take (i + 1) m ≡ take i m ++ (v ∷ []) = rw (add-one i) (take-suc m i (f 0) l ∙ ap (λ (x : ℕ). take i m ++ (x ∷ [])) (get_or-map f text i 0)) in
      rw (peel row i k, e) (set_at (take i m) (get_or row i 0) (drop (i + 1) row) v i n ∙ sym (append_snoc (take i m) v (drop (i + 1) row)))
