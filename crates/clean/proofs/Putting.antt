-- Bytes put on a page one behind the other are put there together. The page may be shorter: then nothing is said of what it holds.
use Prim.Native.Nat.{ℕ, zero, suc, ◌+◌, ◌-◌, ◌≤◌, ◌<◌}
use mathlib.Core.Path.{◌≡◌, refl, sym, ap, subst, ◌∙◌}
use mathlib.Core.List.{List, [], ◌∷◌, ◌++◌, append-nil, append_assoc}
use mathlib.Core.Bool.{Bool, true, false, cond, not, ◌||◌}
use native.Mathlib.Omega.{arith}
use native.Mathlib.Numerals.{add-one}
use borrow.Author.Tests.{ne_eqb}
use lib.ListN.{length, set, get_or, drop, replicate, length-append, length-set}
use lib.Seq.{drop-cons, drop-drop}
use Rattle.symbols.specs.Names.{blank, these, reach, digit, decimals}
use Rattle.symbols.specs.Spelling.{with_decimals}
use Rattle.table.specs.model.Writing.{Wrote}
use Rattle.table.proofs.Written.{wrote_none, wrote_one, wrote_on}
use Rattle.clean.specs.model.Bytes.{Puts}

pub puts_none : (old : List ℕ) (at : ℕ) → Puts old old at at []
puts_none old at = record { behind = omega arith; size = refl; wrote = λ h. wrote_none old at }

-- one byte, where the page reaches so far; and where it does not
pub puts_one : (old : List ℕ) (at b : ℕ) → at < length old → Puts old (set old at b) at (at + 1) (b ∷ [])
puts_one old at b l = record { behind = refl; size = length-set old at b; wrote = λ h. wrote_one old at b l }

pub puts_over : (old : List ℕ) (at b : ℕ) → length old ≤ at → Puts old old at (at + 1) (b ∷ [])
puts_over old at b l = record { behind = refl; size = refl; wrote = λ h. absurd (omega arith) }

pub puts_on : {old mid new : List ℕ} {at to next : ℕ} {u v : List ℕ} → Puts old mid at to u → Puts mid new to next v → Puts old new at next (u ++ v)
puts_on {old} {mid} {new} {at} {to} {next} {u} {v} p q = record {
  behind = let e = length-append u v in omega (arith, p.behind, q.behind);
  size = q.size ∙ p.size;
  wrote = λ h.
      let w = q.wrote (omega (arith, p.size)) in
      wrote_on (p.wrote (omega (arith, q.behind))) (subst (λ n. Wrote mid new n v) p.behind w);
}

pub puts_as : {old new : List ℕ} {at to : ℕ} {u v : List ℕ} → Puts old new at to u → u ≡ v → Puts old new at to v
puts_as p e = rw e at p

-- ---- a part of what is to be put stands, and the rest is left

pub record Putting (old new : List ℕ) (from at : ℕ) (left whole : List ℕ) : Type 0 where
  pub done : List ℕ
  pub puts : Puts old new from at done
  pub made : done ++ left ≡ whole

pub none_put : (old : List ℕ) (from : ℕ) (whole : List ℕ) → Putting old old from from whole whole
none_put old from whole = record { done = []; puts = puts_none old from; made = refl }

pub more_put : {old mid new : List ℕ} {from at to : ℕ} {left u rest whole : List ℕ}
    → Putting old mid from at left whole → left ≡ u ++ rest → Puts mid new at to u → Putting old new from to rest whole
more_put {u = u} {rest} w e p = record {
  done = w.done ++ u;
  puts = puts_on w.puts p;
  made = append_assoc w.done u rest ∙ ap (λ l. w.done ++ l) (sym e) ∙ w.made;
}

pub all_put : {old new : List ℕ} {from at : ℕ} {left whole : List ℕ} → Putting old new from at left whole → left ≡ [] → Puts old new from at whole
all_put w e = puts_as w.puts (sym (append-nil w.done) ∙ ap (λ l. w.done ++ l) (sym e) ∙ w.made)

pub left_as : {old new : List ℕ} {from at : ℕ} {left rest whole : List ℕ} → Putting old new from at left whole → left ≡ rest → Putting old new from at rest whole
left_as w e = rw e at w

-- so many bytes are left
pub left_over : {old new : List ℕ} {from at : ℕ} {left whole : List ℕ} → Putting old new from at left whole → at + length left ≡ from + length whole
left_over {left = left} w = let e = sym (length-append w.done left) ∙ ap length w.made in omega (arith, w.puts.behind)

-- ---- what is left of a repeated byte, of a word, of a name or number

pub times_all : (n b : ℕ) → replicate n b ≡ replicate (n - 0) b
times_all n b = let e : n ≡ n - 0 = omega arith in ap (λ m. replicate m b) e

pub times_next : (n i b : ℕ) → i < n → replicate (n - i) b ≡ (b ∷ []) ++ replicate (n - (i + 1)) b
times_next n i b h = let e : n - i ≡ suc (n - (i + 1)) = omega arith in ap (λ m. replicate m b) e

pub times_none : (n i b : ℕ) → n ≤ i → replicate (n - i) b ≡ []
times_none n i b h = let e : n - i ≡ 0 = omega arith in ap (λ m. replicate m b) e

pub word_next : (w : List ℕ) (i : ℕ) → i < length w → drop i w ≡ (get_or w i 0 ∷ []) ++ drop (i + 1) w
word_next w i h = rw (add-one i) (drop-cons w i 0 h)

pub word_none : (w : List ℕ) (i : ℕ) → length w ≤ i → drop i w ≡ []
word_none [] zero h = refl
word_none [] (suc i) h = refl
word_none (x ∷ w) zero h = absurd (omega arith)
word_none (x ∷ w) (suc i) h = word_none w i (omega arith)

module _ (sort : ℕ → Bool) where
  run_on : (b : ℕ) (bs : List ℕ) → (sort b || blank b) ≡ true → these sort (b ∷ bs) ≡ cond (sort b) (b ∷ []) [] ++ these sort bs
  unfolding these
  run_on b bs h = go (sort b) (blank b) h
    where
      go : (s t : Bool) → (s || t) ≡ true → cond s (b ∷ these sort bs) (cond t (these sort bs) []) ≡ cond s (b ∷ []) [] ++ these sort bs
      go true t h = refl
      go false true h = refl
      go false false h = absurd (let z : ◌≡◌ {A = ℕ} 0 1 = cc in omega arith)

  run_stops : (b : ℕ) (bs : List ℕ) → (sort b || blank b) ≡ false → these sort (b ∷ bs) ≡ []
  unfolding these
  run_stops b bs h = go (sort b) (blank b) h
    where
      go : (s t : Bool) → (s || t) ≡ false → cond s (b ∷ these sort bs) (cond t (these sort bs) []) ≡ []
      go true t h = absurd (let z : ◌≡◌ {A = ℕ} 0 1 = cc in omega arith)
      go false true h = absurd (let z : ◌≡◌ {A = ℕ} 0 1 = cc in omega arith)
      go false false h = refl

  pub letters_next : (w : List ℕ) (i : ℕ) → i < length w → (sort (get_or w i 0) || blank (get_or w i 0)) ≡ true
      → these sort (drop i w) ≡ cond (sort (get_or w i 0)) (get_or w i 0 ∷ []) [] ++ these sort (drop (i + 1) w)
  letters_next w i h e = ap (these sort) (word_next w i h) ∙ run_on (get_or w i 0) (drop (i + 1) w) e

  pub letters_stop : (w : List ℕ) (i : ℕ) → i < length w → (sort (get_or w i 0) || blank (get_or w i 0)) ≡ false → these sort (drop i w) ≡ []
  letters_stop w i h e = ap (these sort) (word_next w i h) ∙ run_stops (get_or w i 0) (drop (i + 1) w) e

  pub letters_end : (w : List ℕ) (i : ℕ) → length w ≤ i → these sort (drop i w) ≡ []
  unfolding these
  letters_end w i h = ap (these sort) (word_none w i h)

  -- how far it reaches
  pub reach_next : (w : List ℕ) (i : ℕ) → i < length w → (sort (get_or w i 0) || blank (get_or w i 0)) ≡ true → reach sort (drop i w) ≡ suc (reach sort (drop (i + 1) w))
  unfolding reach
  reach_next w i h e = ap (reach sort) (word_next w i h) ∙ rw e

  pub reach_stops : (w : List ℕ) (i : ℕ) → i < length w → (sort (get_or w i 0) || blank (get_or w i 0)) ≡ false → reach sort (drop i w) ≡ 0
  unfolding reach
  reach_stops w i h e = ap (reach sort) (word_next w i h) ∙ rw e

  -- a run is no longer than the bytes it is found in
  pub run_short : (bs : List ℕ) → length (these sort bs) ≤ length bs
  unfolding these
  run_short [] = omega arith
  run_short (b ∷ bs) = go (sort b) (blank b) (run_short bs)
    where
      go : (s t : Bool) → length (these sort bs) ≤ length bs → length (cond s (b ∷ these sort bs) (cond t (these sort bs) [])) ≤ suc (length bs)
      go true t h = omega arith
      go false true h = omega arith
      go false false h = omega arith

-- the digits behind a point: none behind the source's end, none where another byte stands
pub decimals_end : (w : List ℕ) (i : ℕ) → length w ≤ i → decimals (drop i w) ≡ []
unfolding decimals
decimals_end w i h = ap decimals (word_none w i h)

pub decimals_here : (w : List ℕ) (i : ℕ) → i < length w → get_or w i 0 ≡ 46 → decimals (drop i w) ≡ these digit (drop (i + 1) w)
unfolding decimals
decimals_here w i h e = ap decimals (word_next w i h) ∙ rw e

pub decimals_none : (w : List ℕ) (i : ℕ) → i < length w → (get_or w i 0 ≡ 46 → ⊥) → decimals (drop i w) ≡ []
unfolding decimals
decimals_none w i h e = ap decimals (word_next w i h) ∙ rw (ne_eqb (get_or w i 0) 46 e)

-- digits, a point, and the digits behind it
pub decimal_put : {old mid next new : List ℕ} {at to to' r dot : ℕ} (source : List ℕ) (from : ℕ) → Puts old mid at to (these digit (drop from source)) → Puts mid next to to' (46 ∷ [])
    → dot ≡ from + reach digit (drop from source) → Puts next new to' r (decimals (drop dot source)) → Puts old new at r (with_decimals (drop from source))
unfolding with_decimals
decimal_put source from p q e d =
    puts_on p (puts_on q (puts_as d (ap (λ (i : ℕ). decimals (drop i source)) e ∙ ap decimals (sym (drop-drop (reach digit (drop from source)) from source)))))

pub or_false : (b : Bool) → b ≡ (b || false)
or_false true = refl
or_false false = refl

pub not_true : (b : Bool) → not b ≡ true → b ≡ false
not_true true h = absurd (let z : ◌≡◌ {A = ℕ} 0 1 = cc in omega arith)
not_true false h = refl

pub not_false : (b : Bool) → not b ≡ false → b ≡ true
not_false true h = refl
not_false false h = absurd (let z : ◌≡◌ {A = ℕ} 0 1 = cc in omega arith)
