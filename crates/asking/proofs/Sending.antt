-- Laws of Lists: what stands for a number that digits spell, and what a room holds when so many words of a list are taken. A number that is no word
-- never stands for one: where the numbers of a list are words, these are the numbers as they are typed (`as_typed`).
use mathlib.Core.Path.{◌≡◌, refl, sym, ap, ◌∙◌}
use mathlib.Core.Bool.{Bool, true, false, cond, ◌&&◌}
use mathlib.Core.List.{List, [], ◌∷◌, ◌++◌, map}
use Rattle.std.specs.Prelude.{Option, None, Some, Ok, Err}
use Prim.Native.Nat.{ℕ, zero, suc, ◌+◌, ◌^◌, ◌≤◌, ◌<◌}
use native.Mathlib.Omega.{arith}
use native.Mathlib.Numerals.{add-one}
use lib.Dec.{leb, ltb, eqb}
use lib.IntN.{ℤ, pos, negsuc}
use lib.ListN.{length, get_or, take, drop, set, length-drop, drop_of_length-le}
use lib.Seq.{drop-cons, drop-drop, take_all, take-add, length-take-le, set_at, append_snoc}
use borrow.Author.Tests.{ltb-false, le-leb, lt-leb, lt-ltb, le-ltb, eq-eqb, ne_eqb, eqb-true, eqb-false}
use Rattle.std.specs.List.{list_all}
use Rattle.symbols.specs.Names.{digit, value_from}
use Rattle.asking.specs.Numerals.{digits, spelled, number_of, natural_of, counted, negated, integer_of}
use Rattle.asking.specs.Words.{words_of, cut, ended}
use Rattle.asking.specs.Lists.{sent, standing, sent_of, in_front, leading, listed_in, Lists}
use Rattle.asking.specs.declared.lists.Unlisted.TheVariants.{NoNumber, Full}

-- ---- digits

pub all_digits : (bs : List ℕ) → list_all digit bs ≡ digits bs
unfolding digits
all_digits [] = refl
all_digits (b ∷ bs) = ap (λ (t : Bool). digit b && t) (all_digits bs)

module _ (bs : List ℕ) where
  pub spelled_empty : eqb (length bs) 0 ≡ true → spelled bs ≡ false
  unfolding spelled
  spelled_empty e = rw (eqb-true (length bs) 0 e)

  pub spelled_all : eqb (length bs) 0 ≡ false → spelled bs ≡ digits bs
  unfolding spelled
  spelled_all e = let n = eqb-false (length bs) 0 e in rw (lt-ltb 0 (length bs) (omega (arith, n)))

  number_none : spelled bs ≡ false → number_of bs ≡ None
  unfolding number_of
  number_none e = rw e

  -- what 64 bits hold is the number itself, and what they do not hold is greater
  number_is : (v : ℕ) → spelled bs ≡ true → Some v ≡ natural_of bs → number_of bs ≡ Some v
  unfolding number_of natural_of
  number_is v e h = go (ltb (value_from 0 bs) (2 ^ 64)) (h ∙ ap (λ (t : Bool). cond (t && ltb (value_from 0 bs) (2 ^ 64)) (Some (value_from 0 bs)) None) e)
    where
      go : (t : Bool) → Some v ≡ cond t (Some (value_from 0 bs)) None → cond (spelled bs) (Some (value_from 0 bs)) None ≡ Some v
      go true q = rw e (sym q)
      go false q = absurd (let z : ◌≡◌ {A = ℕ} 0 1 = cc in omega arith)

  number_large : spelled bs ≡ true → None ≡ natural_of bs → (n : ℕ) × (65535 < n) × (number_of bs ≡ Some n)
  unfolding number_of natural_of
  number_large e h = go (ltb (value_from 0 bs) (2 ^ 64)) refl (h ∙ ap (λ (t : Bool). cond (t && ltb (value_from 0 bs) (2 ^ 64)) (Some (value_from 0 bs)) None) e)
    where
      go : (t : Bool) → ltb (value_from 0 bs) (2 ^ 64) ≡ t → None ≡ cond t (Some (value_from 0 bs)) None
          → (n : ℕ) × (65535 < n) × (cond (spelled bs) (Some (value_from 0 bs)) None ≡ Some n)
      go true l q = absurd (let z : ◌≡◌ {A = ℕ} 0 1 = cc in omega arith)
      go false l q = (value_from 0 bs, omega (arith, ltb-false (value_from 0 bs) (2 ^ 64) l), rw e refl)

-- ---- what stands for a number

sent_none : (n : ℕ) → 65535 < n → sent (pos n) ≡ negsuc 0
unfolding sent
sent_none n h = rw (lt-leb n 65535 h)

sent_word : (n : ℕ) → n ≤ 65535 → sent (pos n) ≡ pos n
unfolding sent
sent_word n h = rw (le-leb n 65535 h)

module _ (bs : List ℕ) where
  pub counted_none : spelled bs ≡ false → standing (counted (number_of bs)) ≡ None
  unfolding standing counted
  counted_none e = rw (number_none bs e)

  pub counted_large : spelled bs ≡ true → None ≡ natural_of bs → standing (counted (number_of bs)) ≡ Some (negsuc 0)
  unfolding standing counted
  counted_large e h = let n = number_large bs e h in rw (n.2, sent_none n.0 n.1)

  pub counted_over : (v : ℕ) → spelled bs ≡ true → Some v ≡ natural_of bs → 65535 < v → standing (counted (number_of bs)) ≡ Some (negsuc 0)
  unfolding standing counted
  counted_over v e h l = rw (number_is bs v e h, sent_none v l)

  pub counted_word : (v : ℕ) → spelled bs ≡ true → Some v ≡ natural_of bs → v ≤ 65535 → standing (counted (number_of bs)) ≡ Some (pos v)
  unfolding standing counted
  counted_word v e h l = rw (number_is bs v e h, sent_word v l)

  pub negated_none : spelled bs ≡ false → standing (negated (number_of bs)) ≡ None
  unfolding standing negated
  negated_none e = rw (number_none bs e)

  minus : (n : ℕ) → 0 < n → standing (negated (Some n)) ≡ Some (negsuc 0)
  unfolding standing negated sent
  minus zero h = absurd (omega arith)
  minus (suc n) h = refl

  pub negated_large : spelled bs ≡ true → None ≡ natural_of bs → standing (negated (number_of bs)) ≡ Some (negsuc 0)
  negated_large e h = let n = number_large bs e h in rw n.2 (minus n.0 (omega (arith, n.1)))

  pub negated_some : (v : ℕ) → spelled bs ≡ true → Some v ≡ natural_of bs → 0 < v → standing (negated (number_of bs)) ≡ Some (negsuc 0)
  negated_some v e h l = rw (number_is bs v e h) (minus v l)

  pub negated_zero : (v : ℕ) → spelled bs ≡ true → Some v ≡ natural_of bs → v ≤ 0 → standing (negated (number_of bs)) ≡ Some (pos 0)
  unfolding standing negated sent
  negated_zero v e h l = let z : v ≡ 0 = omega arith in rw (number_is bs v e h, z) refl

-- ---- a word with a sign, and one with none

pub sent_empty : (bs : List ℕ) → length bs ≡ 0 → sent_of bs ≡ None
unfolding sent_of standing integer_of
sent_empty [] e = refl
sent_empty (b ∷ bs) e = absurd (omega arith)

pub sent_minus : (bs : List ℕ) → 0 < length bs → get_or bs 0 0 ≡ 45 → sent_of bs ≡ standing (negated (number_of (drop 1 bs)))
unfolding sent_of integer_of
sent_minus [] h e = absurd (omega arith)
sent_minus (b ∷ bs) h e = rw (eq-eqb b 45 e)

pub sent_plus : (bs : List ℕ) → 0 < length bs → (get_or bs 0 0 ≡ 45 → ⊥) → get_or bs 0 0 ≡ 43 → sent_of bs ≡ standing (counted (number_of (drop 1 bs)))
unfolding sent_of integer_of
sent_plus [] h m e = absurd (omega arith)
sent_plus (b ∷ bs) h m e = rw (ne_eqb b 45 m, eq-eqb b 43 e)

pub sent_bare : (bs : List ℕ) → 0 < length bs → (get_or bs 0 0 ≡ 45 → ⊥) → (get_or bs 0 0 ≡ 43 → ⊥) → sent_of bs ≡ standing (counted (number_of bs))
unfolding sent_of integer_of
sent_bare [] h m p = absurd (omega arith)
sent_bare (b ∷ bs) h m p = rw (ne_eqb b 45 m, ne_eqb b 43 p)

-- ---- words taken one by one

lead_on : (w : List ℕ) (ws : List (List ℕ)) (z : ℤ) → Some z ≡ sent_of w → leading (w ∷ ws) ≡ z ∷ leading ws
unfolding leading in_front
lead_on w ws z e = rw (sym e)

lead_stop : (w : List ℕ) (ws : List (List ℕ)) → None ≡ sent_of w → leading (w ∷ ws) ≡ []
unfolding leading in_front
lead_stop w ws e = rw (sym e)

-- of the words of a line the first n are taken, and the rest begins at a place
pub record Put (line : List ℕ) (before list : List ℤ) (at n : ℕ) : Type 0 where
  pub few : n ≤ length (leading (words_of line))
  pub behind : drop n (leading (words_of line)) ≡ leading (words_of (drop at line))
  pub counts : length (words_of line) ≡ n + length (words_of (drop at line))
  pub inside : n ≤ length before
  pub holds : list ≡ take n (leading (words_of line)) ++ drop n before

module _ (line : List ℕ) (before : List ℤ) where
  pub put_nothing : Put line before before 0 0
  put_nothing = record { few = omega arith; behind = refl; counts = omega arith; inside = omega arith; holds = refl }

  module _ (list : List ℤ) (at n : ℕ) (h : Put line before list at n) where
    abbrev led : List ℤ
    led = leading (words_of line)

    -- how many numbers there are, when what is left is known
    led_long : (zs : List ℤ) → leading (words_of (drop at line)) ≡ zs → length led ≡ n + length zs
    led_long zs e = omega (arith, length-drop n led, ap length (h.behind ∙ e), h.few)

    -- a room that takes all of them
    all_hold : length led ≡ n → list ≡ take (length before) led ++ drop (length led) before
    all_hold e =
        h.holds ∙ ap (λ (l : List ℤ). l ++ drop n before) (take_all n led (omega arith) ∙ sym (take_all (length before) led (omega (arith, h.inside))))
        ∙ ap (λ (k : ℕ). take (length before) led ++ drop k before) (sym e)

    pub put_all : words_of (drop at line) ≡ [] → Lists (words_of line) before (Ok n) list
    unfolding listed_in leading
    put_all e =
        let l : length led ≡ n = led_long [] (ap leading e) ∙ omega arith in
        let k : length (words_of line) ≡ n = h.counts ∙ omega (arith, ap length e) in
        record {
          said = sym (rw (le-ltb (length before) (length led) (omega (arith, h.inside)), le-ltb (length led) (length (words_of line)) (omega arith), l) refl);
          holds = all_hold l;
        }

    module _ (w : List ℕ) (ws : List (List ℕ)) (e : words_of (drop at line) ≡ w ∷ ws) where
      pub put_stop : None ≡ sent_of w → Lists (words_of line) before (Err (NoNumber n)) list
      unfolding listed_in
      put_stop q =
          let l : length led ≡ n = led_long [] (ap leading e ∙ lead_stop w ws q) ∙ omega arith in
          let k : length led < length (words_of line) = omega (arith, h.counts, ap length e) in
          record {
            said = sym (rw (le-ltb (length before) (length led) (omega (arith, h.inside)), lt-ltb (length led) (length (words_of line)) k, l) refl);
            holds = all_hold l;
          }

      module _ (z : ℤ) (q : Some z ≡ sent_of w) where
        next : drop n led ≡ z ∷ leading ws
        next = h.behind ∙ ap leading e ∙ lead_on w ws z q

        more : length led ≡ n + suc (length (leading ws))
        more = led_long (z ∷ leading ws) (ap leading e ∙ lead_on w ws z q)

        pub put_full : length before ≤ n → Lists (words_of line) before (Err Full) list
        unfolding listed_in
        put_full f =
            let k : n ≡ length before = omega (arith, h.inside) in
            record {
              said = sym (rw (lt-ltb (length before) (length led) (omega (arith, more))) refl);
              holds =
                  h.holds ∙ ap (λ (l : List ℤ). take n led ++ l) (drop_of_length-le before f ∙ sym (drop_of_length-le before {i = length led} (omega (arith, more))))
                  ∙ ap (λ (x : ℕ). take x led ++ drop (length led) before) k;
            }

        pub put_more : n < length before → (to : ℕ) → ws ≡ words_of (drop to line) → Put line before (set list n z) to (n + 1)
        put_more f to r =
            let t : take (n + 1) led ≡ take n led ++ (z ∷ []) = take-add n 1 led ∙ ap (λ (l : List ℤ). take n led ++ take 1 l) next in
            let d : drop n before ≡ get_or before n (pos 0) ∷ drop (n + 1) before = rw add-one (drop-cons before n (pos 0) f) in
            record {
              few = omega (arith, more);
              behind = sym (drop-drop 1 n led) ∙ ap (λ (l : List ℤ). drop 1 l) next ∙ ap leading r;
              counts = omega (arith, h.counts, ap length e, ap length r);
              inside = omega arith;
              holds =
                  ap (λ (l : List ℤ). set l n z) (h.holds ∙ ap (λ (l : List ℤ). take n led ++ l) d)
                  ∙ set_at (take n led) (get_or before n (pos 0)) (drop (n + 1) before) z n (length-take-le n led h.few)
                  ∙ sym (append_snoc (take n led) z (drop (n + 1) before)) ∙ ap (λ (l : List ℤ). l ++ drop (n + 1) before) (sym t);
            }

-- behind a line's end there is no word
pub no_words : (line : List ℕ) (at : ℕ) → length line ≤ at → words_of (drop at line) ≡ []
unfolding cut ended
no_words line at h = rw (drop_of_length-le line h)

-- ---- numbers as they are typed

-- only a number that is a word stands for one
sent_itself : (z : ℤ) (n : ℕ) → sent z ≡ pos n → z ≡ pos n
unfolding sent
sent_itself (pos m) n e = go (leb m 65535) e
  where
    go : (t : Bool) → cond t (pos m) (negsuc 0) ≡ pos n → pos m ≡ pos n
    go true q = q
    go false q = absurd (let y : ◌≡◌ {A = ℕ} 0 1 = cc in omega arith)
sent_itself (negsuc m) n e = absurd (let y : ◌≡◌ {A = ℕ} 0 1 = cc in omega arith)

typed_word : (o : Option ℤ) (n : ℕ) → standing o ≡ Some (pos n) → o ≡ Some (pos n)
unfolding standing
typed_word None n e = absurd (let y : ◌≡◌ {A = ℕ} 0 1 = cc in omega arith)
typed_word (Some z) n e = ap Some (sent_itself z n (let y : sent z ≡ pos n = cc in y))

abbrev pub word : ℕ → Option ℤ
word n = Some (pos n)

-- where all words of a list are numbers, and what stands for them are words, these are what is typed, however long
pub as_typed : (ws : List (List ℕ)) (l : List ℕ) → length (leading ws) ≡ length ws → leading ws ≡ map pos l → map integer_of ws ≡ map word l
unfolding leading in_front sent_of
as_typed [] [] k e = refl
as_typed [] (n ∷ l) k e = absurd (let y : ◌≡◌ {A = ℕ} 0 1 = cc in omega arith)
as_typed (w ∷ ws) l k e = go (standing (integer_of w)) refl (as_typed ws) l k e
  where
    go : (o : Option ℤ) → standing (integer_of w) ≡ o
        → ((m : List ℕ) → length (leading ws) ≡ length ws → leading ws ≡ map pos m → map integer_of ws ≡ map word m)
        → (l : List ℕ) → length (in_front o (leading ws)) ≡ suc (length ws) → in_front o (leading ws) ≡ map pos l
        → integer_of w ∷ map integer_of ws ≡ map word l
    go None q rest l k e = absurd (omega arith)
    go (Some z) q rest [] k e = absurd (let y : ◌≡◌ {A = ℕ} 0 1 = cc in omega arith)
    go (Some z) q rest (n ∷ l) k e =
        let a : z ≡ pos n = cc in
        let b : leading ws ≡ map pos l = cc in
        ap (λ (o : Option ℤ). o ∷ map integer_of ws) (typed_word (integer_of w) n (q ∙ ap Some a))
        ∙ ap (λ (os : List (Option ℤ)). word n ∷ os) (rest l (omega arith) b)
