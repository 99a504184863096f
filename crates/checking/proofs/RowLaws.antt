-- The words of a list that agree with those of a row, and the first wrong word of rows one behind the other: what the loops of `checking` rest on.
use Prim.Native.Nat.{ℕ, zero, suc, ◌+◌, ◌-◌, ◌*◌, ◌≤◌, ◌<◌}
use mathlib.Core.Path.{◌≡◌, refl, sym, ap, ◌∙◌}
use mathlib.Core.Bool.{Bool, true, false, cond}
use mathlib.Core.List.{List, [], ◌∷◌, ◌++◌}
use mathlib.Core.Option.{Option, none, some}
use native.Mathlib.Nat.{suc-mul}
use native.Mathlib.Omega.{arith}
use lib.Dec.{eqb}
use lib.IntN.{ℤ, pos, negsuc}
use mir.Syntax.{w16, w64}
use mir.Val.{Fits, SFits, of_z}
use borrow.Author.Tests.{ne_eqb}
use lib.ListN.{length, get_or, take, drop, length-drop, drop_of_length-le}
use lib.Seq.{take_all, drop-cons, drop-drop, length-take-le}
use Rattle.checking.specs.Checking.{is_word, next, first_wrong, answer_of}
use Rattle.checking.specs.model.Comparing.{agreed, narrow, section}
use Rattle.checking.specs.declared.Checked.{Checked}
use Rattle.checking.specs.declared.Checked.TheVariants.{Yes, Wrong}

-- ---- a number is handed over as its bits: from 0 on it is told by its value, and one below 0 is no word

pub word_bits : (x : ℤ) (w : ℕ) → SFits w64 x → Fits w16 w → eqb (of_z w64 x) w ≡ is_word x w
unfolding is_word
word_bits (pos n) w f h = refl
word_bits (negsuc n) w f h = ne_eqb (of_z w64 (negsuc n)) w (λ e. omega (arith, f.sfits, h.fits, e))

-- an index behind k words
abbrev pub behind : ℕ → Option ℕ → Option ℕ
behind k none = none
behind k (some i) = some (k + i)

behind_none : (o : Option ℕ) → behind 0 o ≡ o
behind_none none = refl
behind_none (some i) = ap some (omega arith)

behind_next : (k : ℕ) (o : Option ℕ) → next (behind k o) ≡ behind (suc k) o
unfolding next
behind_next k none = refl
behind_next k (some i) = ap some (omega arith)

behind_both : (j k : ℕ) (o : Option ℕ) → behind j (behind k o) ≡ behind (j + k) o
behind_both j k none = refl
behind_both j k (some i) = ap some (omega arith)

-- ---- a row, and what comes behind it

abbrev counted : Bool → ℕ → ℕ
counted b n = cond b (suc n) 0

pub agreed_list : (l : List ℤ) (ws : List ℕ) → agreed l ws ≤ length l
unfolding agreed
agreed_list [] ws = omega arith
agreed_list (x ∷ xs) [] = omega arith
agreed_list (x ∷ xs) (w ∷ ws) = one (is_word x w) (agreed_list xs ws)
  where
    one : {n m : ℕ} (b : Bool) → n ≤ m → counted b n ≤ suc m
    one true h = omega arith
    one false h = omega arith

pub agreed_words : (l : List ℤ) (ws : List ℕ) → agreed l ws ≤ length ws
unfolding agreed
agreed_words [] ws = omega arith
agreed_words (x ∷ xs) [] = omega arith
agreed_words (x ∷ xs) (w ∷ ws) = one (is_word x w) (agreed_words xs ws)
  where
    one : {n m : ℕ} (b : Bool) → n ≤ m → counted b n ≤ suc m
    one true h = omega arith
    one false h = omega arith

-- a row that is not all there is wrong where it stops agreeing
pub row_wrong : (l : List ℤ) (ws rest : List ℕ) → agreed l ws < length ws → first_wrong l (ws ++ rest) ≡ some (agreed l ws)
unfolding agreed first_wrong next
row_wrong [] [] rest h = absurd (omega arith)
row_wrong [] (w ∷ ws) rest h = refl
row_wrong (x ∷ xs) [] rest h = absurd (omega arith)
row_wrong (x ∷ xs) (w ∷ ws) rest h = one (is_word x w) h (row_wrong xs ws rest)
  where
    one : {n m : ℕ} {o : Option ℕ} (b : Bool) → counted b n < suc m → (n < m → o ≡ some n) → cond b (next o) (some 0) ≡ some (counted b n)
    one true h k = ap next (k (omega arith))
    one false h k = refl

-- behind one that is, the rest counts
pub row_right : (l : List ℤ) (ws rest : List ℕ) → agreed l ws ≡ length ws → first_wrong l (ws ++ rest) ≡ behind (length ws) (first_wrong (drop (length ws) l) rest)
unfolding agreed first_wrong next
row_right [] [] rest h = sym (behind_none (first_wrong [] rest))
row_right [] (w ∷ ws) rest h = absurd (omega arith)
row_right (x ∷ xs) [] rest h = sym (behind_none (first_wrong (x ∷ xs) rest))
row_right (x ∷ xs) (w ∷ ws) rest h = one (is_word x w) (first_wrong (drop (length ws) xs) rest) h (row_right xs ws rest)
  where
    one : {n m : ℕ} {o : Option ℕ} (b : Bool) (r : Option ℕ) → counted b n ≡ suc m → (n ≡ m → o ≡ behind m r) → cond b (next o) (some 0) ≡ behind (suc m) r
    one {m = m} true r h k = ap next (k (omega arith)) ∙ behind_next m r
    one false r h k = absurd (omega arith)

-- ---- one word after the other

pub agreed_short : (l : List ℤ) (ws : List ℕ) (i : ℕ) → length l ≤ i → agreed (drop i l) ws ≡ 0
unfolding agreed
agreed_short l ws i h = rw (drop_of_length-le l h)

pub agreed_over : (l : List ℤ) (ws : List ℕ) (i : ℕ) → length ws ≤ i → agreed l (drop i ws) ≡ 0
unfolding agreed
agreed_over [] ws i h = refl
agreed_over (x ∷ xs) ws i h = rw (drop_of_length-le ws h)

module _ (l : List ℤ) (ws : List ℕ) (i : ℕ) (h : i < length l) (k : i < length ws) (d : ℤ) where
  here : (b : Bool) → is_word (get_or l i d) (get_or ws i 0) ≡ b → agreed (drop i l) (drop i ws) ≡ counted b (agreed (drop (suc i) l) (drop (suc i) ws))
  unfolding agreed
  here b e = rw (drop-cons l i d h, drop-cons ws i 0 k, e)

  pub agreed_stop : is_word (get_or l i d) (get_or ws i 0) ≡ false → agreed (drop i l) (drop i ws) ≡ 0
  agreed_stop e = here false e

  pub agreed_on : is_word (get_or l i d) (get_or ws i 0) ≡ true → agreed (drop i l) (drop i ws) ≡ suc (agreed (drop (suc i) l) (drop (suc i) ws))
  agreed_on e = here true e

-- ---- row after row

-- what is left of a list is to be compared with what is left of a table: `left` rows from `from` on
pub record Left (list : List ℤ) (table : List ℕ) (wide width left at from : ℕ) : Type 0 where
  pub same : first_wrong list (section width wide table) ≡ behind at (first_wrong (drop at list) (narrow width wide left (drop from table)))
  pub inside : at ≤ length list
  pub room : from + left * wide ≤ length table

-- what is left of the list, and a row, as they are lent
pub lent : (list : List ℤ) (table : List ℕ) (at from width : ℕ)
    → agreed (take (length list - at) (drop at list)) (take (from + width - from) (drop from table)) ≡ agreed (drop at list) (take width (drop from table))
lent list table at from width =
    let a : take (length list - at) (drop at list) ≡ drop at list = take_all (length list - at) (drop at list) (omega (arith, length-drop at list)) in
    let b : from + width - from ≡ width = omega arith in
    ap (λ (l : List ℤ). agreed l (take (from + width - from) (drop from table))) a ∙ ap (λ (n : ℕ). agreed (drop at list) (take n (drop from table))) b

one_row : (n wide : ℕ) → 0 < n → n * wide ≡ wide + (n - 1) * wide
one_row zero wide h = absurd (omega arith)
one_row (suc m) wide h =
    let e : suc m - 1 ≡ m = omega arith in
    omega (arith, suc-mul m wide, ap (λ (k : ℕ). k * wide) e)

next_row : (width wide n : ℕ) (ws : List ℕ) → 0 < n → narrow width wide n ws ≡ take width ws ++ narrow width wide (n - 1) (drop wide ws)
unfolding narrow
next_row width wide zero ws h = absurd (omega arith)
next_row width wide (suc m) ws h =
    let e : suc m - 1 ≡ m = omega arith in
    ap (λ (k : ℕ). take width ws ++ narrow width wide k (drop wide ws)) (sym e)

-- the count stands first
count_first : (width wide : ℕ) (table : List ℕ) → 0 < length table → section width wide table ≡ take 1 table ++ narrow width wide (get_or table 0 0) (drop 1 table)
unfolding section
count_first width wide [] h = absurd (omega arith)
count_first width wide (t ∷ ts) h = refl

module _ (list : List ℤ) (table : List ℕ) (wide width : ℕ) where
  abbrev Says : Checked → Type 0
  Says c = c ≡ answer_of (first_wrong list (section width wide table))

  pub count_wrong : 0 < length table → agreed list (take 1 table) ≡ 0 → Says (Wrong 0)
  count_wrong h e =
      let l = length-take-le 1 table h in
      sym (ap answer_of (ap (first_wrong list) (count_first width wide table h) ∙ row_wrong list (take 1 table) (narrow width wide (get_or table 0 0) (drop 1 table)) (omega arith) ∙ ap some e))

  pub count_right : 1 + get_or table 0 0 * wide ≤ length table → (agreed list (take 1 table) ≡ 0 → ⊥) → Left list table wide width (get_or table 0 0) 1 1
  count_right h e =
      let k : 0 < length table = omega arith in
      let l = length-take-le 1 table k in
      let a = agreed_words list (take 1 table) in
      let b = agreed_list list (take 1 table) in
      let n : agreed list (take 1 table) ≡ 1 = one_of_lem (agreed list (take 1 table)) e (omega arith) in
      record {
        same =
            ap (first_wrong list) (count_first width wide table k)
            ∙ row_right list (take 1 table) (narrow width wide (get_or table 0 0) (drop 1 table)) (n ∙ sym l)
            ∙ ap (λ (i : ℕ). behind i (first_wrong (drop i list) (narrow width wide (get_or table 0 0) (drop 1 table)))) l;
        inside = omega arith;
        room = h;
      }
    where
      one_of_lem : (n : ℕ) → (n ≡ 0 → ⊥) → n ≤ 1 → n ≡ 1
      one_of_lem zero e h = absurd (e refl)
      one_of_lem (suc m) e h = omega arith

  module _ {left at from : ℕ} (now : Left list table wide width left at from) (more : 0 < left) (narrower : width ≤ wide) where
    abbrev row : List ℕ
    row = take width (drop from table)

    abbrev rest : List ℕ
    rest = narrow width wide (left - 1) (drop (from + wide) table)

    pub whole_row : from + wide ≤ length table
    whole_row = omega (arith, now.room, one_row left wide more)

    row_long : length row ≡ width
    row_long = length-take-le width (drop from table) (omega (arith, length-drop from table, whole_row))

    by_row : first_wrong list (section width wide table) ≡ behind at (first_wrong (drop at list) (row ++ rest))
    by_row =
        now.same
        ∙ ap (λ (ws : List ℕ). behind at (first_wrong (drop at list) ws)) (next_row width wide left (drop from table) more)
        ∙ ap (λ (ws : List ℕ). behind at (first_wrong (drop at list) (row ++ narrow width wide (left - 1) ws))) (drop-drop wide from table)

    pub row_fails : (n : ℕ) → n ≡ agreed (drop at list) row → n < width → Says (Wrong (at + n))
    row_fails n e h =
        let l = row_long in
        sym (ap answer_of (by_row ∙ ap (behind at) (row_wrong (drop at list) row rest (omega (arith, e)) ∙ ap some (sym e))))

    pub row_passes : (n : ℕ) → n ≡ agreed (drop at list) row → width ≤ n → Left list table wide width (left - 1) (at + n) (from + wide)
    row_passes n e h =
        let l = row_long in
        let a = agreed_words (drop at list) row in
        let b = agreed_list (drop at list) row in
        let k : length row ≡ n = omega (arith, e) in
        record {
          same =
              by_row ∙ ap (behind at) (row_right (drop at list) row rest (sym e ∙ sym k))
              ∙ ap (λ (i : ℕ). behind at (behind i (first_wrong (drop i (drop at list)) rest))) k
              ∙ behind_both at n (first_wrong (drop n (drop at list)) rest)
              ∙ ap (λ (l : List ℤ). behind (at + n) (first_wrong l rest)) (drop-drop n at list);
          inside = omega (arith, e, length-drop at list, now.inside);
          room = omega (arith, now.room, one_row left wide more);
        }

  module _ {left at from : ℕ} (now : Left list table wide width left at from) (none_left : left ≤ 0) where
    by_end_lem : first_wrong list (section width wide table) ≡ behind at (first_wrong (drop at list) [])
    unfolding narrow
    by_end_lem =
        let z : left ≡ 0 = omega arith in
        now.same ∙ ap (λ (n : ℕ). behind at (first_wrong (drop at list) (narrow width wide n (drop from table)))) z

    pub over_long : at < length list → Says (Wrong at)
    unfolding first_wrong
    over_long h =
        let e : first_wrong (drop at list) [] ≡ some 0 = ap (λ (l : List ℤ). first_wrong l []) (drop-cons list at (pos 0) h) in
        sym (ap answer_of (by_end_lem ∙ ap (behind at) e ∙ ap some (omega arith)))

    pub all_right : length list ≤ at → Says Yes
    unfolding first_wrong
    all_right h =
        let e : first_wrong (drop at list) [] ≡ none = ap (λ (l : List ℤ). first_wrong l []) (drop_of_length-le list h) in
        sym (ap answer_of (by_end_lem ∙ ap (behind at) e))
