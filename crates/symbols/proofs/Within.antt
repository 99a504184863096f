-- What begins at a byte ends within the source.
use mathlib.Core.Path.{◌≡◌, refl, sym, ◌∙◌}
use mathlib.Core.Bool.{Bool, true, false, cond, ◌&&◌, ◌||◌}
use mathlib.Core.List.{List, [], ◌∷◌, ◌++◌}
use Prim.Native.Nat.{ℕ, zero, suc, ◌+◌, ◌≤◌, ◌<◌}
use Prim.Native.Char.{code}
use native.Mathlib.Omega.{arith}
use lib.Dec.{eqb, ltb}
use lib.ListN.{length, get_or, drop, length-drop, get_or-eq_default}
use borrow.Author.Tests.{ltb-true, eqb-true}
use Rattle.symbols.proofs.Laws.{both}
use Rattle.symbols.specs.Names.{blank, letter, digit, in_name, these, reach, letters, value, decimals}
use Rattle.symbols.specs.Symbols.{Sign, one, two, signs, words, is}
use Rattle.symbols.specs.Scan.{before, closed, spelled, named, word, gap, followed, sign, sized, name, valued, pointed, with_point, number, point, lexeme, ends_remark, note, counted, judged, turn}
use Rattle.std.specs.Prelude.{Option, Some, None}
use Rattle.symbols.specs.declared.Symbol.{Symbol}
use Rattle.symbols.specs.declared.Symbol.TheVariants.{Comment}
use Rattle.symbols.specs.declared.Context.{Context}
use Rattle.symbols.specs.declared.Context.TheVariants.{Opens, Plain, Remark}
use Rattle.symbols.specs.declared.Lexeme.{Lexeme}
use Rattle.symbols.specs.declared.Lexeme.TheVariants.{Is, Large, Nothing}
use Rattle.symbols.specs.declared.Turn.{Turn}
use Rattle.symbols.specs.declared.Turn.TheVariants.{Pass, Keep, Refuse}

-- ---- runs

pub reach_within : (sort : ℕ → Bool) (bs : List ℕ) → reach sort bs ≤ length bs
unfolding reach
reach_within sort [] = omega arith
reach_within sort (b ∷ bs) = go (sort b || blank b) (reach_within sort bs)
  where
    go : (t : Bool) → reach sort bs ≤ length bs → cond t (suc (reach sort bs)) 0 ≤ suc (length bs)
    go true h = omega arith
    go false h = omega arith

gap_within : (bs : List ℕ) → gap bs ≤ length bs
unfolding gap
gap_within [] = omega arith
gap_within (b ∷ bs) = go (blank b) (gap_within bs)
  where
    go : (t : Bool) → gap bs ≤ length bs → cond t (suc (gap bs)) 0 ≤ suc (length bs)
    go true h = omega arith
    go false h = omega arith

-- a byte that is not 0 stands behind the blanks: they do not reach the end
followed_within : (c : ℕ) (bs : List ℕ) → 0 < c → followed c bs ≡ true → gap bs < length bs
unfolding followed
followed_within c bs p h = go (ltb (gap bs) (length bs)) refl
  where
    go : (t : Bool) → ltb (gap bs) (length bs) ≡ t → gap bs < length bs
    go true e = ltb-true (gap bs) (length bs) e
    go false e =
        let l : length bs ≤ gap bs = borrow.Author.Tests.ltb-false (gap bs) (length bs) e in
        let z : c ≡ 0 = sym (eqb-true (get_or bs (gap bs) 0) c h) ∙ get_or-eq_default bs 0 l in
        absurd (omega arith)

-- ---- what begins at a byte

abbrev pub Fits : Lexeme → ℕ → Type 0
Fits (Is s k) n = k ≤ n
Fits (Large k) n = k ≤ n
Fits Nothing n = Unit {0}

either : (t : Bool) (x y : Lexeme) (n : ℕ) → (t ≡ true → Fits x n) → Fits y n → Fits (cond t x y) n
either true x y n h k = h refl
either false x y n h k = k

fits_named : (r : Option Symbol) (k n : ℕ) → k ≤ n → Fits (named r k) n
unfolding named
fits_named (Some s) k n h = h
fits_named None k n h = tt

pub fits_word : (bs : List ℕ) → Fits (word bs) (length bs)
unfolding word closed
fits_word bs =
    either (ltb (length (before 39 bs)) (length bs)) (named (spelled words (before 39 bs)) (length (before 39 bs) + 1)) Nothing (length bs)
    (λ e. let h = ltb-true (length (before 39 bs)) (length bs) e in fits_named (spelled words (before 39 bs)) (length (before 39 bs) + 1) (length bs) (omega arith))
    tt

abbrev pub Low : List Sign → Type 0
Low [] = Unit {0}
Low (one c s ∷ l) = Low l
Low (two c d s ∷ l) = (0 < code d) × Low l

pub fits_sign : (l : List Sign) (b : ℕ) (bs : List ℕ) → Low l → Fits (sign l b bs) (length bs)
unfolding sign
fits_sign [] b bs o = tt
fits_sign (one c s ∷ l) b bs o = either (eqb b (code c)) (Is s 0) (sign l b bs) (length bs) (λ e. omega arith) (fits_sign l b bs o)
fits_sign (two c d s ∷ l) b bs o =
    either (eqb b (code c) && followed (code d) bs) (Is s (gap bs + 1)) (sign l b bs) (length bs)
    (λ e. let h = followed_within (code d) bs o.0 (both (eqb b (code c)) (followed (code d) bs) e).1 in omega arith)
    (fits_sign l b bs o.1)

-- the point and the digits behind it
pub fits_with : (plain : Lexeme) (ds es : List ℕ) (k n : ℕ) → Fits plain n → (0 < length es → k ≤ n) → Fits (with_point plain ds es k) n
unfolding with_point pointed
fits_with plain ds [] k n p h = p
fits_with plain ds (e ∷ es) k n p h =
    let l = h (omega arith) in
    either (ltb 15 (length (ds ++ (e ∷ es)))) (Large k) (Is _ k) n (λ f. l) l

decimals_within : (bs : List ℕ) → 0 < length (decimals bs) → 1 + reach digit (drop 1 bs) ≤ length bs
unfolding decimals
decimals_within [] h = absurd (omega arith)
decimals_within (b ∷ bs) h = omega (arith, reach_within digit bs)

pub fits_valued : (v k n : ℕ) → k ≤ n → Fits (valued v k) n
unfolding valued
fits_valued v k n h = either (ltb 2147483647 v) (Large k) (Is _ k) n (λ f. h) h

fits_number : (b : ℕ) (bs : List ℕ) → Fits (number b bs) (length bs)
unfolding number
fits_number b bs =
    let k = reach digit bs in
    let r = reach_within digit bs in
    fits_with (valued (value (b ∷ bs)) k) (these digit (b ∷ bs)) (decimals (drop k bs)) (k + 1 + reach digit (drop 1 (drop k bs))) (length bs)
    (fits_valued (value (b ∷ bs)) k (length bs) r) (λ h. omega (arith, r, decimals_within (drop k bs) h, length-drop k bs))

fits_point : (bs : List ℕ) → Fits (point bs) (length bs)
unfolding point
fits_point bs = fits_with Nothing [] (these digit bs) (reach digit bs) (length bs) tt (λ h. reach_within digit bs)

pub fits_lexeme : (b : ℕ) (bs : List ℕ) → Fits (lexeme b bs) (length bs)
unfolding lexeme name sized
fits_lexeme b bs =
    let n = length (letters (b ∷ bs)) in
    let r = reach_within in_name bs in
    either (letter b) (name b bs) (cond (digit b) (number b bs) (cond (eqb b 46) (point bs) (cond (eqb b 39) (word bs) (sign signs b bs)))) (length bs)
    (λ e. either (ltb 32 n) (Large (reach in_name bs)) (Is _ (reach in_name bs)) (length bs) (λ f. r) r)
    (either (digit b) (number b bs) (cond (eqb b 46) (point bs) (cond (eqb b 39) (word bs) (sign signs b bs))) (length bs) (λ e. fits_number b bs)
    (either (eqb b 46) (point bs) (cond (eqb b 39) (word bs) (sign signs b bs)) (length bs) (λ e. fits_point bs)
    (either (eqb b 39) (word bs) (sign signs b bs) (length bs) (λ e. fits_word bs) (fits_sign signs b bs (omega arith)))))

-- ---- what is done at a byte: it ends within the n bytes behind it, and what is kept has room m

abbrev pub Stays : ℕ → ℕ → Turn → Type 0
Stays m n (Pass c k) = k ≤ n
Stays m n (Keep s c k) = (k ≤ n) × (0 < m)
Stays m n (Refuse a) = Unit {0}

whether : (m n : ℕ) (t : Bool) (x y : Turn) → (t ≡ true → Stays m n x) → Stays m n y → Stays m n (cond t x y)
whether m n true x y h k = h refl
whether m n false x y h k = k

stays_note : (m k : ℕ) (bs : List ℕ) → k ≤ length bs → Stays m (length bs) (note k bs)
unfolding note closed
stays_note m k bs h =
    let rest = drop k bs in
    whether m (length bs) (ltb (length (before 59 rest)) (length rest)) (Pass Opens (k + (length (before 59 rest) + 1))) (Refuse _)
    (λ e. let l = ltb-true (length (before 59 rest)) (length rest) e in omega (arith, length-drop k bs))
    tt

stays_counted : (m n : ℕ) (s : Symbol) (k : ℕ) → k ≤ n → Stays m n (counted m s k)
unfolding counted
stays_counted zero n s k h = tt
stays_counted (suc m) n s k h = (h, omega arith)

stays_judged : (m : ℕ) (c : Context) (x : Lexeme) (bs : List ℕ) → Fits x (length bs) → Stays m (length bs) (judged m c x bs)
unfolding judged
stays_judged m Opens (Is s k) bs h = whether m (length bs) (is s Comment) (note k bs) (counted m s k) (λ e. stays_note m k bs h) (stays_counted m (length bs) s k h)
stays_judged m Plain (Is s k) bs h = stays_counted m (length bs) s k h
stays_judged m Remark (Is s k) bs h = whether m (length bs) (ends_remark s) (counted m s k) (Pass Remark k) (λ e. stays_counted m (length bs) s k h) h
stays_judged m Opens (Large k) bs h = tt
stays_judged m Plain (Large k) bs h = tt
stays_judged m Remark (Large k) bs h = h
stays_judged m Opens Nothing bs h = tt
stays_judged m Plain Nothing bs h = tt
stays_judged m Remark Nothing bs h = tt

pub stays : (m : ℕ) (c : Context) (b : ℕ) (bs : List ℕ) → Stays m (length bs) (turn m c b bs)
unfolding turn
stays m c b bs = whether m (length bs) (blank b) (Pass c 0) (judged m c (lexeme b bs) bs) (λ e. omega arith) (stays_judged m c (lexeme b bs) bs (fits_lexeme b bs))
