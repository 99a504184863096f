-- Lists as they were sent: the words of a list stand in its line, and where all are numbers, these are what the room holds. The status 0 of one says that
-- the source is accepted and that what is typed are its uses, number by number (`good_sent`).
use Prim.Native.Nat.{ℕ, suc, ◌≤◌}
use mathlib.Core.Path.{◌≡◌, refl, sym, ap, subst, ◌∙◌}
use mathlib.Core.Bool.{Bool, true, false, cond}
use mathlib.Core.List.{List, [], ◌∷◌, ◌++◌, map}
use native.Mathlib.Omega.{arith}
use lib.Dec.{ltb}
use lib.IntN.{ℤ, pos}
use lib.ListN.{length, take, drop, length-map}
use lib.Seq.{length-take-le, take_all, take_at}
use borrow.Author.Tests.{ltb-false}
use Rattle.asking.specs.Numerals.{integer_of}
use Rattle.asking.specs.Words.{words_of}
use Rattle.asking.specs.Words.{unlisted}
use Rattle.asking.specs.Lists.{list_words, ListLine, sent_of, in_front, leading, listed_in, Lists}
use Rattle.std.specs.Prelude.{Option, Some, None, Result, Ok, Err}
use Rattle.asking.specs.declared.lists.Unlisted.{Unlisted}
use Rattle.asking.specs.declared.lists.Unlisted.TheVariants.{NoNumber, Full}
use Rattle.asking.proofs.Sending.{word, as_typed}
use Rattle.checking.specs.Checking.{three, Checks}
use Rattle.checking.specs.declared.Checked.{Checked}
use Rattle.checking.specs.declared.Checked.TheVariants.{Yes, Refused as Unchecked, Wrong as WrongAt}
use Rattle.checking.proofs.FromTables.{Accepts}
use Rattle.checking.proofs.Promises.{uses_in, one_answer, yes_exactly}
use Rattle.desk.specs.Status.{good, nothing}
use Rattle.deed.specs.Status.{of_checked, CheckStatus, ByWords, SentStatus}

-- ---- a list as a line of words

pub words_sent : (text row row' : List ℕ) (n : ℕ) → ListLine text row n row' → length text ≤ length row → words_of (take n row') ≡ list_words text
words_sent text row row' n h l =
    let m = map unlisted text in
    let e : n ≡ length m = omega (arith, h.many, length-map text unlisted) in
    let k : length (take n m) ≡ n = length-take-le n m (omega arith) in
    ap words_of (ap (λ (x : List ℕ). take n x) h.holds ∙ take_at (take n m) (drop n row) n k ∙ take_all n m (omega arith))

-- ---- what its words are

-- the number of them and one, or 0
abbrev count : Result ℕ Unlisted → ℕ
count (Ok n) = suc n
count (Err (NoNumber i)) = 0
count (Err Full) = 0

-- all are numbers
pub record All (room : ℕ) (ws : List (List ℕ)) (n : ℕ) : Type 0 where
  pub many : n ≡ length (leading ws)
  pub whole : length (leading ws) ≡ length ws
  pub fits : length (leading ws) ≤ room

front_most : (o : Option ℤ) (zs : List ℤ) (n : ℕ) → length zs ≤ n → length (in_front o zs) ≤ suc n
unfolding in_front
front_most None zs n h = omega arith
front_most (Some z) zs n h = omega arith

led_most : (ws : List (List ℕ)) → length (leading ws) ≤ length ws
unfolding leading
led_most [] = omega arith
led_most (w ∷ ws) = front_most (sent_of w) (leading ws) (length ws) (led_most ws)

pub all_listed : (room : ℕ) (ws : List (List ℕ)) (n : ℕ) → listed_in room ws ≡ Ok n → All room ws n
unfolding listed_in
all_listed room ws n e = go (ltb room (length (leading ws))) refl (ltb (length (leading ws)) (length ws)) refl (ap count e)
  where
    go : (t : Bool) → ltb room (length (leading ws)) ≡ t → (u : Bool) → ltb (length (leading ws)) (length ws) ≡ u
        → count (cond t (Err Full) (cond u (Err (NoNumber (length (leading ws)))) (Ok (length (leading ws))))) ≡ suc n → All room ws n
    go true p u q k = absurd (omega arith)
    go false p true q k = absurd (omega arith)
    go false p false q k =
        record {
          many = omega arith;
          whole = omega (arith, led_most ws, ltb-false (length (leading ws)) (length ws) q);
          fits = ltb-false room (length (leading ws)) p;
        }

-- ---- the status of a list

module _ (text : List ℕ) (ws : List (List ℕ)) (list list' : List ℤ) (r : Result ℕ Unlisted) (room : length list ≡ 32768) (same : ws ≡ list_words text) (h : Lists ws list r list') where
  listed : (q : Result ℕ Unlisted) → r ≡ q → listed_in 32768 (list_words text) ≡ q
  listed q e = ap (λ (n : ℕ). listed_in n (list_words text)) (sym room) ∙ ap (λ (x : List (List ℕ)). listed_in (length list) x) (sym same) ∙ sym h.said ∙ e

  numbers : (k : ℕ) → r ≡ Ok k → take k list' ≡ leading (list_words text)
  numbers k e =
      let a = all_listed (length list) ws k (sym h.said ∙ e) in
      ap (λ (x : List ℤ). take k x) (h.holds ∙ ap (λ (x : List ℤ). x ++ drop (length (leading ws)) list) (take_all (length list) (leading ws) a.fits))
      ∙ take_at (leading ws) (drop (length (leading ws)) list) k (sym a.many) ∙ ap leading same

  pub sent_are : {source : List ℕ} (k s : ℕ) → r ≡ Ok k → CheckStatus source (take k list') s → SentStatus source text s
  sent_are {source} k s e t =
      record {
        by_words = subst (λ (l : Result ℕ Unlisted). ByWords source (leading (list_words text)) l s) (sym (listed (Ok k) e))
            (subst (λ (zs : List ℤ). CheckStatus source zs s) (numbers k e) t);
      }

  pub sent_not : {source : List ℕ} (i : ℕ) → r ≡ Err (NoNumber i) → SentStatus source text nothing
  sent_not {source} i e = record { by_words = subst (λ (l : Result ℕ Unlisted). ByWords source (leading (list_words text)) l nothing) (sym (listed (Err (NoNumber i)) e)) refl }

  pub sent_full : {source : List ℕ} → r ≡ (Err Full) → SentStatus source text nothing
  sent_full {source} e = record { by_words = subst (λ (l : Result ℕ Unlisted). ByWords source (leading (list_words text)) l nothing) (sym (listed (Err Full) e)) refl }

-- the numbers that are taken are within the room
pub inside_room : {ws : List (List ℕ)} {list list' : List ℤ} {r : Result ℕ Unlisted} {k : ℕ} → Lists ws list r list' → r ≡ Ok k → k ≤ length list
inside_room {ws} {list} {k = k} h e = let a = all_listed (length list) ws k (sym h.said ∙ e) in omega (arith, a.many, a.fits)

-- ---- what the status 0 says

pub one_check_status : {source : List ℕ} {zs : List ℤ} {s s₂ : ℕ} → CheckStatus source zs s → CheckStatus source zs s₂ → s ≡ s₂
one_check_status a b = a.told ∙ ap of_checked (one_answer a.checks b.checks) ∙ sym b.told

good_yes : (c : Checked) → good ≡ of_checked c → c ≡ Yes
good_yes Yes h = refl
good_yes (Unchecked r) h = absurd (omega arith)
good_yes (WrongAt i) h = absurd (omega arith)

pub good_checked : {source : List ℕ} {zs : List ℤ} → CheckStatus source zs good → (a : Accepts source) × (zs ≡ map pos (uses_in three a))
good_checked {source} {zs} t = yes_exactly.0 (subst (λ (c : Checked). Checks source zs c) (good_yes t.checked t.told) t.checks)

pub good_sent : {source text : List ℕ} → SentStatus source text good → (a : Accepts source) × (map integer_of (list_words text) ≡ map word (uses_in three a))
good_sent {source} {text} t = go (listed_in 32768 (list_words text)) refl t.by_words
  where
    go : (l : Result ℕ Unlisted) → listed_in 32768 (list_words text) ≡ l → ByWords source (leading (list_words text)) l good
        → (a : Accepts source) × (map integer_of (list_words text) ≡ map word (uses_in three a))
    go (Ok n) e t =
        let w = all_listed 32768 (list_words text) n e in
        let c : CheckStatus source (leading (list_words text)) good = t in
        let g = good_checked c in
        (g.0, as_typed (list_words text) (uses_in three g.0) w.whole g.1)
    go (Err (NoNumber i)) e t = let h : good ≡ nothing = t in absurd (omega arith)
    go (Err Full) e t = let h : good ≡ nothing = t in absurd (omega arith)
