-- Laws of whole sources, which show that the definition of the scan is more than a loop written down: a blank put in or taken out outside
-- apostrophes and notes changes no symbol, only places; a note taken out likewise; what follows does not change the symbols before it, the
-- last one aside; a remark stops at 'end', 'else' and `;`.
use mathlib.Core.Path.{◌≡◌, refl, sym, ap, subst, ◌∙◌}
use mathlib.Core.Bool.{Bool, true, false, cond}
use mathlib.Core.List.{List, [], ◌∷◌, ◌++◌, map}
use mathlib.Core.Option.{Option, none, some}
use Prim.Native.Nat.{ℕ, zero, suc, pred, ◌+◌, ◌-◌, ◌≤◌, ◌<◌}
use native.Mathlib.Omega.{arith}
use lib.Dec.{eqb}
use lib.ListN.{length, get_or, drop, length-append, length-drop}
use borrow.Author.Tests.{ltb-true, lt-ltb, eqb-false}
use lib.Seq.{drop-drop, drop-append-le, drop-append-add}
use Rattle.answers.specs.Numbers.{no_symbol}
use Rattle.answers.specs.Answers.{answer, refusal}
use Rattle.answers.specs.declared.Refusal.{Refusal}
use Rattle.symbols.proofs.Laws.{judged_nothing}
use Rattle.symbols.proofs.Resume.{skip}
use Rattle.symbols.proofs.Within.{Fits}
use Rattle.symbols.proofs.Follows.{Bare, Spent, blanks, dot, Quiet, Tail, tail, tail_large, Grown, grows, grows_large, Alike, same, unclosed, grown, Joint, joint_same, joint_open, joint_grown, Calm, calm_point, lexeme_dot, point_joint, blank_no_digit, before_closed, closed_on, lexeme_alike}
use Rattle.symbols.specs.Text.{bytes}
use Rattle.symbols.specs.Names.{blank, letter, digit, these, equal, folded, same_name}
use Rattle.symbols.specs.Symbols.{is}
use Rattle.symbols.specs.Scan.{before, closed, spelled, named, word, with_point, point, lexeme, behind, ends_remark, note, counted, judged, turn, Found, Scan, kept, then, scan_from, scan}
use Rattle.symbols.specs.declared.Symbol.{Symbol}
use Rattle.symbols.specs.declared.Symbol.TheVariants.{Comment}
use Rattle.symbols.specs.declared.Context.{Context}
use Rattle.symbols.specs.declared.Context.TheVariants.{Opens, Plain, Remark}
use Rattle.symbols.specs.declared.Lexeme.{Lexeme}
use Rattle.symbols.specs.declared.Lexeme.TheVariants.{Is, Large, Nothing}
use Rattle.symbols.specs.declared.Turn.{Turn}
use Rattle.symbols.specs.declared.Turn.TheVariants.{Pass, Keep, Refuse}

-- ---- what a scan says, places aside

pub record What : Type 0 where
  pub symbols : List Symbol
  pub number : Option ℕ

abbrev pub number_in : Option Refusal → Option ℕ
number_in none = none
number_in (some r) = some r.answer.number

abbrev pub what : Scan → What
what r = record { symbols = map (λ f. f.symbol) r.found; number = number_in r.refused }

-- two turns that differ in their places say the same where what is said behind them is the same
what_then : (p q : ℕ) (t : Turn) (f g f' g' : Context → ℕ → Scan) → ((c : Context) (k : ℕ) → what (f c k) ≡ what (f' c k))
    → ((c : Context) (k : ℕ) → what (g c k) ≡ what (g' c k)) → what (then p t f g) ≡ what (then q t f' g')
what_then p q (Pass c k) f g f' g' h h' = h c k
what_then p q (Keep s c k) f g f' g' h h' = ap (λ (w : What). record { symbols = s ∷ w.symbols; number = w.number }) (h' c k)
what_then p q (Refuse a) f g f' g' h h' = refl

-- the symbols do not depend on where the bytes stand
pub placeless : (n : ℕ) (c : Context) (p q k : ℕ) (bs : List ℕ) → what (scan_from n c p k bs) ≡ what (scan_from n c q k bs)
unfolding scan_from
placeless n c p q k [] = refl
placeless n c p q (suc k) (b ∷ bs) = placeless n c (p + 1) (q + 1) k bs
placeless n c p q zero (b ∷ bs) =
    what_then p q (turn n c b bs) (λ c' k. scan_from n c' (p + 1) k bs) (λ c' k. scan_from (pred n) c' (p + 1) k bs) (λ c' k. scan_from n c' (q + 1) k bs) (λ c' k. scan_from (pred n) c' (q + 1) k bs)
    (λ c' k. placeless n c' (p + 1) (q + 1) k bs) (λ c' k. placeless (pred n) c' (p + 1) (q + 1) k bs)

-- ---- what is done at a byte, by what follows

-- behind it nothing is left of xs, and no note can open there
pub data Ends (xs : List ℕ) : Turn → Type 0 where
  ends_pass : {k : ℕ} → Spent (drop k xs) → Ends xs (Pass Remark k)
  ends_keep : {s : Symbol} {k : ℕ} → Spent (drop k xs) → Ends xs (Keep s Plain k)
  ends_refuse : {a : Rattle.answers.specs.declared.Answer.Answer} → Ends xs (Refuse a)

-- one byte further in the first
pub data Moved (m : ℕ) : Turn → Turn → Type 0 where
  moved_pass : {c : Context} (j : ℕ) → Moved m (Pass c (m + suc j)) (Pass c (m + j))
  moved_keep : {s : Symbol} {c : Context} (j : ℕ) → Moved m (Keep s c (m + suc j)) (Keep s c (m + j))
  moved_refuse : {a : Rattle.answers.specs.declared.Answer.Answer} → Moved m (Refuse a) (Refuse a)

abbrev pub Ending : Turn → ℕ → Type 0
Ending (Pass c k) n = k ≤ n
Ending (Keep s c k) n = k ≤ n
Ending (Refuse a) n = Unit {0}

-- at the byte x, with xs behind it: alone; where a blank and then more follows; where only more
pub data Turns (x : ℕ) (xs : List ℕ) : Turn → Turn → Turn → Type 0 where
  as_is : {t : Turn} → Ending t (length xs) → Turns x xs t t t
  failing : {t u : Turn} → eqb x 46 ≡ false → Turns x xs (Refuse (answer no_symbol)) t u
  pointing : {u v : Turn} → Moved (length xs) u v → Turns x xs (Refuse (answer no_symbol)) u v
  going : {t u v : Turn} → Ends xs t → Moved (length xs) u v → Turns x xs t u v

ending_counted : (n : ℕ) (s : Symbol) (k m : ℕ) → k ≤ m → Ending (counted n s k) m
unfolding counted
ending_counted zero s k m h = tt
ending_counted (suc n) s k m h = h

shut : (k : ℕ) (xs : List ℕ) → k ≤ length xs → closed 59 (drop k xs) ≡ true → k + (length (before 59 (drop k xs)) + 1) ≤ length xs
unfolding closed
shut k xs h e = let l = ltb-true (length (before 59 (drop k xs))) (length (drop k xs)) e in omega (arith, length-drop k xs)

-- a note closed within xs is the same whatever follows
note_turns : (x k : ℕ) (xs ys zs : List ℕ) → eqb x 46 ≡ false → k ≤ length xs → Turns x xs (note k xs) (note k (xs ++ ys)) (note k (xs ++ zs))
unfolding note
note_turns x k xs ys zs d h = go (closed 59 (drop k xs)) refl
  where
    go : (t : Bool) → closed 59 (drop k xs) ≡ t → Turns x xs (note k xs) (note k (xs ++ ys)) (note k (xs ++ zs))
    go false e = rw e (failing d)
    go true e =
        rw (drop-append-le k xs ys h, drop-append-le k xs zs h, closed_on 59 (drop k xs) ys e, closed_on 59 (drop k xs) zs e, before_closed 59 (drop k xs) ys e, before_closed 59 (drop k xs) zs e, e)
        (as_is (shut k xs h e))

pick : (u : Bool) (x : ℕ) (xs : List ℕ) (t v w t' v' w' : Turn) → Turns x xs t v w → Turns x xs t' v' w' → Turns x xs (cond u t t') (cond u v v') (cond u w w')
pick true x xs t v w t' v' w' h h' = h
pick false x xs t v w t' v' w' h h' = h'

counted_same : (x n : ℕ) (s : Symbol) (k : ℕ) (xs : List ℕ) → k ≤ length xs → Turns x xs (counted n s k) (counted n s k) (counted n s k)
counted_same x n s k xs h = as_is (ending_counted n s k (length xs) h)

-- ---- a symbol that counts where it ends xs, and where it goes on

ends_counted : (n : ℕ) (s : Symbol) (k : ℕ) (xs : List ℕ) → Quiet s → Spent (drop k xs) → Ends xs (counted n s k)
unfolding counted
ends_counted zero s k xs q r = ends_refuse
ends_counted (suc n) s k xs q r = rw q.after (ends_keep r)

moved_counted : (n : ℕ) (s : Symbol) (m j : ℕ) → Moved m (counted n s (m + suc j)) (counted n s (m + j))
unfolding counted
moved_counted zero s m j = moved_refuse
moved_counted (suc n) s m j = moved_keep j

ends_judged : (n : ℕ) (c : Context) (x : Lexeme) (xs : List ℕ) → Tail xs x → Ends xs (judged n c x xs)
unfolding judged
ends_judged n Opens (Is s k) xs (tail q h r) = rw q.no_note (ends_counted n s k xs q r)
ends_judged n Plain (Is s k) xs (tail q h r) = ends_counted n s k xs q r
ends_judged n Remark (Is s k) xs (tail q h r) = rw q.in_remark (ends_pass r)
ends_judged n Opens (Large k) xs (tail_large h r) = ends_refuse
ends_judged n Plain (Large k) xs (tail_large h r) = ends_refuse
ends_judged n Remark (Large k) xs (tail_large h r) = ends_pass r
ends_judged n Opens Nothing xs t = elim t [ ]
ends_judged n Plain Nothing xs t = elim t [ ]
ends_judged n Remark Nothing xs t = elim t [ ]

moved_judged : (n : ℕ) (c : Context) (m : ℕ) (x y : Lexeme) (us vs : List ℕ) → Grown m x y → Moved m (judged n c x us) (judged n c y vs)
unfolding judged
moved_judged n Opens m (Is s k) (Is s' k') us vs (grows j q) = rw q.no_note (moved_counted n s m j)
moved_judged n Plain m (Is s k) (Is s' k') us vs (grows j q) = moved_counted n s m j
moved_judged n Remark m (Is s k) (Is s' k') us vs (grows j q) = rw q.in_remark (moved_pass j)
moved_judged n Opens m (Large k) (Large k') us vs (grows_large j) = moved_refuse
moved_judged n Plain m (Large k) (Large k') us vs (grows_large j) = moved_refuse
moved_judged n Remark m (Large k) (Large k') us vs (grows_large j) = moved_pass j
moved_judged n Opens m (Is s k) (Large k') us vs g = elim g [ ]
moved_judged n Opens m (Is s k) Nothing us vs g = elim g [ ]
moved_judged n Opens m (Large k) (Is s' k') us vs g = elim g [ ]
moved_judged n Opens m (Large k) Nothing us vs g = elim g [ ]
moved_judged n Opens m Nothing y us vs g = elim g [ ]
moved_judged n Plain m (Is s k) (Large k') us vs g = elim g [ ]
moved_judged n Plain m (Is s k) Nothing us vs g = elim g [ ]
moved_judged n Plain m (Large k) (Is s' k') us vs g = elim g [ ]
moved_judged n Plain m (Large k) Nothing us vs g = elim g [ ]
moved_judged n Plain m Nothing y us vs g = elim g [ ]
moved_judged n Remark m (Is s k) (Large k') us vs g = elim g [ ]
moved_judged n Remark m (Is s k) Nothing us vs g = elim g [ ]
moved_judged n Remark m (Large k) (Is s' k') us vs g = elim g [ ]
moved_judged n Remark m (Large k) Nothing us vs g = elim g [ ]
moved_judged n Remark m Nothing y us vs g = elim g [ ]

same_judged : (x n : ℕ) (c : Context) (l : Lexeme) (xs ys zs : List ℕ) → eqb x 46 ≡ false → Fits l (length xs) → Turns x xs (judged n c l xs) (judged n c l (xs ++ ys)) (judged n c l (xs ++ zs))
unfolding judged
same_judged x n Opens (Is s k) xs ys zs d h = pick (is s Comment) x xs _ _ _ _ _ _ (note_turns x k xs ys zs d h) (counted_same x n s k xs h)
same_judged x n Plain (Is s k) xs ys zs d h = counted_same x n s k xs h
same_judged x n Remark (Is s k) xs ys zs d h = pick (ends_remark s) x xs _ _ _ _ _ _ (counted_same x n s k xs h) (as_is h)
same_judged x n Opens (Large k) xs ys zs d h = as_is tt
same_judged x n Plain (Large k) xs ys zs d h = as_is tt
same_judged x n Remark (Large k) xs ys zs d h = as_is h
same_judged x n Opens Nothing xs ys zs d h = as_is tt
same_judged x n Plain Nothing xs ys zs d h = as_is tt
same_judged x n Remark Nothing xs ys zs d h = as_is tt

judged_turns : (x n : ℕ) (c : Context) (xs ys zs : List ℕ) (l y z : Lexeme) → eqb x 46 ≡ false → Alike xs l y z → Turns x xs (judged n c l xs) (judged n c y (xs ++ ys)) (judged n c z (xs ++ zs))
judged_turns x n c xs ys zs l y z d (same h) = same_judged x n c l xs ys zs d h
judged_turns x n c xs ys zs l y z d unclosed = rw (judged_nothing n c xs) (failing d)
judged_turns x n c xs ys zs l y z d (grown t g) = going (ends_judged n c l xs t) (moved_judged n c (length xs) y z (xs ++ ys) (xs ++ zs) g)

-- what begins with a point opens no note
calm_judged : (x n : ℕ) (c : Context) (l : Lexeme) (xs ys zs : List ℕ) → Calm l → Fits l (length xs) → Turns x xs (judged n c l xs) (judged n c l (xs ++ ys)) (judged n c l (xs ++ zs))
unfolding judged
calm_judged x n Opens (Is s k) xs ys zs d h = rw d (counted_same x n s k xs h)
calm_judged x n Plain (Is s k) xs ys zs d h = counted_same x n s k xs h
calm_judged x n Remark (Is s k) xs ys zs d h = pick (ends_remark s) x xs _ _ _ _ _ _ (counted_same x n s k xs h) (as_is h)
calm_judged x n Opens (Large k) xs ys zs d h = as_is tt
calm_judged x n Plain (Large k) xs ys zs d h = as_is tt
calm_judged x n Remark (Large k) xs ys zs d h = as_is h
calm_judged x n Opens Nothing xs ys zs d h = as_is tt
calm_judged x n Plain Nothing xs ys zs d h = as_is tt
calm_judged x n Remark Nothing xs ys zs d h = as_is tt

joint_turns : (x n : ℕ) (c : Context) (xs ys zs : List ℕ) (l y z : Lexeme) → Calm l → Joint xs l y z → Turns x xs (judged n c l xs) (judged n c y (xs ++ ys)) (judged n c z (xs ++ zs))
joint_turns x n c xs ys zs l y z d (joint_same h) = calm_judged x n c l xs ys zs d h
joint_turns x n c xs ys zs l y z d (joint_open g) = rw (judged_nothing n c xs) (pointing (moved_judged n c (length xs) y z (xs ++ ys) (xs ++ zs) g))
joint_turns x n c xs ys zs l y z d (joint_grown t g) = going (ends_judged n c l xs t) (moved_judged n c (length xs) y z (xs ++ ys) (xs ++ zs) g)

pub turns : (n : ℕ) (c : Context) (b : ℕ) → blank b ≡ true → (x : ℕ) (xs ys : List ℕ) → Turns x xs (turn n c x xs) (turn n c x (xs ++ (b ∷ ys))) (turn n c x (xs ++ ys))
unfolding turn
turns n c b e x xs ys = pick (blank x) x xs _ _ _ _ _ _ (as_is {t = Pass c 0} (omega arith)) (go (eqb x 46) refl)
  where
    go : (t : Bool) → eqb x 46 ≡ t → Turns x xs (judged n c (lexeme x xs) xs) (judged n c (lexeme x (xs ++ (b ∷ ys))) (xs ++ (b ∷ ys))) (judged n c (lexeme x (xs ++ ys)) (xs ++ ys))
    go true d =
        rw (lexeme_dot x xs d, lexeme_dot x (xs ++ (b ∷ ys)) d, lexeme_dot x (xs ++ ys) d)
        (joint_turns x n c xs (b ∷ ys) ys (point xs) (point (xs ++ (b ∷ ys))) (point (xs ++ ys)) (calm_point xs) (point_joint b e xs ys))
    go false d = judged_turns x n c xs (b ∷ ys) ys (lexeme x xs) (lexeme x (xs ++ (b ∷ ys))) (lexeme x (xs ++ ys)) d (lexeme_alike b e x xs ys)

-- ---- a blank

-- what is refused with 3 is a point, if anything is: its byte in S
abbrev Open : List ℕ → Scan → Type 0
Open S r = (q : Refusal) → r.refused ≡ some q → q.answer.number ≡ no_symbol → get_or S q.place.at 0 ≡ 46

-- xs ends outside apostrophes and notes: by itself it has no open apostrophe, and no note without `;`. It may end in a number, next behind the
-- point too
abbrev pub Outside : ℕ → List ℕ → Type 0
Outside n xs = Open xs (scan n xs)

byte_at : (S : List ℕ) (p b : ℕ) (bs : List ℕ) → drop p S ≡ b ∷ bs → get_or S p 0 ≡ b
byte_at [] zero b bs d = let z : ◌≡◌ {A = ℕ} 0 1 = cc in absurd (omega arith)
byte_at [] (suc p) b bs d = let z : ◌≡◌ {A = ℕ} 0 1 = cc in absurd (omega arith)
byte_at (x ∷ S) zero b bs d = cc
byte_at (x ∷ S) (suc p) b bs d = byte_at S p b bs d

module _ (b : ℕ) (e : blank b ≡ true) (ys S : List ℕ) where
  -- behind all of xs the two are alike
  beyond : (n : ℕ) (c : Context) (p q j : ℕ) (xs : List ℕ)
      → what (scan_from n c p (length xs + suc j) (xs ++ (b ∷ ys))) ≡ what (scan_from n c q (length xs + j) (xs ++ ys))
  beyond n c p q j xs =
      rw (skip n c p (length xs + suc j) (xs ++ (b ∷ ys)), skip n c q (length xs + j) (xs ++ ys), drop-append-add xs (b ∷ ys) (suc j), drop-append-add xs ys j)
      (placeless n c (p + (length xs + suc j)) (q + (length xs + j)) 0 (drop j ys))

  abbrev Same : List ℕ → Type 0
  Same xs = (n : ℕ) (c : Context) (p q k : ℕ) → k ≤ length xs → drop p S ≡ xs → Open S (scan_from n c p k xs)
      → what (scan_from n c p k (xs ++ (b ∷ ys))) ≡ what (scan_from n c q k (xs ++ ys))

  after : (m p q : ℕ) (u v : Turn) (xs : List ℕ) → Moved (length xs) u v
      → what (then p u (λ c k. scan_from m c (p + 1) k (xs ++ (b ∷ ys))) (λ c k. scan_from (pred m) c (p + 1) k (xs ++ (b ∷ ys))))
      ≡ what (then q v (λ c k. scan_from m c (q + 1) k (xs ++ ys)) (λ c k. scan_from (pred m) c (q + 1) k (xs ++ ys)))
  after m p q u v xs h = go xs u v h
    where
      go : (xs : List ℕ) (u v : Turn) → Moved (length xs) u v
          → what (then p u (λ c k. scan_from m c (p + 1) k (xs ++ (b ∷ ys))) (λ c k. scan_from (pred m) c (p + 1) k (xs ++ (b ∷ ys))))
          ≡ what (then q v (λ c k. scan_from m c (q + 1) k (xs ++ ys)) (λ c k. scan_from (pred m) c (q + 1) k (xs ++ ys)))
      go xs u v (moved_pass {c = c} j) = beyond m c (p + 1) (q + 1) j xs
      go xs u v (moved_keep {s = s} {c = c} j) =
          ap (λ (w : What). record { symbols = s ∷ w.symbols; number = w.number }) (beyond (pred m) c (p + 1) (q + 1) j xs)
      go xs u v moved_refuse = refl

  at_turn : (x : ℕ) (xs : List ℕ) → Same xs → (n p q : ℕ) → drop p S ≡ x ∷ xs → (t u v : Turn) → Turns x xs t u v
      → Open S (then p t (λ c k. scan_from n c (p + 1) k xs) (λ c k. scan_from (pred n) c (p + 1) k xs))
      → what (then p u (λ c k. scan_from n c (p + 1) k (xs ++ (b ∷ ys))) (λ c k. scan_from (pred n) c (p + 1) k (xs ++ (b ∷ ys))))
      ≡ what (then q v (λ c k. scan_from n c (q + 1) k (xs ++ ys)) (λ c k. scan_from (pred n) c (q + 1) k (xs ++ ys)))
  at_turn x xs rec n p q d (Pass c k) u v (as_is h) out = rec n c (p + 1) (q + 1) k h (sym (drop-drop 1 p S) ∙ ap (drop 1) d) out
  at_turn x xs rec n p q d (Keep s c k) u v (as_is h) out =
      ap (λ (w : What). record { symbols = s ∷ w.symbols; number = w.number }) (rec (pred n) c (p + 1) (q + 1) k h (sym (drop-drop 1 p S) ∙ ap (drop 1) d) out)
  at_turn x xs rec n p q d (Refuse a) u v (as_is h) out = refl
  at_turn x xs rec n p q d t u v (failing z) out = absurd (eqb-false x 46 z (sym (byte_at S p x xs d) ∙ out (refusal no_symbol p) refl refl))
  at_turn x xs rec n p q d t u v (pointing m) out = after n p q u v xs m
  at_turn x xs rec n p q d t u v (going y m) out = after n p q u v xs m

  everywhere : (xs : List ℕ) → Same xs
  unfolding scan_from turn
  everywhere [] n c p q zero h d out = rw e (placeless n c (p + 1) q 0 ys)
  everywhere [] n c p q (suc k) h d out = absurd (omega arith)
  everywhere (x ∷ xs) n c p q (suc k) h d out = everywhere xs n c (p + 1) (q + 1) k (omega arith) (sym (drop-drop 1 p S) ∙ ap (drop 1) d) out
  everywhere (x ∷ xs) n c p q zero h d out =
      at_turn x xs (everywhere xs) n p q d (turn n c x xs) (turn n c x (xs ++ (b ∷ ys))) (turn n c x (xs ++ ys)) (turns n c b e x xs ys) out

-- a blank put in, or taken out, outside apostrophes and notes changes no symbol and no refusal's number
pub blank_between : (n b : ℕ) → blank b ≡ true → (xs ys : List ℕ) → Outside n xs → what (scan n (xs ++ (b ∷ ys))) ≡ what (scan n (xs ++ ys))
unfolding scan
blank_between n b e xs ys out = everywhere b e ys xs xs n Plain 0 0 0 (omega arith) refl out

-- ---- what follows

blank_space : blank 32 ≡ true
unfolding blank
blank_space = refl

-- all but the last
pub front : {A : Type 0} → List A → List A
front [] = []
front (x ∷ []) = []
front (x ∷ y ∷ l) = x ∷ front (y ∷ l)

abbrev pub FoundFirst : List Found → List Found → Type 0
FoundFirst l m = (r : List Found) × (m ≡ l ++ r)

front_more : (f : Found) (l m : List Found) → FoundFirst (front l) m → FoundFirst (front (f ∷ l)) (f ∷ m)
unfolding front
front_more f [] m h = (f ∷ m, refl)
front_more f (y ∷ l) m h = (h.0, ap (λ (x : List Found). f ∷ x) h.1)

-- blanks alone have no symbol, nor has a point behind which they stand
bare_none : (n : ℕ) (c : Context) (p : ℕ) (xs : List ℕ) → Bare xs → (scan_from n c p 0 xs).found ≡ []
unfolding scan_from turn
bare_none n c p [] h = refl
bare_none n c p (x ∷ xs) h = rw h.0 (bare_none n c (p + 1) xs h.1)

bare_these : (cs : List ℕ) → Bare cs → these digit cs ≡ []
unfolding these
bare_these [] h = refl
bare_these (c ∷ cs) h = rw (blank_no_digit c h.0, h.0) (bare_these cs h.1)

dot_none : (n : ℕ) (c : Context) (p : ℕ) (cs : List ℕ) → Bare cs → (scan_from n c p 0 (46 ∷ cs)).found ≡ []
unfolding scan_from turn blank lexeme letter digit point with_point
dot_none n c p cs h = rw (bare_these cs h, judged_nothing n c cs)

spent_none : (n : ℕ) (c : Context) (p k : ℕ) (xs : List ℕ) → Spent (drop k xs) → (scan_from n c p k xs).found ≡ []
spent_none n c p k xs (blanks h) = ap (λ (r : Scan). r.found) (skip n c p k xs) ∙ bare_none n c (p + k) (drop k xs) h
spent_none n c p k xs (dot cs e h) = ap (λ (r : Scan). r.found) (skip n c p k xs ∙ ap (scan_from n c (p + k) 0) e) ∙ dot_none n c (p + k) cs h

none_begins : (l m : List Found) → l ≡ [] → FoundFirst (front l) m
unfolding front
none_begins l m e = rw e (m, refl)

one_begins : (f : Found) (l m : List Found) → l ≡ [] → FoundFirst (front (f ∷ l)) m
unfolding front
one_begins f l m e = rw e (m, refl)

module _ (ys : List ℕ) where
  abbrev Same' : List ℕ → Type 0
  Same' xs = (n : ℕ) (c : Context) (p k : ℕ) → k ≤ length xs → FoundFirst (front (scan_from n c p k xs).found) (scan_from n c p k (xs ++ ys)).found

  begins_turn : (x : ℕ) (xs : List ℕ) → Same' xs → (n p : ℕ) (t u v : Turn) → Turns x xs t u v
      → FoundFirst (front (then p t (λ c k. scan_from n c (p + 1) k xs) (λ c k. scan_from (pred n) c (p + 1) k xs)).found)
      (then p v (λ c k. scan_from n c (p + 1) k (xs ++ ys)) (λ c k. scan_from (pred n) c (p + 1) k (xs ++ ys))).found
  unfolding front
  begins_turn x xs rec n p (Pass c k) u v (as_is h) = rec n c (p + 1) k h
  begins_turn x xs rec n p (Keep s c k) u v (as_is h) = front_more (record { symbol = s; place = p }) (scan_from (pred n) c (p + 1) k xs).found (scan_from (pred n) c (p + 1) k (xs ++ ys)).found (rec (pred n) c (p + 1) k h)
  begins_turn x xs rec n p (Refuse a) u v (as_is h) = ([], refl)
  begins_turn x xs rec n p t u v (failing z) = (_, refl)
  begins_turn x xs rec n p t u v (pointing m) = (_, refl)
  begins_turn x xs rec n p t u v (going (ends_pass {k = k} r) m) = none_begins (scan_from n Remark (p + 1) k xs).found _ (spent_none n Remark (p + 1) k xs r)
  begins_turn x xs rec n p t u v (going (ends_keep {s = s} {k = k} r) m) = one_begins (record { symbol = s; place = p }) (scan_from (pred n) Plain (p + 1) k xs).found _ (spent_none (pred n) Plain (p + 1) k xs r)
  begins_turn x xs rec n p t u v (going ends_refuse m) = (_, refl)

  begins : (xs : List ℕ) → Same' xs
  unfolding scan_from front
  begins [] n c p k h = (_, refl)
  begins (x ∷ xs) n c p (suc k) h = begins xs n c (p + 1) k (omega arith)
  begins (x ∷ xs) n c p zero h = begins_turn x xs (begins xs) n p (turn n c x xs) _ (turn n c x (xs ++ ys)) (turns n c 32 blank_space x xs ys)

-- what follows does not change the symbols before it, nor their places, the last one aside
pub what_follows : (n : ℕ) (xs ys : List ℕ) → FoundFirst (front (scan n xs).found) (scan n (xs ++ ys)).found
unfolding scan
what_follows n xs ys = begins ys xs n Plain 0 0 (omega arith)

-- ---- a note

-- the context at the end of what was found: where nothing was, the one before
abbrev pub end_context : Context → List Found → Context
end_context c [] = c
end_context c (f ∷ l) = end_context (behind f.symbol) l

-- passing keeps the context, and a symbol has its own behind it
abbrev pub Kin : Context → Turn → Type 0
Kin c (Pass d k) = d ≡ c
Kin c (Keep s d k) = d ≡ behind s
Kin c (Refuse a) = Unit {0}

kin_pick : (u : Bool) (c : Context) (t v : Turn) → Kin c t → Kin c v → Kin c (cond u t v)
kin_pick true c t v h h' = h
kin_pick false c t v h h' = h'

kin_counted : (n : ℕ) (c : Context) (s : Symbol) (k : ℕ) → Kin c (counted n s k)
unfolding counted
kin_counted zero c s k = tt
kin_counted (suc n) c s k = refl

kin_judged : (n : ℕ) (c : Context) (x : Lexeme) (bs : List ℕ) → Kin c (judged n c x bs)
unfolding judged note
kin_judged n Opens (Is s k) bs =
    kin_pick (is s Comment) Opens (note k bs) (counted n s k)
    (kin_pick (closed 59 (drop k bs)) Opens (Pass Opens (k + (length (before 59 (drop k bs)) + 1))) (Refuse (answer no_symbol)) refl tt)
    (kin_counted n Opens s k)
kin_judged n Plain (Is s k) bs = kin_counted n Plain s k
kin_judged n Remark (Is s k) bs = kin_pick (ends_remark s) Remark (counted n s k) (Pass Remark k) (kin_counted n Remark s k) refl
kin_judged n Opens (Large k) bs = tt
kin_judged n Plain (Large k) bs = tt
kin_judged n Remark (Large k) bs = refl
kin_judged n Opens Nothing bs = tt
kin_judged n Plain Nothing bs = tt
kin_judged n Remark Nothing bs = tt

pub kin : (n : ℕ) (c : Context) (x : ℕ) (bs : List ℕ) → Kin c (turn n c x bs)
unfolding turn
kin n c x bs = kin_pick (blank x) c (Pass c 0) (judged n c (lexeme x bs) bs) refl (kin_judged n c (lexeme x bs) bs)

not_opens : (c : Context) → c ≡ Opens → (c ≡ Plain → ⊥) × (c ≡ Remark → ⊥)
not_opens c e = (λ f. clash (cc), λ f. clash (cc))
  where
    clash : ◌≡◌ {A = ℕ} 0 1 → ⊥
    clash z = omega arith

-- what was found, and what is found behind it
abbrev both_found : List Found → Scan → Scan
both_found f r = record { found = f ++ r.found; refused = r.refused }

some_none : (r : Refusal) → some r ≡ none → ⊥
some_none r e = let z : ◌≡◌ {A = ℕ} 0 1 = cc in omega arith

module _ (zs : List ℕ) where
  -- where xs ends as a note can open, the scan of xs and what follows is that of xs and then that of what follows
  abbrev Cut : List ℕ → Type 0
  Cut xs = (n : ℕ) (c : Context) (p k : ℕ) → k ≤ length xs → (scan_from n c p k xs).refused ≡ none → end_context c (scan_from n c p k xs).found ≡ Opens
      → scan_from n c p k (xs ++ zs) ≡ both_found (scan_from n c p k xs).found (scan_from (n - length (scan_from n c p k xs).found) Opens (p + length xs) 0 zs)

  cut_turn : (x : ℕ) (xs : List ℕ) → Cut xs → (n : ℕ) (c : Context) (p : ℕ) (t u v : Turn) → Turns x xs t u v → Kin c t
      → (r : Scan) → r ≡ then p t (λ c k. scan_from n c (p + 1) k xs) (λ c k. scan_from (pred n) c (p + 1) k xs)
      → r.refused ≡ none → end_context c r.found ≡ Opens
      → then p v (λ c k. scan_from n c (p + 1) k (xs ++ zs)) (λ c k. scan_from (pred n) c (p + 1) k (xs ++ zs))
      ≡ both_found r.found (scan_from (n - length r.found) Opens (p + suc (length xs)) 0 zs)
  cut_turn x xs rec n c p (Pass d k) u v (as_is h) i r e w o =
      let m : p + 1 + length xs ≡ p + suc (length xs) = omega arith in
      rw (e, i, ← m) (rec n c (p + 1) k h (rw (← i) (ap (λ (x : Scan). x.refused) (sym e) ∙ w)) (subst (λ (l : Scan). end_context c l.found ≡ Opens) (e ∙ ap (λ (y : Context). scan_from n y (p + 1) k xs) i) o))
  cut_turn x xs rec n c p (Keep s d k) u v (as_is h) i r e w o =
      let R = scan_from (pred n) d (p + 1) k xs in
      let m : p + 1 + length xs ≡ p + suc (length xs) = omega arith in
      let j : n - suc (length R.found) ≡ pred n - length R.found = omega arith in
      let w' : R.refused ≡ none = ap (λ (x : Scan). x.refused) (sym e) ∙ w in
      let o' : end_context (behind s) R.found ≡ Opens = subst (λ (x : Scan). end_context c x.found ≡ Opens) e o in
      rw (e, j, ← m) (ap (kept s p) (rec (pred n) d (p + 1) k h w' (subst (λ (y : Context). end_context y R.found ≡ Opens) (sym i) o')))
  cut_turn x xs rec n c p (Refuse a) u v (as_is h) i r e w o = absurd (some_none _ (ap (λ (x : Scan). x.refused) (sym e) ∙ w))
  cut_turn x xs rec n c p t u v (failing z) i r e w o = absurd (some_none _ (ap (λ (x : Scan). x.refused) (sym e) ∙ w))
  cut_turn x xs rec n c p t u v (pointing m) i r e w o = absurd (some_none _ (ap (λ (x : Scan). x.refused) (sym e) ∙ w))
  cut_turn x xs rec n c p t u v (going (ends_pass {k = k} b) m) i r e w o =
      let f = ap (λ (x : Scan). x.found) e ∙ spent_none n Remark (p + 1) k xs b in
      absurd ((not_opens c (subst (λ (l : List Found). end_context c l ≡ Opens) f o)).1 (sym i))
  cut_turn x xs rec n c p t u v (going (ends_keep {s = s} {k = k} b) m) i r e w o =
      let f = ap (λ (x : Scan). x.found) e ∙ ap (λ (l : List Found). record { symbol = s; place = p } ∷ l) (spent_none (pred n) Plain (p + 1) k xs b) in
      absurd ((not_opens (behind s) (subst (λ (l : List Found). end_context c l ≡ Opens) f o)).0 (sym i))
  cut_turn x xs rec n c p t u v (going ends_refuse m) i r e w o = absurd (some_none _ (ap (λ (x : Scan). x.refused) (sym e) ∙ w))

  cut : (xs : List ℕ) → Cut xs
  unfolding scan_from
  cut [] n c p zero h w o =
      let m : n - 0 ≡ n = omega arith in
      let j : p + 0 ≡ p = omega arith in
      rw (m, j, o)
  cut [] n c p (suc k) h w o = absurd (omega arith)
  cut (x ∷ xs) n c p (suc k) h w o =
      let m : p + 1 + length xs ≡ p + suc (length xs) = omega arith in
      rw (← m) (cut xs n c (p + 1) k (omega arith) w o)
  cut (x ∷ xs) n c p zero h w o =
      cut_turn x xs (cut xs) n c p (turn n c x xs) (turn n c x (xs ++ (32 ∷ zs))) (turn n c x (xs ++ zs)) (turns n c 32 blank_space x xs zs) (kin n c x xs) (scan_from n c p 0 (x ∷ xs)) refl w o

-- 'comment', the bytes t, `;`
abbrev pub noted : List ℕ → List ℕ → List ℕ
noted t ys = bytes "'comment'" ++ (t ++ (59 ∷ ys))

-- no `;` among them
abbrev pub Free : List ℕ → Type 0
Free [] = Unit {0}
Free (x ∷ t) = (eqb x 59 ≡ false) × Free t

before_free : (t ys : List ℕ) → Free t → before 59 (t ++ (59 ∷ ys)) ≡ t
unfolding before
before_free [] ys h = refl
before_free (x ∷ t) ys h = rw h.0 (ap (λ (l : List ℕ). x ∷ l) (before_free t ys h.1))

comment_word : (rest : List ℕ) → word (bytes "comment'" ++ rest) ≡ Is Comment 8
unfolding word closed before named spelled same_name equal folded
comment_word rest =
    let h : 7 < length (bytes "comment'" ++ rest) = omega arith in
    rw (lt-ltb 7 (length (bytes "comment'" ++ rest)) h)

note_turn : (n : ℕ) (t ys : List ℕ) → Free t → turn n Opens 39 (bytes "comment'" ++ (t ++ (59 ∷ ys))) ≡ Pass Opens (8 + (length t + 1))
unfolding turn blank lexeme letter digit judged note closed
note_turn n t ys h =
    let l : length t < length (t ++ (59 ∷ ys)) = omega (arith, length-append t (59 ∷ ys)) in
    rw (comment_word (t ++ (59 ∷ ys)), before_free t ys h, lt-ltb (length t) (length (t ++ (59 ∷ ys))) l)

at_pass : (n : ℕ) (c d : Context) (p b k : ℕ) (bs : List ℕ) → turn n c b bs ≡ Pass d k → scan_from n c p 0 (b ∷ bs) ≡ scan_from n d (p + 1) k bs
unfolding scan_from
at_pass n c d p b k bs e = ap (λ (t : Turn). then p t (λ c' j. scan_from n c' (p + 1) j bs) (λ c' j. scan_from (pred n) c' (p + 1) j bs)) e

-- where a note can open it is passed over whole
note_passed : (n p : ℕ) (t ys : List ℕ) → Free t → scan_from n Opens p 0 (noted t ys) ≡ scan_from n Opens (p + 1 + (8 + (length t + 1))) 0 ys
note_passed n p t ys h =
    let bs = bytes "comment'" ++ (t ++ (59 ∷ ys)) in
    let k = 8 + (length t + 1) in
    at_pass n Opens Opens p 39 k bs (note_turn n t ys h)
    ∙ skip n Opens (p + 1) k bs
    ∙ ap (scan_from n Opens (p + 1 + k) 0) (drop-append-add (bytes "comment'") (t ++ (59 ∷ ys)) (length t + 1) ∙ drop-append-add t (59 ∷ ys) 1)

map_both : {A B : Type 0} (f : A → B) (l m : List A) → map f (l ++ m) ≡ map f l ++ map f m
map_both f [] m = refl
map_both {B = B} f (x ∷ l) m = ap (λ (r : List B). f x ∷ r) (map_both f l m)

what_both : (f : List Found) (r r' : Scan) → what r ≡ what r' → what (both_found f r) ≡ what (both_found f r')
what_both f r r' e =
    rw (map_both (λ x. x.symbol) f r.found, map_both (λ x. x.symbol) f r'.found)
    (ap (λ (w : What). record { symbols = map (λ x. x.symbol) f ++ w.symbols; number = w.number }) e)

-- a note put in, or taken out, where one can open changes no symbol: xs ends next after `;`, 'begin' or another note, and t has no `;`
pub note_between : (n : ℕ) (xs t ys : List ℕ) → (scan n xs).refused ≡ none → end_context Plain (scan n xs).found ≡ Opens → Free t
    → what (scan n (xs ++ noted t ys)) ≡ what (scan n (xs ++ ys))
unfolding scan
note_between n xs t ys w o h =
    let F = (scan_from n Plain 0 0 xs).found in
    let m = n - length F in
    rw (cut (noted t ys) xs n Plain 0 0 (omega arith) w o, cut ys xs n Plain 0 0 (omega arith) w o)
    (what_both F (scan_from m Opens (0 + length xs) 0 (noted t ys)) (scan_from m Opens (0 + length xs) 0 ys)
    (ap what (note_passed m (0 + length xs) t ys h) ∙ placeless m Opens (0 + length xs + 1 + (8 + (length t + 1))) (0 + length xs) 0 ys))

-- ---- a remark

-- 'end', 'else' and `;` end it and count; any other symbol is passed over
pub remark_stops : (n p x : ℕ) (bs : List ℕ) (s : Symbol) (k : ℕ) → blank x ≡ false → lexeme x bs ≡ Is s k → ends_remark s ≡ true
    → scan_from (suc n) Remark p 0 (x ∷ bs) ≡ kept s p (scan_from n (behind s) (p + 1) k bs)
unfolding scan_from turn judged counted
remark_stops n p x bs s k e l h = rw (e, l, h)

pub remark_runs : (n p x : ℕ) (bs : List ℕ) (s : Symbol) (k : ℕ) → blank x ≡ false → lexeme x bs ≡ Is s k → ends_remark s ≡ false
    → scan_from n Remark p 0 (x ∷ bs) ≡ scan_from n Remark (p + 1) k bs
unfolding scan_from turn judged
remark_runs n p x bs s k e l h = rw (e, l, h)
