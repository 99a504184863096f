-- The scan of what is left of a source, by what stands at the cursor: a step is taken and the scan goes on behind it.
use mathlib.Core.Path.{◌≡◌, refl, ap, ◌∙◌}
use mathlib.Core.Bool.{Bool, true, false, cond}
use mathlib.Core.List.{List, [], ◌∷◌, ◌++◌, map, append_assoc}
use mathlib.Core.Option.{some}
use Prim.Native.Nat.{ℕ, zero, suc, pred, ◌+◌, ◌≤◌, ◌<◌}
use native.Mathlib.Omega.{arith}
use native.Mathlib.Nat.{not-suc-le-zero, le_of_suc-le-suc}
use lib.Dec.{ltb}
use lib.ListN.{length, get_or, drop, set, length-drop, drop_of_length-le}
use lib.Seq.{drop-drop}
use borrow.Author.Tests.{ltb-true, ltb-false}
use Rattle.symbols.proofs.Laws.{peel, turn_here}
use Rattle.symbols.proofs.Within.{Stays, stays}
use Rattle.symbols.specs.Scan.{turn, Found, Scan, whole, kept, then, scan_from}
use Rattle.symbols.specs.model.Steps.{turn_at, step_of, step_at, over}
use Rattle.symbols.specs.declared.Context.{Context}
use Rattle.symbols.specs.declared.Turn.{Turn}
use Rattle.symbols.specs.declared.Turn.TheVariants.{Pass, Keep, Refuse}
use Rattle.symbols.specs.declared.Cursor.{Cursor}
use Rattle.symbols.specs.declared.Step.{Step}
use Rattle.symbols.specs.declared.Step.TheVariants.{Read, Passed, Refused, End}

-- bytes passed over at once
pub skip : (n : ℕ) (c : Context) (p k : ℕ) (bs : List ℕ) → scan_from n c p k bs ≡ scan_from n c (p + k) 0 (drop k bs)
unfolding scan_from
skip n c p zero bs = let e : p + 0 ≡ p = omega arith in rw e
skip n c p (suc k) [] = refl
skip n c p (suc k) (b ∷ bs) = let e : p + 1 + k ≡ p + suc k = omega arith in rw (← e) (skip n c (p + 1) k bs)

-- the scan from a cursor on
abbrev pub from : ℕ → List ℕ → Cursor → Scan
from n s c = scan_from n c.context c.at 0 (drop c.at s)

-- what a step at the place p says of the scan
abbrev pub said : ℕ → List ℕ → ℕ → Step → Scan
said n s p (Read x c) = kept x p (from (pred n) s c)
said n s p (Passed c) = from n s c
said n s p (Refused r) = record { found = []; refused = some r }
said n s p End = whole

turned : (n : ℕ) (s : List ℕ) (p : ℕ) (t : Turn)
    → then p t (λ c k. scan_from n c (p + 1) k (drop (p + 1) s)) (λ c k. scan_from (pred n) c (p + 1) k (drop (p + 1) s)) ≡ said n s p (step_of p t)
unfolding step_of
turned n s p (Pass c k) = skip n c (p + 1) k (drop (p + 1) s) ∙ ap (scan_from n c (p + 1 + k) 0) (drop-drop k (p + 1) s)
turned n s p (Keep x c k) = ap (kept x p) (skip (pred n) c (p + 1) k (drop (p + 1) s) ∙ ap (scan_from (pred n) c (p + 1 + k) 0) (drop-drop k (p + 1) s))
turned n s p (Refuse a) = refl

pub resume : (n : ℕ) (s : List ℕ) (c : Cursor) → from n s c ≡ said n s c.at (step_at n s c)
unfolding scan_from step_at
resume n s c = go (ltb c.at (length s)) refl
  where
    go : (t : Bool) → ltb c.at (length s) ≡ t → from n s c ≡ said n s c.at (cond t (step_of c.at (turn_at n c.context s c.at)) End)
    go true e =
        let h = ltb-true c.at (length s) e in
        rw (peel s c.at h, turn_here n c.context s c.at h) (turned n s c.at (turn n c.context (get_or s c.at 0) (drop (c.at + 1) s)))
    go false e = rw (drop_of_length-le s (ltb-false c.at (length s) e))

-- a step goes on in the source, and what is read has room
abbrev pub Onward : ℕ → List ℕ → ℕ → Step → Type 0
Onward n s p (Read x c) = (p < c.at) × (c.at ≤ length s) × (0 < n)
Onward n s p (Passed c) = (p < c.at) × (c.at ≤ length s)
Onward n s p (Refused r) = Unit {0}
Onward n s p End = Unit {0}

moved : (n : ℕ) (s : List ℕ) (p : ℕ) (t : Turn) → p < length s → Stays n (length (drop (p + 1) s)) t → Onward n s p (step_of p t)
unfolding step_of
moved n s p (Pass c k) h y = (omega arith, omega (arith, length-drop (p + 1) s))
moved n s p (Keep x c k) h y = (omega arith, omega (arith, length-drop (p + 1) s, y.0), y.1)
moved n s p (Refuse a) h y = tt

pub onward : (n : ℕ) (s : List ℕ) (c : Cursor) → Onward n s c.at (step_at n s c)
unfolding step_at
onward n s c = go (ltb c.at (length s)) refl
  where
    go : (t : Bool) → ltb c.at (length s) ≡ t → Onward n s c.at (cond t (step_of c.at (turn_at n c.context s c.at)) End)
    go true e =
        let h = ltb-true c.at (length s) e in
        rw (turn_here n c.context s c.at h)
        (moved n s c.at (turn n c.context (get_or s c.at 0) (drop (c.at + 1) s)) h (stays n c.context (get_or s c.at 0) (drop (c.at + 1) s)))
    go false e = tt

-- ---- what was found so far, and what is found from here on

abbrev pub joined : List Found → Scan → Scan
joined f r = record { found = f ++ r.found; refused = r.refused }

pub one_more : (f : List Found) (x : Found) (r : Scan) → joined f (record { found = x ∷ r.found; refused = r.refused }) ≡ joined (f ++ (x ∷ [])) r
one_more f x r = rw append_assoc

-- ---- a list written over another from the front

pub over_more : {A : Type 0} (new old : List A) (v : A) → length new < length old → set (over new old) (length new) v ≡ over (new ++ (v ∷ [])) old
over_more [] [] v h = absurd (not-suc-le-zero h)
over_more [] (o ∷ old) v h = refl
over_more (x ∷ new) [] v h = absurd (not-suc-le-zero h)
over_more {A} (x ∷ new) (o ∷ old) v h = ap (λ (l : List A). x ∷ l) (over_more new old v (le_of_suc-le-suc h))

pub over_length : {A : Type 0} (new old : List A) → length new ≤ length old → length (over new old) ≡ length old
over_length [] old h = refl
over_length (x ∷ new) [] h = absurd (not-suc-le-zero h)
over_length (x ∷ new) (o ∷ old) h = ap suc (over_length new old (le_of_suc-le-suc h))

pub map_more : {A B : Type 0} (f : A → B) (l : List A) (x : A) → map f (l ++ (x ∷ [])) ≡ map f l ++ (f x ∷ [])
map_more f [] x = refl
map_more {B = B} f (y ∷ l) x = ap (λ (r : List B). f y ∷ r) (map_more f l x)
