-- The least fault of a list is the one of them that no other comes before: "in a group the smallest place wins, and at one place the lower number".
-- `before` is an order by two numbers, which `omega` knows once the tests are read off.
use Prim.Native.Nat.{ℕ, ◌≤◌, ◌<◌}
use mathlib.Core.Path.{◌≡◌, refl, sym, ap, ◌∙◌}
use mathlib.Core.Logic.{◌↔◌, ◌⊎◌, inl, inr}
use mathlib.Core.Bool.{Bool, true, false, cond, ◌&&◌, ◌||◌}
use mathlib.Core.List.{List, [], ◌∷◌, Memᴰ}
use mathlib.Core.Option.{Option, none, some}
use native.Mathlib.Omega.{arith}
use lib.Dec.{eqb, ltb}
use borrow.Author.Tests.{ltb-true, ltb-false, le-ltb, eqb-true, eqb-false, ne_eqb}
use Rattle.names.specs.Uses.{Fault, before, sooner, least}
use Rattle.reading.proofs.FaultNumbers.{none_some, same_some, least_among, none_among}

true_false : true ≡ false → ⊥
true_false q = let z : ◌≡◌ {A = ℕ} 0 1 = cc in omega arith

false_true : false ≡ true → ⊥
false_true q = let z : ◌≡◌ {A = ℕ} 0 1 = cc in omega arith

-- g does not come before f
abbrev pub Late : Fault → Fault → Type 0
Late g f = (f.symbol < g.symbol) ⊎ ((f.symbol ≡ g.symbol) × (f.answer ≤ g.answer))

late : (g f : Fault) → before g f ≡ false → Late g f
late g f h = go (ltb g.symbol f.symbol) (eqb g.symbol f.symbol) (ltb g.answer f.answer) refl refl refl h
  where
    go : (a b c : Bool) → ltb g.symbol f.symbol ≡ a → eqb g.symbol f.symbol ≡ b → ltb g.answer f.answer ≡ c → (a || (b && c)) ≡ false → Late g f
    go true b c p q r h = absurd (true_false h)
    go false true true p q r h = absurd (true_false h)
    go false true false p q r h = inr (sym (eqb-true g.symbol f.symbol q), ltb-false g.answer f.answer r)
    go false false c p q r h =
        let l = ltb-false g.symbol f.symbol p in
        inl (apart (eqb-false g.symbol f.symbol q) l)
      where
        apart : {m n : ℕ} → (m ≡ n → ⊥) → n ≤ m → n < m
        apart d l = omega (arith, d)

not_before : (g f : Fault) → Late g f → before g f ≡ false
not_before g f (inl l) =
    let a : g.symbol ≡ f.symbol → ⊥ = λ e. omega arith in
    let m : f.symbol ≤ g.symbol = omega arith in
    rw (le-ltb g.symbol f.symbol m, ne_eqb g.symbol f.symbol a)
not_before g f (inr l) =
    let m : f.symbol ≤ g.symbol = omega arith in
    rw (le-ltb g.symbol f.symbol m, le-ltb g.answer f.answer l.1) (go (eqb g.symbol f.symbol))
  where
    go : (b : Bool) → (b && false) ≡ false
    go true = refl
    go false = refl

itself : (f : Fault) → Late f f
itself f = inr (refl, omega arith)

later : (x y : Fault) → before y x ≡ true → Late x y
later x y h = go (ltb y.symbol x.symbol) (eqb y.symbol x.symbol) (ltb y.answer x.answer) refl refl refl h
  where
    go : (a b c : Bool) → ltb y.symbol x.symbol ≡ a → eqb y.symbol x.symbol ≡ b → ltb y.answer x.answer ≡ c → (a || (b && c)) ≡ true → Late x y
    go true b c p q r h = inl (ltb-true y.symbol x.symbol p)
    go false true true p q r h = inr (eqb-true y.symbol x.symbol q, omega (arith, ltb-true y.answer x.answer r))
    go false true false p q r h = absurd (false_true h)
    go false false c p q r h = absurd (false_true h)

later_still : (g y x : Fault) → Late g y → Late y x → Late g x
later_still g y x (inl a) (inl b) = inl (omega arith)
later_still g y x (inl a) (inr b) = inl (omega (arith, b.0))
later_still g y x (inr a) (inl b) = inl (omega (arith, a.0))
later_still g y x (inr a) (inr b) = inr (b.0 ∙ a.0, omega (arith, a.1, b.1))

one_fault : (f g : Fault) → Late f g → Late g f → f ≡ g
one_fault f g (inl a) (inl b) = absurd (omega arith)
one_fault f g (inl a) (inr b) = absurd (omega (arith, b.0))
one_fault f g (inr a) (inl b) = absurd (omega (arith, a.0))
one_fault f g (inr a) (inr b) =
    let n : f.answer ≡ g.answer = omega (arith, a.1, b.1) in
    ap (λ k. record { symbol = k; answer = f.answer }) b.0 ∙ ap (λ k. record { symbol = g.symbol; answer = k }) n

pub least_late : (l : List Fault) (f : Fault) → least l ≡ some f → (g : Fault) → Memᴰ g l → Late g f
unfolding least
least_late [] f q g m = absurd (none_some q)
least_late (x ∷ l) f q g m = go (least l) (λ y e k. least_late l y e g k) (λ e k. none_among l g e k) q m
  where
    to : (h y : Fault) → h ≡ g → y ≡ f → Late h y → Late g f
    to h y p r k = rw (← p, ← r) k

    chosen : (y : Fault) (b : Bool) → before y x ≡ b → (Memᴰ g l → Late g y) → some (cond b y x) ≡ some f → Memᴰ g (x ∷ l) → Late g f
    chosen y true e k r (Memᴰ.head p) = to x y (sym p) (same_some r) (later x y e)
    chosen y true e k r (Memᴰ.tail n) = to g y refl (same_some r) (k n)
    chosen y false e k r (Memᴰ.head p) = to x x (sym p) (same_some r) (itself x)
    chosen y false e k r (Memᴰ.tail n) = to g x refl (same_some r) (later_still g y x (k n) (late y x e))

    alone : Memᴰ g (x ∷ l) → (Memᴰ g l → ⊥) → x ≡ f → Late g f
    alone (Memᴰ.head p) k r = to x x (sym p) r (itself x)
    alone (Memᴰ.tail n) k r = absurd (k n)

    go : (o : Option Fault) → ((y : Fault) → o ≡ some y → Memᴰ g l → Late g y) → (o ≡ none → Memᴰ g l → ⊥) → sooner x o ≡ some f → Memᴰ g (x ∷ l) → Late g f
    go none k z r n = alone n (z refl) (same_some r)
    go (some y) k z r n = chosen y (before y x) refl (k y refl) r n

pub least_exactly : (l : List Fault) (f : Fault) → (least l ≡ some f) ↔ (Memᴰ f l × ((g : Fault) → Memᴰ g l → before g f ≡ false))
least_exactly l f = (λ e. (least_among l f e, λ g m. not_before g f (least_late l f e g m)), λ h. go (least l) refl h.0 h.1)
  where
    go : (o : Option Fault) → least l ≡ o → Memᴰ f l → ((g : Fault) → Memᴰ g l → before g f ≡ false) → least l ≡ some f
    go none e m h = absurd (none_among l f e m)
    go (some y) e m h = e ∙ ap some (one_fault y f (late y f (h y (least_among l y e))) (least_late l y e f m))
