-- The next use behind those that were passed: its kind, what it means, and the uses behind it. Where none is left these are zeros.
use mathlib.Core.Path.{◌≡◌, refl, ap, ◌∙◌}
use mathlib.Core.Bool.{Bool, true, false, cond}
use mathlib.Core.List.{List, [], ◌∷◌}
use Prim.Native.Nat.{ℕ, zero, suc, ◌+◌, ◌*◌, ◌-◌, ◌%◌, ◌<◌, ◌≤◌}
use native.Mathlib.Omega.{arith}
use lib.Dec.{eqb, ltb}
use lib.ListN.{length, get_or, drop}
use borrow.Author.Tests.{ltb-true, ltb-false}
use Rattle.names.specs.model.Rows.{meant_of}
use Rattle.names.specs.declared.Meant.TheVariants.{Declared, Given, Nothing}
use Rattle.answers.specs.declared.Declaration.{Declaration}
use Rattle.answers.specs.declared.Environment.{Environment}
use Rattle.emitting.specs.model.Emission.{formal_at, used_as, uses_in, kind_next, means_next, others_next}

module _ (rows : List ℕ) where
  -- there is one
  pub next_here : (ws : List ℕ) (n : ℕ) → n < length ws
      → (kind_next (drop n (uses_in rows ws)) ≡ (used_as rows (meant_of (get_or ws n 0))).kind) × (means_next (drop n (uses_in rows ws)) ≡ (used_as rows (meant_of (get_or ws n 0))).means)
  unfolding uses_in kind_next means_next
  next_here [] n h = absurd (omega arith)
  next_here (w ∷ ws) zero h = (refl, refl)
  next_here (w ∷ ws) (suc n) h = next_here ws n (omega arith)

  -- there is none
  pub next_nowhere : (ws : List ℕ) (n : ℕ) → length ws ≤ n → drop n (uses_in rows ws) ≡ []
  unfolding uses_in
  next_nowhere [] zero h = refl
  next_nowhere [] (suc n) h = refl
  next_nowhere (w ∷ ws) zero h = absurd (omega arith)
  next_nowhere (w ∷ ws) (suc n) h = next_nowhere ws n (omega arith)

  pub others_here : (ws : List ℕ) (n : ℕ) → n < length ws → drop (n + 1) (uses_in rows ws) ≡ others_next (drop n (uses_in rows ws))
  unfolding uses_in others_next
  others_here [] n h = absurd (omega arith)
  others_here (w ∷ ws) zero h = refl
  others_here (w ∷ ws) (suc n) h =
      let e : suc n + 1 ≡ suc (n + 1) = omega arith in
      ap (λ (j : ℕ). drop j (uses_in rows (w ∷ ws))) e ∙ others_here ws n (omega arith)

  pub others_nowhere : (ws : List ℕ) (n : ℕ) → length ws ≤ n → drop n (uses_in rows ws) ≡ others_next (drop n (uses_in rows ws))
  unfolding others_next
  others_nowhere ws n h = let e = next_nowhere ws n h in rw e

  pub kind_nowhere : (ws : List ℕ) (n : ℕ) → length ws ≤ n → (0 ≡ kind_next (drop n (uses_in rows ws))) × (0 ≡ means_next (drop n (uses_in rows ws)))
  unfolding kind_next means_next
  kind_nowhere ws n h = let e = next_nowhere ws n h in (rw e, rw e)

  -- ---- small numbers

  used_small : (w : ℕ) → w < 65536 → ((used_as rows (meant_of w)).kind < 65536) × ((used_as rows (meant_of w)).means < 65536)
  unfolding used_as meant_of
  used_small w s = go (ltb w 8192) (ltb w 8197)
    where
      kind : (b : Bool) → cond b 4 (get_or rows (4 * w) 0 % 65536 - 4) < 65536
      kind true = omega arith
      kind false = omega arith

      go : (b c : Bool)
          → ((used_as rows (cond b (Declared (record { number = w })) (cond c (Given (record { number = w - 8192 })) Nothing))).kind < 65536)
          × ((used_as rows (cond b (Declared (record { number = w })) (cond c (Given (record { number = w - 8192 })) Nothing))).means < 65536)
      go true c = (kind (eqb (formal_at rows w) 2), s)
      go false true = (omega arith, omega arith)
      go false false = (omega arith, omega arith)

  pub next_small : (ws : List ℕ) (n : ℕ) → ((i : ℕ) → get_or ws i 0 < 65536) → (kind_next (drop n (uses_in rows ws)) < 65536) × (means_next (drop n (uses_in rows ws)) < 65536)
  unfolding uses_in kind_next means_next
  next_small [] zero k = (omega arith, omega arith)
  next_small [] (suc n) k = (omega arith, omega arith)
  next_small (w ∷ ws) zero k = used_small w (k 0)
  next_small (w ∷ ws) (suc n) k = next_small ws n (λ i. k (suc i))

-- ---- the numbers of a declaration and of the environment

pub declared_small : (w : ℕ) (d : Declaration) → meant_of w ≡ Declared d → d.number < 8192
unfolding meant_of
declared_small w d e = go (ltb w 8192) refl (ltb w 8197) e
  where
    go : (b : Bool) → ltb w 8192 ≡ b → (c : Bool) → cond b (Declared (record { number = w })) (cond c (Given (record { number = w - 8192 })) Nothing) ≡ Declared d → d.number < 8192
    go true l c e = let z : record { number = w } ≡ d = cc in let y : w ≡ d.number = ap (λ (d : Declaration). d.number) z in omega (arith, ltb-true w 8192 l)
    go false l true e = absurd (let z : ◌≡◌ {A = ℕ} 0 1 = cc in omega arith)
    go false l false e = absurd (let z : ◌≡◌ {A = ℕ} 0 1 = cc in omega arith)

pub given_small : (w : ℕ) (d : Environment) → meant_of w ≡ Given d → d.number < 5
unfolding meant_of
given_small w d e = go (ltb w 8192) refl (ltb w 8197) refl e
  where
    go : (b : Bool) → ltb w 8192 ≡ b → (c : Bool) → ltb w 8197 ≡ c → cond b (Declared (record { number = w })) (cond c (Given (record { number = w - 8192 })) Nothing) ≡ Given d → d.number < 5
    go true l c l' e = absurd (let z : ◌≡◌ {A = ℕ} 0 1 = cc in omega arith)
    go false l true l' e =
        let z : record { number = w - 8192 } ≡ d = cc in
        let y : w - 8192 ≡ d.number = ap (λ (d : Environment). d.number) z in
        omega (arith, ltb-true w 8197 l', ltb-false w 8192 l)
    go false l false l' e = absurd (let z : ◌≡◌ {A = ℕ} 0 1 = cc in omega arith)

module _ (rows : List ℕ) (w : ℕ) {k m : ℕ} where
  pub declared_use : (d : Declaration) → meant_of w ≡ Declared d → k ≡ cond (eqb (formal_at rows d.number) 2) 4 (get_or rows (4 * d.number) 0 % 65536 - 4) → m ≡ d.number
      → (k ≡ (used_as rows (meant_of w)).kind) × (m ≡ (used_as rows (meant_of w)).means)
  unfolding used_as
  declared_use d e i j = rw e (i, j)

  pub given_use : (d : Environment) → meant_of w ≡ Given d → k ≡ 0 → m ≡ d.number → (k ≡ (used_as rows (meant_of w)).kind) × (m ≡ (used_as rows (meant_of w)).means)
  unfolding used_as
  given_use d e i j = rw e (i, j)

  pub no_use : meant_of w ≡ Nothing → k ≡ 0 → m ≡ 0 → (k ≡ (used_as rows (meant_of w)).kind) × (m ≡ (used_as rows (meant_of w)).means)
  unfolding used_as
  no_use e i j = rw e (i, j)
