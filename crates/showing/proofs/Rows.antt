-- A row that is filled from the front, byte by byte: where the row is full or the text has ended, it holds as much of the text as it takes.
use mathlib.Core.Path.{◌≡◌, refl, sym, ap, ◌∙◌}
use mathlib.Core.List.{List, [], ◌∷◌, ◌++◌}
use Prim.Native.Nat.{ℕ, suc, ◌+◌, ◌≤◌, ◌<◌}
use native.Mathlib.Omega.{arith}
use native.Mathlib.Numerals.{add-one}
use lib.ListN.{length, get_or, take, drop, set, length-drop, length-set}
use lib.Seq.{length-take-le, drop-cons, take-suc, append_snoc, set_at}
use Rattle.showing.specs.Pages.{Fills}

-- n bytes of the text stand in the row, and the rest is ahead
pub record Filled (text row₀ row rest : List ℕ) (n : ℕ) : Type 0 where
  pub stands : row ≡ take n text ++ drop n row₀
  pub ahead : drop n text ≡ rest
  pub size : length row ≡ length row₀
  pub room : n ≤ length row
  pub come : n ≤ length text

pub first : (text row : List ℕ) → Filled text row row text 0
first text row = record { stands = refl; ahead = refl; size = refl; room = omega arith; come = omega arith }

module _ {text row₀ row rest : List ℕ} {n : ℕ} (f : Filled text row₀ row rest n) where
  pub full : length row ≤ n → Fills text row₀ row n
  full h = record { counted = omega arith; stands = f.stands }

  pub ended : rest ≡ [] → Fills text row₀ row n
  ended e = record { counted = omega (arith, length-drop n text, ap length (f.ahead ∙ e)); stands = f.stands }

  -- nothing is put
  pub passed : (rest' : List ℕ) → rest ≡ rest' → Filled text row₀ row rest' n
  passed rest' e = record { stands = f.stands; ahead = f.ahead ∙ e; size = f.size; room = f.room; come = f.come }

  -- the next byte is put
  pub put : (b : ℕ) (rest' : List ℕ) → rest ≡ b ∷ rest' → n < length row → Filled text row₀ (set row n b) rest' (n + 1)
  put b rest' e h =
      let r : n < length row₀ = omega arith in
      let l : n < length text = omega (arith, length-drop n text, ap length (f.ahead ∙ e)) in
      let d : drop n text ≡ b ∷ rest' = f.ahead ∙ e in
      let u : drop n text ≡ get_or text n 0 ∷ drop (suc n) text = drop-cons text n 0 l in
      let head : get_or text n 0 ≡ b = cc in
      let tail : drop (suc n) text ≡ rest' = cc in
      rw (add-one n) (record {
        stands = ap (λ x. set x n b) f.stands ∙ ap (λ x. set (take n text ++ x) n b) (drop-cons row₀ n 0 r)
            ∙ set_at (take n text) (get_or row₀ n 0) (drop (suc n) row₀) b n (length-take-le n text f.come)
            ∙ sym (ap (λ x. x ++ drop (suc n) row₀) (take-suc text n 0 l ∙ ap (λ x. take n text ++ (x ∷ [])) head) ∙ append_snoc (take n text) b (drop (suc n) row₀));
        ahead = tail;
        size = length-set row n b ∙ f.size;
        room = omega (arith, length-set row n b);
        come = omega arith;
      })
