-- The pass done twice: what the first one finds is lent to the second.
use Prim.Native.Nat.{ℕ}
use mathlib.Core.Path.{◌≡◌, ap, ◌∙◌}
use mathlib.Core.List.{List, []}
use Rattle.emitting.specs.model.Emission.{Used, emitted, code_of}

pub second_run : (r : ℕ) (p : ℕ → ℕ) (v l rows marks n : List ℕ) (u : List Used) {m : ℕ} {a e ws : List ℕ} → ws ≡ (emitted v l a e rows marks m p n u).code → m ≡ r → a ≡ (emitted v l [] [] rows marks r p n u).ahead → e ≡ (emitted v l [] [] rows marks r p n u).entries
    → ws ≡ code_of r p v l rows marks n u
unfolding code_of
second_run r p v l rows marks n u {m} {a} {e} q k f g =
    q ∙ ap (λ x. (emitted v l a e rows marks x p n u).code) k ∙ ap (λ x. (emitted v l x e rows marks r p n u).code) f ∙ ap (λ x. (emitted v l (emitted v l [] [] rows marks r p n u).ahead x rows marks r p n u).code) g
