-- `emitting::emission::pass` meets its contract: all words are zero where the pass begins.
-- Assumes nothing.
use mathlib.Core.Path.{◌≡◌, refl, ap, ◌∙◌}
use mathlib.Core.List.{List}
use Prim.Native.Nat.{ℕ}
use lib.ListN.{length, replicate}
use Rattle.emitting.specs.model.Emission.{Used, State, uses_in, place_at, emitted, fresh}
use Rattle.emitting.specs.model.Arrays.{fresh_in, emitted_from}
use Rattle.emitting.proofs.emission.pass.Goals as goal

begins : (us : List Used) (n : ℕ) {c a e : List ℕ} → c ≡ replicate n 0 → a ≡ replicate 8192 0 → e ≡ replicate 2048 0 → fresh_in us c a e ≡ fresh n us
begins us n {c = c} {a = a} {e = e} p q r =
    ap (λ (z : List ℕ). fresh_in us z a e) p ∙ ap (λ (z : List ℕ). fresh_in us (replicate n 0) z e) q ∙ ap (λ (z : List ℕ). fresh_in us (replicate n 0) (replicate 8192 0) z) r

pub returns : goal.returns
unfolding emitted
returns c =
    let x = c.args in
    let k = x.known.now in
    let f = begins (uses_in k.rows.now x.uses.now) (length x.code.now) c.clear.ensures refl refl in
    let r = c.walk.ensures in
    let e : State → State = emitted_from (place_at k.places.now) k.values.now k.layout.now k.ahead.now k.entries.now k.rows.now k.marks.now x.nodes.now in
    record { code_after = r.code_after ∙ ap (λ (st : State). (e st).code) f; ahead_after = r.ahead_after ∙ ap (λ (st : State). (e st).ahead) f; entries_after = r.entries_after ∙ ap (λ (st : State). (e st).entries) f }
