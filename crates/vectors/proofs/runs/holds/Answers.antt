-- `vectors::runs::holds` meets its contract. A number is another one where its bits are.
-- Assumes nothing.
use mathlib.Core.Path.{◌≡◌, ◌∙◌}
use mathlib.Core.Bool.{false}
use mathlib.Core.List.{List, [], ◌∷◌}
use Prim.Native.Nat.{ℕ, ◌≤◌, ◌<◌}
use lib.IntN.{ℤ, pos}
use lib.ListN.{length, get_or, drop, drop_of_length-le}
use lib.Seq.{drop-cons}
use mir.Syntax.{w32}
use Rattle.reals.specs.Values.{same}
use Rattle.reals.proofs.Signed.{same_bits}
use Rattle.vectors.specs.Ended.{begins}
use Rattle.vectors.proofs.Laws.{and_true}
use Rattle.vectors.proofs.runs.holds.Goals as goal

there : (x : ℤ) (s : List ℤ) (i : ℕ) → i < length s → same (get_or s i (pos 0)) x ≡ begins (x ∷ []) (drop i s)
unfolding begins
there x s i h = rw (drop-cons s i (pos 0) h) (and_true (same (get_or s i (pos 0)) x))

not_there : (x : ℤ) (s : List ℤ) (i : ℕ) → length s ≤ i → false ≡ begins (x ∷ []) (drop i s)
unfolding begins
not_there x s i h = rw (drop_of_length-le s h)

pub returns-then-k-output : goal.returns-then-k-output
returns-then-k-output c =
    let a = c.args in
    let s = a.output.now in
    same_bits w32 {x = get_or s a.i (pos 0)} {y = a.x} (record { sfits = c.result-1.given }) c.ranges.x ∙ there a.x s a.i c.if-k-output.true

pub returns : goal.returns
returns c =
    let a = c.args in
    not_there a.x a.output.now a.i c.if-k-output.false
