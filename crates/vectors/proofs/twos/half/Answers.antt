-- `vectors::twos::half` meets its contract.
-- Assumes nothing.
use mathlib.Core.Path.{◌≡◌}
use mathlib.Core.Bool.{Bool}
use mathlib.Core.List.{List}
use Prim.Native.Nat.{ℕ}
use Rattle.answers.specs.declared.Verdict.{Verdict}
use Rattle.vectors.specs.declared.tally.Tally.{Tally}
use Rattle.vectors.specs.Listed.{checked, answered_by}
use Rattle.vectors.specs.Twos.{half_by, after_half}
use Rattle.vectors.proofs.twos.half.Goals as goal

in-turn : (v : Verdict) (half text : List ℕ) (t s r : Tally) (a b : Bool) → a ≡ answered_by v text → s ≡ checked a t → b ≡ half_by v half text → r ≡ checked b s → r ≡ after_half v half text t
unfolding after_half
in-turn v half text t s r a b e f g h = cc

pub returns : goal.returns
returns c =
    let a = c.args in
    in-turn a.verdict a.words.now a.text.now a.t c.check-told.result c.check.result c.answered.result c.is_half.result c.answered.ensures c.check-told.ensures c.is_half.ensures c.check.ensures
