-- `vectors::reads::compare` meets its contract. The tally is made of what `read` answered and left.
-- Assumes nothing.
use mathlib.Core.Path.{◌≡◌, sym, ◌∙◌}
use mathlib.Core.Bool.{Bool, true, false}
use mathlib.Core.List.{List}
use Prim.Native.Nat.{ℕ}
use Rattle.answers.specs.declared.Verdict.{Verdict}
use Rattle.vectors.specs.declared.tally.Tally.{Tally}
use Rattle.vectors.specs.Listed.{checked, answered_by, accepted_by, same_uses, after_read}
use Rattle.vectors.proofs.reads.compare.Goals as goal

module _ (v : Verdict) (table text : List ℕ) (t s : Tally) (a : Bool) (answer : a ≡ answered_by v text) (told : s ≡ checked a t) where
  after-accepted : accepted_by v ≡ true → (r : Tally) (b : Bool) → b ≡ same_uses table text → r ≡ checked b s → r ≡ after_read v table text t
  after-accepted k r b e f = rw k (cc)

  after-refused : accepted_by v ≡ false → s ≡ after_read v table text t
  after-refused k = rw k (cc)

pub returns-then-accepted : goal.returns-then-accepted
returns-then-accepted c =
    let a = c.args in
    record { verdict = c.read-verdict.result; table = c.read-verdict.new.table; reads = c.read-verdict.ensures; told = after-accepted c.read-verdict.result c.read-verdict.new.table a.text.now a.t c.check-told.result c.answered.result c.answered.ensures c.check-told.ensures (sym c.accepted.ensures ∙ c.if-accepted.true) c.check.result c.same_uses.result c.same_uses.ensures c.check.ensures }

pub returns : goal.returns
returns c =
    let a = c.args in
    record { verdict = c.read-verdict.result; table = c.read-verdict.new.table; reads = c.read-verdict.ensures; told = after-refused c.read-verdict.result c.read-verdict.new.table a.text.now a.t c.check-told.result c.answered.result c.answered.ensures c.check-told.ensures (sym c.accepted.ensures ∙ c.if-accepted.false) }
