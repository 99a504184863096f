-- `vectors::twos::compare` meets its contract.
-- Assumes nothing.
use mathlib.Core.Path.{◌≡◌, sym, ◌∙◌}
use mathlib.Core.List.{List}
use Prim.Native.Nat.{ℕ, ◌+◌, ◌*◌, min}
use lib.ListN.{get_or}
use Rattle.vectors.specs.declared.tally.Tally.{Tally}
use Rattle.vectors.specs.Twos.{BehindTold, procedures, refused, alone, uses}
use Rattle.vectors.proofs.twos.compare.Goals as goal

uses-so : (prelude source table : List ℕ) (w n : ℕ) {t : Tally} (r : Tally) → w ≡ get_or table 0 0 → n ≡ min (3 * w + 1) 16384 → BehindTold prelude source table n t r
    → BehindTold prelude source table (min (3 * get_or table 0 0 + 1) 16384) t r
uses-so prelude source table w n r e f h = rw e at (rw f at h)

pub returns-then-not-accepted : goal.returns-then-not-accepted
returns-then-not-accepted c = refused c.read-verdict.ensures (sym c.accepted.ensures ∙ c.if-not-accepted.true)

pub returns-then-named : goal.returns-then-named
unfolding procedures
returns-then-named c =
    uses c.read-verdict.ensures (sym c.accepted.ensures ∙ c.if-not-accepted.false) c.if-named.true (uses-so _ _ _ _ _ _ c.word_at.ensures c.clipped-n.ensures c.behind.ensures)

pub returns : goal.returns
returns c =
    alone c.read-verdict.ensures (sym c.accepted.ensures ∙ c.if-not-accepted.false) c.if-named.false c.behind-2.ensures
