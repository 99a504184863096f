-- `vectors::writes::untouched` meets its contract. The bytes from i on are those that are left to compare.
-- Assumes nothing.
use mathlib.Core.Path.{◌≡◌, refl, sym, ◌∙◌}
use mathlib.Core.Bool.{true, false}
use mathlib.Core.List.{List}
use Prim.Native.Nat.{ℕ, ◌+◌, ◌≤◌, ◌<◌}
use lib.ListN.{length, get_or, drop, drop_of_length-le}
use borrow.Author.Tests.{eq-eqb, ne_eqb}
use Rattle.symbols.proofs.Laws.{peel}
use Rattle.vectors.specs.Pages.{all}
use borrow.Author.Rules.{rules}
use Rattle.vectors.proofs.writes.untouched.Goals as goal

module _ (s : List ℕ) (i : ℕ) where
  all-on : i < length s → get_or s i 0 ≡ 7 → all 7 (drop i s) ≡ all 7 (drop (i + 1) s)
  unfolding all
  all-on h e = rw (peel s i h, eq-eqb (get_or s i 0) 7 e)

  all-off : i < length s → (get_or s i 0 ≡ 7 → ⊥) → all 7 (drop i s) ≡ false
  unfolding all
  all-off h e = rw (peel s i h, ne_eqb (get_or s i 0) 7 e)

  all_end : length s ≤ i → all 7 (drop i s) ≡ true
  unfolding all
  all_end h = rw (drop_of_length-le s h)

pub loop-i-init : goal.loop-i-init
loop-i-init c = (search rules, refl)

pub returns-then-room-i-ne-BEFORE : goal.returns-then-room-i-ne-BEFORE
returns-then-room-i-ne-BEFORE c = sym (c.loop-i.invariant.1 ∙ all-off c.args.room.now c.loop-i.i c.loop-i-test.true c.if-room-i-ne-BEFORE.true)

pub loop-i-preserved : goal.loop-i-preserved
loop-i-preserved c = (search rules, c.loop-i.invariant.1 ∙ all-on c.args.room.now c.loop-i.i c.loop-i-test.true c.if-room-i-ne-BEFORE.false)

pub returns : goal.returns
returns c = sym (c.loop-i.invariant.1 ∙ all_end c.args.room.now c.loop-i.i c.loop-i-test.false)
