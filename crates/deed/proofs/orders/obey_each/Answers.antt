-- `deed::orders::obey_each` meets its contract. A line ends within the text, and the next one begins behind it.
-- Assumes nothing.
use Prim.Native.Nat.{ℕ, ◌+◌, ◌≤◌}
use mathlib.Core.Path.{◌≡◌}
use mathlib.Core.List.{List}
use Rattle.symbols.specs.Scan.{before}
use native.Mathlib.Omega.{arith}
use lib.ListN.{length, drop, length-drop}
use Rattle.symbols.proofs.Laws.{before_most}
use Rattle.deed.proofs.orders.obey_each.Goals as goal

-- the line that begins at a place ends within the text
inside : (s : List ℕ) (at end : ℕ) → at ≤ length s → end ≡ at + length (before 10 (drop at s)) → end ≤ length s
inside s at end h e = omega (arith, h, e, before_most 10 (drop at s), length-drop at s)

pub slice_bounds-obey_text-end : goal.slice_bounds-obey_text-end
slice_bounds-obey_text-end c = inside c.args.text.now c.loop-at.at c.find-end.result (omega (arith, c.loop-at-test.true)) c.find-end.ensures

pub overflow_add-at : goal.overflow_add-at
overflow_add-at c = omega (arith, inside c.args.text.now c.loop-at.at c.find-end.result (omega (arith, c.loop-at-test.true)) c.find-end.ensures)
