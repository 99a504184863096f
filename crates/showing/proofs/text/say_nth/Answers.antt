-- `showing::text::say_nth` meets its contract. The next line begins within the text, so that no line is cut past its end.
-- Assumes nothing.
use native.Mathlib.Omega.{arith}
use lib.ListN.{drop, length-drop}
use Rattle.symbols.proofs.Laws.{before_most}
use Rattle.showing.proofs.text.say_nth.Goals as goal

pub slice_bounds-say-end : goal.slice_bounds-say-end
slice_bounds-say-end c =
    let s = c.args.text.now in
    let at = c.loop.at in
    omega (arith, c.find.ensures, before_most 10 (drop at s), length-drop at s, c.loop.invariant)
