-- `deed::help::tell_words` meets its contract. The next word begins behind this one, which is not empty.
-- Assumes nothing.
use native.Mathlib.Omega.{arith}
use Rattle.deed.proofs.help.tell_words.Goals as goal

pub loop-at-smaller : goal.loop-at-smaller
loop-at-smaller c =
    let w = c.word_from-w.ensures in
    let n = c.if-a-b.false in
    omega (arith, w.onward, w.ordered, w.inside, c.loop-at-test.true)
