-- `vectors::lists::compare` meets its contract. Assumes nothing.
use Prim.Native.Nat.{◌≤◌, ◌<◌}
use mathlib.Core.Path.{subst}
use lib.ListN.{length}
use Rattle.vectors.specs.Sent.{SentTold, own_alone, and_sent}
use Rattle.vectors.proofs.lists.compare.Goals as goal

pub returns-then-from-text : goal.returns-then-from-text
returns-then-from-text c =
    let a = c.args in
    let e = c.third_line-from.ensures in
    and_sent (subst (λ n. n < length a.text.now) e c.if-from-text.true) c.own-mine.ensures
    (subst (λ n. SentTold a.source.now a.text.now n c.own-mine.result c.sent.result) e c.sent.ensures)

pub returns : goal.returns
returns c = own_alone (subst (λ n. length c.args.text.now ≤ n) c.third_line-from.ensures c.if-from-text.false) c.own-mine.ensures
