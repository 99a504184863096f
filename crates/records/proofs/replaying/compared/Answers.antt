-- The answer, and then the entries.
use Prim.Native.Nat.{◌+◌}
use mathlib.Core.Path.{◌≡◌, ap, ◌∙◌}
use mathlib.Core.List.{List}
use lib.IntN.{ℤ}
use borrow.Author.Tests.{ne_eqb, eq-eqb}
use Rattle.records.specs.Words.{amount}
use Rattle.records.specs.model.Scanning.{at}
use Rattle.records.specs.model.Replaying.{compared_at, entries_apart}
use Rattle.records.proofs.Replays.{word_amount, to_end}
use Rattle.records.proofs.replaying.compared.Goals as goal

pub returns-then-count-answer : goal.returns-then-count-answer
unfolding compared_at
returns-then-count-answer c =
    let m : c.count.result ≡ amount (at c.args.kept.now (c.args.n + 9)) = word_amount (at c.args.kept.now (c.args.n + 9)) c.count-arg-1.given c.count.ensures in
    rw (← m, ne_eqb _ _ c.if-count-answer.true)

pub returns : goal.returns
unfolding compared_at
returns c =
    let m : c.count.result ≡ amount (at c.args.kept.now (c.args.n + 9)) = word_amount (at c.args.kept.now (c.args.n + 9)) c.count-arg-1.given c.count.ensures in
    rw (← m, eq-eqb _ _ c.if-count-answer.false) (c.entries_apart.ensures ∙ ap (λ (l : List ℤ). entries_apart l c.args.written.now) (to_end c.args.kept.now (c.args.n + 11)))
