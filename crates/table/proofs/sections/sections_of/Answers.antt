-- `table::sections::sections_of` meets its contract: a use has three words, a declaration four.
-- Assumes nothing.
use Prim.Native.Nat.{◌+◌, ◌*◌}
use native.Mathlib.Omega.{arith}
use mathlib.Core.Path.{◌≡◌, ap, ◌∙◌}
use lib.ListN.{get_or}
use borrow.Author.Rules.{rules}
use Rattle.table.specs.Sections.{rows_at, nodes_at}
use Rattle.table.proofs.sections.sections_of.Goals as goal

pub returns : goal.returns
unfolding rows_at nodes_at
returns c =
    let t = c.args.table.now in
    let first = c.word.result in
    let e : 3 * first + 1 ≡ rows_at t = omega (arith, c.word.ensures.value) in
    let f : c.word-2.result ≡ get_or t (rows_at t) 0 = c.word-2.ensures.value ∙ ap (λ k. get_or t k 0) e in
    record { declarations = e; nodes = omega (arith, e, f); declarations_bound = search rules; nodes_bound = search rules }
