-- `writing::uses_among`: the rows of four that are kept by the test are those that the model counts.
use mathlib.Core.Path.{◌∙◌}
use Rattle.std.proofs.Common.{rules}
use Rattle.std.proofs.lemmas.Iterator.{YieldsList-from_slice}
use Rattle.std.proofs.lemmas.Iterator.Consumers.{YieldsList-at, YieldsList-from_filter, count_from_yields_List}
use Rattle.table.proofs.Written.{of_use, among_chunks}
use Rattle.table.proofs.writing.uses_among.Goals as goal

pub returns-clause-value : goal.returns-clause-value
returns-clause-value c =
    let a = c.args.nodes.now in
    count_from_yields_List _ _ c.count.ensures.ran
    (YieldsList-from_filter _ of_use (YieldsList-at c.filter.ensures.source (YieldsList-from_slice c.as_chunks.result.0.now (cc))) c.filter.ensures.closure (λ x b q k. search rules))
    ∙ among_chunks a _ c.as_chunks.ensures.front
