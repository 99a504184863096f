-- `deed::commands::options_once` meets its contract. One stands twice, or none does.
-- Assumes nothing.
use mathlib.Core.Path.{sym}
use mathlib.Core.List.{[]}
use Rattle.asking.specs.declared.sorts.Sort.TheVariants.{Twice}
use Rattle.deed.specs.Commands.{once}
use Rattle.deed.proofs.Decided.{some_found, none_found}
use Rattle.deed.proofs.commands.options_once.Goals as goal

pub returns-then-a-b : goal.returns-then-a-b
unfolding once
returns-then-a-b c = sym (some_found Twice [] c.args.line.now c.first-w.result c.first-w.ensures c.if-a-b.true)

pub returns : goal.returns
unfolding once
returns c = sym (none_found Twice [] c.args.line.now c.first-w.result c.first-w.ensures c.if-a-b.false)
