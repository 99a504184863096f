-- `deed::commands::options_fit` meets its contract. There is a misfit, or none.
-- Assumes nothing.
use mathlib.Core.Path.{sym}
use Rattle.asking.specs.declared.sorts.Sort.TheVariants.{Misfit}
use Rattle.deed.specs.Commands.{fitting}
use Rattle.deed.proofs.Decided.{some_found, none_found}
use Rattle.deed.proofs.commands.options_fit.Goals as goal

pub returns-then-a-b : goal.returns-then-a-b
unfolding fitting
returns-then-a-b c = sym (some_found Misfit c.args.row.now c.args.line.now c.first-w.result c.first-w.ensures c.if-a-b.true)

pub returns : goal.returns
unfolding fitting
returns c = sym (none_found Misfit c.args.row.now c.args.line.now c.first-w.result c.first-w.ensures c.if-a-b.false)
