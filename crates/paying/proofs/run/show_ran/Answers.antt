-- `paying::run::show_ran` meets its contract. The status is of how the run stopped and of what it left.
-- Assumes nothing.
use mathlib.Core.Path.{ap, ◌∙◌}
use mathlib.Core.Bool.{Bool}
use Rattle.desk.specs.Status.{of_end}
use Rattle.paying.proofs.run.show_ran.Goals as goal

pub returns-then-how : goal.returns-then-how
returns-then-how c = c.of_end-ended.ensures ∙ ap (λ (t : Bool). of_end t c.args.ran.stop) c.is_left.ensures

pub returns-else-how : goal.returns-else-how
returns-else-how c = c.of_end-ended.ensures ∙ ap (λ (t : Bool). of_end t c.args.ran.stop) c.is_left.ensures
