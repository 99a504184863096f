-- `vectors::lists::told` meets its contract. The list is counted, and a difference where it is answered otherwise. Assumes nothing.
use mathlib.Core.Path.{ap, ◌∙◌}
use Rattle.vectors.specs.Listed.{one_list, checked}
use Rattle.vectors.proofs.lists.told.Goals as goal

pub returns : goal.returns
returns c =
    let l = c.check_list in
    record { answer = l.result; checks = l.ensures; told = c.check.ensures ∙ ap (λ s. checked c.is_said-same.result s) c.list.ensures ∙ ap (λ b. checked b (one_list c.args.t)) c.is_said-same.ensures }
