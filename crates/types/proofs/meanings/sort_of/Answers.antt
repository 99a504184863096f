-- `meanings::sort_of`: the type in the row's last word.
use mathlib.Core.Path.{ap, ◌∙◌}
use Rattle.names.specs.Modes.{type_in}
use Rattle.names.specs.declared.Row.{Row}
use Rattle.types.specs.model.Passes.{sort_in}
use Rattle.types.proofs.meanings.sort_of.Goals as goal

pub returns : goal.returns
unfolding sort_in
returns c = c.sort.ensures.value ∙ ap (λ (r : Row). type_in r.sort) c.row.ensures
