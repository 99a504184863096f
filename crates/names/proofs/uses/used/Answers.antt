-- `uses::used` keeps the word of what the name means, and notes 8 where that is nothing.
use mathlib.Core.Path.{ap, ◌∙◌}
use mathlib.Core.Bool.{Bool}
use native.Mathlib.Omega.{arith}
use Rattle.answers.specs.Numbers.{undeclared}
use Rattle.names.specs.model.Rows.{noted_if}
use Rattle.names.proofs.UseLaws.{kept, use_seen}
use Rattle.names.proofs.uses.used.Goals as goal

pub returns-clause-stack_after : goal.returns-clause-stack_after
returns-clause-stack_after c =
    let a = c.args in
    let m = c.meaning-m in
    use_seen a.ids.now a.rows.now a.uses.now _ a.stack.now a.u a.symbol.number c.identity_of.result c.number.result c.noted_if.result m.result
    c.identity_of.ensures
    m.ensures
    c.number.ensures
    (kept a.uses.now a.u.count c.number.result (omega arith))
    (c.noted_if.ensures ∙ ap (λ (b : Bool). noted_if b a.u.least a.symbol.number undeclared) c.is_nothing.ensures)
