-- `comparing::comparing::sense` meets its contract. A declaration's number is small, so that its row's place fits. Assumes nothing.
use mathlib.Core.Path.{refl, sym, ap, ◌∙◌}
use Prim.Native.Nat.{◌-◌}
use native.Mathlib.Omega.{arith}
use Rattle.table.proofs.Written.{declared_small}
use Rattle.comparing.proofs.Told.{told_declared, told_given, told_nothing}
use Rattle.comparing.proofs.comparing.sense.Goals as goal

pub overflow_mul-number : goal.overflow_mul-number
overflow_mul-number c =
    let h = declared_small c.args.kept _ (sym c.meant.ensures ∙ c.in-Declared.is) in
    omega arith

pub returns-in-Declared : goal.returns-in-Declared
returns-in-Declared c =
    let args = c.args in
    told_declared args.rows.now args.kept _ (sym c.meant.ensures ∙ c.in-Declared.is)
    (c.saturating_sub-kind.ensures ∙ ap (λ z. z - 4) c.word.ensures.value) refl

pub returns-in-Given : goal.returns-in-Given
returns-in-Given c =
    let args = c.args in
    told_given args.rows.now args.kept _ (sym c.meant.ensures ∙ c.in-Given.is) refl

pub returns-in-Nothing : goal.returns-in-Nothing
returns-in-Nothing c =
    let args = c.args in
    told_nothing args.rows.now args.kept (sym c.meant.ensures ∙ c.in-Nothing.is)
