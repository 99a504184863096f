-- `syntax::operators::relational` meets its contract: each arm has told the symbol. Assumes nothing.
use mathlib.Core.Path.{refl, sym}
use native.Mathlib.Omega.{arith}
use mathlib.Core.List.{[], ◌∷◌}
use Rattle.grammar.proofs.Peeks.{is_not, but}
use Rattle.syntax.specs.model.Operators.{relation_of}
use Rattle.syntax.proofs.Choices.{zero_one}
use borrow.Enum.Refused.{opened}
use Rattle.syntax.proofs.operators.relational.Goals as goal

pub returns-in-Less : goal.returns-in-Less
unfolding relation_of
returns-in-Less c = (rw c.in-Less.is refl, λ h. omega arith)

pub returns-in-LessEqual : goal.returns-in-LessEqual
unfolding relation_of
returns-in-LessEqual c = (rw c.in-LessEqual.is refl, λ h. omega arith)

pub returns-in-Equal : goal.returns-in-Equal
unfolding relation_of
returns-in-Equal c = (rw c.in-Equal.is refl, λ h. omega arith)

pub returns-in-GreaterEqual : goal.returns-in-GreaterEqual
unfolding relation_of
returns-in-GreaterEqual c = (rw c.in-GreaterEqual.is refl, λ h. omega arith)

pub returns-in-Greater : goal.returns-in-Greater
unfolding relation_of
returns-in-Greater c = (rw c.in-Greater.is refl, λ h. omega arith)

pub returns-in-NotEqual : goal.returns-in-NotEqual
unfolding relation_of
returns-in-NotEqual c = (rw c.in-NotEqual.is refl, λ h. omega arith)

pub returns-in_default : goal.returns-in_default
unfolding relation_of
returns-in_default c = sym ((zero_one (is_not c.args.s refl (but (26 ∷ 27 ∷ 28 ∷ 29 ∷ 30 ∷ 31 ∷ [])) 26 refl (opened c.in_default.in_default-own.keys7)) (zero_one (is_not c.args.s refl (but (26 ∷ 27 ∷ 28 ∷ 29 ∷ 30 ∷ 31 ∷ [])) 27 refl (opened c.in_default.in_default-own.keys7)) (zero_one (is_not c.args.s refl (but (26 ∷ 27 ∷ 28 ∷ 29 ∷ 30 ∷ 31 ∷ [])) 28 refl (opened c.in_default.in_default-own.keys7)) (zero_one (is_not c.args.s refl (but (26 ∷ 27 ∷ 28 ∷ 29 ∷ 30 ∷ 31 ∷ [])) 29 refl (opened c.in_default.in_default-own.keys7)) (zero_one (is_not c.args.s refl (but (26 ∷ 27 ∷ 28 ∷ 29 ∷ 30 ∷ 31 ∷ [])) 30 refl (opened c.in_default.in_default-own.keys7)) (zero_one (is_not c.args.s refl (but (26 ∷ 27 ∷ 28 ∷ 29 ∷ 30 ∷ 31 ∷ [])) 31 refl (opened c.in_default.in_default-own.keys7)) refl)))))))
