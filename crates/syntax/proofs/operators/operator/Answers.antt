-- `syntax::operators::operator` meets its contract: each arm has told the symbol. Assumes nothing.
use mathlib.Core.Path.{refl, sym}
use native.Mathlib.Omega.{arith}
use mathlib.Core.List.{[], ◌∷◌}
use Rattle.grammar.proofs.Peeks.{is_not, but}
use Rattle.syntax.specs.model.Operators.{operator_of}
use Rattle.syntax.proofs.Choices.{zero_one}
use borrow.Enum.Refused.{opened}
use Rattle.syntax.proofs.operators.operator.Goals as goal

pub returns-in-Times : goal.returns-in-Times
unfolding operator_of
returns-in-Times c = (rw (c.in-Product.is, c.in-Times.is) refl, λ h. omega arith)

pub returns-in-Divide : goal.returns-in-Divide
unfolding operator_of
returns-in-Divide c = (rw (c.in-Product.is, c.in-Divide.is) refl, λ h. omega arith)

pub returns-in-Slash : goal.returns-in-Slash
unfolding operator_of
returns-in-Slash c = (rw (c.in-Product.is, c.in-Slash.is) refl, λ h. omega arith)

pub returns-in_default : goal.returns-in_default
unfolding operator_of
returns-in_default c = sym (rw c.in-Product.is (zero_one (is_not c.args.s refl (but (24 ∷ 25 ∷ 41 ∷ [])) 24 refl (opened c.in_default.in_default-own.keys4)) (zero_one (is_not c.args.s refl (but (24 ∷ 25 ∷ 41 ∷ [])) 25 refl (opened c.in_default.in_default-own.keys4)) (zero_one (is_not c.args.s refl (but (24 ∷ 25 ∷ 41 ∷ [])) 41 refl (opened c.in_default.in_default-own.keys4)) refl))))

pub returns-in-Plus : goal.returns-in-Plus
unfolding operator_of
returns-in-Plus c = (rw (c.in-Sum.is, c.in-Plus.is) refl, λ h. omega arith)

pub returns-in-Minus : goal.returns-in-Minus
unfolding operator_of
returns-in-Minus c = (rw (c.in-Sum.is, c.in-Minus.is) refl, λ h. omega arith)

pub returns-in_default-s : goal.returns-in_default-s
unfolding operator_of
returns-in_default-s c = sym (rw c.in-Sum.is (zero_one (is_not c.args.s refl (but (22 ∷ 23 ∷ [])) 22 refl (opened c.in_default-s.in_default-s-own.keys3)) (zero_one (is_not c.args.s refl (but (22 ∷ 23 ∷ [])) 23 refl (opened c.in_default-s.in_default-s-own.keys3)) refl)))

pub returns-in-And : goal.returns-in-And
unfolding operator_of
returns-in-And c = (rw (c.in-Conjunction.is, c.in-And.is) refl, λ h. omega arith)

pub returns-in_default-s-2 : goal.returns-in_default-s-2
unfolding operator_of
returns-in_default-s-2 c = sym (rw c.in-Conjunction.is (zero_one (is_not c.args.s refl (but (17 ∷ [])) 17 refl (opened c.in_default-s-2.in_default-s-2-own.keys2)) refl))

pub returns-in-Or : goal.returns-in-Or
unfolding operator_of
returns-in-Or c = (rw (c.in-Disjunction.is, c.in-Or.is) refl, λ h. omega arith)

pub returns-in_default-s-3 : goal.returns-in_default-s-3
unfolding operator_of
returns-in_default-s-3 c = sym (rw c.in-Disjunction.is (zero_one (is_not c.args.s refl (but (18 ∷ [])) 18 refl (opened c.in_default-s-3.in_default-s-3-own.keys2)) refl))

pub returns-in-Impl : goal.returns-in-Impl
unfolding operator_of
returns-in-Impl c = (rw (c.in-Implication.is, c.in-Impl.is) refl, λ h. omega arith)

pub returns-in_default-s-4 : goal.returns-in_default-s-4
unfolding operator_of
returns-in_default-s-4 c = sym (rw c.in-Implication.is (zero_one (is_not c.args.s refl (but (20 ∷ [])) 20 refl (opened c.in_default-s-4.in_default-s-4-own.keys2)) refl))

pub returns-in-Equiv : goal.returns-in-Equiv
unfolding operator_of
returns-in-Equiv c = (rw (c.in-Equivalence.is, c.in-Equiv.is) refl, λ h. omega arith)

pub returns-in_default-s-5 : goal.returns-in_default-s-5
unfolding operator_of
returns-in_default-s-5 c = sym (rw c.in-Equivalence.is (zero_one (is_not c.args.s refl (but (21 ∷ [])) 21 refl (opened c.in_default-s-5.in_default-s-5-own.keys2)) refl))
