-- `syntax::headings::type_symbol` meets its contract. Assumes nothing.
use mathlib.Core.Path.{refl, ap}
use mathlib.Core.List.{[], ◌∷◌}
use Prim.Native.Nat.{ℕ}
use native.Mathlib.Omega.{arith}
use Rattle.grammar.specs.model.Tables.{choose}
use Rattle.grammar.proofs.Peeks.{inside, is_at, is_not, but}
use Rattle.syntax.proofs.Lemmas.{s_end_at, s_sy, s_put, s_none, s_prod}
use Rattle.grammar.specs.Grammar as G
use Rattle.syntax.proofs.Choices as C
use borrow.Enum.Refused.{opened}
use Rattle.syntax.proofs.headings.type_symbol.Goals as goal

pub returns-in-Integer : goal.returns-in-Integer
returns-in-Integer c =
    let i1 = inside _ _ (is_at c.peek.result c.peek.ensures c.in-Integer.in-Integer-own.keys1) (λ h. omega arith) in
    λ d F. s_prod G.integer (ap (λ (z : ℕ). choose G.type z 0) (is_at c.peek.result c.peek.ensures c.in-Integer.in-Integer-own.keys1)) (s_sy (is_at c.peek.result c.peek.ensures c.in-Integer.in-Integer-own.keys1) (s_put c.leaf.ensures.0 (omega arith) (omega arith) (omega arith) (s_end_at c.leaf.ensures.1 (omega arith))))

pub returns-in-Boolean : goal.returns-in-Boolean
returns-in-Boolean c =
    let i1 = inside _ _ (is_at c.peek.result c.peek.ensures c.in-Boolean.in-Boolean-own.keys2) (λ h. omega arith) in
    λ d F. s_prod G.boolean (ap (λ (z : ℕ). choose G.type z 0) (is_at c.peek.result c.peek.ensures c.in-Boolean.in-Boolean-own.keys2)) (s_sy (is_at c.peek.result c.peek.ensures c.in-Boolean.in-Boolean-own.keys2) (s_put c.leaf-in-Boolean.ensures.0 (omega arith) (omega arith) (omega arith) (s_end_at c.leaf-in-Boolean.ensures.1 (omega arith))))

pub returns-in-Real : goal.returns-in-Real
returns-in-Real c =
    let i1 = inside _ _ (is_at c.peek.result c.peek.ensures c.in-Real.in-Real-own.keys3) (λ h. omega arith) in
    λ d F. s_prod G.real (ap (λ (z : ℕ). choose G.type z 0) (is_at c.peek.result c.peek.ensures c.in-Real.in-Real-own.keys3)) (s_sy (is_at c.peek.result c.peek.ensures c.in-Real.in-Real-own.keys3) (s_put c.leaf-in-Real.ensures.0 (omega arith) (omega arith) (omega arith) (s_end_at c.leaf-in-Real.ensures.1 (omega arith))))

pub returns-in_default : goal.returns-in_default
returns-in_default c = λ d F. s_none c.wrong.ensures (C.else_type (is_not c.peek.result c.peek.ensures (but (11 ∷ 12 ∷ 40 ∷ [])) 11 refl (opened c.in_default.in_default-own.keys4)) (is_not c.peek.result c.peek.ensures (but (11 ∷ 12 ∷ 40 ∷ [])) 12 refl (opened c.in_default.in_default-own.keys4)) (is_not c.peek.result c.peek.ensures (but (11 ∷ 12 ∷ 40 ∷ [])) 40 refl (opened c.in_default.in_default-own.keys4)))
