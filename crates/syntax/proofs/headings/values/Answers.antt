-- `syntax::headings::values` meets its contract: the list to its last symbol, or nothing. Assumes nothing.
use mathlib.Core.Path.{refl, ap}
use mathlib.Core.List.{[], ◌∷◌}
use Prim.Native.Nat.{ℕ}
use native.Mathlib.Omega.{arith}
use Rattle.grammar.specs.model.Tables.{choose}
use Rattle.grammar.proofs.Peeks.{inside, is_at, is_not, but}
use Rattle.syntax.proofs.Lemmas.{s_end, s_sy, s_prod, s_last}
use Rattle.grammar.specs.Grammar as G
use Rattle.syntax.proofs.Choices as C
use borrow.Enum.Refused.{opened}
use Rattle.syntax.proofs.headings.values.Goals as goal

pub list_to-requires : goal.list_to-requires
list_to-requires c =
    let i = inside _ _ (is_at c.peek.result c.peek.ensures c.in-Value.in-Value-own.keys1) (λ h. omega arith) in
    (record { inside = omega arith; short = omega arith; size = omega arith; room = omega arith }, λ h. omega arith)

pub returns-in-Value : goal.returns-in-Value
returns-in-Value c =
    let e = is_at c.peek.result c.peek.ensures c.in-Value.in-Value-own.keys1 in
    λ d F. s_prod G.some_values (ap (λ (z : ℕ). choose G.values z 0) e) (s_sy e (s_last (c.list_to.ensures d F)))

pub returns-in_default : goal.returns-in_default
returns-in_default c =
    λ d F. s_prod G.no_values (C.else_values (is_not c.peek.result c.peek.ensures (but (14 ∷ [])) 14 refl (opened c.in_default.in_default-own.keys2))) (s_end (omega arith))
