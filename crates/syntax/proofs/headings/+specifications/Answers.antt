-- `syntax::headings::specifications` meets its contract: the symbols left fall. Assumes nothing.
use mathlib.Core.Path.{◌≡◌, refl}
use mathlib.Core.List.{[], ◌∷◌}
use Prim.Native.Nat.{ℕ}
use native.Mathlib.Omega.{arith}
use Rattle.grammar.specs.model.Tables.{choose, some}
use Rattle.grammar.proofs.Sets.{all_in}
use Rattle.grammar.proofs.Peeks.{inside_in, is_in, is_not, but}
use Rattle.syntax.proofs.Lemmas.{got_of, space, s_end, s_prod, s_part, s_bad, s_exit, s_last, s_stands, s_lacks}
use Rattle.grammar.specs.Grammar as G
use Rattle.syntax.proofs.Choices as C
use Prim.Native.Nat.{ℕ}
use borrow.Enum.Refused.{opened}
use Rattle.syntax.proofs.headings.+specifications.Goals as goal

pub returns-in_err-next-in-Integer : goal.returns-in_err-next-in-Integer
returns-in_err-next-in-Integer t c = λ d F. s_exit c.from_residual.ensures.1 (s_prod G.a_specification (all_in (λ (z : ℕ). choose G.specifications z 0 ≡ some G.a_specification) (is_in c.peek.result c.peek.ensures (11 ∷ 12 ∷ 40 ∷ []) c.in-Integer.in-Integer-own.keys1) (refl, (refl, (refl, tt)))) (s_bad _ (c.in_err-next-in-Integer.ensures _ _)))

pub list-requires : goal.list-requires
list-requires t c =
    let i1 = inside_in _ _ (11 ∷ 12 ∷ 40 ∷ []) refl (is_in c.peek.result c.peek.ensures (11 ∷ 12 ∷ 40 ∷ []) c.in-Integer.in-Integer-own.keys1) in
    let g1 = got_of (c.in_ok-next-in-Integer.ensures 0 []) in let s1 = space g1 in
    record { inside = omega arith; short = omega arith; size = omega arith; room = omega arith }

pub returns-in_err-next-in-Integer-2 : goal.returns-in_err-next-in-Integer-2
returns-in_err-next-in-Integer-2 t c = λ d F. s_exit c.from_residual-in_err-next-in-Integer-2.ensures.1 (s_prod G.a_specification (all_in (λ (z : ℕ). choose G.specifications z 0 ≡ some G.a_specification) (is_in c.peek.result c.peek.ensures (11 ∷ 12 ∷ 40 ∷ []) c.in-Integer.in-Integer-own.keys1) (refl, (refl, (refl, tt)))) (s_part _ (c.in_ok-next-in-Integer.ensures _ _) (s_bad _ (c.in_err-next-in-Integer-2.ensures _ _))))

pub returns-in_err-next-in-Integer-3 : goal.returns-in_err-next-in-Integer-3
returns-in_err-next-in-Integer-3 t c = λ d F. s_exit c.from_residual-in_err-next-in-Integer-3.ensures.1 (s_prod G.a_specification (all_in (λ (z : ℕ). choose G.specifications z 0 ≡ some G.a_specification) (is_in c.peek.result c.peek.ensures (11 ∷ 12 ∷ 40 ∷ []) c.in-Integer.in-Integer-own.keys1) (refl, (refl, (refl, tt)))) (s_part _ (c.in_ok-next-in-Integer.ensures _ _) (s_part _ (c.in_ok-next-in-Integer-2.ensures _ _) (s_lacks c.in_err-next-in-Integer-3.ensures))))

pub specifications-requires : goal.specifications-requires
specifications-requires t c =
    let i1 = inside_in _ _ (11 ∷ 12 ∷ 40 ∷ []) refl (is_in c.peek.result c.peek.ensures (11 ∷ 12 ∷ 40 ∷ []) c.in-Integer.in-Integer-own.keys1) in
    let g1 = got_of (c.in_ok-next-in-Integer.ensures 0 []) in let s1 = space g1 in
    let g2 = got_of (c.in_ok-next-in-Integer-2.ensures 0 []) in let s2 = space g2 in
    let h1 = c.in_ok-next-in-Integer-3.ensures in
    (omega arith, record { inside = omega arith; short = omega arith; size = omega arith; room = omega arith })

pub returns-in_ok-next-in-Integer-3 : goal.returns-in_ok-next-in-Integer-3
returns-in_ok-next-in-Integer-3 t c = λ d F. s_prod G.a_specification (all_in (λ (z : ℕ). choose G.specifications z 0 ≡ some G.a_specification) (is_in c.peek.result c.peek.ensures (11 ∷ 12 ∷ 40 ∷ []) c.in-Integer.in-Integer-own.keys1) (refl, (refl, (refl, tt)))) (s_part _ (c.in_ok-next-in-Integer.ensures _ _) (s_part _ (c.in_ok-next-in-Integer-2.ensures _ _) (s_stands c.in_ok-next-in-Integer-3.ensures (s_last (c.specifications.ensures _ _)))))

pub returns-in_default : goal.returns-in_default
returns-in_default t c =
    λ d F. s_prod G.no_specification (C.else_specifications (is_not c.peek.result c.peek.ensures (but (11 ∷ 12 ∷ 40 ∷ [])) 11 refl (opened c.in_default.in_default-own.keys2)) (is_not c.peek.result c.peek.ensures (but (11 ∷ 12 ∷ 40 ∷ [])) 12 refl (opened c.in_default.in_default-own.keys2)) (is_not c.peek.result c.peek.ensures (but (11 ∷ 12 ∷ 40 ∷ [])) 40 refl (opened c.in_default.in_default-own.keys2))) (s_end (omega arith))
