use mathlib.Core.Path.{◌≡◌, refl, ap}
use mathlib.Core.List.{[], ◌∷◌}
use Prim.Native.Nat.{ℕ}
use native.Mathlib.Omega.{arith}
use Rattle.grammar.specs.model.Tables.{choose, some}
use Rattle.grammar.proofs.Sets.{all_in}
use Rattle.grammar.proofs.Peeks.{inside, inside_in, is_at, is_in, is_not, but}
use Rattle.syntax.proofs.Lemmas.{got_of, space, s_end, s_sy, s_put, s_prod, s_part, s_bad, s_exit, s_last, s_stands, s_lacks}
use Rattle.grammar.specs.Grammar as G
use Rattle.syntax.proofs.Choices as C
use Prim.Native.Nat.{ℕ}
use borrow.Enum.Refused.{opened}
use Rattle.syntax.proofs.preludes.+prelude_procedures.Goals as goal

pub prelude-procedures-requires : goal.prelude-procedures-requires
prelude-procedures-requires t c =
    let i1 = inside _ _ (is_at c.peek.result c.peek.ensures c.in-Procedure.in-Procedure-own.keys1) (λ h. omega arith) in
    (omega arith, record { inside = omega arith; short = omega arith; size = omega arith; room = omega arith })

pub prelude-returns-in_err-next-in-Integer : goal.prelude-returns-in_err-next-in-Integer
prelude-returns-in_err-next-in-Integer t c = λ F. s_exit c.from_residual.ensures.1 (s_prod G.typed_procedure (all_in (λ (z : ℕ). choose G.prelude z 0 ≡ some G.typed_procedure) (is_in c.peek.result c.peek.ensures (11 ∷ 12 ∷ 40 ∷ []) c.in-Integer.in-Integer-own.keys2) (refl, (refl, (refl, tt)))) (s_bad _ (c.in_err-next-in-Integer.ensures 0 _)))

pub prelude-returns-in_err-next-in-Integer-2 : goal.prelude-returns-in_err-next-in-Integer-2
prelude-returns-in_err-next-in-Integer-2 t c = λ F. s_exit c.from_residual-in_err-next-in-Integer-2.ensures.1 (s_prod G.typed_procedure (all_in (λ (z : ℕ). choose G.prelude z 0 ≡ some G.typed_procedure) (is_in c.peek.result c.peek.ensures (11 ∷ 12 ∷ 40 ∷ []) c.in-Integer.in-Integer-own.keys2) (refl, (refl, (refl, tt)))) (s_part _ (c.in_ok-next-in-Integer.ensures 0 _) (s_lacks c.in_err-next-in-Integer-2.ensures)))

pub prelude-procedures-requires-in-Integer : goal.prelude-procedures-requires-in-Integer
prelude-procedures-requires-in-Integer t c =
    let i1 = inside_in _ _ (11 ∷ 12 ∷ 40 ∷ []) refl (is_in c.peek.result c.peek.ensures (11 ∷ 12 ∷ 40 ∷ []) c.in-Integer.in-Integer-own.keys2) in
    let g1 = got_of (c.in_ok-next-in-Integer.ensures 0 []) in let s1 = space g1 in
    let h1 = c.in_ok-next-in-Integer-2.ensures in
    (omega arith, record { inside = omega arith; short = omega arith; size = omega arith; room = omega arith })

pub prelude-returns-in_ok-next-in-Integer-2 : goal.prelude-returns-in_ok-next-in-Integer-2
prelude-returns-in_ok-next-in-Integer-2 t c = λ F. s_prod G.typed_procedure (all_in (λ (z : ℕ). choose G.prelude z 0 ≡ some G.typed_procedure) (is_in c.peek.result c.peek.ensures (11 ∷ 12 ∷ 40 ∷ []) c.in-Integer.in-Integer-own.keys2) (refl, (refl, (refl, tt)))) (s_part _ (c.in_ok-next-in-Integer.ensures 0 _) (s_stands c.in_ok-next-in-Integer-2.ensures (s_last (c.procedures-in-Integer.ensures _))))

pub prelude-returns-in-Procedure : goal.prelude-returns-in-Procedure
prelude-returns-in-Procedure t c = λ F. s_prod G.untyped_procedure (ap (λ (z : ℕ). choose G.prelude z 0) (is_at c.peek.result c.peek.ensures c.in-Procedure.in-Procedure-own.keys1)) (s_put c.put-untyped.ensures (omega arith) (omega arith) (omega arith) (s_sy (is_at c.peek.result c.peek.ensures c.in-Procedure.in-Procedure-own.keys1) (s_last (c.procedures.ensures _))))

pub prelude-returns-in_default : goal.prelude-returns-in_default
prelude-returns-in_default t c =
    λ F. s_prod G.no_procedure (C.else_prelude (is_not c.peek.result c.peek.ensures (but (11 ∷ 12 ∷ 13 ∷ 40 ∷ [])) 11 refl (opened c.in_default.in_default-own.keys3)) (is_not c.peek.result c.peek.ensures (but (11 ∷ 12 ∷ 13 ∷ 40 ∷ [])) 12 refl (opened c.in_default.in_default-own.keys3)) (is_not c.peek.result c.peek.ensures (but (11 ∷ 12 ∷ 13 ∷ 40 ∷ [])) 40 refl (opened c.in_default.in_default-own.keys3)) (is_not c.peek.result c.peek.ensures (but (11 ∷ 12 ∷ 13 ∷ 40 ∷ [])) 13 refl (opened c.in_default.in_default-own.keys3))) (s_end (omega arith))

pub procedures-returns-in_err-next : goal.procedures-returns-in_err-next
procedures-returns-in_err-next t c = λ F. s_exit c.from_residual.ensures.1 (s_bad _ c.in_err-next.ensures)

pub procedures-returns-in_err-next-2 : goal.procedures-returns-in_err-next-2
procedures-returns-in_err-next-2 t c = λ F. s_exit c.from_residual-in_err-next-2.ensures.1 (s_part _ c.in_ok-next.ensures (s_lacks c.in_err-next-2.ensures))

pub procedures-prelude-requires : goal.procedures-prelude-requires
procedures-prelude-requires t c =
    let g1 = got_of c.in_ok-next.ensures in let s1 = space g1 in
    let h1 = c.in_ok-next-2.ensures in
    (omega arith, record { inside = omega arith; short = omega arith; size = omega arith; room = omega arith })

pub procedures-returns : goal.procedures-returns
procedures-returns t c = λ F. s_part _ c.in_ok-next.ensures (s_stands c.in_ok-next-2.ensures (s_last (c.prelude.ensures _)))
