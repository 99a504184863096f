-- `syntax::clauses::progress` meets its contract. Assumes nothing.
use mathlib.Core.Path.{refl, ap}
use mathlib.Core.List.{[], ◌∷◌}
use Prim.Native.Nat.{ℕ}
use native.Mathlib.Omega.{arith}
use Rattle.grammar.specs.model.Tables.{choose}
use Rattle.grammar.proofs.Peeks.{inside, is_at, is_not, but}
use Rattle.syntax.proofs.Lemmas.{got_of, space, s_end, s_sy, s_put, s_prod, s_part, s_bad, s_exit, s_last}
use Rattle.grammar.specs.Grammar as G
use Rattle.syntax.proofs.Choices as C
use borrow.Enum.Refused.{opened}
use Rattle.syntax.proofs.clauses.progress.Goals as goal

pub expression-requires : goal.expression-requires
expression-requires c =
    let z = c.requires.1 in
    let r = c.requires.0 in
    let i1 = inside _ _ (is_at c.peek.result c.peek.ensures c.in-While.in-While-own.keys2) (λ h. omega arith) in
    record { inside = omega arith; short = omega arith; size = omega arith; room = omega arith }

pub put-end-requires : goal.put-end-requires
put-end-requires c =
    let z = c.requires.1 in
    let r = c.requires.0 in
    let i1 = inside _ _ (is_at c.peek.result c.peek.ensures c.in-While.in-While-own.keys2) (λ h. omega arith) in
    let g1 = got_of (c.in_ok-next-in-While.ensures []) in let s1 = space g1 in
    (omega arith, omega arith)

pub returns-in-Step : goal.returns-in-Step
returns-in-Step c = λ F. s_prod G.by_steps (ap (λ (z : ℕ). choose G.progress z 0) (is_at c.peek.result c.peek.ensures c.in-Step.in-Step-own.keys1)) (s_last (c.stepping.ensures _))

pub returns-in_err-next-in-While : goal.returns-in_err-next-in-While
returns-in_err-next-in-While c = λ F. s_exit c.from_residual.ensures.1 (s_prod G.while (ap (λ (z : ℕ). choose G.progress z 0) (is_at c.peek.result c.peek.ensures c.in-While.in-While-own.keys2)) (s_sy (is_at c.peek.result c.peek.ensures c.in-While.in-While-own.keys2) (s_bad _ (c.in_err-next-in-While.ensures _))))

pub returns-in_ok-next-in-While : goal.returns-in_ok-next-in-While
returns-in_ok-next-in-While c =
    let z = c.requires.1 in
    let r = c.requires.0 in
    let i1 = inside _ _ (is_at c.peek.result c.peek.ensures c.in-While.in-While-own.keys2) (λ h. omega arith) in
    let g1 = got_of (c.in_ok-next-in-While.ensures []) in let s1 = space g1 in
    λ F. s_prod G.while (ap (λ (z : ℕ). choose G.progress z 0) (is_at c.peek.result c.peek.ensures c.in-While.in-While-own.keys2)) (s_sy (is_at c.peek.result c.peek.ensures c.in-While.in-While-own.keys2) (s_part _ (c.in_ok-next-in-While.ensures _) (s_put c.put-end.ensures (omega arith) (omega arith) (omega arith) (s_end (omega arith)))))

pub returns-in_default : goal.returns-in_default
returns-in_default c =
    let z = c.requires.1 in
    let r = c.requires.0 in
    λ F. s_prod G.once (C.else_progress (is_not c.peek.result c.peek.ensures (but (7 ∷ 9 ∷ [])) 9 refl (opened c.in_default.in_default-own.keys3)) (is_not c.peek.result c.peek.ensures (but (7 ∷ 9 ∷ [])) 7 refl (opened c.in_default.in_default-own.keys3))) (s_put c.put-end-in_default.ensures (omega arith) (omega arith) (omega arith) (s_end (omega arith)))
