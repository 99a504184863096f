-- Statements, blocks and declarations: each reader's answer is its production read aloud; the symbols left fall, or the depth rises.
-- Assumes nothing.
use mathlib.Core.Path.{◌≡◌, refl, ap}
use mathlib.Core.List.{[], ◌∷◌}
use Prim.Native.Nat.{ℕ}
use native.Mathlib.Omega.{arith}
use Rattle.grammar.specs.model.Tables.{choose, some}
use Rattle.grammar.proofs.Sets.{all_in}
use Rattle.grammar.proofs.Peeks.{inside, inside_in, is_at, is_in, is_not, but}
use Rattle.syntax.proofs.Lemmas.{got_of, space, s_end, s_sy, s_put, s_prod, s_part, s_bad, s_exit, s_last, s_deeper, s_stands, s_lacks}
use Rattle.grammar.specs.Grammar as G
use Rattle.syntax.proofs.Choices as C
use Prim.Native.Nat.{ℕ}
use borrow.Enum.Refused.{opened}
use Rattle.syntax.proofs.statements.+statements.Goals as goal

pub alternative-nested_statement-requires : goal.alternative-nested_statement-requires
alternative-nested_statement-requires t c =
    let i1 = inside _ _ (is_at c.peek.result c.peek.ensures c.in-Else.in-Else-own.keys1) (λ h. omega arith) in
    (omega arith, record { inside = omega arith; short = omega arith; size = omega arith; room = omega arith })

pub alternative-returns-in-Else : goal.alternative-returns-in-Else
alternative-returns-in-Else t c = s_prod G.an_else (ap (λ (z : ℕ). choose G.alternative z 0) (is_at c.peek.result c.peek.ensures c.in-Else.in-Else-own.keys1)) (s_sy (is_at c.peek.result c.peek.ensures c.in-Else.in-Else-own.keys1) (s_put c.put-other.ensures (omega arith) (omega arith) (omega arith) (s_last c.nested_statement.ensures)))

pub alternative-returns-in_default : goal.alternative-returns-in_default
alternative-returns-in_default t c =
    s_prod G.no_else (C.else_alternative (is_not c.peek.result c.peek.ensures (but (4 ∷ [])) 4 refl (opened c.in_default.in_default-own.keys2))) (s_end (omega arith))

pub block-returns-in_err-expect : goal.block-returns-in_err-expect
block-returns-in_err-expect t c = λ F. s_exit c.from_residual.ensures.1 (s_prod G.begin_end refl (s_lacks c.in_err-expect.ensures))

pub block-returns-in_err-next : goal.block-returns-in_err-next
block-returns-in_err-next t c = λ F. s_exit c.from_residual-in_err-next.ensures.1 (s_prod G.begin_end refl (s_sy c.in_ok-expect.ensures.found (s_bad _ c.in_err-next.ensures)))

pub block-returns-in_err-next-2 : goal.block-returns-in_err-next-2
block-returns-in_err-next-2 t c = λ F. s_exit c.from_residual-in_err-next-2.ensures.1 (s_prod G.begin_end refl (s_sy c.in_ok-expect.ensures.found (s_part _ c.in_ok-next.ensures (s_lacks c.in_err-next-2.ensures))))

pub block-returns : goal.block-returns
block-returns t c =
    let h1 = c.in_ok-expect.ensures in
    let g1 = got_of c.in_ok-next.ensures in let s1 = space g1 in
    let h2 = c.in_ok-next-2.ensures in
    λ F. s_prod G.begin_end refl (s_sy c.in_ok-expect.ensures.found (s_part _ c.in_ok-next.ensures (s_stands c.in_ok-next-2.ensures (s_end (omega arith)))))

pub conditional-expression-requires : goal.conditional-expression-requires
conditional-expression-requires t c =
    let i0 = inside _ _ c.requires.1 (λ h. omega arith) in
    let r = c.requires.0 in
    record { inside = omega arith; short = omega arith; size = omega arith; room = omega arith }

pub conditional-returns-in_err-next : goal.conditional-returns-in_err-next
conditional-returns-in_err-next t c = s_exit c.from_residual.ensures.1 (s_sy c.requires.1 (s_bad _ (c.in_err-next.ensures _)))

pub conditional-returns-in_err-next-2 : goal.conditional-returns-in_err-next-2
conditional-returns-in_err-next-2 t c = s_exit c.from_residual-in_err-next-2.ensures.1 (s_sy c.requires.1 (s_part _ (c.in_ok-next.ensures _) (s_lacks c.in_err-next-2.ensures)))

pub conditional-put-then-requires : goal.conditional-put-then-requires
conditional-put-then-requires t c =
    let i0 = inside _ _ c.requires.1 (λ h. omega arith) in
    let r = c.requires.0 in
    let g1 = got_of (c.in_ok-next.ensures []) in let s1 = space g1 in
    let h1 = c.in_ok-next-2.ensures in
    (omega arith, omega arith)

pub conditional-consequence-requires : goal.conditional-consequence-requires
conditional-consequence-requires t c =
    let i0 = inside _ _ c.requires.1 (λ h. omega arith) in
    let r = c.requires.0 in
    let g1 = got_of (c.in_ok-next.ensures []) in let s1 = space g1 in
    let h1 = c.in_ok-next-2.ensures in
    (omega arith, record { inside = omega arith; short = omega arith; size = omega arith; room = omega arith })

pub conditional-returns-in_err-next-3 : goal.conditional-returns-in_err-next-3
conditional-returns-in_err-next-3 t c = let h1 = c.in_ok-next-2.ensures in s_exit c.from_residual-in_err-next-3.ensures.1 (s_sy c.requires.1 (s_part _ (c.in_ok-next.ensures _) (s_stands c.in_ok-next-2.ensures (s_put c.put-then.ensures (omega arith) (omega arith) (omega arith) (s_bad _ c.in_err-next-3.ensures)))))

pub conditional-put-end-requires : goal.conditional-put-end-requires
conditional-put-end-requires t c =
    let i0 = inside _ _ c.requires.1 (λ h. omega arith) in
    let r = c.requires.0 in
    let g1 = got_of (c.in_ok-next.ensures []) in let s1 = space g1 in
    let h1 = c.in_ok-next-2.ensures in
    let g2 = got_of c.in_ok-next-3.ensures in let s2 = space g2 in
    (omega arith, omega arith)

pub conditional-returns : goal.conditional-returns
conditional-returns t c =
    let i0 = inside _ _ c.requires.1 (λ h. omega arith) in
    let r = c.requires.0 in
    let g1 = got_of (c.in_ok-next.ensures []) in let s1 = space g1 in
    let h1 = c.in_ok-next-2.ensures in
    let g2 = got_of c.in_ok-next-3.ensures in let s2 = space g2 in
    s_sy c.requires.1 (s_part _ (c.in_ok-next.ensures _) (s_stands c.in_ok-next-2.ensures (s_put c.put-then.ensures (omega arith) (omega arith) (omega arith) (s_part _ c.in_ok-next-3.ensures (s_put c.put-end.ensures (omega arith) (omega arith) (omega arith) (s_end (omega arith)))))))

pub consequence-alternative-requires : goal.consequence-alternative-requires
consequence-alternative-requires t c =
    let t1 = c.if-depth-ge64.false in
    let g1 = got_of (c.in_ok-next-in_default.ensures []) in let s1 = space g1 in
    (omega arith, record { inside = omega arith; short = omega arith; size = omega arith; room = omega arith })

pub consequence-returns-in-For : goal.consequence-returns-in-For
consequence-returns-in-For t c = s_prod G.then_for (ap (λ (z : ℕ). choose G.consequence z 0) (is_at c.peek.result c.peek.ensures c.in-For.in-For-own.keys1)) (s_deeper c.if-depth-ge64.false c.repetition.ensures)

pub consequence-returns-in_err-next-in_default : goal.consequence-returns-in_err-next-in_default
consequence-returns-in_err-next-in_default t c = s_exit c.from_residual.ensures.1 (s_prod G.then_plain (C.else_consequence (is_not c.peek.result c.peek.ensures (but (5 ∷ [])) 5 refl (opened c.in_default.in_default-own.keys2))) (s_bad {A = 0} _ (s_deeper c.if-depth-ge64.false (c.in_err-next-in_default.ensures _))))

pub consequence-returns-in_ok-next-in_default : goal.consequence-returns-in_ok-next-in_default
consequence-returns-in_ok-next-in_default t c = s_prod G.then_plain (C.else_consequence (is_not c.peek.result c.peek.ensures (but (5 ∷ [])) 5 refl (opened c.in_default.in_default-own.keys2))) (s_part {A = 0} _ (s_deeper c.if-depth-ge64.false (c.in_ok-next-in_default.ensures _)) (s_last c.alternative.ensures))

pub declaration-procedure-requires : goal.declaration-procedure-requires
declaration-procedure-requires t c =
    let i1 = inside _ _ (is_at c.peek.result c.peek.ensures c.in-Procedure.in-Procedure-own.keys1) (λ h. omega arith) in
    (omega arith, record { inside = omega arith; short = omega arith; size = omega arith; room = omega arith })

pub declaration-declared-requires : goal.declaration-declared-requires
declaration-declared-requires t c =
    let g1 = got_of (c.in_ok-next-in_default.ensures 0 []) in let s1 = space g1 in
    (omega arith, record { inside = omega arith; short = omega arith; size = omega arith; room = omega arith })

pub declaration-returns-in-Procedure : goal.declaration-returns-in-Procedure
declaration-returns-in-Procedure t c = s_prod G.untyped (ap (λ (z : ℕ). choose G.declaration z 0) (is_at c.peek.result c.peek.ensures c.in-Procedure.in-Procedure-own.keys1)) (s_put c.put-untyped.ensures (omega arith) (omega arith) (omega arith) (s_sy (is_at c.peek.result c.peek.ensures c.in-Procedure.in-Procedure-own.keys1) (s_last c.procedure.ensures)))

pub declaration-returns-in_err-next-in_default : goal.declaration-returns-in_err-next-in_default
declaration-returns-in_err-next-in_default t c = s_exit c.from_residual.ensures.1 (s_prod G.typed (C.else_declaration (is_not c.peek.result c.peek.ensures (but (13 ∷ [])) 13 refl (opened c.in_default.in_default-own.keys2))) (s_bad _ (c.in_err-next-in_default.ensures _ _)))

pub declaration-returns-in_ok-next-in_default : goal.declaration-returns-in_ok-next-in_default
declaration-returns-in_ok-next-in_default t c = s_prod G.typed (C.else_declaration (is_not c.peek.result c.peek.ensures (but (13 ∷ [])) 13 refl (opened c.in_default.in_default-own.keys2))) (s_part _ (c.in_ok-next-in_default.ensures _ _) (s_last c.declared.ensures))

pub declarations-returns-in-Integer : goal.declarations-returns-in-Integer
declarations-returns-in-Integer t c = λ F. s_prod G.some_declarations (all_in (λ (z : ℕ). choose G.declarations z 0 ≡ some G.some_declarations) (is_in c.peek.result c.peek.ensures (11 ∷ 12 ∷ 13 ∷ 40 ∷ []) c.in-Integer.in-Integer-own.keys1) (refl, (refl, (refl, (refl, tt))))) (s_last (c.head.ensures _))

pub declarations-returns-in_default : goal.declarations-returns-in_default
declarations-returns-in_default t c =
    λ F. s_prod G.no_declaration (C.else_declarations (is_not c.peek.result c.peek.ensures (but (11 ∷ 12 ∷ 13 ∷ 40 ∷ [])) 11 refl (opened c.in_default.in_default-own.keys2)) (is_not c.peek.result c.peek.ensures (but (11 ∷ 12 ∷ 13 ∷ 40 ∷ [])) 12 refl (opened c.in_default.in_default-own.keys2)) (is_not c.peek.result c.peek.ensures (but (11 ∷ 12 ∷ 13 ∷ 40 ∷ [])) 13 refl (opened c.in_default.in_default-own.keys2)) (is_not c.peek.result c.peek.ensures (but (11 ∷ 12 ∷ 13 ∷ 40 ∷ [])) 40 refl (opened c.in_default.in_default-own.keys2))) (s_end (omega arith))

pub declared-procedure-requires : goal.declared-procedure-requires
declared-procedure-requires t c =
    let i1 = inside _ _ (is_at c.peek.result c.peek.ensures c.in-Procedure.in-Procedure-own.keys1) (λ h. omega arith) in
    (omega arith, record { inside = omega arith; short = omega arith; size = omega arith; room = omega arith })

pub declared-returns-in-Procedure : goal.declared-returns-in-Procedure
declared-returns-in-Procedure t c = s_prod G.function (ap (λ (z : ℕ). choose G.declared z 0) (is_at c.peek.result c.peek.ensures c.in-Procedure.in-Procedure-own.keys1)) (s_sy (is_at c.peek.result c.peek.ensures c.in-Procedure.in-Procedure-own.keys1) (s_last c.procedure.ensures))

pub declared-returns-in_default : goal.declared-returns-in_default
declared-returns-in_default t c = s_prod G.variables (C.else_declared (is_not c.peek.result c.peek.ensures (but (13 ∷ [])) 13 refl (opened c.in_default.in_default-own.keys2))) (s_last (c.list.ensures _ _))

pub head-returns-in_err-next : goal.head-returns-in_err-next
head-returns-in_err-next t c = λ F. s_exit c.from_residual.ensures.1 (s_prod G.a_head refl (s_bad _ c.in_err-next.ensures))

pub head-returns-in_err-next-2 : goal.head-returns-in_err-next-2
head-returns-in_err-next-2 t c = λ F. s_exit c.from_residual-in_err-next-2.ensures.1 (s_prod G.a_head refl (s_part _ c.in_ok-next.ensures (s_lacks c.in_err-next-2.ensures)))

pub head-declarations-requires : goal.head-declarations-requires
head-declarations-requires t c =
    let g1 = got_of c.in_ok-next.ensures in let s1 = space g1 in
    let h1 = c.in_ok-next-2.ensures in
    (omega arith, record { inside = omega arith; short = omega arith; size = omega arith; room = omega arith })

pub head-returns : goal.head-returns
head-returns t c = λ F. s_prod G.a_head refl (s_part _ c.in_ok-next.ensures (s_stands c.in_ok-next-2.ensures (s_last (c.declarations.ensures _))))

pub inner-put-first-requires : goal.inner-put-first-requires
inner-put-first-requires t c =
    let i1 = inside_in _ _ (11 ∷ 12 ∷ 13 ∷ 40 ∷ []) refl (is_in c.peek.result c.peek.ensures (11 ∷ 12 ∷ 13 ∷ 40 ∷ []) c.in-Integer.in-Integer-own.keys1) in
    let g1 = got_of (c.in_ok-next-in-Integer.ensures []) in let s1 = space g1 in
    (omega arith, omega arith)

pub inner-tail-requires : goal.inner-tail-requires
inner-tail-requires t c =
    let i1 = inside_in _ _ (11 ∷ 12 ∷ 13 ∷ 40 ∷ []) refl (is_in c.peek.result c.peek.ensures (11 ∷ 12 ∷ 13 ∷ 40 ∷ []) c.in-Integer.in-Integer-own.keys1) in
    let g1 = got_of (c.in_ok-next-in-Integer.ensures []) in let s1 = space g1 in
    (omega arith, record { inside = omega arith; short = omega arith; size = omega arith; room = omega arith })

pub inner-put-end-requires : goal.inner-put-end-requires
inner-put-end-requires t c =
    let i1 = inside_in _ _ (11 ∷ 12 ∷ 13 ∷ 40 ∷ []) refl (is_in c.peek.result c.peek.ensures (11 ∷ 12 ∷ 13 ∷ 40 ∷ []) c.in-Integer.in-Integer-own.keys1) in
    let g1 = got_of (c.in_ok-next-in-Integer.ensures []) in let s1 = space g1 in
    let g2 = got_of c.in_ok-next-in-Integer-2.ensures in let s2 = space g2 in
    (omega arith, omega arith)

pub inner-returns-in_err-next-in-Integer : goal.inner-returns-in_err-next-in-Integer
inner-returns-in_err-next-in-Integer t c = s_exit c.from_residual.ensures.1 (s_prod G.a_block (all_in (λ (z : ℕ). choose G.inner z 0 ≡ some G.a_block) (is_in c.peek.result c.peek.ensures (11 ∷ 12 ∷ 13 ∷ 40 ∷ []) c.in-Integer.in-Integer-own.keys1) (refl, (refl, (refl, (refl, tt))))) (s_put c.put-opened.ensures (omega arith) (omega arith) (omega arith) (s_bad _ (c.in_err-next-in-Integer.ensures _))))

pub inner-returns-in_err-next-in-Integer-2 : goal.inner-returns-in_err-next-in-Integer-2
inner-returns-in_err-next-in-Integer-2 t c = s_exit c.from_residual-in_err-next-in-Integer-2.ensures.1 (s_prod G.a_block (all_in (λ (z : ℕ). choose G.inner z 0 ≡ some G.a_block) (is_in c.peek.result c.peek.ensures (11 ∷ 12 ∷ 13 ∷ 40 ∷ []) c.in-Integer.in-Integer-own.keys1) (refl, (refl, (refl, (refl, tt))))) (s_put c.put-opened.ensures (omega arith) (omega arith) (omega arith) (s_part _ (c.in_ok-next-in-Integer.ensures _) (s_put c.put-first.ensures (omega arith) (omega arith) (omega arith) (s_bad _ c.in_err-next-in-Integer-2.ensures)))))

pub inner-returns-in_ok-next-in-Integer-2 : goal.inner-returns-in_ok-next-in-Integer-2
inner-returns-in_ok-next-in-Integer-2 t c =
    let i1 = inside_in _ _ (11 ∷ 12 ∷ 13 ∷ 40 ∷ []) refl (is_in c.peek.result c.peek.ensures (11 ∷ 12 ∷ 13 ∷ 40 ∷ []) c.in-Integer.in-Integer-own.keys1) in
    let g1 = got_of (c.in_ok-next-in-Integer.ensures []) in let s1 = space g1 in
    let g2 = got_of c.in_ok-next-in-Integer-2.ensures in let s2 = space g2 in
    s_prod G.a_block (all_in (λ (z : ℕ). choose G.inner z 0 ≡ some G.a_block) (is_in c.peek.result c.peek.ensures (11 ∷ 12 ∷ 13 ∷ 40 ∷ []) c.in-Integer.in-Integer-own.keys1) (refl, (refl, (refl, (refl, tt))))) (s_put c.put-opened.ensures (omega arith) (omega arith) (omega arith) (s_part _ (c.in_ok-next-in-Integer.ensures _) (s_put c.put-first.ensures (omega arith) (omega arith) (omega arith) (s_part _ c.in_ok-next-in-Integer-2.ensures (s_put c.put-end.ensures (omega arith) (omega arith) (omega arith) (s_end (omega arith)))))))

pub inner-returns-in_default : goal.inner-returns-in_default
inner-returns-in_default t c = s_prod G.a_compound (C.else_inner (is_not c.peek.result c.peek.ensures (but (11 ∷ 12 ∷ 13 ∷ 40 ∷ [])) 11 refl (opened c.in_default.in_default-own.keys2)) (is_not c.peek.result c.peek.ensures (but (11 ∷ 12 ∷ 13 ∷ 40 ∷ [])) 12 refl (opened c.in_default.in_default-own.keys2)) (is_not c.peek.result c.peek.ensures (but (11 ∷ 12 ∷ 13 ∷ 40 ∷ [])) 13 refl (opened c.in_default.in_default-own.keys2)) (is_not c.peek.result c.peek.ensures (but (11 ∷ 12 ∷ 13 ∷ 40 ∷ [])) 40 refl (opened c.in_default.in_default-own.keys2))) (s_last c.tail-in_default.ensures)

pub nested_statement-returns : goal.nested_statement-returns
nested_statement-returns t c = s_deeper c.if-depth-ge64.false c.statement-2.ensures

pub procedure-put-body-requires : goal.procedure-put-body-requires
procedure-put-body-requires t c =
    let g1 = got_of (c.in_ok-next.ensures 0 []) in let s1 = space g1 in
    (omega arith, omega arith)

pub procedure-nested_statement-requires : goal.procedure-nested_statement-requires
procedure-nested_statement-requires t c =
    let g1 = got_of (c.in_ok-next.ensures 0 []) in let s1 = space g1 in
    (omega arith, record { inside = omega arith; short = omega arith; size = omega arith; room = omega arith })

pub procedure-put-end-requires : goal.procedure-put-end-requires
procedure-put-end-requires t c =
    let g1 = got_of (c.in_ok-next.ensures 0 []) in let s1 = space g1 in
    let g2 = got_of c.in_ok-next-2.ensures in let s2 = space g2 in
    (omega arith, omega arith)

pub procedure-returns-in_err-next : goal.procedure-returns-in_err-next
procedure-returns-in_err-next t c = s_exit c.from_residual.ensures.1 (s_prod G.a_procedure refl (s_bad _ (c.in_err-next.ensures _ _)))

pub procedure-returns-in_err-next-2 : goal.procedure-returns-in_err-next-2
procedure-returns-in_err-next-2 t c = s_exit c.from_residual-in_err-next-2.ensures.1 (s_prod G.a_procedure refl (s_part _ (c.in_ok-next.ensures _ _) (s_put c.put-body.ensures (omega arith) (omega arith) (omega arith) (s_bad _ c.in_err-next-2.ensures))))

pub procedure-returns : goal.procedure-returns
procedure-returns t c =
    let g1 = got_of (c.in_ok-next.ensures 0 []) in let s1 = space g1 in
    let g2 = got_of c.in_ok-next-2.ensures in let s2 = space g2 in
    s_prod G.a_procedure refl (s_part _ (c.in_ok-next.ensures _ _) (s_put c.put-body.ensures (omega arith) (omega arith) (omega arith) (s_part _ c.in_ok-next-2.ensures (s_put c.put-end.ensures (omega arith) (omega arith) (omega arith) (s_end (omega arith))))))

pub repetition-nested_statement-requires : goal.repetition-nested_statement-requires
repetition-nested_statement-requires t c =
    let g1 = got_of (c.in_ok-next.ensures []) in let s1 = space g1 in
    (omega arith, record { inside = omega arith; short = omega arith; size = omega arith; room = omega arith })

pub repetition-put-end-requires : goal.repetition-put-end-requires
repetition-put-end-requires t c =
    let g1 = got_of (c.in_ok-next.ensures []) in let s1 = space g1 in
    let g2 = got_of c.in_ok-next-2.ensures in let s2 = space g2 in
    (omega arith, omega arith)

pub repetition-returns-in_err-next : goal.repetition-returns-in_err-next
repetition-returns-in_err-next t c = s_exit c.from_residual.ensures.1 (s_prod G.a_for refl (s_bad _ (c.in_err-next.ensures _)))

pub repetition-returns-in_err-next-2 : goal.repetition-returns-in_err-next-2
repetition-returns-in_err-next-2 t c = s_exit c.from_residual-in_err-next-2.ensures.1 (s_prod G.a_for refl (s_part _ (c.in_ok-next.ensures _) (s_bad _ c.in_err-next-2.ensures)))

pub repetition-returns : goal.repetition-returns
repetition-returns t c =
    let g1 = got_of (c.in_ok-next.ensures []) in let s1 = space g1 in
    let g2 = got_of c.in_ok-next-2.ensures in let s2 = space g2 in
    s_prod G.a_for refl (s_part _ (c.in_ok-next.ensures _) (s_part _ c.in_ok-next-2.ensures (s_put c.put-end.ensures (omega arith) (omega arith) (omega arith) (s_end (omega arith)))))

pub statement-returns-in-If : goal.statement-returns-in-If
statement-returns-in-If t c = s_prod G.conditional (ap (λ (z : ℕ). choose G.statement z 0) (is_at c.peek.result c.peek.ensures c.in-If.in-If-own.keys1)) c.conditional.ensures

pub statement-returns-in-For : goal.statement-returns-in-For
statement-returns-in-For t c = s_prod G.repeated (ap (λ (z : ℕ). choose G.statement z 0) (is_at c.peek.result c.peek.ensures c.in-For.in-For-own.keys2)) (s_last c.repetition.ensures)

pub statement-returns-in_default : goal.statement-returns-in_default
statement-returns-in_default t c = s_prod G.plain (C.else_statement (is_not c.peek.result c.peek.ensures (but (2 ∷ 5 ∷ [])) 2 refl (opened c.in_default.in_default-own.keys3)) (is_not c.peek.result c.peek.ensures (but (2 ∷ 5 ∷ [])) 5 refl (opened c.in_default.in_default-own.keys3))) (s_last (c.unconditional.ensures _))

pub statements-tail-requires : goal.statements-tail-requires
statements-tail-requires t c =
    let i1 = inside _ _ (is_at c.peek.result c.peek.ensures c.in-Semicolon.in-Semicolon-own.keys1) (λ h. omega arith) in
    (omega arith, record { inside = omega arith; short = omega arith; size = omega arith; room = omega arith })

pub statements-returns-in-Semicolon : goal.statements-returns-in-Semicolon
statements-returns-in-Semicolon t c = s_prod G.a_statement (ap (λ (z : ℕ). choose G.statements z 0) (is_at c.peek.result c.peek.ensures c.in-Semicolon.in-Semicolon-own.keys1)) (s_sy (is_at c.peek.result c.peek.ensures c.in-Semicolon.in-Semicolon-own.keys1) (s_last c.tail.ensures))

pub statements-returns-in_default : goal.statements-returns-in_default
statements-returns-in_default t c =
    s_prod G.no_statement (C.else_statements (is_not c.peek.result c.peek.ensures (but (35 ∷ [])) 35 refl (opened c.in_default.in_default-own.keys2))) (s_end (omega arith))

pub tail-statements-requires : goal.tail-statements-requires
tail-statements-requires t c =
    let g1 = got_of c.in_ok-next.ensures in let s1 = space g1 in
    (omega arith, record { inside = omega arith; short = omega arith; size = omega arith; room = omega arith })

pub tail-returns-in_err-next : goal.tail-returns-in_err-next
tail-returns-in_err-next t c = s_exit c.from_residual.ensures.1 (s_prod G.a_tail refl (s_bad _ c.in_err-next.ensures))

pub tail-returns : goal.tail-returns
tail-returns t c = s_prod G.a_tail refl (s_part _ c.in_ok-next.ensures (s_last c.statements.ensures))

pub unconditional-named-requires : goal.unconditional-named-requires
unconditional-named-requires t c =
    let i1 = inside _ _ (is_at c.peek.result c.peek.ensures c.in-Name.in-Name-own.keys1) (λ h. omega arith) in
    record { inside = omega arith; short = omega arith; size = omega arith; room = omega arith }

pub unconditional-returns-in-Name : goal.unconditional-returns-in-Name
unconditional-returns-in-Name t c = λ F. s_prod G.with_name (ap (λ (z : ℕ). choose G.unconditional z 0) (is_at c.peek.result c.peek.ensures c.in-Name.in-Name-own.keys1)) (s_sy (is_at c.peek.result c.peek.ensures c.in-Name.in-Name-own.keys1) (s_last (c.named.ensures _)))

pub unconditional-returns-in-Begin : goal.unconditional-returns-in-Begin
unconditional-returns-in-Begin t c = λ F. s_prod G.compound (ap (λ (z : ℕ). choose G.unconditional z 0) (is_at c.peek.result c.peek.ensures c.in-Begin.in-Begin-own.keys2)) (s_last (c.block.ensures _))

pub unconditional-returns-in_default : goal.unconditional-returns-in_default
unconditional-returns-in_default t c =
    λ F. s_prod G.dummy (C.else_unconditional (is_not c.peek.result c.peek.ensures (but (0 ∷ 38 ∷ [])) 38 refl (opened c.in_default.in_default-own.keys3)) (is_not c.peek.result c.peek.ensures (but (0 ∷ 38 ∷ [])) 0 refl (opened c.in_default.in_default-own.keys3))) (s_end (omega arith))
