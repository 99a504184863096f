-- Expressions: each reader's answer is its production read aloud; the symbols left fall, or at one symbol the binding does.
-- Assumes nothing.
use mathlib.Core.Path.{refl, sym, ap, ◌∙◌}
use mathlib.Core.List.{[], ◌∷◌}
use Prim.Native.Nat.{ℕ, ◌+◌}
use native.Mathlib.Omega.{arith}
use Rattle.grammar.specs.model.Tables.{choose}
use Rattle.grammar.specs.model.Text.{text, kind_at}
use Rattle.grammar.proofs.Peeks.{inside, is_at, is_not, but}
use Rattle.syntax.proofs.Lemmas.{says_limit, got_of, space, s_end, s_end_at, s_sy, s_put, s_none, s_prod, s_part, s_bad, s_exit, s_last, s_deeper, s_stands, s_lacks}
use Rattle.grammar.specs.Grammar as G
use Rattle.grammar.specs.declared.Level.TheVariants as L
use Rattle.syntax.proofs.Choices as C
use Rattle.syntax.specs.model.Operators.{operator_of, relation_of}
use Rattle.syntax.proofs.Lemmas.{s_operand}
use Prim.Native.Nat.{ℕ}
use borrow.Enum.Refused.{opened}
use Rattle.syntax.proofs.expressions.+expressions.Goals as goal
use Rattle.syntax.proofs.expressions.+expressions.Goals.{operand-in-Product, operand-in-Sum, operand-in-Conjunction, operand-in-Disjunction, operand-in-Implication, operand-in-Equivalence}

pub actual-put-end-requires : goal.actual-put-end-requires
actual-put-end-requires t c =
    let g1 = got_of (c.in_ok-next.ensures []) in let s1 = space g1 in
    (omega arith, omega arith)

pub actual-returns-in_err-next : goal.actual-returns-in_err-next
actual-returns-in_err-next t c = λ F. s_exit c.from_residual.ensures.1 (s_prod G.an_actual_lem refl (s_bad _ (c.in_err-next.ensures _)))

pub actual-returns : goal.actual-returns
actual-returns t c =
    let g1 = got_of (c.in_ok-next.ensures []) in let s1 = space g1 in
    λ F. s_prod G.an_actual_lem refl (s_part _ (c.in_ok-next.ensures _) (s_put c.put-end.ensures (omega arith) (omega arith) (omega arith) (s_end (omega arith))))

pub actuals-actual-requires : goal.actuals-actual-requires
actuals-actual-requires t c =
    let i1 = inside _ _ (is_at c.peek.result c.peek.ensures c.in-Open.in-Open-own.keys1) (λ h. omega arith) in
    (omega arith, record { inside = omega arith; short = omega arith; size = omega arith; room = omega arith })

pub actuals-returns-in_err-next-in-Open : goal.actuals-returns-in_err-next-in-Open
actuals-returns-in_err-next-in-Open t c = λ F. s_exit c.from_residual.ensures.1 (s_prod (G.with c.args.u) (ap (λ (z : ℕ). choose (G.actuals c.args.u) z 0) (is_at c.peek.result c.peek.ensures c.in-Open.in-Open-own.keys1)) (s_put c.put-call.ensures (omega arith) (omega arith) c.use_number-n.ensures (s_sy (is_at c.peek.result c.peek.ensures c.in-Open.in-Open-own.keys1) (s_bad _ (c.in_err-next-in-Open.ensures _)))))

pub actuals-further_actuals-requires : goal.actuals-further_actuals-requires
actuals-further_actuals-requires t c =
    let i1 = inside _ _ (is_at c.peek.result c.peek.ensures c.in-Open.in-Open-own.keys1) (λ h. omega arith) in
    let g1 = got_of (c.in_ok-next-in-Open.ensures []) in let s1 = space g1 in
    (omega arith, record { inside = omega arith; short = omega arith; size = omega arith; room = omega arith })

pub actuals-returns-in_err-next-in-Open-2 : goal.actuals-returns-in_err-next-in-Open-2
actuals-returns-in_err-next-in-Open-2 t c = λ F. s_exit c.from_residual-in_err-next-in-Open-2.ensures.1 (s_prod (G.with c.args.u) (ap (λ (z : ℕ). choose (G.actuals c.args.u) z 0) (is_at c.peek.result c.peek.ensures c.in-Open.in-Open-own.keys1)) (s_put c.put-call.ensures (omega arith) (omega arith) c.use_number-n.ensures (s_sy (is_at c.peek.result c.peek.ensures c.in-Open.in-Open-own.keys1) (s_part _ (c.in_ok-next-in-Open.ensures _) (s_bad _ (c.in_err-next-in-Open-2.ensures _))))))

pub actuals-returns-in_err-next-in-Open-3 : goal.actuals-returns-in_err-next-in-Open-3
actuals-returns-in_err-next-in-Open-3 t c = λ F. s_exit c.from_residual-in_err-next-in-Open-3.ensures.1 (s_prod (G.with c.args.u) (ap (λ (z : ℕ). choose (G.actuals c.args.u) z 0) (is_at c.peek.result c.peek.ensures c.in-Open.in-Open-own.keys1)) (s_put c.put-call.ensures (omega arith) (omega arith) c.use_number-n.ensures (s_sy (is_at c.peek.result c.peek.ensures c.in-Open.in-Open-own.keys1) (s_part _ (c.in_ok-next-in-Open.ensures _) (s_part _ (c.in_ok-next-in-Open-2.ensures _) (s_lacks c.in_err-next-in-Open-3.ensures))))))

pub actuals-put-end-requires : goal.actuals-put-end-requires
actuals-put-end-requires t c =
    let i1 = inside _ _ (is_at c.peek.result c.peek.ensures c.in-Open.in-Open-own.keys1) (λ h. omega arith) in
    let g1 = got_of (c.in_ok-next-in-Open.ensures []) in let s1 = space g1 in
    let g2 = got_of (c.in_ok-next-in-Open-2.ensures []) in let s2 = space g2 in
    let h1 = c.in_ok-next-in-Open-3.ensures in
    (omega arith, omega arith)

pub actuals-returns-in_ok-next-in-Open-3 : goal.actuals-returns-in_ok-next-in-Open-3
actuals-returns-in_ok-next-in-Open-3 t c =
    let i1 = inside _ _ (is_at c.peek.result c.peek.ensures c.in-Open.in-Open-own.keys1) (λ h. omega arith) in
    let g1 = got_of (c.in_ok-next-in-Open.ensures []) in let s1 = space g1 in
    let g2 = got_of (c.in_ok-next-in-Open-2.ensures []) in let s2 = space g2 in
    let h1 = c.in_ok-next-in-Open-3.ensures in
    λ F. s_prod (G.with c.args.u) (ap (λ (z : ℕ). choose (G.actuals c.args.u) z 0) (is_at c.peek.result c.peek.ensures c.in-Open.in-Open-own.keys1)) (s_put c.put-call.ensures (omega arith) (omega arith) c.use_number-n.ensures (s_sy (is_at c.peek.result c.peek.ensures c.in-Open.in-Open-own.keys1) (s_part _ (c.in_ok-next-in-Open.ensures _) (s_part _ (c.in_ok-next-in-Open-2.ensures _) (s_stands c.in_ok-next-in-Open-3.ensures (s_put c.put-end.ensures (omega arith) (omega arith) c.use_number-n.ensures (s_end (omega arith))))))))

pub actuals-returns-in_default : goal.actuals-returns-in_default
actuals-returns-in_default t c =
    λ F. s_prod (G.bare c.args.u) (C.else_actuals c.args.u (is_not c.peek.result c.peek.ensures (but (36 ∷ [])) 36 refl (opened c.in_default.in_default-own.keys2))) (s_put c.put-end-in_default.ensures (omega arith) (omega arith) c.use_number-n.ensures (s_end (omega arith)))

pub chain-more-requires : goal.chain-more-requires
chain-more-requires t c =
    let g1 = got_of (c.in_ok-next.ensures []) in let s1 = space g1 in
    let o = C.operand_words c.args.l in
    (omega arith, record { inside = omega arith; short = omega arith; size = omega arith; room = omega arith })

pub chain-returns-in_err-next : goal.chain-returns-in_err-next
chain-returns-in_err-next t c = λ F. s_exit c.from_residual.ensures.1 (s_bad _ (c.in_err-next.ensures _))

pub chain-returns-in_err-next-2 : goal.chain-returns-in_err-next-2
chain-returns-in_err-next-2 t c = λ F. s_exit c.from_residual-in_err-next-2.ensures.1 (s_part _ (c.in_ok-next.ensures _) (s_last (c.in_err-next-2.ensures _)))

pub chain-returns : goal.chain-returns
chain-returns t c = λ F. s_part _ (c.in_ok-next.ensures _) (s_last (c.in_ok-next-2.ensures _))

pub comparison-returns-in_default : goal.comparison-returns-in_default
comparison-returns-in_default t c =
    λ F. s_prod G.no_comparison (C.relation_none _ (kind_at (text c.args.kinds.now) (c.args.pos + 1)) (ap relation_of (sym c.peek.ensures) ∙ c.in_default.ensures)) (s_end (omega arith))

pub comparison-sum-requires : goal.comparison-sum-requires
comparison-sum-requires t c =
    let f = (C.relation_found _ (kind_at (text c.args.kinds.now) (c.args.pos + 1)) (sym (c.in-Some.ensures.0 ∙ ap relation_of c.peek.ensures)) c.in-Some.ensures.1) in
    let i1 = inside _ _ f.symbol (C.relation_low f.op) in
    (omega arith, record { inside = omega arith; short = omega arith; size = omega arith; room = omega arith })

pub comparison-put-end-requires : goal.comparison-put-end-requires
comparison-put-end-requires t c =
    let g1 = got_of (c.in_ok-next.ensures []) in let s1 = space g1 in
    let f = (C.relation_found _ (kind_at (text c.args.kinds.now) (c.args.pos + 1)) (sym (c.in-Some.ensures.0 ∙ ap relation_of c.peek.ensures)) c.in-Some.ensures.1) in
    let i1 = inside _ _ f.symbol (C.relation_low f.op) in
    (omega arith, omega arith)

pub comparison-returns-in_err-next : goal.comparison-returns-in_err-next
comparison-returns-in_err-next t c = let f = (C.relation_found _ (kind_at (text c.args.kinds.now) (c.args.pos + 1)) (sym (c.in-Some.ensures.0 ∙ ap relation_of c.peek.ensures)) c.in-Some.ensures.1) in λ F. s_exit c.from_residual.ensures.1 (s_prod (G.compare f.op) f.taken (s_sy f.symbol (s_bad _ (c.in_err-next.ensures _))))

pub comparison-returns : goal.comparison-returns
comparison-returns t c =
    let g1 = got_of (c.in_ok-next.ensures []) in let s1 = space g1 in
    let f = (C.relation_found _ (kind_at (text c.args.kinds.now) (c.args.pos + 1)) (sym (c.in-Some.ensures.0 ∙ ap relation_of c.peek.ensures)) c.in-Some.ensures.1) in
    let i1 = inside _ _ f.symbol (C.relation_low f.op) in
    let f = (C.relation_found _ (kind_at (text c.args.kinds.now) (c.args.pos + 1)) (sym (c.in-Some.ensures.0 ∙ ap relation_of c.peek.ensures)) c.in-Some.ensures.1) in λ F. s_prod (G.compare f.op) f.taken (s_sy f.symbol (s_part _ (c.in_ok-next.ensures _) (s_put c.put-end.ensures (omega arith) f.number (omega arith) (s_end (omega arith)))))

pub condition-nested-requires : goal.condition-nested-requires
condition-nested-requires t c =
    let i0 = inside _ _ c.requires.1 (λ h. omega arith) in
    let r = c.requires.0 in
    (omega arith, record { inside = omega arith; short = omega arith; size = omega arith; room = omega arith })

pub condition-returns-in_err-next : goal.condition-returns-in_err-next
condition-returns-in_err-next t c = λ F. s_exit c.from_residual.ensures.1 (s_sy c.requires.1 (s_bad _ (c.in_err-next.ensures _)))

pub condition-returns-in_err-next-2 : goal.condition-returns-in_err-next-2
condition-returns-in_err-next-2 t c = λ F. s_exit c.from_residual-in_err-next-2.ensures.1 (s_sy c.requires.1 (s_part _ (c.in_ok-next.ensures _) (s_lacks c.in_err-next-2.ensures)))

pub condition-put-then-requires : goal.condition-put-then-requires
condition-put-then-requires t c =
    let i0 = inside _ _ c.requires.1 (λ h. omega arith) in
    let r = c.requires.0 in
    let g1 = got_of (c.in_ok-next.ensures []) in let s1 = space g1 in
    let h1 = c.in_ok-next-2.ensures in
    (omega arith, omega arith)

pub condition-nested_simple-requires : goal.condition-nested_simple-requires
condition-nested_simple-requires t c =
    let i0 = inside _ _ c.requires.1 (λ h. omega arith) in
    let r = c.requires.0 in
    let g1 = got_of (c.in_ok-next.ensures []) in let s1 = space g1 in
    let h1 = c.in_ok-next-2.ensures in
    (omega arith, record { inside = omega arith; short = omega arith; size = omega arith; room = omega arith })

pub condition-returns-in_err-next-3 : goal.condition-returns-in_err-next-3
condition-returns-in_err-next-3 t c = let h1 = c.in_ok-next-2.ensures in λ F. s_exit c.from_residual-in_err-next-3.ensures.1 (s_sy c.requires.1 (s_part _ (c.in_ok-next.ensures _) (s_stands c.in_ok-next-2.ensures (s_put c.put-then.ensures (omega arith) (omega arith) (omega arith) (s_bad _ (c.in_err-next-3.ensures _))))))

pub condition-otherwise-requires : goal.condition-otherwise-requires
condition-otherwise-requires t c =
    let i0 = inside _ _ c.requires.1 (λ h. omega arith) in
    let r = c.requires.0 in
    let g1 = got_of (c.in_ok-next.ensures []) in let s1 = space g1 in
    let h1 = c.in_ok-next-2.ensures in
    let g2 = got_of (c.in_ok-next-3.ensures []) in let s2 = space g2 in
    (omega arith, record { inside = omega arith; short = omega arith; size = omega arith; room = omega arith })

pub condition-returns : goal.condition-returns
condition-returns t c = let h1 = c.in_ok-next-2.ensures in λ F. s_sy c.requires.1 (s_part _ (c.in_ok-next.ensures _) (s_stands c.in_ok-next-2.ensures (s_put c.put-then.ensures (omega arith) (omega arith) (omega arith) (s_part _ (c.in_ok-next-3.ensures _) (s_last (c.otherwise.ensures _))))))

pub expression-returns-in-If : goal.expression-returns-in-If
expression-returns-in-If t c = λ F. s_prod G.a_condition (ap (λ (z : ℕ). choose G.expression z 0) (is_at c.peek.result c.peek.ensures c.in-If.in-If-own.keys1)) (c.condition.ensures F)

pub expression-returns-in_default : goal.expression-returns-in_default
expression-returns-in_default t c = λ F. s_prod G.simple (C.else_expression (is_not c.peek.result c.peek.ensures (but (2 ∷ [])) 2 refl (opened c.in_default.in_default-own.keys2))) (s_prod (G.chain L.Equivalence) refl (c.chain.ensures F))

pub further_actuals-actual-requires : goal.further_actuals-actual-requires
further_actuals-actual-requires t c =
    let i1 = inside _ _ (is_at c.peek.result c.peek.ensures c.in-Comma.in-Comma-own.keys1) (λ h. omega arith) in
    (omega arith, record { inside = omega arith; short = omega arith; size = omega arith; room = omega arith })

pub further_actuals-further_actuals-requires : goal.further_actuals-further_actuals-requires
further_actuals-further_actuals-requires t c =
    let i1 = inside _ _ (is_at c.peek.result c.peek.ensures c.in-Comma.in-Comma-own.keys1) (λ h. omega arith) in
    let g1 = got_of (c.in_ok-next-in-Comma.ensures []) in let s1 = space g1 in
    (omega arith, record { inside = omega arith; short = omega arith; size = omega arith; room = omega arith })

pub further_actuals-returns-in_err-next-in-Comma : goal.further_actuals-returns-in_err-next-in-Comma
further_actuals-returns-in_err-next-in-Comma t c = λ F. s_exit c.from_residual.ensures.1 (s_prod G.another_actual (ap (λ (z : ℕ). choose G.further_actuals z 0) (is_at c.peek.result c.peek.ensures c.in-Comma.in-Comma-own.keys1)) (s_sy (is_at c.peek.result c.peek.ensures c.in-Comma.in-Comma-own.keys1) (s_bad _ (c.in_err-next-in-Comma.ensures _))))

pub further_actuals-returns-in_ok-next-in-Comma : goal.further_actuals-returns-in_ok-next-in-Comma
further_actuals-returns-in_ok-next-in-Comma t c = λ F. s_prod G.another_actual (ap (λ (z : ℕ). choose G.further_actuals z 0) (is_at c.peek.result c.peek.ensures c.in-Comma.in-Comma-own.keys1)) (s_sy (is_at c.peek.result c.peek.ensures c.in-Comma.in-Comma-own.keys1) (s_part _ (c.in_ok-next-in-Comma.ensures _) (s_last (c.further_actuals.ensures _))))

pub further_actuals-returns-in_default : goal.further_actuals-returns-in_default
further_actuals-returns-in_default t c =
    λ F. s_prod G.no_actual (C.else_further_actuals (is_not c.peek.result c.peek.ensures (but (32 ∷ [])) 32 refl (opened c.in_default.in_default-own.keys2))) (s_end (omega arith))

pub more-returns-in_default : goal.more-returns-in_default
more-returns-in_default t c =
    let o = C.operand_words c.args.l in
    let q = C.rank_small c.args.l in
    λ F. s_prod (G.no_more c.args.l) (C.op_none c.args.l _ (kind_at (text c.args.kinds.now) (c.args.pos + 1)) (ap (operator_of c.args.l) (sym c.peek.ensures) ∙ c.in_default.ensures)) (s_end (omega arith))

pub more-operand-requires : goal.more-operand-requires
more-operand-requires t c =
    let f = (C.op_found c.args.l _ (kind_at (text c.args.kinds.now) (c.args.pos + 1)) (sym (c.in-Some.ensures.0 ∙ ap (operator_of c.args.l) c.peek.ensures)) c.in-Some.ensures.1) in
    let i1 = inside _ _ f.symbol (C.op_low f.op) in
    let o = C.operand_words c.args.l in
    let q = C.rank_small c.args.l in
    (omega arith, record { inside = omega arith; short = omega arith; size = omega arith; room = omega arith })

pub more-put-end-requires : goal.more-put-end-requires
more-put-end-requires t c =
    let g1 = got_of (c.in_ok-next.ensures []) in let s1 = space g1 in
    let f = (C.op_found c.args.l _ (kind_at (text c.args.kinds.now) (c.args.pos + 1)) (sym (c.in-Some.ensures.0 ∙ ap (operator_of c.args.l) c.peek.ensures)) c.in-Some.ensures.1) in
    let i1 = inside _ _ f.symbol (C.op_low f.op) in
    let o = C.operand_words c.args.l in
    let q = C.rank_small c.args.l in
    (omega arith, omega arith)

pub more-more-requires : goal.more-more-requires
more-more-requires t c =
    let g1 = got_of (c.in_ok-next.ensures []) in let s1 = space g1 in
    let f = (C.op_found c.args.l _ (kind_at (text c.args.kinds.now) (c.args.pos + 1)) (sym (c.in-Some.ensures.0 ∙ ap (operator_of c.args.l) c.peek.ensures)) c.in-Some.ensures.1) in
    let i1 = inside _ _ f.symbol (C.op_low f.op) in
    let o = C.operand_words c.args.l in
    let q = C.rank_small c.args.l in
    (omega arith, record { inside = omega arith; short = omega arith; size = omega arith; room = omega arith })

pub more-returns-in_err-next : goal.more-returns-in_err-next
more-returns-in_err-next t c = let f = (C.op_found c.args.l _ (kind_at (text c.args.kinds.now) (c.args.pos + 1)) (sym (c.in-Some.ensures.0 ∙ ap (operator_of c.args.l) c.peek.ensures)) c.in-Some.ensures.1) in λ F. s_exit c.from_residual.ensures.1 (s_prod (G.again f.op) f.taken (s_sy f.symbol (s_bad _ (c.in_err-next.ensures _))))

pub more-returns-in_err-next-2 : goal.more-returns-in_err-next-2
more-returns-in_err-next-2 t c = let f = (C.op_found c.args.l _ (kind_at (text c.args.kinds.now) (c.args.pos + 1)) (sym (c.in-Some.ensures.0 ∙ ap (operator_of c.args.l) c.peek.ensures)) c.in-Some.ensures.1) in λ F. s_exit c.from_residual-in_err-next-2.ensures.1 (s_prod (G.again f.op) f.taken (s_sy f.symbol (s_part _ (c.in_ok-next.ensures _) (s_put c.put-end.ensures (omega arith) f.number (omega arith) (s_last (c.in_err-next-2.ensures _))))))

pub more-returns : goal.more-returns
more-returns t c = let f = (C.op_found c.args.l _ (kind_at (text c.args.kinds.now) (c.args.pos + 1)) (sym (c.in-Some.ensures.0 ∙ ap (operator_of c.args.l) c.peek.ensures)) c.in-Some.ensures.1) in λ F. s_prod (G.again f.op) f.taken (s_sy f.symbol (s_part _ (c.in_ok-next.ensures _) (s_put c.put-end.ensures (omega arith) f.number (omega arith) (s_last (c.in_ok-next-2.ensures _)))))

pub negation-relation-requires : goal.negation-relation-requires
negation-relation-requires t c =
    let i1 = inside _ _ (is_at c.peek.result c.peek.ensures c.in-Not.in-Not-own.keys1) (λ h. omega arith) in
    (omega arith, record { inside = omega arith; short = omega arith; size = omega arith; room = omega arith })

pub negation-put-end-requires : goal.negation-put-end-requires
negation-put-end-requires t c =
    let i1 = inside _ _ (is_at c.peek.result c.peek.ensures c.in-Not.in-Not-own.keys1) (λ h. omega arith) in
    let g1 = got_of (c.in_ok-next-in-Not.ensures []) in let s1 = space g1 in
    (omega arith, omega arith)

pub negation-returns-in_err-next-in-Not : goal.negation-returns-in_err-next-in-Not
negation-returns-in_err-next-in-Not t c = λ F. s_exit c.from_residual.ensures.1 (s_prod G.a_not (ap (λ (z : ℕ). choose G.negation z 0) (is_at c.peek.result c.peek.ensures c.in-Not.in-Not-own.keys1)) (s_sy (is_at c.peek.result c.peek.ensures c.in-Not.in-Not-own.keys1) (s_bad _ (c.in_err-next-in-Not.ensures _))))

pub negation-returns-in_ok-next-in-Not : goal.negation-returns-in_ok-next-in-Not
negation-returns-in_ok-next-in-Not t c =
    let i1 = inside _ _ (is_at c.peek.result c.peek.ensures c.in-Not.in-Not-own.keys1) (λ h. omega arith) in
    let g1 = got_of (c.in_ok-next-in-Not.ensures []) in let s1 = space g1 in
    λ F. s_prod G.a_not (ap (λ (z : ℕ). choose G.negation z 0) (is_at c.peek.result c.peek.ensures c.in-Not.in-Not-own.keys1)) (s_sy (is_at c.peek.result c.peek.ensures c.in-Not.in-Not-own.keys1) (s_part _ (c.in_ok-next-in-Not.ensures _) (s_put c.put-end.ensures (omega arith) (omega arith) (omega arith) (s_end (omega arith)))))

pub negation-returns-in_err-next-in_default : goal.negation-returns-in_err-next-in_default
negation-returns-in_err-next-in_default t c = λ F. s_exit c.from_residual-in_err-next-in_default.ensures.1 (s_prod G.no_not (C.else_negation (is_not c.peek.result c.peek.ensures (but (19 ∷ [])) 19 refl (opened c.in_default.in_default-own.keys2))) (s_last (c.in_err-next-in_default.ensures _)))

pub negation-returns-in_ok-next-in_default : goal.negation-returns-in_ok-next-in_default
negation-returns-in_ok-next-in_default t c = λ F. s_prod G.no_not (C.else_negation (is_not c.peek.result c.peek.ensures (but (19 ∷ [])) 19 refl (opened c.in_default.in_default-own.keys2))) (s_last (c.in_ok-next-in_default.ensures _))

pub nested-returns-then-depth-ge64 : goal.nested-returns-then-depth-ge64
nested-returns-then-depth-ge64 t c = λ F. says_limit c.if-depth-ge64.true (c.expression.ensures F)

pub nested-returns : goal.nested-returns
nested-returns t c = λ F. s_deeper c.if-depth-ge64.false (c.expression-2.ensures F)

pub nested_simple-returns-then-depth-ge64 : goal.nested_simple-returns-then-depth-ge64
nested_simple-returns-then-depth-ge64 t c = λ F. says_limit c.if-depth-ge64.true (c.simple.ensures F)

pub nested_simple-returns : goal.nested_simple-returns
nested_simple-returns t c = λ F. s_deeper c.if-depth-ge64.false {A = 0} (s_prod (G.chain L.Equivalence) refl (c.chain.ensures F))

pub operand-returns-in_err-next : goal.operand-returns-in_err-next
operand-returns-in_err-next t c = λ F. s_exit c.from_residual.ensures.1 (elim c.match-l.branch [ operand-in-Product w ↦ rw (w.nodes-is, sym c.in_err-next.was ∙ w.branch'-is) (s_operand w.in-Product.is (w.primary.ensures F)) | operand-in-Sum w ↦ rw (w.nodes-is, sym c.in_err-next.was ∙ w.branch'-is) (s_operand w.in-Sum.is (s_prod (G.chain L.Product) refl (w.chain.ensures F))) | operand-in-Conjunction w ↦ rw (w.nodes-is, sym c.in_err-next.was ∙ w.branch'-is) (s_operand w.in-Conjunction.is (w.negation.ensures F)) | operand-in-Disjunction w ↦ rw (w.nodes-is, sym c.in_err-next.was ∙ w.branch'-is) (s_operand w.in-Disjunction.is (s_prod (G.chain L.Conjunction) refl (w.chain-in-Disjunction.ensures F))) | operand-in-Implication w ↦ rw (w.nodes-is, sym c.in_err-next.was ∙ w.branch'-is) (s_operand w.in-Implication.is (s_prod (G.chain L.Disjunction) refl (w.chain-in-Implication.ensures F))) | operand-in-Equivalence w ↦ rw (w.nodes-is, sym c.in_err-next.was ∙ w.branch'-is) (s_operand w.in-Equivalence.is (s_prod (G.chain L.Implication) refl (w.chain-in-Equivalence.ensures F))) ])

pub operand-returns : goal.operand-returns
operand-returns t c = λ F. elim c.match-l.branch [ operand-in-Product w ↦ rw (w.nodes-is, sym c.in_ok-next.was ∙ w.branch'-is) (s_operand w.in-Product.is (w.primary.ensures F)) | operand-in-Sum w ↦ rw (w.nodes-is, sym c.in_ok-next.was ∙ w.branch'-is) (s_operand w.in-Sum.is (s_prod (G.chain L.Product) refl (w.chain.ensures F))) | operand-in-Conjunction w ↦ rw (w.nodes-is, sym c.in_ok-next.was ∙ w.branch'-is) (s_operand w.in-Conjunction.is (w.negation.ensures F)) | operand-in-Disjunction w ↦ rw (w.nodes-is, sym c.in_ok-next.was ∙ w.branch'-is) (s_operand w.in-Disjunction.is (s_prod (G.chain L.Conjunction) refl (w.chain-in-Disjunction.ensures F))) | operand-in-Implication w ↦ rw (w.nodes-is, sym c.in_ok-next.was ∙ w.branch'-is) (s_operand w.in-Implication.is (s_prod (G.chain L.Disjunction) refl (w.chain-in-Implication.ensures F))) | operand-in-Equivalence w ↦ rw (w.nodes-is, sym c.in_ok-next.was ∙ w.branch'-is) (s_operand w.in-Equivalence.is (s_prod (G.chain L.Implication) refl (w.chain-in-Equivalence.ensures F))) ]

pub otherwise-returns-in_err-next : goal.otherwise-returns-in_err-next
otherwise-returns-in_err-next t c = λ F. s_exit c.from_residual.ensures.1 (s_prod G.an_otherwise refl (s_lacks c.in_err-next.ensures))

pub otherwise-returns-in_err-next-2 : goal.otherwise-returns-in_err-next-2
otherwise-returns-in_err-next-2 t c = let h1 = c.in_ok-next.ensures in λ F. s_exit c.from_residual-in_err-next-2.ensures.1 (s_prod G.an_otherwise refl (s_stands c.in_ok-next.ensures (s_put c.put-otherwise.ensures (omega arith) (omega arith) (omega arith) (s_bad _ (c.in_err-next-2.ensures _)))))

pub otherwise-put-end-requires : goal.otherwise-put-end-requires
otherwise-put-end-requires t c =
    let h1 = c.in_ok-next.ensures in
    let g1 = got_of (c.in_ok-next-2.ensures []) in let s1 = space g1 in
    (omega arith, omega arith)

pub otherwise-returns : goal.otherwise-returns
otherwise-returns t c =
    let h1 = c.in_ok-next.ensures in
    let g1 = got_of (c.in_ok-next-2.ensures []) in let s1 = space g1 in
    λ F. s_prod G.an_otherwise refl (s_stands c.in_ok-next.ensures (s_put c.put-otherwise.ensures (omega arith) (omega arith) (omega arith) (s_part _ (c.in_ok-next-2.ensures _) (s_put c.put-end.ensures (omega arith) (omega arith) (omega arith) (s_end (omega arith))))))

pub primary-actuals-requires : goal.primary-actuals-requires
primary-actuals-requires t c =
    let i1 = inside _ _ (is_at c.peek.result c.peek.ensures c.in-Name.in-Name-own.keys4) (λ h. omega arith) in
    (omega arith, record { inside = omega arith; short = omega arith; size = omega arith; room = omega arith })

pub primary-nested-requires : goal.primary-nested-requires
primary-nested-requires t c =
    let i1 = inside _ _ (is_at c.peek.result c.peek.ensures c.in-Open.in-Open-own.keys5) (λ h. omega arith) in
    (omega arith, record { inside = omega arith; short = omega arith; size = omega arith; room = omega arith })

pub primary-returns-in_err-next-in-Open : goal.primary-returns-in_err-next-in-Open
primary-returns-in_err-next-in-Open t c = λ F. s_exit c.from_residual-in_err-next-in-Open.ensures.1 (s_prod G.in_parentheses (ap (λ (z : ℕ). choose G.primary z 0) (is_at c.peek.result c.peek.ensures c.in-Open.in-Open-own.keys5)) (s_sy (is_at c.peek.result c.peek.ensures c.in-Open.in-Open-own.keys5) (s_bad _ (c.in_err-next-in-Open.ensures _))))

pub primary-returns-in_err-next-in-Open-2 : goal.primary-returns-in_err-next-in-Open-2
primary-returns-in_err-next-in-Open-2 t c = λ F. s_exit c.from_residual-in_err-next-in-Open-2.ensures.1 (s_prod G.in_parentheses (ap (λ (z : ℕ). choose G.primary z 0) (is_at c.peek.result c.peek.ensures c.in-Open.in-Open-own.keys5)) (s_sy (is_at c.peek.result c.peek.ensures c.in-Open.in-Open-own.keys5) (s_part _ (c.in_ok-next-in-Open.ensures _) (s_lacks c.in_err-next-in-Open-2.ensures))))

pub primary-returns-in_ok-next-in-Open-2 : goal.primary-returns-in_ok-next-in-Open-2
primary-returns-in_ok-next-in-Open-2 t c =
    let i1 = inside _ _ (is_at c.peek.result c.peek.ensures c.in-Open.in-Open-own.keys5) (λ h. omega arith) in
    let g1 = got_of (c.in_ok-next-in-Open.ensures []) in let s1 = space g1 in
    let h1 = c.in_ok-next-in-Open-2.ensures in
    λ F. s_prod G.in_parentheses (ap (λ (z : ℕ). choose G.primary z 0) (is_at c.peek.result c.peek.ensures c.in-Open.in-Open-own.keys5)) (s_sy (is_at c.peek.result c.peek.ensures c.in-Open.in-Open-own.keys5) (s_part _ (c.in_ok-next-in-Open.ensures _) (s_stands c.in_ok-next-in-Open-2.ensures (s_end (omega arith)))))

pub primary-returns-in-Number : goal.primary-returns-in-Number
primary-returns-in-Number t c =
    let i1 = inside _ _ (is_at c.peek.result c.peek.ensures c.in-Number.in-Number-own.keys1) (λ h. omega arith) in
    λ F. s_prod G.number (ap (λ (z : ℕ). choose G.primary z 0) (is_at c.peek.result c.peek.ensures c.in-Number.in-Number-own.keys1)) (s_sy (is_at c.peek.result c.peek.ensures c.in-Number.in-Number-own.keys1) (s_put c.leaf.ensures.0 (omega arith) (omega arith) (omega arith) (s_end_at c.leaf.ensures.1 (omega arith))))

pub primary-returns-in-True : goal.primary-returns-in-True
primary-returns-in-True t c =
    let i1 = inside _ _ (is_at c.peek.result c.peek.ensures c.in-True.in-True-own.keys2) (λ h. omega arith) in
    λ F. s_prod G.true_value (ap (λ (z : ℕ). choose G.primary z 0) (is_at c.peek.result c.peek.ensures c.in-True.in-True-own.keys2)) (s_sy (is_at c.peek.result c.peek.ensures c.in-True.in-True-own.keys2) (s_put c.leaf-in-True.ensures.0 (omega arith) (omega arith) (omega arith) (s_end_at c.leaf-in-True.ensures.1 (omega arith))))

pub primary-returns-in-False : goal.primary-returns-in-False
primary-returns-in-False t c =
    let i1 = inside _ _ (is_at c.peek.result c.peek.ensures c.in-False.in-False-own.keys3) (λ h. omega arith) in
    λ F. s_prod G.false_value (ap (λ (z : ℕ). choose G.primary z 0) (is_at c.peek.result c.peek.ensures c.in-False.in-False-own.keys3)) (s_sy (is_at c.peek.result c.peek.ensures c.in-False.in-False-own.keys3) (s_put c.leaf-in-False.ensures.0 (omega arith) (omega arith) (omega arith) (s_end_at c.leaf-in-False.ensures.1 (omega arith))))

pub primary-returns-in_err-next-in-Name : goal.primary-returns-in_err-next-in-Name
primary-returns-in_err-next-in-Name t c = λ F. s_exit c.from_residual.ensures.1 (s_prod G.a_name_lem (ap (λ (z : ℕ). choose G.primary z 0) (is_at c.peek.result c.peek.ensures c.in-Name.in-Name-own.keys4)) (s_sy (is_at c.peek.result c.peek.ensures c.in-Name.in-Name-own.keys4) (s_last (c.in_err-next-in-Name.ensures _))))

pub primary-returns-in_ok-next-in-Name : goal.primary-returns-in_ok-next-in-Name
primary-returns-in_ok-next-in-Name t c = λ F. s_prod G.a_name_lem (ap (λ (z : ℕ). choose G.primary z 0) (is_at c.peek.result c.peek.ensures c.in-Name.in-Name-own.keys4)) (s_sy (is_at c.peek.result c.peek.ensures c.in-Name.in-Name-own.keys4) (s_last (c.in_ok-next-in-Name.ensures _)))

pub primary-returns-in-Decimal : goal.primary-returns-in-Decimal
primary-returns-in-Decimal t c =
    let i1 = inside _ _ (is_at c.peek.result c.peek.ensures c.in-Decimal.in-Decimal-own.keys6) (λ h. omega arith) in
    λ F. s_prod G.decimal (ap (λ (z : ℕ). choose G.primary z 0) (is_at c.peek.result c.peek.ensures c.in-Decimal.in-Decimal-own.keys6)) (s_sy (is_at c.peek.result c.peek.ensures c.in-Decimal.in-Decimal-own.keys6) (s_put c.leaf-in-Decimal.ensures.0 (omega arith) (omega arith) (omega arith) (s_end_at c.leaf-in-Decimal.ensures.1 (omega arith))))

pub primary-returns-in_default : goal.primary-returns-in_default
primary-returns-in_default t c = λ F. s_none c.wrong.ensures (C.else_primary (is_not c.peek.result c.peek.ensures (but (15 ∷ 16 ∷ 36 ∷ 38 ∷ 39 ∷ 42 ∷ [])) 39 refl (opened c.in_default.in_default-own.keys7)) (is_not c.peek.result c.peek.ensures (but (15 ∷ 16 ∷ 36 ∷ 38 ∷ 39 ∷ 42 ∷ [])) 15 refl (opened c.in_default.in_default-own.keys7)) (is_not c.peek.result c.peek.ensures (but (15 ∷ 16 ∷ 36 ∷ 38 ∷ 39 ∷ 42 ∷ [])) 16 refl (opened c.in_default.in_default-own.keys7)) (is_not c.peek.result c.peek.ensures (but (15 ∷ 16 ∷ 36 ∷ 38 ∷ 39 ∷ 42 ∷ [])) 38 refl (opened c.in_default.in_default-own.keys7)) (is_not c.peek.result c.peek.ensures (but (15 ∷ 16 ∷ 36 ∷ 38 ∷ 39 ∷ 42 ∷ [])) 36 refl (opened c.in_default.in_default-own.keys7)) (is_not c.peek.result c.peek.ensures (but (15 ∷ 16 ∷ 36 ∷ 38 ∷ 39 ∷ 42 ∷ [])) 42 refl (opened c.in_default.in_default-own.keys7)))

pub relation-comparison-requires : goal.relation-comparison-requires
relation-comparison-requires t c =
    let g1 = got_of (c.in_ok-next.ensures []) in let s1 = space g1 in
    (omega arith, record { inside = omega arith; short = omega arith; size = omega arith; room = omega arith })

pub relation-returns-in_err-next : goal.relation-returns-in_err-next
relation-returns-in_err-next t c = λ F. s_exit c.from_residual.ensures.1 (s_prod G.a_relation refl (s_bad _ (c.in_err-next.ensures _)))

pub relation-returns-in_err-next-2 : goal.relation-returns-in_err-next-2
relation-returns-in_err-next-2 t c = λ F. s_exit c.from_residual-in_err-next-2.ensures.1 (s_prod G.a_relation refl (s_part _ (c.in_ok-next.ensures _) (s_last (c.in_err-next-2.ensures _))))

pub relation-returns : goal.relation-returns
relation-returns t c = λ F. s_prod G.a_relation refl (s_part _ (c.in_ok-next.ensures _) (s_last (c.in_ok-next-2.ensures _)))

pub sum-returns-in_err-next : goal.sum-returns-in_err-next
sum-returns-in_err-next t c = λ F. s_exit c.from_residual.ensures.1 (s_prod (G.chain L.Sum) (C.unsigned _ (kind_at (text c.args.kinds.now) (c.args.pos + 1)) (ap (operator_of L.Sum) (sym c.peek.ensures) ∙ c.in_default.ensures)) (c.in_err-next.ensures F))

pub sum-returns-in_default : goal.sum-returns-in_default
sum-returns-in_default t c = λ F. s_prod (G.chain L.Sum) (C.unsigned _ (kind_at (text c.args.kinds.now) (c.args.pos + 1)) (ap (operator_of L.Sum) (sym c.peek.ensures) ∙ c.in_default.ensures)) (c.in_ok-next.ensures F)

pub sum-operand-requires : goal.sum-operand-requires
sum-operand-requires t c =
    let f = (C.op_found L.Sum _ (kind_at (text c.args.kinds.now) (c.args.pos + 1)) (sym (c.in-Some.ensures.0 ∙ ap (operator_of L.Sum) c.peek.ensures)) c.in-Some.ensures.1) in
    let i1 = inside _ _ f.symbol (C.op_low f.op) in
    (omega arith, record { inside = omega arith; short = omega arith; size = omega arith; room = omega arith })

pub sum-put-end-requires : goal.sum-put-end-requires
sum-put-end-requires t c =
    let g1 = got_of (c.in_ok-next-2.ensures []) in let s1 = space g1 in
    let f = (C.op_found L.Sum _ (kind_at (text c.args.kinds.now) (c.args.pos + 1)) (sym (c.in-Some.ensures.0 ∙ ap (operator_of L.Sum) c.peek.ensures)) c.in-Some.ensures.1) in
    let i1 = inside _ _ f.symbol (C.op_low f.op) in
    (omega arith, omega arith)

pub sum-more-requires : goal.sum-more-requires
sum-more-requires t c =
    let g1 = got_of (c.in_ok-next-2.ensures []) in let s1 = space g1 in
    let f = (C.op_found L.Sum _ (kind_at (text c.args.kinds.now) (c.args.pos + 1)) (sym (c.in-Some.ensures.0 ∙ ap (operator_of L.Sum) c.peek.ensures)) c.in-Some.ensures.1) in
    let i1 = inside _ _ f.symbol (C.op_low f.op) in
    (omega arith, record { inside = omega arith; short = omega arith; size = omega arith; room = omega arith })

pub sum-returns-in_err-next-2 : goal.sum-returns-in_err-next-2
sum-returns-in_err-next-2 t c = let f = (C.op_found L.Sum _ (kind_at (text c.args.kinds.now) (c.args.pos + 1)) (sym (c.in-Some.ensures.0 ∙ ap (operator_of L.Sum) c.peek.ensures)) c.in-Some.ensures.1) in λ F. s_exit c.from_residual-in_err-next-2.ensures.1 (s_prod (G.signed f.op) (C.with_sign f) (s_sy f.symbol (s_bad _ (c.in_err-next-2.ensures _))))

pub sum-returns-in_err-next-3 : goal.sum-returns-in_err-next-3
sum-returns-in_err-next-3 t c = let f = (C.op_found L.Sum _ (kind_at (text c.args.kinds.now) (c.args.pos + 1)) (sym (c.in-Some.ensures.0 ∙ ap (operator_of L.Sum) c.peek.ensures)) c.in-Some.ensures.1) in λ F. s_exit c.from_residual-in_err-next-3.ensures.1 (s_prod (G.signed f.op) (C.with_sign f) (s_sy f.symbol (s_part _ (c.in_ok-next-2.ensures _) (s_put c.put-end.ensures (omega arith) f.number (omega arith) (s_last (c.in_err-next-3.ensures _))))))

pub sum-returns : goal.sum-returns
sum-returns t c = let f = (C.op_found L.Sum _ (kind_at (text c.args.kinds.now) (c.args.pos + 1)) (sym (c.in-Some.ensures.0 ∙ ap (operator_of L.Sum) c.peek.ensures)) c.in-Some.ensures.1) in λ F. s_prod (G.signed f.op) (C.with_sign f) (s_sy f.symbol (s_part _ (c.in_ok-next-2.ensures _) (s_put c.put-end.ensures (omega arith) f.number (omega arith) (s_last (c.in_ok-next-3.ensures _)))))
