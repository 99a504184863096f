-- `syntax::limits::consequence` meets its contract: as for a statement, and 'else' may follow an empty one. Assumes nothing.
use mathlib.Core.Path.{refl, ap}
use mathlib.Core.List.{[], ◌∷◌}
use Prim.Native.Nat.{ℕ}
use Rattle.grammar.specs.model.Tables.{choose}
use Rattle.grammar.specs.model.Run.{now, level, rd_six, rd_five, rd_bad}
use Rattle.grammar.proofs.Peeks.{is_at, is_in, is_not, but}
use Rattle.syntax.proofs.Lemmas.{limits, may, may_end, may_not, may_not_end}
use Rattle.syntax.proofs.Choices as C
use Rattle.grammar.specs.Grammar.{consequence}
use Rattle.syntax.proofs.Choices.{in_not}
use borrow.Enum.Refused.{opened}
use Rattle.syntax.proofs.limits.consequence.Goals as goal

pub returns-then-ends : goal.returns-then-ends
returns-then-ends c = limits c.too_deep-then-ends.ensures (rd_bad level (C.else_consequence (in_not (1 ∷ []) (now (is_at c.peek.result c.peek.ensures c.in-End.in-End-own.keys3)) refl)) (rd_six (may_end (0 ∷ 38 ∷ 4 ∷ []) c.if-ends.true refl (is_at c.peek.result c.peek.ensures c.in-End.in-End-own.keys3))))

pub returns-in-For : goal.returns-in-For
returns-in-For c = limits c.too_deep.ensures (rd_bad level (ap (λ (z : ℕ). choose consequence z 0) (is_at c.peek.result c.peek.ensures c.in-For.in-For-own.keys1)) (rd_six (now (is_at c.peek.result c.peek.ensures c.in-For.in-For-own.keys1))))

pub returns-in-Begin : goal.returns-in-Begin
returns-in-Begin c = limits c.too_deep-in-Begin.ensures (rd_bad level (C.else_consequence (in_not (0 ∷ 38 ∷ 4 ∷ 35 ∷ []) (is_in c.peek.result c.peek.ensures (0 ∷ 38 ∷ 4 ∷ 35 ∷ []) c.in-Begin.in-Begin-own.keys2) refl)) (rd_six (may (0 ∷ 38 ∷ 4 ∷ []) c.args.ends (0 ∷ 38 ∷ 4 ∷ 35 ∷ []) refl refl (is_in c.peek.result c.peek.ensures (0 ∷ 38 ∷ 4 ∷ 35 ∷ []) c.in-Begin.in-Begin-own.keys2))))

pub returns-else-ends : goal.returns-else-ends
returns-else-ends c = limits c.wrong.ensures (rd_bad level (C.else_consequence (in_not (1 ∷ []) (now (is_at c.peek.result c.peek.ensures c.in-End.in-End-own.keys3)) refl)) (rd_five (may_not_end (0 ∷ 38 ∷ 4 ∷ []) c.if-ends.false refl (is_at c.peek.result c.peek.ensures c.in-End.in-End-own.keys3))))

pub returns-in_default : goal.returns-in_default
returns-in_default c = limits c.wrong-in_default.ensures (rd_bad level (C.else_consequence (is_not c.peek.result c.peek.ensures (but (0 ∷ 1 ∷ 4 ∷ 5 ∷ 35 ∷ 38 ∷ [])) 5 refl (opened c.in_default.in_default-own.keys4))) (rd_five (may_not (0 ∷ 38 ∷ 4 ∷ []) c.args.ends (but (0 ∷ 1 ∷ 4 ∷ 5 ∷ 35 ∷ 38 ∷ [])) refl refl (is_in c.peek.result c.peek.ensures (but (0 ∷ 1 ∷ 4 ∷ 5 ∷ 35 ∷ 38 ∷ [])) (opened c.in_default.in_default-own.keys4)))))
