-- `syntax::limits::statement` meets its contract: 6 where the symbol begins a statement, or may follow an empty one. Assumes nothing.
use mathlib.Core.Path.{refl}
use mathlib.Core.List.{[], ◌∷◌}
use Rattle.grammar.specs.model.Run.{rd_six, rd_five}
use Rattle.grammar.proofs.Peeks.{is_at, is_in, but}
use Rattle.syntax.proofs.Lemmas.{limits, may, may_end, may_not, may_not_end}
use borrow.Enum.Refused.{opened}
use Rattle.syntax.proofs.limits.statement.Goals as goal

pub returns-then-ends : goal.returns-then-ends
returns-then-ends c = limits c.too_deep-then-ends.ensures (rd_six (may_end (0 ∷ 2 ∷ 5 ∷ 38 ∷ []) c.if-ends.true refl (is_at c.peek.result c.peek.ensures c.in-End.in-End-own.keys2)))

pub returns-in-Begin : goal.returns-in-Begin
returns-in-Begin c = limits c.too_deep.ensures (rd_six (may (0 ∷ 2 ∷ 5 ∷ 38 ∷ []) c.args.ends (0 ∷ 2 ∷ 5 ∷ 38 ∷ 35 ∷ []) refl refl (is_in c.peek.result c.peek.ensures (0 ∷ 2 ∷ 5 ∷ 38 ∷ 35 ∷ []) c.in-Begin.in-Begin-own.keys1)))

pub returns-else-ends : goal.returns-else-ends
returns-else-ends c = limits c.wrong.ensures (rd_five (may_not_end (0 ∷ 2 ∷ 5 ∷ 38 ∷ []) c.if-ends.false refl (is_at c.peek.result c.peek.ensures c.in-End.in-End-own.keys2)))

pub returns-in_default : goal.returns-in_default
returns-in_default c = limits c.wrong-in_default.ensures (rd_five (may_not (0 ∷ 2 ∷ 5 ∷ 38 ∷ []) c.args.ends (but (0 ∷ 1 ∷ 2 ∷ 5 ∷ 35 ∷ 38 ∷ [])) refl refl (is_in c.peek.result c.peek.ensures (but (0 ∷ 1 ∷ 2 ∷ 5 ∷ 35 ∷ 38 ∷ [])) (opened c.in_default.in_default-own.keys3))))
