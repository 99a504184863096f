-- `syntax::limits::simple` meets its contract: where the symbol begins an expression that is not conditional it is 6, else 5. Assumes nothing.
use mathlib.Core.Path.{refl}
use mathlib.Core.List.{[], ◌∷◌}
use Rattle.grammar.specs.model.Run.{rd_six, rd_five}
use Rattle.grammar.proofs.Peeks.{is_in, is_none, but}
use Rattle.syntax.proofs.Lemmas.{limits}
use borrow.Enum.Refused.{opened}
use Rattle.syntax.proofs.limits.simple.Goals as goal

pub returns-in-True : goal.returns-in-True
returns-in-True c = λ F. limits c.too_deep.ensures (rd_six (is_in c.peek.result c.peek.ensures (15 ∷ 16 ∷ 19 ∷ 22 ∷ 23 ∷ 36 ∷ 38 ∷ 39 ∷ 42 ∷ []) c.in-True.in-True-own.keys1))

pub returns-in_default : goal.returns-in_default
returns-in_default c = λ F. limits c.wrong.ensures (rd_five (is_none c.peek.result c.peek.ensures (but (15 ∷ 16 ∷ 19 ∷ 22 ∷ 23 ∷ 36 ∷ 38 ∷ 39 ∷ 42 ∷ [])) (15 ∷ 16 ∷ 19 ∷ 22 ∷ 23 ∷ 36 ∷ 38 ∷ 39 ∷ 42 ∷ []) refl (opened c.in_default.in_default-own.keys2)))
