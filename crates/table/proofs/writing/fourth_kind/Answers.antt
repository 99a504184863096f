-- `table::writing::fourth_kind` meets its contract, case by case. Assumes nothing.
use Rattle.table.proofs.Fourths.{kind_none, kind_own, kind_four}
use Rattle.table.proofs.writing.fourth_kind.Goals as goal

pub returns-then-kind-eq0 : goal.returns-then-kind-eq0
returns-then-kind-eq0 c = kind_none _ _ c.if-kind-eq0.true

pub returns-then-place-lt32768 : goal.returns-then-place-lt32768
returns-then-place-lt32768 c = kind_own _ _ c.if-kind-eq0.false c.if-place-lt32768.true

pub returns-else-place-lt32768 : goal.returns-else-place-lt32768
returns-else-place-lt32768 c = kind_four _ _ c.if-kind-eq0.false c.if-place-lt32768.false
