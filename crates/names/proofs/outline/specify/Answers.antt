-- `names::outline::specify` meets its contract: what it looks up and tells is what `specified_as` has.
-- Assumes nothing.
use mathlib.Core.Path.{◌∙◌}
use Rattle.names.proofs.OutlineLaws.{specified_is}
use Rattle.names.proofs.outline.specify.Goals as goal

pub returns : goal.returns
returns c =
    let a = c.args in record {
      stack_after = c.mark.ensures.by_index _
          ∙ specified_is a.o a.rows.now a.stack.now a.ids.now _ _ _ _ _ _ _ c.rows_here-want.ensures (rw c.first.ensures at c.says-said.ensures) c.mode.ensures.value c.sort-again.ensures.value c.sort.ensures.value c.word-word.ensures;
      rows_value = c.mark.ensures.rows_value;
    }
