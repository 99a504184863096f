-- `reading::schemes::half` meets its contract: the words are cleared first, so that every refusal leaves zeros. Assumes nothing.
use mathlib.Core.Path.{ap, ◌∙◌}
use Rattle.grammar.specs.model.Parsing.{zeros}
use Rattle.reading.proofs.SchemeStands.{both_filled, both_none, as_half}
use Rattle.reading.proofs.schemes.half.Goals as goal

pub listed-requires : goal.listed-requires
listed-requires c = ((_, _, _, _, _, _, both_filled c.find_both.ensures _ c.in-Ok.is), c.clear.ensures ∙ ap zeros c.requires)

pub returns-in-Ok : goal.returns-in-Ok
returns-in-Ok c = c.listed.ensures _ _ _ _ _ _ (both_filled c.find_both.ensures _ c.in-Ok.is)

pub returns-in-Err : goal.returns-in-Err
returns-in-Err c = as_half (c.clear.ensures ∙ ap zeros c.requires) (both_none c.find_both.ensures _ c.in-Err.is)
