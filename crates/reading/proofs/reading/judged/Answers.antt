-- `reading::reading::judged` meets its contract: the words are cleared first, so that every refusal leaves zeros. Assumes nothing.
use mathlib.Core.Path.{refl, ap, ◌∙◌}
use Rattle.grammar.specs.model.Parsing.{zeros}
use Rattle.reading.proofs.Answers.{as-judged, told-program, told_refused}
use Rattle.reading.proofs.reading.judged.Goals as goal

pub written-requires : goal.written-requires
written-requires c = ((_, _, _, _, _, told-program c.find.ensures _ c.in-Ok.is), c.clear.ensures ∙ ap zeros c.requires)

pub returns-in-Ok : goal.returns-in-Ok
returns-in-Ok c = c.written.ensures _ _ _ _ _ (told-program c.find.ensures _ c.in-Ok.is)

pub returns-in-Err : goal.returns-in-Err
returns-in-Err c = as-judged refl (c.clear.ensures ∙ ap zeros c.requires) (told_refused c.find.ensures _ c.in-Err.is)
