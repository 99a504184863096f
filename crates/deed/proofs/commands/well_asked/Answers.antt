-- `deed::commands::well_asked` meets its contract. One of the five fails, or none does.
-- Assumes nothing.
use mathlib.Core.Path.{sym, ◌∙◌}
use Rattle.deed.specs.Commands.{well_asked}
use Rattle.deed.proofs.commands.well_asked.Goals as goal

pub returns-then-not-options_fit : goal.returns-then-not-options_fit
unfolding well_asked
returns-then-not-options_fit c = simp (sym c.options_fit.ensures ∙ c.if-not-options_fit.true)

pub returns-then-not-options_once : goal.returns-then-not-options_once
unfolding well_asked
returns-then-not-options_once c = simp (sym c.options_fit.ensures ∙ c.if-not-options_fit.false, sym c.options_once.ensures ∙ c.if-not-options_once.true)

pub returns-then-is_clash : goal.returns-then-is_clash
unfolding well_asked
returns-then-is_clash c = simp (sym c.options_fit.ensures ∙ c.if-not-options_fit.false, sym c.options_once.ensures ∙ c.if-not-options_once.false, sym c.is_clash.ensures ∙ c.if-is_clash.true)

pub returns-then-not-words_fit : goal.returns-then-not-words_fit
unfolding well_asked
returns-then-not-words_fit c = simp (sym c.options_fit.ensures ∙ c.if-not-options_fit.false, sym c.options_once.ensures ∙ c.if-not-options_once.false, sym c.is_clash.ensures ∙ c.if-is_clash.false, sym c.words_fit.ensures ∙ c.if-not-words_fit.true)

pub returns : goal.returns
unfolding well_asked
returns c = simp (sym c.options_fit.ensures ∙ c.if-not-options_fit.false, sym c.options_once.ensures ∙ c.if-not-options_once.false, sym c.is_clash.ensures ∙ c.if-is_clash.false, sym c.words_fit.ensures ∙ c.if-not-words_fit.false) c.sizes_fit.ensures
