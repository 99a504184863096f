-- `symbols::lexemes::lexeme` meets its contract. The tests choose as the definition does.
-- Assumes nothing.
use mathlib.Core.Path.{sym, ◌∙◌}
use borrow.Author.Tests.{lt-ltb, le-ltb, eq-eqb, ne_eqb}
use Rattle.symbols.specs.Scan.{lexeme}
use Rattle.symbols.specs.model.Steps.{lexeme_at}
use Rattle.symbols.proofs.lexemes.lexeme.Goals as goal

pub returns-then-source-at : goal.returns-then-source-at
unfolding lexeme_at
returns-then-source-at c = simp (le-ltb _ _ c.if-source-at.true)

pub name-requires : goal.name-requires
name-requires c = record { at_in_bounds = c.if-source-at.false; at_value = sym c.is_letter.ensures ∙ c.if-is_letter.true }

pub returns-then-is_letter : goal.returns-then-is_letter
unfolding lexeme_at lexeme
returns-then-is_letter c = simp (lt-ltb _ _ c.if-source-at.false, sym c.is_letter.ensures ∙ c.if-is_letter.true) c.name.ensures

pub number-requires : goal.number-requires
number-requires c = record { at_in_bounds = c.if-source-at.false; at_value = sym c.is_digit.ensures ∙ c.if-is_digit.true }

pub returns-then-is_digit : goal.returns-then-is_digit
unfolding lexeme_at lexeme
returns-then-is_digit c = simp (lt-ltb _ _ c.if-source-at.false, sym c.is_letter.ensures ∙ c.if-is_letter.false, sym c.is_digit.ensures ∙ c.if-is_digit.true) c.number.ensures

pub point-requires : goal.point-requires
point-requires c = record { at_in_bounds = c.if-source-at.false; at_value = c.if-b-eq46.true }

pub returns-then-b-eq46 : goal.returns-then-b-eq46
unfolding lexeme_at lexeme
returns-then-b-eq46 c = simp (lt-ltb _ _ c.if-source-at.false, sym c.is_letter.ensures ∙ c.if-is_letter.false, sym c.is_digit.ensures ∙ c.if-is_digit.false, eq-eqb _ _ c.if-b-eq46.true) c.point.ensures

pub returns-then-b-eq39 : goal.returns-then-b-eq39
unfolding lexeme_at lexeme
returns-then-b-eq39 c = simp (lt-ltb _ _ c.if-source-at.false, sym c.is_letter.ensures ∙ c.if-is_letter.false, sym c.is_digit.ensures ∙ c.if-is_digit.false, ne_eqb _ _ c.if-b-eq46.false, eq-eqb _ _ c.if-b-eq39.true) c.word.ensures

pub returns : goal.returns
unfolding lexeme_at lexeme
returns c = simp (lt-ltb _ _ c.if-source-at.false, sym c.is_letter.ensures ∙ c.if-is_letter.false, sym c.is_digit.ensures ∙ c.if-is_digit.false, ne_eqb _ _ c.if-b-eq46.false, ne_eqb _ _ c.if-b-eq39.false) c.sign.ensures
