-- `vectors::reads::same_words` meets its contract. The words from i on are compared with the numbers from the place on.
-- Assumes nothing.
use mathlib.Core.Path.{◌≡◌, refl, sym, ap, ◌∙◌}
use mathlib.Core.Bool.{true, false}
use mathlib.Core.List.{List}
use Prim.Native.Nat.{ℕ, ◌+◌, ◌≤◌, ◌<◌}
use lib.ListN.{length, get_or, drop, drop_of_length-le}
use borrow.Author.Tests.{eq-eqb, ne_eqb}
use Rattle.symbols.proofs.Laws.{peel}
use Rattle.vectors.specs.declared.texts.Numeral.{Numeral}
use Rattle.vectors.specs.Listed.{number_at, same_words}
use borrow.Author.Rules.{rules}
use Rattle.vectors.proofs.reads.same_words.Goals as goal

module _ (words text : List ℕ) (i at : ℕ) where
  words-on : i < length words → (number_at text at).value ≡ get_or words i 0 → same_words (drop i words) text at ≡ same_words (drop (i + 1) words) text (number_at text at).next
  unfolding same_words
  words-on h e = rw (peel words i h, eq-eqb (number_at text at).value (get_or words i 0) e)

  words-off : i < length words → ((number_at text at).value ≡ get_or words i 0 → ⊥) → same_words (drop i words) text at ≡ false
  unfolding same_words
  words-off h e = rw (peel words i h, ne_eqb (number_at text at).value (get_or words i 0) e)

  words-end : length words ≤ i → same_words (drop i words) text at ≡ true
  unfolding same_words
  words-end h = rw (drop_of_length-le words h)

pub loop-i-init : goal.loop-i-init
loop-i-init c = (search rules, refl)

pub returns-then-listed-word : goal.returns-then-listed-word
returns-then-listed-word c =
    let a = c.args in
    let l = c.loop-i in
    let f = c.number_at-listed.ensures.value in
    sym (l.invariant.1 ∙ words-off a.words.now a.text.now l.i l.at c.loop-i-test.true (λ e. c.if-listed-word.true (ap (λ (n : Numeral). n.value) f ∙ e ∙ sym c.word_at-word.ensures)))

pub loop-i-preserved : goal.loop-i-preserved
loop-i-preserved c =
    let a = c.args in
    let l = c.loop-i in
    let f = c.number_at-listed.ensures.value in
    let e = sym (ap (λ (n : Numeral). n.value) f) ∙ c.if-listed-word.false ∙ c.word_at-word.ensures in
    (search rules, l.invariant.1 ∙ words-on a.words.now a.text.now l.i l.at c.loop-i-test.true e ∙ ap (λ (n : Numeral). same_words (drop (l.i + 1) a.words.now) a.text.now n.next) (sym f))

pub returns : goal.returns
returns c =
    let a = c.args in
    let l = c.loop-i in
    sym (l.invariant.1 ∙ words-end a.words.now a.text.now l.i l.at c.loop-i-test.false)
