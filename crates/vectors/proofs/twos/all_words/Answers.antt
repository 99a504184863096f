-- `vectors::twos::all_words` meets its contract. The words from i on are those that are left to compare.
-- Assumes nothing.
use mathlib.Core.Path.{◌≡◌, refl, sym, ◌∙◌}
use mathlib.Core.Bool.{true, false}
use mathlib.Core.List.{List}
use Prim.Native.Nat.{ℕ, ◌+◌, ◌≤◌, ◌<◌}
use lib.ListN.{length, get_or, drop, drop_of_length-le}
use borrow.Author.Tests.{eq-eqb, ne_eqb}
use Rattle.symbols.proofs.Laws.{peel}
use Rattle.vectors.specs.Pages.{all}
use Rattle.vectors.proofs.twos.all_words.Goals as goal

module _ (s : List ℕ) (x i : ℕ) where
  all-on : i < length s → get_or s i 0 ≡ x → all x (drop i s) ≡ all x (drop (i + 1) s)
  unfolding all
  all-on h e = rw (peel s i h, eq-eqb (get_or s i 0) x e)

  all-off : i < length s → (get_or s i 0 ≡ x → ⊥) → all x (drop i s) ≡ false
  unfolding all
  all-off h e = rw (peel s i h, ne_eqb (get_or s i 0) x e)

  all_end : length s ≤ i → all x (drop i s) ≡ true
  unfolding all
  all_end h = rw (drop_of_length-le s h)

pub loop-i-init : goal.loop-i-init
loop-i-init c = refl

pub returns-then-words-i : goal.returns-then-words-i
returns-then-words-i c =
    let a = c.args in
    let l = c.loop-i in
    sym (l.invariant ∙ all-off a.words.now a.word l.i c.loop-i-test.true c.if-words-i.true)

pub loop-i-preserved : goal.loop-i-preserved
loop-i-preserved c =
    let a = c.args in
    let l = c.loop-i in
    l.invariant ∙ all-on a.words.now a.word l.i c.loop-i-test.true c.if-words-i.false

pub returns : goal.returns
returns c =
    let a = c.args in
    let l = c.loop-i in
    sym (l.invariant ∙ all_end a.words.now a.word l.i c.loop-i-test.false)
