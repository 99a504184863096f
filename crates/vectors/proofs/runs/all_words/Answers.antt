-- `vectors::runs::all_words` meets its contract. The words from i on are those that are left to compare.
-- Assumes nothing.
use mathlib.Core.Path.{◌≡◌, refl, sym, ◌∙◌}
use mathlib.Core.Bool.{true, false}
use mathlib.Core.List.{List}
use Prim.Native.Nat.{ℕ, zero, suc, ◌+◌, ◌-◌, ◌≤◌, ◌<◌}
use native.Mathlib.Omega.{arith}
use lib.ListN.{length, get_or}
use borrow.Author.Tests.{lt-ltb, le-ltb, eq-eqb, ne_eqb}
use Rattle.vectors.specs.Ended.{all_words}
use Rattle.vectors.proofs.runs.all_words.Goals as goal

module _ (words : List ℕ) (to word i : ℕ) where
  left : i < to → to - i ≡ suc (to - (i + 1))
  left h = omega arith

  words-on : i < to → i < length words → get_or words i 0 ≡ word → all_words words i (to - i) word ≡ all_words words (i + 1) (to - (i + 1)) word
  unfolding all_words
  words-on h k e = rw (left h, lt-ltb i (length words) k, eq-eqb (get_or words i 0) word e)

  words-other : i < to → i < length words → (get_or words i 0 ≡ word → ⊥) → all_words words i (to - i) word ≡ false
  unfolding all_words
  words-other h k e = rw (left h, lt-ltb i (length words) k, ne_eqb (get_or words i 0) word e)

  words-short : i < to → length words ≤ i → all_words words i (to - i) word ≡ false
  unfolding all_words
  words-short h k = rw (left h, le-ltb i (length words) k)

  words-end : to ≤ i → all_words words i (to - i) word ≡ true
  unfolding all_words
  words-end h =
      let z : to - i ≡ zero = omega arith in
      rw z

pub loop-i-init : goal.loop-i-init
loop-i-init c = refl

pub returns-then-words-i : goal.returns-then-words-i
returns-then-words-i c =
    let a = c.args in
    let l = c.loop-i in
    sym (l.invariant ∙ words-short a.words.now a.to a.word l.i c.loop-i-test.true c.if-words-i.true)

pub returns-then-words-i-2 : goal.returns-then-words-i-2
returns-then-words-i-2 c =
    let a = c.args in
    let l = c.loop-i in
    sym (l.invariant ∙ words-other a.words.now a.to a.word l.i c.loop-i-test.true c.if-words-i.false c.if-words-i-2.true)

pub loop-i-preserved : goal.loop-i-preserved
loop-i-preserved c =
    let a = c.args in
    let l = c.loop-i in
    (l.invariant ∙ words-on a.words.now a.to a.word l.i c.loop-i-test.true c.if-words-i.false c.if-words-i-2.false)

pub returns : goal.returns
returns c =
    let a = c.args in
    let l = c.loop-i in
    sym (l.invariant ∙ words-end a.words.now a.to a.word l.i c.loop-i-test.false)
