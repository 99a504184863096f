-- `symbols::words::is_word` meets its contract. Whether the rest from i on is the same is whether all is; each byte of the word is a small letter.
-- Assumes nothing.
use mathlib.Core.Path.{◌≡◌, refl, sym, ◌∙◌}
use mathlib.Core.Bool.{true}
use mathlib.Core.List.{List}
use Prim.Native.Nat.{ℕ, ◌+◌, ◌<◌}
use native.Mathlib.Omega.{arith}
use borrow.Author.Rules.{rules}
use lib.Dec.{eqb}
use lib.ListN.{length, get_or}
use mathlib.Core.Bool.{◌||◌}
use Rattle.symbols.specs.Names.{folded}
use Rattle.symbols.specs.model.Steps.{all_small}
use Rattle.symbols.proofs.LetterCase.{same_on, same_off, same_end, same_length, by_small, small_at}
use Rattle.symbols.proofs.words.is_word.Goals as goal

-- at a place of the word
at : (w word : List ℕ) (i : ℕ) → all_small word ≡ true → i < length word → (eqb (get_or w i 0) (get_or word i 0) || eqb (get_or w i 0 + 32) (get_or word i 0)) ≡ eqb (folded (get_or w i 0)) (folded (get_or word i 0))
at w word i h k = let s = small_at word i h k in by_small (get_or w i 0) (get_or word i 0) s.0 s.1

pub returns-then-w-word : goal.returns-then-w-word
returns-then-w-word c = sym (same_length _ _ c.if-w-word.true)

pub loop-i-init : goal.loop-i-init
loop-i-init c = (c.if-w-word.false, refl)

pub bounds-word-i : goal.bounds-word-i
bounds-word-i c = omega (arith, c.loop-i.invariant.0)

pub returns-then-not-is_or_below : goal.returns-then-not-is_or_below
returns-then-not-is_or_below c =
    let l = c.loop-i in
    let a = c.args in
    let k : l.i < length a.word.now = omega (arith, l.invariant.0) in
    let e = at a.w.now a.word.now l.i (search rules) k in
    sym (l.invariant.1 ∙ same_off _ _ l.i (omega arith) k (sym e ∙ sym c.is_or_below.ensures ∙ c.if-not-is_or_below.true))

pub loop-i-preserved : goal.loop-i-preserved
loop-i-preserved c =
    let l = c.loop-i in
    let a = c.args in
    let k : l.i < length a.word.now = omega (arith, l.invariant.0) in
    let e = at a.w.now a.word.now l.i (search rules) k in
    (l.invariant.0, l.invariant.1 ∙ same_on _ _ l.i (omega arith) k (sym e ∙ sym c.is_or_below.ensures ∙ c.if-not-is_or_below.false))

pub returns : goal.returns
returns c =
    let l = c.loop-i in
    sym (l.invariant.1 ∙ same_end _ _ l.i (omega arith) (omega (arith, l.invariant.0)))
