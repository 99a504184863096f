-- `symbols::names::same_name` meets its contract. Whether what is left of the two names is equal is whether the names are.
-- Assumes nothing.
use mathlib.Core.Path.{sym, ap, ◌∙◌}
use mathlib.Core.List.{List}
use Prim.Native.Nat.{ℕ}
use lib.ListN.{drop}
use Rattle.symbols.specs.Names.{letters, same_name}
use Rattle.symbols.specs.model.Steps.{rest_of}
use Rattle.symbols.proofs.Next.{letters_differ, letters_on, letters_over, letters_end, within_source, none_left}
use Rattle.symbols.proofs.names.same_name.Goals as goal

pub returns-in_default-j : goal.returns-in_default-j
returns-in_default-j c =
    let s = c.args.source.now in
    let first = ap (λ (x : List ℕ). same_name x (letters (drop c.args.b.at s))) c.next_letter-i.ensures.same ∙ ap (same_name (rest_of s c.next_letter-i.result)) c.next_letter-j.ensures.same ∙ c.loop-i.invariant.2 in
    sym (first ∙ rw (c.in-Some.is, c.in_default-j.is) (letters_over _ _))

pub returns-then-not-same_letter : goal.returns-then-not-same_letter
returns-then-not-same_letter c =
    let s = c.args.source.now in
    let first = ap (λ (x : List ℕ). same_name x (letters (drop c.args.b.at s))) c.next_letter-i.ensures.same ∙ ap (same_name (rest_of s c.next_letter-i.result)) c.next_letter-j.ensures.same ∙ c.loop-i.invariant.2 in
    sym (first ∙ rw (c.in-Some.is, c.in-Some-j.is) (letters_differ _ _ _ _ (sym c.same_letter.ensures ∙ c.if-not-same_letter.true)))

pub loop-i-preserved : goal.loop-i-preserved
loop-i-preserved c =
    let i = c.next_letter-i-in-Some.ensures in
    let j = c.next_letter-j-in-Some.ensures in (
      within_source _ _ _ i,
      within_source _ _ _ j,
      c.loop-i.invariant.2 ∙ rw (c.in-Some.is, c.in-Some-j.is) (letters_on _ _ _ _ _ _ (sym c.same_letter.ensures ∙ c.if-not-same_letter.false) i.same j.same),
    )

pub returns : goal.returns
returns c =
    let s = c.args.source.now in
    let first = ap (λ (x : List ℕ). same_name x (letters (drop c.args.b.at s))) c.next_letter-i.ensures.same ∙ ap (same_name (rest_of s c.next_letter-i.result)) c.next_letter-j.ensures.same ∙ c.loop-i.invariant.2 in
    none_left _ _ c.is_none.ensures ∙ sym (first ∙ rw c.in_default.is (letters_end s c.loop-i.j))
