-- `symbols::names::spells` meets its contract. Whether what is left of the word and of the name is equal is whether they are.
-- Assumes nothing.
use mathlib.Core.Path.{refl, sym, ap, ◌∙◌}
use lib.ListN.{drop_of_length-le}
use Rattle.symbols.specs.Names.{same_name}
use Rattle.symbols.proofs.Laws.{peel}
use Rattle.symbols.proofs.Next.{letters_differ, letters_on, letters_over, letters_end, within_source, none_left}
use Rattle.symbols.proofs.names.spells.Goals as goal

pub returns-in_default : goal.returns-in_default
returns-in_default c =
    let w = c.args.word.now in
    let l = c.loop-b in
    sym (ap (same_name w) c.next_letter-j.ensures.same ∙ l.invariant.1 ∙ rw (peel w l.b-index c.loop-b-test.true, c.in_default.is) (letters_over _ _))

pub returns-then-not-same_letter : goal.returns-then-not-same_letter
returns-then-not-same_letter c =
    let w = c.args.word.now in
    let l = c.loop-b in
    sym (ap (same_name w) c.next_letter-j.ensures.same ∙ l.invariant.1 ∙ rw (peel w l.b-index c.loop-b-test.true, c.in-Some.is) (letters_differ _ _ _ _ (sym c.same_letter.ensures ∙ c.if-not-same_letter.true)))

pub loop-b-preserved : goal.loop-b-preserved
loop-b-preserved c =
    let w = c.args.word.now in
    let l = c.loop-b in
    let n = c.next_letter-j-in-loop-b.ensures in (
      within_source _ _ _ n,
      l.invariant.1 ∙ rw (peel w l.b-index c.loop-b-test.true, c.in-Some.is) (letters_on _ _ _ _ _ _ (sym c.same_letter.ensures ∙ c.if-not-same_letter.false) refl n.same),
    )

pub returns : goal.returns
returns c =
    let w = c.args.word.now in
    let l = c.loop-b in
    none_left _ _ c.is_none.ensures ∙ sym (ap (same_name w) c.next_letter-j.ensures.same ∙ l.invariant.1 ∙ rw (drop_of_length-le w c.loop-b-test.false) (letters_end c.args.source.now l.j))
