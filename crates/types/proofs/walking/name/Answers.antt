-- `types::walking::name` meets its contract: as a statement or as a primary, by the test.
use mathlib.Core.Path.{refl, sym, ap, subst, ◌∙◌}
use borrow.Author.Tests.{eq-eqb, ne_eqb}
use Rattle.names.specs.declared.Meant.{Meant}
use Rattle.types.specs.declared.Judgement.{Judgement}
use Rattle.types.specs.model.Arrays.{MeantWithin}
use Rattle.types.specs.model.Passes.{named_as, judged, with_bare, miscalled_of, primary_of}
use Rattle.types.proofs.Stacks.{meant_within, noted_ap, pushed_ap}
use Rattle.types.proofs.walking.name.Goals as goal

pub miscalled-requires : goal.miscalled-requires
miscalled-requires c = (c.requires.1, subst MeantWithin (sym c.meant-m.ensures) (meant_within c.args.t.last))

pub returns-then-as_statement-eq1 : goal.returns-then-as_statement-eq1
unfolding named_as
returns-then-as_statement-eq1 c =
    λ u d b. simp (eq-eqb _ _ c.if-as_statement-eq1.true)
    (c.note.ensures.b_value u _ d b ∙ noted_ap _ (c.miscalled.ensures ∙ ap (λ (m : Meant). miscalled_of c.args.rows.now m 0) c.meant-m.ensures) refl)

pub in_expression-j-requires : goal.in_expression-j-requires
in_expression-j-requires c = (c.requires.1, subst MeantWithin (sym c.meant-m.ensures) (meant_within c.args.t.last))

pub returns : goal.returns
unfolding named_as judged with_bare
returns c =
    let j = c.in_expression-j.ensures ∙ ap (λ (m : Meant). primary_of c.args.rows.now m 0) c.meant-m.ensures in
    λ u d b. simp (ne_eqb _ _ c.if-as_statement-eq1.false)
    (ap (with_bare c.args.depth) (c.push-p.ensures u d b
    ∙ pushed_ap (ap (λ (z : Judgement). z.sort) j) (c.note-2.ensures.b_value u _ d b ∙ noted_ap _ (ap (λ (z : Judgement). z.wrong) j) refl)))
