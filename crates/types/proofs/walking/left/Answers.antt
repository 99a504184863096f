-- `walking::left`: the first left part's type is kept, and a further one is wrong also where it differs.
use mathlib.Core.Path.{◌≡◌, refl, sym, ap, subst, ◌∙◌}
use mathlib.Core.Bool.{true, ◌||◌}
use native.Mathlib.Omega.{arith}
use Rattle.names.specs.model.Rows.{opens_of, meant_of}
use Rattle.names.specs.declared.Meant.{Meant}
use Rattle.types.specs.declared.Judgement.{Judgement}
use Rattle.types.specs.model.Arrays.{MeantWithin, see}
use Rattle.types.specs.model.Passes.{differ_of, left_of, with_left}
use Rattle.types.proofs.Stacks.{meant_within, noted_ap, both_ap, or_true, or_false, left_again, left_first}
use Rattle.types.proofs.walking.left.Goals as goal
use Rattle.types.proofs.walking.left.Goals.{then-j, else-j}

pub as_left-j-requires : goal.as_left-j-requires
as_left-j-requires c = (c.requires.1, subst MeantWithin (sym c.meant.ensures) (meant_within c.args.t.last), omega arith)

pub returns-then-t : goal.returns-then-t
returns-then-t c =
    let j = c.as_left-j.ensures ∙ ap (λ (m : Meant). left_of c.args.rows.now (opens_of c.args.t.bodies c.args.bodies.now) m) c.meant.ensures in
    let r = left_of c.args.rows.now (opens_of c.args.t.bodies c.args.bodies.now) (meant_of c.args.t.last) in
    let k : c.if-j.note ≡ (r.wrong || differ_of c.args.t.left r.sort) = elim c.if-j.branch [
      | then-j w ↦ w.note-is ∙ w.if-j.true ∙ or_true _ (sym (ap (λ (z : Judgement). z.wrong) j) ∙ w.if-j.true)
      | else-j w ↦ w.note-is ∙ or_false (sym (ap (λ (z : Judgement). z.wrong) j) ∙ w.if-j.false) (w.differ.ensures ∙ both_ap differ_of refl (ap (λ (z : Judgement). z.sort) j))
    ] in
    λ u s d. c.note.ensures.b_value u s d _ ∙ noted_ap _ k refl
    ∙ sym (left_again c.args.rows.now c.args.symbol.number (see c.args.t u s d c.args.bodies.now) c.if-t.true)

pub returns : goal.returns
unfolding with_left
returns c =
    let j = c.as_left-j.ensures ∙ ap (λ (m : Meant). left_of c.args.rows.now (opens_of c.args.t.bodies c.args.bodies.now) m) c.meant.ensures in
    λ u s d. c.note-2.ensures.b_value u s d _
    ∙ noted_ap _ (ap (λ (z : Judgement). z.wrong) j) (ap (λ (z : Judgement). with_left true z.sort (see c.args.t u s d c.args.bodies.now)) j)
    ∙ sym (left_first c.args.rows.now c.args.symbol.number (see c.args.t u s d c.args.bodies.now) c.if-t.false)
