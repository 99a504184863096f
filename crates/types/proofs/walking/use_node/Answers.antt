-- `types::walking::use_node` meets its contract: the next use, and then the arm of the node's kind.
use mathlib.Core.Path.{refl, sym, ap, subst, ◌∙◌}
use mathlib.Core.Bool.{not}
use borrow.Author.Tests.{ne_eqb}
use Rattle.names.specs.model.Rows.{meant_of}
use Rattle.names.specs.declared.Meant.{Meant}
use Rattle.types.specs.model.Arrays.{MeantWithin}
use Rattle.types.specs.model.Passes.{State, use_typed, named_as, called_as, left_as, variable_of, noted}
use Rattle.types.proofs.Stacks.{meant_within, noted_ap}
use Rattle.types.proofs.walking.use_node.Goals as goal

pub is_variable-requires : goal.is_variable-requires
is_variable-requires c = (c.requires.3, subst MeantWithin (sym c.meant.ensures) (meant_within c.next_use-u.result.last))

pub returns-in-30 : goal.returns-in-30
unfolding use_typed
returns-in-30 c = simp c.in-30.is (c.name.ensures _ _ _ ∙ ap (named_as _ _ _ _) (c.next_use-u.ensures.by_index _ _ _))

pub returns-in-31 : goal.returns-in-31
unfolding use_typed
returns-in-31 c = simp c.in-31.is (c.call.ensures _ _ _ ∙ ap (called_as _) (c.next_use-u.ensures.by_index _ _ _))

pub returns-in-23 : goal.returns-in-23
unfolding use_typed
returns-in-23 c = simp c.in-23.is (c.left.ensures _ _ _ ∙ ap (left_as _ _) (c.next_use-u.ensures.by_index _ _ _))

pub returns-in_default : goal.returns-in_default
unfolding use_typed
returns-in_default c =
    let r = c.in_default.in_default-own.rest in
    simp (ne_eqb _ _ r.1, ne_eqb _ _ r.0.1, ne_eqb _ _ r.0.0.1)
    (c.note.ensures.b_value c.args.uses.now c.args.pending.now.sorts c.args.pending.now.calls c.args.pending.now.bodies ∙ noted_ap _ (ap not (c.is_variable.ensures ∙ ap (λ (m : Meant). variable_of c.args.rows.now m 1) c.meant.ensures)) refl
    ∙ ap (λ (z : State). noted (not (variable_of c.args.rows.now (meant_of z.last) 1)) c.args.n.symbol.number z) (c.next_use-u.ensures.by_index c.args.pending.now.sorts c.args.pending.now.calls c.args.pending.now.bodies))
