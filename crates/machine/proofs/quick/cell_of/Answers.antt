-- What was found, the running activation's own, or an outer one's.
use mathlib.Core.Path.{refl, sym, subst, ◌∙◌}
use native.Mathlib.Omega.{arith}
use native.Mathlib.Nat.{le_refl}
use Rattle.machine.specs.Instructions.{high}
use Rattle.machine.specs.model.Quick.{LeadsTo}
use Rattle.machine.proofs.Frames.{walk_end}
use Rattle.machine.proofs.Execs.{cell_is, cell_found_lem, found_data}
use Rattle.machine.proofs.Numbers.{way_none}
use borrow.Author.Rules.{rules}
use Rattle.machine.proofs.quick.cell_of.Goals as goal

pub returns-then-b-most : goal.returns-then-b-most
returns-then-b-most c = record { spots = λ h. absurd (omega (arith, h)); upper_bound = omega (arith, c.requires.1) }

pub returns-then-whole_way : goal.returns-then-whole_way
returns-then-whole_way c =
    let args = c.args in
    record { spots = λ h. (omega (arith, c.if-b-most.false, (c.first_cell-b.ensures.by_index args.live (le_refl _))), λ m s i o. subst (LeadsTo _) (cell_found_lem args.own.now args.live args.v _ (sym c.mid-o.ensures ∙ c.if-o-eq-FOUND_OFFSET.true) c.word-then-whole_way.ensures c.word.ensures (sym (found_data m args.own.now args.live s i o))) (refl, c.whole_way.ensures c.if-whole_way.true)); upper_bound = search rules }

pub returns-then-o-eq-FOUND_OFFSET : goal.returns-then-o-eq-FOUND_OFFSET
returns-then-o-eq-FOUND_OFFSET c = record { spots = λ h. absurd (omega (arith, h)); upper_bound = omega (arith, c.requires.1) }

pub returns-then-u-eq0 : goal.returns-then-u-eq0
returns-then-u-eq0 c =
    let args = c.args in
    record { spots = λ h. (omega (arith, h, c.requires.2, (c.first_cell-b.ensures.by_index args.live (le_refl _))), λ m s i o. subst (LeadsTo _) (cell_is args.own.now args.live args.v _ (λ e. c.if-o-eq-FOUND_OFFSET.false (c.mid-o.ensures ∙ e)) (walk_end _ args.live (high args.v) (omega (arith, c.high-u.ensures, c.if-u-eq0.true))) (c.first_cell-b.ensures.by_index args.live (le_refl _)) (rw c.mid-o.ensures)) (refl, way_none args.own.now 0 (omega arith))); upper_bound = omega (arith, c.first_cell-b.ensures.upper_bound, c.mid-o.ensures) }

pub returns-then-b-most-2 : goal.returns-then-b-most-2
returns-then-b-most-2 c = record { spots = λ h. absurd (omega (arith, h)); upper_bound = omega (arith, c.requires.1) }

pub returns : goal.returns
returns c =
    let args = c.args in
    record { spots = λ h. (omega (arith, c.if-b-most-2.false, (c.first_cell-b.ensures.by_index args.live (le_refl _))), λ m s i o. subst (LeadsTo _) (cell_is args.own.now args.live args.v _ (λ e. c.if-o-eq-FOUND_OFFSET.false (c.mid-o.ensures ∙ e)) (rw c.high-u.ensures at c.around.ensures.1) (c.first_cell.ensures.by_index args.live c.around.ensures.0) (rw c.mid-o.ensures)) (refl, way_none args.own.now 0 (omega arith))); upper_bound = omega (arith, c.first_cell.ensures.upper_bound, c.mid-o.ensures) }
