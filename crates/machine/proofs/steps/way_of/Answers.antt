-- The running activation's own, an outer one's, or what was found.
use mathlib.Core.Path.{sym, ◌∙◌}
use native.Mathlib.Omega.{arith}
use Rattle.machine.specs.Instructions.{high}
use Rattle.machine.proofs.Frames.{walk_end}
use Rattle.machine.proofs.Execs.{cell_is, cell_found_lem, found_data}
use Rattle.machine.proofs.steps.way_of.Goals as goal

pub returns-then-o-eq-FOUND_OFFSET : goal.returns-then-o-eq-FOUND_OFFSET
returns-then-o-eq-FOUND_OFFSET c =
    let args = c.args in
    record { result_value = λ n s i o. cell_found_lem args.own.now args.live args.v _ (sym c.mid-o.ensures ∙ c.if-o-eq-FOUND_OFFSET.true) c.word.ensures c.word-then-o-eq-FOUND_OFFSET.ensures (sym (found_data n args.own.now args.live s i o)); links_le_most_links = omega (arith, c.word-then-o-eq-FOUND_OFFSET.ensures, c.requires.0.way) }

pub returns-then-u-eq0 : goal.returns-then-u-eq0
returns-then-u-eq0 c =
    let args = c.args in
    record { result_value = λ n s i o. cell_is args.own.now args.live args.v _ (λ e. c.if-o-eq-FOUND_OFFSET.false (c.mid-o.ensures ∙ e)) (walk_end _ args.live (high args.v) (omega (arith, c.high-u.ensures, c.if-u-eq0.true))) c.requires.1 (rw c.mid-o.ensures); links_le_most_links = omega arith }

pub returns : goal.returns
returns c =
    let args = c.args in
    record { result_value = λ n s i o. cell_is args.own.now args.live args.v _ (λ e. c.if-o-eq-FOUND_OFFSET.false (c.mid-o.ensures ∙ e)) (rw c.high-u.ensures at c.around.ensures.1) (c.first_cell.ensures.by_index args.live c.around.ensures.0) (rw c.mid-o.ensures); links_le_most_links = omega arith }
