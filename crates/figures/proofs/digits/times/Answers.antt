-- `figures::digits::times` meets its contract: what is carried stands for the digits to come, until all are written and nothing is carried.
-- Assumes nothing.
use Rattle.std.proofs.Common.{◌*◌, arith, add-one, ap, ◌∙◌, get_or, le_antisymm, subst}
use Rattle.figures.proofs.Spelling.{Worked, worked_none, worked_more, worked_all, product}
use Rattle.figures.proofs.digits.times.Goals as goal

pub loop-d-init : goal.loop-d-init
loop-d-init c = worked_none _ _ _ c.requires.number.digits

pub overflow_add-n : goal.overflow_add-n
overflow_add-n c =
    let l = c.loop-d in
    omega (arith, product (get_or l.a l.d-index 0) c.args.k (l.invariant.digits l.d-index) c.requires.k_bound.0, ap (λ x. x * c.args.k) c.from.ensures, l.invariant.small, c.requires.k_bound.1)

pub loop-d-preserved : goal.loop-d-preserved
loop-d-preserved c =
    let l = c.loop-d in
    rw (add-one l.d-index, c.from.ensures) (worked_more c.args.a.now c.args.k c.args.c l.a l.carry l.d-index c.requires.k_bound.0 (omega (arith, c.requires.number.size)) l.invariant)

pub returns : goal.returns
returns c =
    let l = c.loop-d in
    record {
      number = record { size = l.invariant.size ∙ c.requires.number.size; digits = l.invariant.digits };
      spelt = worked_all c.args.a.now c.args.k c.args.c l.a l.carry 772 c.requires.number.size c.requires.k_bound.2 (subst (λ n. Worked c.args.a.now c.args.k c.args.c l.a l.carry n) (le_antisymm l.auto.d-index-end c.loop-d-test.false) l.invariant);
    }
