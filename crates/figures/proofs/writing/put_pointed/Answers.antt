-- `figures::writing::put_pointed` meets its contract: three runs, one behind the other, of at most 24 bytes.
-- Assumes nothing.
use mathlib.Core.Path.{sym, ap, ◌∙◌, subst}
use Prim.Native.Nat.{◌≤◌, ◌+◌}
use native.Mathlib.Omega.{arith}
use Rattle.figures.specs.Written.{width}
use Rattle.figures.proofs.Rounding.{point_fits}
use Rattle.figures.proofs.Rows.{puts_as, numeral_length, puts_then, pointed_is}
use Rattle.figures.proofs.writing.put_pointed.Goals as goal

pub put_digits-point-requires : goal.put_digits-point-requires
put_digits-point-requires c =
    let b = subst (λ x. x + c.args.f ≤ 23) (sym (c.width-n.ensures ∙ ap width c.without-w.ensures)) (point_fits c.args.c c.args.f c.requires.1 c.requires.2) in
    omega (arith, b, c.requires.0, c.requires.3)

pub put-behind-requires : goal.put-behind-requires
put-behind-requires c =
    let b = subst (λ x. x + c.args.f ≤ 23) (sym (c.width-n.ensures ∙ ap width c.without-w.ensures)) (point_fits c.args.c c.args.f c.requires.1 c.requires.2) in
    omega (arith, b, c.requires.0, c.requires.3, c.put_digits-point.ensures.behind, c.put_digits-point.ensures.size, numeral_length c.width-n.result c.without-w.result)

pub put_digits-requires : goal.put_digits-requires
put_digits-requires c =
    let b = subst (λ x. x + c.args.f ≤ 23) (sym (c.width-n.ensures ∙ ap width c.without-w.ensures)) (point_fits c.args.c c.args.f c.requires.1 c.requires.2) in
    omega (arith, b, c.requires.0, c.requires.3, c.put_digits-point.ensures.behind, c.put_digits-point.ensures.size, numeral_length c.width-n.result c.without-w.result, c.put-behind.ensures.behind, c.put-behind.ensures.size)

pub shape_of-row : goal.shape_of-row
shape_of-row c = c.put_digits.ensures.size ∙ c.put-behind.ensures.size ∙ c.put_digits-point.ensures.size

pub returns : goal.returns
returns c =
    let a = c.args in
    let b = subst (λ x. x + a.f ≤ 23) (sym (c.width-n.ensures ∙ ap width c.without-w.ensures)) (point_fits a.c a.f c.requires.1 c.requires.2) in
    let k = numeral_length c.width-n.result c.without-w.result in
    let l = numeral_length a.f a.c in record {
      puts = puts_as (pointed_is a.c a.f c.without-w.result c.width-n.result c.without-w.ensures c.width-n.ensures)
          (puts_then c.put_digits-point.ensures (puts_then c.put-behind.ensures c.put_digits.ensures (omega (arith, b, c.requires.0, c.requires.3, k, c.put_digits-point.ensures.behind, c.put_digits-point.ensures.size, c.put-behind.ensures.behind))) (omega (arith, b, c.requires.0, c.requires.3, k, c.put_digits-point.ensures.behind)));
      upper_bound = omega (arith, b, c.requires.0, k, l, c.put_digits-point.ensures.behind, c.put-behind.ensures.behind, c.put_digits.ensures.behind);
    }
