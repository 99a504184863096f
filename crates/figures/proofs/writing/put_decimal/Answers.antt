-- `figures::writing::put_decimal` meets its contract: by the number of digits before the point.
-- Assumes nothing.
use mathlib.Core.Path.{sym, subst}
use Prim.Native.Nat.{◌≤◌}
use native.Mathlib.Omega.{arith}
use Rattle.figures.proofs.Rounding.{places_few}
use Rattle.figures.proofs.Rows.{puts_as, text_large, text_small, text_plain, plain_of}
use Rattle.figures.proofs.writing.put_decimal.Goals as goal
use Rattle.figures.proofs.writing.put_decimal.Goals.{then-d-n-via-then-d-n, then-d-n-via-else-d-n+then-n-d}

pub overflow_add-n : goal.overflow_add-n
overflow_add-n c = omega (arith, c.places_of-n.ensures, places_few c.args.d.figures 20 17 c.requires.2.figures, c.requires.2.up)

pub put_scientific-requires : goal.put_scientific-requires
put_scientific-requires c = (c.requires.0, c.requires.1, c.requires.2, subst (λ x. x ≤ 17) (sym c.places_of-n.ensures) (places_few c.args.d.figures 20 17 c.requires.2.figures))

pub returns-then-d-n : goal.returns-then-d-n
returns-then-d-n c = elim c.then-d-n.branch [
  | then-d-n-via-then-d-n w ↦ puts_as (text_large c.args.d c.places_of-n.result c.places_of-n.ensures w.if-d-n.true) c.put_scientific.ensures
  | then-d-n-via-else-d-n+then-n-d w ↦ puts_as (text_small c.args.d c.places_of-n.result c.places_of-n.ensures w.if-d-n.false w.if-n-d.true) c.put_scientific.ensures
]

pub put_plain-requires : goal.put_plain-requires
put_plain-requires c = (c.requires.0, c.requires.1, plain_of c.args.d c.places_of-n.result c.requires.2 c.places_of-n.ensures c.if-d-n.false c.if-n-d.false)

pub returns : goal.returns
returns c = puts_as (text_plain c.args.d c.places_of-n.result c.places_of-n.ensures c.if-d-n.false c.if-n-d.false) c.put_plain.ensures
