-- `figures::fewest::figures_of` meets its contract: the cases of the two fields.
-- Assumes nothing.
use mathlib.Core.Path.{refl, ◌∙◌}
use mathlib.Core.Logic.{inl, inr, ⊎_elim}
use Prim.Native.Nat.{◌^◌}
use native.Mathlib.Omega.{arith}
use native.Mathlib.Nat.{le_refl, pos_of_ne-zero}
use lib.Dec.{lit<, lit≤}
use Rattle.figures.proofs.Sizes.{zero_is, low_is, normal_is, one_is, power_is}
use Rattle.figures.proofs.fewest.figures_of.Goals as goal

pub returns-then-t-eq0 : goal.returns-then-t-eq0
returns-then-t-eq0 c = record { is = zero_is c.args.x c.args.t c.if-x-eq0.true c.if-t-eq0.true; small = record { figures = lit< tt; up = lit< tt; down = lit< tt } }

pub decimal_of-requires : goal.decimal_of-requires
decimal_of-requires c = record { some = pos_of_ne-zero c.if-t-eq0.false; few = omega (arith, c.requires.1); near = le_refl 16; least = lit< tt; most = lit≤ tt; normal = inr refl }

pub returns-then-x-eq0 : goal.returns-then-x-eq0
returns-then-x-eq0 c = record { is = c.decimal_of.ensures.is ∙ low_is c.args.x c.args.t c.if-x-eq0.true c.if-t-eq0.false; small = c.decimal_of.ensures.small }

pub decimal_of-requires-then-x-gt1 : goal.decimal_of-requires-then-x-gt1
decimal_of-requires-then-x-gt1 c = record { some = lit< tt; few = lit< tt; near = lit≤ tt; least = pos_of_ne-zero c.if-x-eq0.false; most = omega (arith, c.requires.0); normal = inl (le_refl (2 ^ 52)) }

pub returns-then-x-gt1 : goal.returns-then-x-gt1
returns-then-x-gt1 c =
    let args = c.args in
    record { is = c.decimal_of-then-x-gt1.ensures.is ∙ power_is args.x args.t c.if-x-eq0.false c.if-t-eq0-2.true c.if-x-gt1.true; small = c.decimal_of-then-x-gt1.ensures.small }

pub overflow_add-t : goal.overflow_add-t
overflow_add-t c = omega (arith, c.requires.1)

pub decimal_of-requires-2 : goal.decimal_of-requires-2
decimal_of-requires-2 c = record { some = omega arith; few = omega (arith, c.requires.1); near = le_refl 16; least = pos_of_ne-zero c.if-x-eq0.false; most = omega (arith, c.requires.0); normal = inl (omega arith) }

pub returns : goal.returns
returns c =
    let a = c.args in
    record {
      is = c.decimal_of-2.ensures.is ∙ ⊎_elim (λ w. one_is a.x a.t c.if-x-eq0.false w.1) (λ n. normal_is a.x a.t c.if-x-eq0.false n) c.else-t-eq0-2.either;
      small = c.decimal_of-2.ensures.small;
    }
