-- `figures::fewest::trimmed` meets its contract: by the last digit.
-- Assumes nothing.
use Prim.Native.Nat.{◌%◌}
use native.Mathlib.Omega.{arith}
use borrow.Author.Tests.{eq-eqb, ne_eqb}
use Rattle.figures.specs.Fewest.{trimmed}
use Rattle.figures.proofs.fewest.trimmed.Goals as goal

pub returns-then-c-eq0 : goal.returns-then-c-eq0
unfolding trimmed
returns-then-c-eq0 c = record { is = rw (eq-eqb (c.args.c % 10) 0 c.if-c-eq0.true); small = record { figures = omega arith; up = omega arith; down = c.requires.2 } }

pub returns : goal.returns
unfolding trimmed
returns c =
    let n = c.if-c-eq0.false in
    record { is = rw (ne_eqb (c.args.c % 10) 0 c.if-c-eq0.false); small = record { figures = omega (arith, n); up = omega arith; down = c.requires.2 } }
