-- The real of the digits, as its bits in two halves.
use Rattle.std.proofs.Common.{ℕ, ◌/◌, ◌%◌, ap, ◌∙◌}
use lib.Ieee.{binary64, to_bits}
use Rattle.reals.proofs.decimals.constant.Goals as goal

pub returns : goal.returns
returns c =
    let e = c.bits_of-b.ensures ∙ ap (to_bits binary64) c.decimal.ensures in
    (ap (λ (b : ℕ). b % 4294967296) e, ap (λ (b : ℕ). b / 4294967296) e)
