-- Both numbers are exact, and one division rounds once.
use Rattle.std.proofs.Common.{ℕ, ◌^◌, ◌≤◌, pos, sym, ap, ◌∙◌, subst, arith}
use lib.Ieee.{binary64, div, of_int, of_bits}
use Rattle.reals.specs.Values.{decimal}
use Rattle.reals.proofs.Divided.{exact, ten_le, ten_pos, divided, reading_is, too_long, too_fine}
use Rattle.reals.proofs.decimals.decimal.Goals as goal
use Rattle.reals.proofs.decimals.decimal.Goals.{then-n-ge1000000000000000-via-then-n-ge1000000000000000, then-n-ge1000000000000000-via-else-n-ge1000000000000000+then-k-gt15}

pub returns-then-n-ge1000000000000000 : goal.returns-then-n-ge1000000000000000
unfolding of_bits
returns-then-n-ge1000000000000000 c = elim c.then-n-ge1000000000000000.branch [
  | then-n-ge1000000000000000-via-then-n-ge1000000000000000 w ↦ too_long c.args.n c.args.k w.if-n-ge1000000000000000.true
  | then-n-ge1000000000000000-via-else-n-ge1000000000000000+then-k-gt15 w ↦ too_fine c.args.n c.args.k w.if-n-ge1000000000000000.false w.if-k-gt15.true
]

pub int_to_float-result-2 : goal.int_to_float-result-2
int_to_float-result-2 c = exact c.pow.result (subst (λ (p : ℕ). p ≤ 1000000000000000) (sym c.pow.ensures) (ten_le c.args.k c.if-k-gt15.false))

pub returns : goal.returns
unfolding decimal
returns c =
    let k = c.args.k in
    ap (λ (p : ℕ). div binary64 (of_int binary64 (pos c.args.n)) (of_int binary64 (pos p))) c.pow.ensures
    ∙ divided c.args.n (10 ^ k) (omega (arith, c.if-n-ge1000000000000000.false)) (ten_le k c.if-k-gt15.false) (ten_pos k)
    ∙ sym (reading_is c.args.n k c.if-n-ge1000000000000000.false c.if-k-gt15.false)
