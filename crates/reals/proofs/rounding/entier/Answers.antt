-- At 0 and above it is the quotient; below, one less than the quotient's negative where the quotient is below the number.
use Rattle.std.proofs.Common.{ℕ, ◌≤◌, Bool, cond, pos, negsuc, neg_ℤ, sym, ap, ◌∙◌, subst, arith, to_z-of_z, w64, SFits}
use lib.Ieee.{Float, of_bits, neg, lt}
use Rattle.reals.proofs.Entier.{cut_over, cut_under, over_small, over_is, under_small, under_is, in_range, sized, less_one, from_none, neg_sized}
use Rattle.reals.proofs.rounding.entier.Goals as goal

pub truncating_f64_to_u64-requires : goal.truncating_f64_to_u64-requires
unfolding of_bits
truncating_f64_to_u64-requires c = let h = cut_over c.args.t (in_range c.args.t c.requires.0 c.requires.1) c.if-t.true in record { lower_bound = h.0; upper_bound = h.1 }

pub overflow_cast-result : goal.overflow_cast-result
overflow_cast-result c = record { sfits = omega (arith, (subst (λ (u : ℕ). u ≤ 2147483648) (sym c.truncating_f64_to_u64.ensures) (over_small c.args.t (in_range c.args.t c.requires.0 c.requires.1)))) }

pub returns-then-t : goal.returns-then-t
unfolding of_bits
returns-then-t c = sized c.truncating_f64_to_u64.result (subst (λ (u : ℕ). u ≤ 2147483648) (sym c.truncating_f64_to_u64.ensures) (over_small c.args.t (in_range c.args.t c.requires.0 c.requires.1))) ∙ ap pos c.truncating_f64_to_u64.ensures ∙ over_is c.args.t (in_range c.args.t c.requires.0 c.requires.1) c.if-t.true

pub truncating_f64_to_u64-u-requires : goal.truncating_f64_to_u64-u-requires
unfolding of_bits
truncating_f64_to_u64-u-requires c = let h = cut_under c.args.t (in_range c.args.t c.requires.0 c.requires.1) c.if-t.false in record { lower_bound = h.0; upper_bound = h.1 }

pub overflow_cast-result-then-nearest_u64_to_f64-t : goal.overflow_cast-result-then-nearest_u64_to_f64-t
overflow_cast-result-then-nearest_u64_to_f64-t c = record { sfits = omega (arith, (subst (λ (u : ℕ). u ≤ 2147483648) (sym c.truncating_f64_to_u64-u.ensures) (under_small c.args.t (in_range c.args.t c.requires.0 c.requires.1)))) }

pub overflow_sub-result : goal.overflow_sub-result
overflow_sub-result c = rw (sized c.truncating_f64_to_u64-u.result (subst (λ (u : ℕ). u ≤ 2147483648) (sym c.truncating_f64_to_u64-u.ensures) (under_small c.args.t (in_range c.args.t c.requires.0 c.requires.1))), less_one c.truncating_f64_to_u64-u.result) (record { sfits = omega (arith, (subst (λ (u : ℕ). u ≤ 2147483648) (sym c.truncating_f64_to_u64-u.ensures) (under_small c.args.t (in_range c.args.t c.requires.0 c.requires.1)))) })

pub returns-then-nearest_u64_to_f64-t : goal.returns-then-nearest_u64_to_f64-t
unfolding of_bits
returns-then-nearest_u64_to_f64-t c =
    let l = (subst (λ (u : ℕ). u ≤ 2147483648) (sym c.truncating_f64_to_u64-u.ensures) (under_small c.args.t (in_range c.args.t c.requires.0 c.requires.1))) in
    let f : SFits w64 (negsuc c.truncating_f64_to_u64-u.result) = record { sfits = omega (arith, l) } in
    let d = under_is c.args.t c.truncating_f64_to_u64-u.result (in_range c.args.t c.requires.0 c.requires.1) c.if-t.false c.truncating_f64_to_u64-u.ensures in
    let b = ap (λ (y : Float). lt y (neg c.args.t)) (sym c.nearest_u64_to_f64.ensures) ∙ c.if-nearest_u64_to_f64-t.true in
    rw (sized c.truncating_f64_to_u64-u.result l, less_one c.truncating_f64_to_u64-u.result) (to_z-of_z f ∙ sym (d ∙ ap (λ (b : Bool). cond b (negsuc c.truncating_f64_to_u64-u.result) (neg_ℤ (pos c.truncating_f64_to_u64-u.result))) b))

pub overflow_cast-result-2 : goal.overflow_cast-result-2
overflow_cast-result-2 c = record { sfits = omega (arith, (subst (λ (u : ℕ). u ≤ 2147483648) (sym c.truncating_f64_to_u64-u.ensures) (under_small c.args.t (in_range c.args.t c.requires.0 c.requires.1)))) }

pub overflow_sub-result-2 : goal.overflow_sub-result-2
overflow_sub-result-2 c = rw (sized c.truncating_f64_to_u64-u.result (subst (λ (u : ℕ). u ≤ 2147483648) (sym c.truncating_f64_to_u64-u.ensures) (under_small c.args.t (in_range c.args.t c.requires.0 c.requires.1))), from_none c.truncating_f64_to_u64-u.result) (neg_sized c.truncating_f64_to_u64-u.result (subst (λ (u : ℕ). u ≤ 2147483648) (sym c.truncating_f64_to_u64-u.ensures) (under_small c.args.t (in_range c.args.t c.requires.0 c.requires.1))))

pub returns : goal.returns
unfolding of_bits
returns c =
    let l = (subst (λ (u : ℕ). u ≤ 2147483648) (sym c.truncating_f64_to_u64-u.ensures) (under_small c.args.t (in_range c.args.t c.requires.0 c.requires.1))) in
    let f = neg_sized c.truncating_f64_to_u64-u.result l in
    let d = under_is c.args.t c.truncating_f64_to_u64-u.result (in_range c.args.t c.requires.0 c.requires.1) c.if-t.false c.truncating_f64_to_u64-u.ensures in
    let b = ap (λ (y : Float). lt y (neg c.args.t)) (sym c.nearest_u64_to_f64.ensures) ∙ c.if-nearest_u64_to_f64-t.false in
    rw (sized c.truncating_f64_to_u64-u.result l, from_none c.truncating_f64_to_u64-u.result) (to_z-of_z f ∙ sym (d ∙ ap (λ (b : Bool). cond b (negsuc c.truncating_f64_to_u64-u.result) (neg_ℤ (pos c.truncating_f64_to_u64-u.result))) b))
