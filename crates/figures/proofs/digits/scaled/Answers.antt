-- `figures::digits::scaled` meets its contract: the digits of n, then the factors 2 and 5; all stays below 10 ^ 772.
-- Assumes nothing.
use mathlib.Core.Path.{◌∙◌}
use Prim.Native.Nat.{ℕ}
use native.Mathlib.Nat.{lt_trans}
use lib.Dec.{lit<}
use lib.ListN.{length-replicate}
use Rattle.figures.proofs.Spelling.{value_zeros, digits_zeros}
use Rattle.figures.proofs.Sizes.{first_fits, second_fits, third_fits, third_is, more_fits, more_is}
use Rattle.figures.proofs.digits.scaled.Goals as goal

pub times-requires : goal.times-requires
times-requires c =
    let a = c.args in
    let h = c.requires in
    record { number = record { size = length-replicate {A = ℕ} 772 0; digits = digits_zeros 772 }; k_bound = (lit< tt, lt_trans h.0 (lit< tt), first_fits a.y a.n h.0 h.1 h.2 _ (value_zeros 772)) }

pub times_power-requires : goal.times_power-requires
times_power-requires c =
    let a = c.args in
    let h = c.requires in
    record { number = c.times.ensures.number; k_nonzero = (lit< tt, lit< tt, second_fits a.y a.n h.0 h.1 h.2 _ _ c.saturating_sub.result (value_zeros 772) c.times.ensures.spelt c.saturating_sub.ensures) }

pub times_power-requires-2 : goal.times_power-requires-2
times_power-requires-2 c =
    let a = c.args in
    let h = c.requires in
    record { number = c.times_power.ensures.number; k_nonzero = (lit< tt, lit< tt, third_fits a.y a.n h.0 h.1 h.2 _ _ c.saturating_sub.result _ c.saturating_sub-2.result (value_zeros 772) c.times.ensures.spelt c.saturating_sub.ensures c.times_power.ensures.spelt c.saturating_sub-2.ensures) }

pub times-requires-2 : goal.times-requires-2
times-requires-2 c =
    let a = c.args in
    let h = c.requires in
    let e = c.times_power-2.ensures.spelt ∙ third_is a.y a.n h.0 h.1 h.2 _ _ c.saturating_sub.result _ c.saturating_sub-2.result (value_zeros 772) c.times.ensures.spelt c.saturating_sub.ensures c.times_power.ensures.spelt c.saturating_sub-2.ensures in
    record { number = c.times_power-2.ensures.number; k_bound = (lit< tt, lt_trans h.3 (lit< tt), more_fits a.y a.n a.more h.0 h.1 h.2 h.3 _ e) }

pub returns : goal.returns
returns c =
    let a = c.args in
    let h = c.requires in
    let e = c.times_power-2.ensures.spelt ∙ third_is a.y a.n h.0 h.1 h.2 _ _ c.saturating_sub.result _ c.saturating_sub-2.result (value_zeros 772) c.times.ensures.spelt c.saturating_sub.ensures c.times_power.ensures.spelt c.saturating_sub-2.ensures in
    record { number = c.times-2.ensures.number; spelt = c.times-2.ensures.spelt ∙ more_is a.y a.n a.more h.0 h.1 h.2 h.3 _ e }
