-- `figures::fewest::decimal_of` meets its contract: the steps one behind the other; each asks what a finite real gives.
-- Assumes nothing.
use mathlib.Core.Path.{sym, ◌∙◌, subst}
use Prim.Native.Nat.{◌≤◌, ◌^◌}
use native.Mathlib.Omega.{arith}
use Rattle.figures.proofs.Rounding.{range_of, nearest_fits, near_most}
use Rattle.figures.proofs.Sizes.{ready_of, decimal_is}
use Rattle.figures.proofs.fewest.decimal_of.Goals as goal

pub enough-p-requires : goal.enough-p-requires
enough-p-requires c =
    let a = c.args in
    record { number = c.scaled-v.ensures.number; number_2 = c.scaled-low.ensures.number; number_3 = c.scaled-high.ensures.number; ready = ready_of a.m a.under a.y _ _ _ _ c.scaled-v.ensures.spelt c.scaled-low.ensures.spelt c.scaled-high.ensures.spelt c.places-t.ensures c.requires }

pub overflow_sub-t : goal.overflow_sub-t
overflow_sub-t c =
    let a = c.args in
    let r = ready_of a.m a.under a.y _ _ _ c.places-t.result c.scaled-v.ensures.spelt c.scaled-low.ensures.spelt c.scaled-high.ensures.spelt c.places-t.ensures c.requires in
    let g = range_of _ _ _ _ c.enough-p.result c.enough-p.ensures in
    omega (arith, r.many, g.1)

pub nearest-requires : goal.nearest-requires
nearest-requires c =
    let a = c.args in
    let r = ready_of a.m a.under a.y _ _ _ c.places-t.result c.scaled-v.ensures.spelt c.scaled-low.ensures.spelt c.scaled-high.ensures.spelt c.places-t.ensures c.requires in
    let g = range_of _ _ _ _ c.enough-p.result c.enough-p.ensures in
    record { number = c.scaled-v.ensures.number; j_nonzero = nearest_fits _ _ _ c.places-t.result c.enough-p.result r g.0 g.1 }

pub overflow_sub-t-2 : goal.overflow_sub-t-2
overflow_sub-t-2 c =
    let a = c.args in
    let r = ready_of a.m a.under a.y _ _ _ c.places-t.result c.scaled-v.ensures.spelt c.scaled-low.ensures.spelt c.scaled-high.ensures.spelt c.places-t.ensures c.requires in
    let g = range_of _ _ _ _ c.enough-p.result c.enough-p.ensures in
    omega (arith, r.many, g.1)

pub trimmed-requires : goal.trimmed-requires
trimmed-requires c =
    let a = c.args in
    let r = ready_of a.m a.under a.y _ _ _ c.places-t.result c.scaled-v.ensures.spelt c.scaled-low.ensures.spelt c.scaled-high.ensures.spelt c.places-t.ensures c.requires in
    let g = range_of _ _ _ _ c.enough-p.result c.enough-p.ensures in
    let k : c.enough-p.result ≤ c.places-t.result = omega (arith, r.many, g.1) in
    (subst (λ x. x ≤ 10 ^ 17) (sym c.nearest.ensures) (near_most _ c.places-t.result c.enough-p.result r.under k g.1), omega (arith, r.few), omega (arith, c.saturating_sub.ensures))

pub returns : goal.returns
returns c =
    let a = c.args in
    record { is = c.trimmed.ensures.is ∙ decimal_is a.m a.under a.y _ _ _ c.places-t.result c.scaled-v.ensures.spelt c.scaled-low.ensures.spelt c.scaled-high.ensures.spelt c.places-t.ensures c.enough-p.result c.nearest.result c.saturating_sub.result c.enough-p.ensures c.nearest.ensures c.saturating_sub.ensures; small = c.trimmed.ensures.small }
