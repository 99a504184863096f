-- `names::outline::missing` meets its contract: some row of the scope says no type.
use mathlib.Core.Path.{◌≡◌}
use mathlib.Core.Bool.{true, false}
use Prim.Native.Nat.{◌/◌}
use native.Mathlib.Omega.{arith}
use lib.ListN.{length}
use Rattle.std.proofs.Common.{rules, tests}
use Rattle.std.proofs.lemmas.Iterator.{cases_from_any, YieldsList-from_range}
use Rattle.names.specs.model.Rows.{row_in}
use Rattle.names.proofs.RowLaws.{is_missing, missing_any}
use Rattle.names.proofs.outline.missing.Goals as goal

pub returns : goal.returns
returns c =
    let a = c.args in
    let n = length a.rows.now / 4 in
    let e = cases_from_any _ _ _ (λ x. is_missing a.scope (row_in a.rows.now x) ≡ true) (λ x. is_missing a.scope (row_in a.rows.now x) ≡ false) c.any.ensures.ran (YieldsList-from_range 0 n n (cc) (omega arith)) (λ x q k. search (rules, tests)) (λ x q k. search (rules, tests)) in
    missing_any a.scope a.rows.now c.any.result e
