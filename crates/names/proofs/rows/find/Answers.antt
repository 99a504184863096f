-- `names::rows::find` meets its contract: the first of all declarations that is looked for.
use mathlib.Core.Bool.{true, false}
use Prim.Native.Nat.{ℕ, ◌/◌}
use native.Mathlib.Omega.{arith}
use lib.ListN.{length}
use Rattle.std.proofs.Common.{rules, tests}
use Rattle.std.proofs.lemmas.Iterator.{YieldsList-from_range, YieldsList-from_map, first_from_find}
use Rattle.std.proofs.lemmas.Iterator.Consumers.{YieldsList-at}
use Rattle.names.proofs.RowLaws.{IsSought, found_first}
use Rattle.names.proofs.rows.find.Goals as goal

pub returns : goal.returns
returns c =
    let a = c.args in
    let n = length a.rows.now / 4 in
    let road = YieldsList-from_map _ (λ (k : ℕ). record { number = k }) (YieldsList-at c.map.ensures.source (YieldsList-from_range 0 n n (cc) (omega arith))) c.map.ensures.closure (λ x r q k. search rules) in
    let e = first_from_find _ _ _ (IsSought a.ids.now a.want true a.rows.now) (IsSought a.ids.now a.want false a.rows.now) c.find.ensures.ran road (λ x q k. search (rules, tests)) (λ x q k. search (rules, tests)) in
    found_first a.ids.now a.want a.rows.now _ e
