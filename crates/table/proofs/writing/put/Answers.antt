-- `writing::put`: the words stand at their place, and the others are kept.
use mathlib.Core.Path.{ap, ◌∙◌}
use mathlib.Core.List.{List, ◌++◌}
use Prim.Native.Nat.{ℕ, ◌+◌}
use native.Mathlib.Omega.{arith}
use lib.ListN.{length, take}
use Rattle.std.proofs.Common.{rules}
use Rattle.std.proofs.lemmas.Slice.{take-put_mid, drop-put_mid, overwrites}
use Rattle.table.proofs.writing.put.Goals as goal

pub returns : goal.returns
returns g c =
    let a = c.args in
    let e = c.put_words.ensures in
    let n = ap length e in
    record {
      put = take-put_mid a.at _ a.table.now c.put_words.new.part (a.at + length a.words) (omega (arith, n)) (omega arith) ∙ ap (λ (z : List ℕ). take a.at a.table.now ++ z) e;
      kept = drop-put_mid a.at _ a.table.now c.put_words.new.part (a.at + length a.words) (omega arith) (omega arith) (omega (arith, n));
      size = search (rules, overwrites);
    }
