-- `reading::moving::around` meets its contract. Each piece is laid behind those before it. Assumes nothing.
use Prim.Native.Nat.{◌+◌}
use native.Mathlib.Omega.{arith}
use lib.ListN.{length}
use Rattle.names.specs.Nodes.{mark}
use Rattle.reading.proofs.Moves.{none_filled, fill, without_prelude, with_prelude_lem}
use Rattle.reading.proofs.moving.around.Goals as goal

pub returns-then-p-eq0 : goal.returns-then-p-eq0
returns-then-p-eq0 c =
    let a = c.args in
    let f = without_prelude a.own.now a.symbol a.prelude.now c.if-p-eq0.true (fill a.own.now (none_filled a.out.now) c.lay.ensures (omega arith) (omega arith)) in
    record { out_after = f.words; value = f.many }

pub returns : goal.returns
returns c =
    let a = c.args in
    let q = a.symbol in
    let k1 = c.mark.auto.out in
    let k2 = c.lay-2.auto.words in
    let k3 = c.mark-2.auto.out in
    let k4 = c.lay-3.auto.words in
    let k5 = c.mark-3.auto.out in
    let f1 = fill {n = 4} (mark 1 q) (none_filled a.out.now) c.mark.ensures (omega arith) (omega arith) in
    let f2 = fill {n = length a.prelude.now + 4} a.prelude.now f1 c.lay-2.ensures (omega arith) (omega arith) in
    let f3 = fill {n = length a.prelude.now + 8} (mark 2 q) f2 c.mark-2.ensures (omega arith) (omega arith) in
    let f4 = fill {n = length a.prelude.now + length a.own.now + 8} a.own.now f3 c.lay-3.ensures (omega arith) (omega arith) in
    let f5 = fill {n = length a.prelude.now + length a.own.now + 12} (mark 3 q) f4 c.mark-3.ensures (omega arith) (omega arith) in
    let f = with_prelude_lem a.own.now q a.prelude.now c.if-p-eq0.false f5 in
    record { out_after = f.words; value = f.many }
