-- `symbols::notes::note` meets its contract. The note ends behind the next `;`.
-- Assumes nothing.
use mathlib.Core.Path.{◌≡◌}
use Prim.Native.Nat.{◌+◌, ◌-◌, ◌≤◌, ◌<◌}
use native.Mathlib.Omega.{arith}
use borrow.Author.Tests.{lt-ltb, le-ltb}
use lib.ListN.{length, drop}
use lib.ListN.{length-drop}
use lib.Seq.{drop-drop}
use Rattle.symbols.specs.Scan.{before, closed, note}
use Rattle.symbols.proofs.notes.note.Goals as goal

pub returns-then-source-end : goal.returns-then-source-end
unfolding note closed
returns-then-source-end c =
    let s = c.args.source.now in
    let rest = drop (c.args.at + 1 + c.args.k) s in
    let e = c.find-end.ensures in
    let n = length-drop (c.args.at + 1 + c.args.k) s in
    let h : length rest ≤ length (before 59 rest) = omega (arith, c.if-source-end.true) in
    simp (drop-drop c.args.k (c.args.at + 1) s, le-ltb _ _ h)

pub returns : goal.returns
unfolding note closed
returns c =
    let s = c.args.source.now in
    let rest = drop (c.args.at + 1 + c.args.k) s in
    let e = c.find-end.ensures in
    let n = length-drop (c.args.at + 1 + c.args.k) s in
    let h : length (before 59 rest) < length rest = omega (arith, c.if-source-end.false, c.requires) in
    let k : c.find-end.result - c.args.at ≡ c.args.k + (length (before 59 rest) + 1) = omega arith in
    rw k (simp (drop-drop c.args.k (c.args.at + 1) s, lt-ltb _ _ h))
