-- All are there, or the first that is missing is the bad one.
use Prim.Native.Nat.{ℕ, ◌+◌, ◌-◌, ◌≤◌, ◌<◌, max}
use mathlib.Core.Path.{◌≡◌, sym}
use native.Mathlib.Omega.{arith}
use lib.ListN.{length}
use Rattle.records.proofs.Scanned.{any_there, any_short}
use Rattle.records.proofs.scanning.any_words.Goals as goal

pub returns-then-saturating_sub-m : goal.returns-then-saturating_sub-m
returns-then-saturating_sub-m c =
    let w = c.args.words.now in
    let h : length w - c.args.at < c.args.m = omega (arith, c.if-saturating_sub-m.true, c.saturating_sub.ensures) in
    rw c.max.ensures (sym (any_short w c.args.m c.args.at h))

pub returns : goal.returns
returns c =
    let w = c.args.words.now in
    let h : c.args.m ≤ length w - c.args.at = omega (arith, c.if-saturating_sub-m.false, c.saturating_sub.ensures) in
    sym (any_there w c.args.m c.args.at h)
