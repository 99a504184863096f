-- `showing::words::byte_behind` meets its contract. The name at i, with the blanks behind it, reaches as far as that at `at`.
-- Assumes nothing.
use Prim.Native.Nat.{◌+◌, ◌≤◌}
use native.Mathlib.Omega.{arith}
use mathlib.Core.Path.{◌≡◌, refl, sym, ap, ◌∙◌}
use lib.ListN.{length, get_or, drop, get_or-eq_default}
use Rattle.symbols.specs.Names.{in_name, reach}
use Rattle.symbols.proofs.Laws.{reach_one, reach_on, reach_stop, reach_end}
use Rattle.showing.specs.Pages.{byte_behind}
use Rattle.showing.proofs.words.byte_behind.Goals as goal
use Rattle.showing.proofs.words.byte_behind.Goals.{else-not-is_name_byte-via-then-not-is_name_byte+else-not-is_blank, else-not-is_name_byte-via-else-not-is_name_byte}

pub loop-i-init : goal.loop-i-init
loop-i-init c = refl

pub returns-then-not-is_blank : goal.returns-then-not-is_blank
unfolding byte_behind
returns-then-not-is_blank c =
    let s = c.args.source.now in
    let at = c.args.at in
    let l = c.loop-i in
    let z = reach_stop in_name s l.i c.loop-i-test.true (sym c.is_name_byte.ensures ∙ c.if-not-is_name_byte.true) (sym c.is_blank.ensures ∙ c.if-not-is_blank.true) in
    let e : l.i ≡ at + reach in_name (drop at s) = omega (arith, l.invariant, z) in
    ap (λ k. get_or s k 0) e

pub loop-i-preserved : goal.loop-i-preserved
loop-i-preserved c =
    let s = c.args.source.now in
    let l = c.loop-i in
    let h = c.loop-i-test.true in
    let e = c.is_name_byte.ensures in
    elim c.else-not-is_name_byte.branch [
      | else-not-is_name_byte-via-then-not-is_name_byte+else-not-is_blank w ↦ omega (arith, l.invariant, reach_on in_name s l.i h (sym e ∙ w.if-not-is_name_byte.true) (sym w.is_blank.ensures ∙ w.if-not-is_blank.false))
      | else-not-is_name_byte-via-else-not-is_name_byte w ↦ omega (arith, l.invariant, reach_one in_name s l.i h (sym e ∙ w.if-not-is_name_byte.false))
    ]

pub returns : goal.returns
unfolding byte_behind
returns c =
    let s = c.args.source.now in
    let at = c.args.at in
    let l = c.loop-i in
    let z = reach_end in_name s l.i c.loop-i-test.false in
    let h : length s ≤ at + reach in_name (drop at s) = omega (arith, l.invariant, z) in
    sym (get_or-eq_default s 0 {n = at + reach in_name (drop at s)} h)
