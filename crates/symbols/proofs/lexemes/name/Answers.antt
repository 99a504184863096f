-- `symbols::lexemes::name` meets its contract. The letters and digits so far and those from i on are the name's, and so are the bytes passed.
-- Assumes nothing.
use mathlib.Core.Path.{◌≡◌, refl, sym, ap, ◌∙◌}
use Prim.Native.Nat.{◌+◌, ◌-◌}
use native.Mathlib.Omega.{arith}
use lib.ListN.{length, get_or, drop}
use mathlib.Core.List.{◌∷◌}
use Rattle.symbols.specs.Names.{in_name, reach, letters}
use Rattle.symbols.specs.Scan.{name}
use Rattle.symbols.proofs.Laws.{these_one, these_on, these_stop, these_end, reach_one, reach_on, reach_stop, reach_end, name_first}
use Rattle.symbols.proofs.lexemes.name.Goals as goal
use Rattle.symbols.proofs.lexemes.name.Goals.{then-is_name_byte, else-is_name_byte+else-not-is_blank}

pub loop-i-init : goal.loop-i-init
loop-i-init c =
    let s = c.args.source.now in
    (refl, omega (arith, ap length (name_first (get_or s c.args.at 0) (drop (c.args.at + 1) s) c.requires.at_value)), omega arith)

pub returns-then-not-is_blank : goal.returns-then-not-is_blank
unfolding name
returns-then-not-is_blank c =
    let s = c.args.source.now in
    let l = c.loop-i in
    let v = l.invariant in
    let t = these_stop in_name s l.i c.loop-i-test.true (sym c.is_name_byte.ensures ∙ c.if-is_name_byte.false) (sym c.is_blank.ensures ∙ c.if-not-is_blank.true) in
    let r = reach_stop in_name s l.i c.loop-i-test.true (sym c.is_name_byte.ensures ∙ c.if-is_name_byte.false) (sym c.is_blank.ensures ∙ c.if-not-is_blank.true) in
    let n : length (letters (get_or s c.args.at 0 ∷ drop (c.args.at + 1) s)) ≡ l.size = omega (arith, v.1, ap length t) in
    let m : reach in_name (drop (c.args.at + 1) s) ≡ l.i - c.args.at - 1 = omega (arith, v.0, r) in
    rw (n, m) c.sized.ensures

pub loop-i-preserved : goal.loop-i-preserved
loop-i-preserved c =
    let s = c.args.source.now in
    let l = c.loop-i in
    let v = l.invariant in
    let h = c.loop-i-test.true in
    elim c.if-is_name_byte.branch [
      | then-is_name_byte w ↦
          let e = sym c.is_name_byte.ensures ∙ w.if-is_name_byte.true in
          let t = these_one in_name s l.i h e in
          let r = reach_one in_name s l.i h e in
          (omega (arith, v.0, r), omega (arith, v.1, ap length t, w.size-is), omega (arith, v.2, w.size-is))
      | else-is_name_byte+else-not-is_blank w ↦
          let e = sym c.is_name_byte.ensures ∙ w.if-is_name_byte.false in
          let f = sym w.is_blank.ensures ∙ w.if-not-is_blank.false in
          let t = these_on in_name s l.i h e f in
          let r = reach_on in_name s l.i h e f in
          (omega (arith, v.0, r), omega (arith, v.1, ap length t, w.size-is), omega (arith, v.2, w.size-is))
    ]

pub returns : goal.returns
unfolding name
returns c =
    let s = c.args.source.now in
    let l = c.loop-i in
    let v = l.invariant in
    let t = these_end in_name s l.i c.loop-i-test.false in
    let r = reach_end in_name s l.i c.loop-i-test.false in
    let n : length (letters (get_or s c.args.at 0 ∷ drop (c.args.at + 1) s)) ≡ l.size = omega (arith, v.1, ap length t) in
    let m : reach in_name (drop (c.args.at + 1) s) ≡ length s - c.args.at - 1 = omega (arith, v.0, r, l.auto.i-end) in
    rw (n, m) c.sized-2.ensures
