-- `symbols::lexemes::digits_from` meets its contract. The value and the count so far and the digits from i on make those of the run, the value up to
-- the cap; the bytes passed are its bytes.
-- Assumes nothing.
use mathlib.Core.Path.{◌≡◌, sym, ap, ◌∙◌}
use Prim.Native.Nat.{◌+◌, ◌-◌, ◌*◌}
use native.Mathlib.Omega.{arith}
use lib.ListN.{length, get_or}
use Rattle.symbols.specs.Names.{digit}
use Rattle.symbols.specs.model.Steps.{capped}
use Rattle.symbols.proofs.Laws.{these_one, these_on, these_stop, these_end, reach_one, reach_on, reach_stop, reach_end, number_more, capped_small}
use Rattle.symbols.proofs.Decimals.{digits_done}
use Rattle.symbols.proofs.lexemes.digits_from.Goals as goal
use Rattle.symbols.proofs.lexemes.digits_from.Goals.{then-is_digit, else-is_digit+else-not-is_blank}

pub with_digit-v-requires : goal.with_digit-v-requires
with_digit-v-requires c = (c.loop-i.invariant.2, sym c.is_digit.ensures ∙ c.if-is_digit.true)

pub returns-then-not-is_blank : goal.returns-then-not-is_blank
returns-then-not-is_blank c =
    let s = c.args.source.now in
    let l = c.loop-i in
    let v = l.invariant in
    let h = c.loop-i-test.true in
    let e = sym c.is_digit.ensures ∙ c.if-is_digit.false in
    let f = sym c.is_blank.ensures ∙ c.if-not-is_blank.true in
    digits_done s c.args.from c.args.value c.args.count l.i l.v l.n (these_stop digit s l.i h e f) (reach_stop digit s l.i h e f) v.0 v.1 v.2 v.3

pub loop-i-preserved : goal.loop-i-preserved
loop-i-preserved c =
    let s = c.args.source.now in
    let l = c.loop-i in
    let v = l.invariant in
    let h = c.loop-i-test.true in
    elim c.if-is_digit.branch [
      | then-is_digit w ↦
          let e = sym c.is_digit.ensures ∙ w.if-is_digit.true in
          let r = reach_one digit s l.i h e in
          let t = ap length (these_one digit s l.i h e) in
          let f : c.if-is_digit.v ≡ capped (10 * l.v + (get_or s l.i 0 - 48)) = w.v-is ∙ w.with_digit-v.ensures in
          (omega (arith, v.0, r), v.1 ∙ rw f (number_more l.v s l.i h e), rw f (capped_small (10 * l.v + (get_or s l.i 0 - 48))), omega (arith, v.3, t, w.n-is), omega (arith, v.4, w.n-is))
      | else-is_digit+else-not-is_blank w ↦
          let e = sym c.is_digit.ensures ∙ w.if-is_digit.false in
          let f = sym w.is_blank.ensures ∙ w.if-not-is_blank.false in
          let r = reach_on digit s l.i h e f in
          let t = these_on digit s l.i h e f in
          (omega (arith, v.0, r), v.1 ∙ rw (w.v-is, t), rw w.v-is v.2, omega (arith, v.3, ap length t, w.n-is), omega (arith, v.4, w.n-is))
    ]

pub returns : goal.returns
returns c =
    let s = c.args.source.now in
    let l = c.loop-i in
    let v = l.invariant in
    let h = c.loop-i-test.false in
    let e : l.i ≡ length s = omega (arith, h, l.auto.i-end c.requires.0) in
    rw (← e) (digits_done s c.args.from c.args.value c.args.count l.i l.v l.n (these_end digit s l.i h) (reach_end digit s l.i h) v.0 v.1 v.2 v.3)
