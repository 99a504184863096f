-- `symbols::lexemes::number` meets its contract. The digits from `at` on; where a point stands behind them the number goes on if digits do.
-- Assumes nothing.
use mathlib.Core.Path.{◌≡◌, ap, sym, ◌∙◌}
use Prim.Native.Nat.{◌+◌, ◌<◌}
use native.Mathlib.Omega.{arith}
use lib.ListN.{length, get_or, drop}
use Rattle.symbols.specs.Names.{digit, reach}
use Rattle.symbols.specs.model.Steps.{pointed_at}
use Rattle.symbols.specs.declared.Lexeme.TheVariants.{Nothing}
use Rattle.symbols.proofs.Decimals.{front_end, front_value, front_reach, number_ends, number_stops, number_goes_on}
use Rattle.symbols.proofs.lexemes.number.Goals as goal
use Rattle.symbols.proofs.lexemes.number.Goals.{else-end-source-via-then-end-source+else-source-end-eq46, else-end-source-via-else-end-source}

pub overflow_sub-end : goal.overflow_sub-end
overflow_sub-end c =
    let x = c.args in
    omega (arith, front_end x.source.now x.at Nothing c.digits_from-front.result c.digits_from-front.ensures)

pub overflow_sub-end-2 : goal.overflow_sub-end-2
overflow_sub-end-2 c =
    let x = c.args in
    omega (arith, front_end x.source.now x.at Nothing c.digits_from-front.result c.digits_from-front.ensures, front_reach x.source.now x.at c.requires.at_in_bounds c.requires.at_value)

pub with_point-requires : goal.with_point-requires
with_point-requires c =
    let x = c.args in
    let e = front_end x.source.now x.at Nothing c.digits_from-front.result c.digits_from-front.ensures in
    (c.digits_from-front.ensures, omega (arith, e, c.if-end-source.true))

pub returns-then-source-end-eq46 : goal.returns-then-source-end-eq46
returns-then-source-end-eq46 c =
    let x = c.args in
    let e = front_end x.source.now x.at Nothing c.digits_from-front.result c.digits_from-front.ensures in
    let v = front_value x.source.now x.at Nothing c.digits_from-front.result c.digits_from-front.ensures in
    let l : x.at + reach digit (drop x.at x.source.now) < length x.source.now = omega (arith, e, c.if-end-source.true) in
    let z : get_or x.source.now (x.at + reach digit (drop x.at x.source.now)) 0 ≡ 46 = ap (λ i. get_or x.source.now i 0) (sym e) ∙ c.if-source-end-eq46.true in
    c.with_point.ensures ∙ ap (pointed_at x.source.now x.at) (c.valued-plain.ensures ∙ rw (v, e)) ∙ number_goes_on x.source.now x.at c.requires.at_in_bounds c.requires.at_value l z

pub returns : goal.returns
returns c =
    let x = c.args in
    let e = front_end x.source.now x.at Nothing c.digits_from-front.result c.digits_from-front.ensures in
    let v = front_value x.source.now x.at Nothing c.digits_from-front.result c.digits_from-front.ensures in
    elim c.else-end-source.branch [
      | else-end-source-via-then-end-source+else-source-end-eq46 w ↦
          let l : x.at + reach digit (drop x.at x.source.now) < length x.source.now = omega (arith, e, w.if-end-source.true) in
          c.valued-plain.ensures ∙ rw (v, e) (number_stops x.source.now x.at c.requires.at_in_bounds c.requires.at_value l (λ z. w.if-source-end-eq46.false (ap (λ i. get_or x.source.now i 0) e ∙ z)))
      | else-end-source-via-else-end-source w ↦
          c.valued-plain.ensures ∙ rw (v, e) (number_ends x.source.now x.at c.requires.at_in_bounds c.requires.at_value (omega (arith, e, w.if-end-source.false)))
    ]
