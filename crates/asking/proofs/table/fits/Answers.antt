-- `asking::table::fits` meets its contract. A word for each name that is passed, so what is left of both decides.
-- Assumes nothing.
use mathlib.Core.Path.{◌≡◌, refl, sym, ap, ◌∙◌}
use mathlib.Core.Bool.{Bool, ◌||◌}
use Prim.Native.Nat.{◌<◌}
use native.Mathlib.Omega.{arith}
use lib.Dec.{eqb}
use Rattle.asking.specs.Words.{words_of}
use Rattle.asking.specs.Table.{more}
use Rattle.asking.proofs.Choices.{matched_end, matched_short, matched_on}
use Rattle.asking.proofs.table.fits.Goals as goal

pub loop-name-init : goal.loop-name-init
loop-name-init c = refl

pub returns-then-name : goal.returns-then-name
returns-then-name c =
    let a = c.args in
    let l = c.loop-name in
    let n = c.first-name.ensures in
    let w = c.next_operand-w.ensures in
    let f : c.has_word-open.result ≡ more (words_of a.row.now) = c.has_word-open.ensures in record {
      good = c.ends.ensures ∙ ap (λ (t : Bool). t || eqb c.next_operand-w.result.from c.next_operand-w.result.to) f
          ∙ sym (l.invariant ∙ matched_end (more (words_of a.row.now)) _ a.line.now l.p c.next_operand-w.result w (n.none c.if-name.true));
      missing = (n.ordered, n.inside);
      extra = (w.ordered, w.inside);
    }

pub returns-then-w : goal.returns-then-w
returns-then-w c =
    let a = c.args in
    let l = c.loop-name in
    let n = c.first-name.ensures in
    let w = c.next_operand-w.ensures in
    let e = c.if-name.false in
    let k : c.first-name.result.from < c.first-name.result.to = omega (arith, n.ordered) in
    record { good = sym (l.invariant ∙ matched_short _ _ _ _ (more (words_of a.row.now)) (n.first k) (w.none c.if-w.true)); missing = (n.ordered, n.inside); extra = (w.ordered, w.inside) }

pub loop-name-smaller : goal.loop-name-smaller
loop-name-smaller c =
    let n = c.first-name.ensures in
    let e = c.if-name.false in
    omega (arith, n.onward, n.ordered, n.inside)

pub loop-name-preserved : goal.loop-name-preserved
loop-name-preserved c =
    let a = c.args in
    let l = c.loop-name in
    let n = c.first-name.ensures in
    let w = c.next_operand-w.ensures in
    let e = c.if-name.false in
    let f = c.if-w.false in
    let j : c.first-name.result.from < c.first-name.result.to = omega (arith, n.ordered) in
    let k : c.next_operand-w.result.from < c.next_operand-w.result.to = omega (arith, w.ordered) in
    l.invariant ∙ matched_on _ _ _ _ _ _ (more (words_of a.row.now)) (n.first j) (w.first k)
