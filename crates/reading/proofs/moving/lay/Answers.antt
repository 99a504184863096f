-- `reading::moving::lay` meets its contract. The invariant: the first i were laid. Assumes nothing.
use mathlib.Core.Path.{refl, ap, ◌∙◌}
use Prim.Native.Nat.{◌+◌}
use native.Mathlib.Omega.{arith}
use lib.ListN.{set, take, length-set}
use lib.Seq.{take_all}
use Rattle.reading.specs.model.Moves.{laid}
use Rattle.reading.proofs.Moves.{none_laid, laid_more}
use Rattle.reading.proofs.moving.lay.Goals as goal

pub loop-i-init : goal.loop-i-init
loop-i-init g c = (refl, none_laid c.args.words.now c.args.own.now c.args.at)

pub loop-i-preserved : goal.loop-i-preserved
loop-i-preserved g c =
    let l = c.loop-i in
    let v = c.index-own-i.result in (
      length-set l.words (c.args.at + l.i) v ∙ l.invariant.0,
      ap (λ z. set z (c.args.at + l.i) v) l.invariant.1
          ∙ ap (λ u. set (laid c.args.words.now c.args.at (take l.i c.args.own.now)) (c.args.at + l.i) u) c.index-own-i.is
          ∙ laid_more c.args.words.now c.args.own.now c.args.at l.i v (omega (arith, c.loop-i-test.true, c.requires)) c.loop-i-test.true,
    )

pub returns : goal.returns
returns g c =
    let l = c.loop-i in
    l.invariant.1 ∙ ap (λ z. laid c.args.words.now c.args.at z) (take_all l.i c.args.own.now c.loop-i-test.false)
