-- `emitting::uses::next` meets its contract: what the kept number means, or zeros behind the last one.
-- Assumes nothing.
use mathlib.Core.Path.{◌≡◌, sym, ◌∙◌}
use native.Mathlib.Omega.{arith}
use Rattle.emitting.proofs.NextUses.{next_here, kind_nowhere}
use Rattle.emitting.proofs.uses.next.Goals as goal

pub returns-then-t-uses : goal.returns-then-t-uses
returns-then-t-uses c =
    let a = c.args in
    let h = next_here a.rows.now a.uses.now a.t.uses c.if-t-uses.true in
    let e = c.meaning.ensures in
    record { kind_value = (e.kind_value.0 ∙ sym h.0, e.kind_value.1 ∙ sym h.1); kind_bound = e.kind_bound }

pub returns : goal.returns
returns c =
    let a = c.args in
    let k = kind_nowhere a.rows.now a.uses.now a.t.uses c.if-t-uses.false in
    let x : c.default.result.kind ≡ 0 = omega (arith, c.default.ensures) in
    let y : c.default.result.means ≡ 0 = omega (arith, c.default.ensures) in
    record { kind_value = (x ∙ k.0, y ∙ k.1); kind_bound = (omega arith, omega arith) }
