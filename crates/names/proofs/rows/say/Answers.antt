-- `names::rows::say` meets its contract: the rows passed are told, and the rest is yet to be.
use mathlib.Core.Path.{ap, ◌∙◌}
use mathlib.Core.List.{List}
use Prim.Native.Nat.{ℕ, ◌+◌, ◌*◌}
use native.Mathlib.Omega.{arith}
use lib.ListN.{length, take}
use Rattle.names.proofs.RowLaws.{told_to, tell_size, tell_next, told_all}
use Rattle.names.proofs.rows.say.Goals as goal

pub loop-number-preserved : goal.loop-number-preserved
loop-number-preserved c =
    let a = c.args in
    let l = c.loop-number in
    let e = c.say_row.ensures in (
      ap length e ∙ tell_size a.ids.now a.want a.word l.rows l.number ∙ l.invariant.0,
      ap (λ (z : List ℕ). told_to a.ids.now a.want a.word (l.number + 1) (take (4 * a.n) z)) e
          ∙ tell_next a.ids.now a.want a.word l.rows a.n l.number (omega arith) (omega arith)
          ∙ l.invariant.1,
    )

pub returns : goal.returns
returns c =
    let a = c.args in
    let l = c.loop-number in
    record { wrote = told_all a.ids.now a.want a.word a.rows.now l.rows a.n l.number (omega arith) (omega arith) (omega arith) l.invariant.1; size = l.invariant.0 }
