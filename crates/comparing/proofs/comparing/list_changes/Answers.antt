-- `comparing::comparing::list_changes` meets its contract. The loop's invariant: what differs from use i on is left to write. Assumes nothing.
use mathlib.Core.Path.{◌≡◌, sym, ◌∙◌}
use mathlib.Core.List.{List, map}
use Prim.Native.Nat.{ℕ, max}
use native.Mathlib.Nat.{zero-add}
use native.Mathlib.Omega.{arith}
use lib.ListN.{length, length-map}
use Rattle.table.proofs.Written.{wrote_one, none_yet, all_written}
use Rattle.comparing.specs.model.Words.{told, changed}
use Rattle.comparing.proofs.Steps.{listed_end, change_put, change_past}
use Rattle.comparing.proofs.comparing.list_changes.Goals.{then-differs, else-differs}
use Rattle.comparing.proofs.comparing.list_changes.Goals as goal

-- as many as uses
pub most-is : (rows uses otherRows others : List ℕ) → max (length (map (told rows) uses)) (length (map (told otherRows) others)) ≡ max (length uses) (length others)
most-is rows uses otherRows others = omega (arith, length-map uses (told rows), length-map others (told otherRows))

pub loop-i-init : goal.loop-i-init
loop-i-init c = (omega arith, omega arith, none_yet _ _ _)

pub bounds-list-at : goal.bounds-list-at
bounds-list-at c = omega (arith, c.loop-i.invariant.2.wrote.size)

pub loop-i-preserved : goal.loop-i-preserved
loop-i-preserved c =
    let loop = c.loop-i in
    let a = c.args in
    let m = most-is a.rows.now a.uses.now a.other_rows.now a.others.now in
    let d = sym c.differs.ensures in
    elim c.if-differs.branch [
      | then-differs w ↦ (
        omega arith,
        omega (arith, w.at-is),
        change_put (map (told a.rows.now) a.uses.now) (map (told a.other_rows.now) a.others.now) loop.i loop.invariant.2 (d ∙ w.if-differs.true) (omega (arith, m)) (wrote_one loop.list loop.at loop.i (omega (arith, loop.invariant.2.wrote.size))) w.list-is w.at-is,
      )
      | else-differs w ↦ (
        omega arith,
        omega (arith, w.at-is),
        change_past (map (told a.rows.now) a.uses.now) (map (told a.other_rows.now) a.others.now) loop.i loop.invariant.2 (d ∙ w.if-differs.false) w.list-is w.at-is,
      )
    ]

pub shape_of-list : goal.shape_of-list
shape_of-list c = c.loop-i.invariant.2.wrote.size

pub returns : goal.returns
returns c =
    let a = c.args in
    let w =
    all_written c.loop-i.invariant.2
    (listed_end (map (told a.rows.now) a.uses.now) (map (told a.other_rows.now) a.others.now) c.loop-i.i
    (omega (arith, most-is a.rows.now a.uses.now a.other_rows.now a.others.now))) in
    record { wrote = w.0; value = w.1 ∙ zero-add (length (changed a.rows.now a.uses.now a.other_rows.now a.others.now)); upper_bound = omega (arith, c.loop-i.invariant.2.wrote.size) }
