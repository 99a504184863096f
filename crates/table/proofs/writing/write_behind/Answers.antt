-- `table::writing::write_behind` meets its contract: what is too long, or has no room, does not enter, and nothing is written; else all is. Assumes nothing.
use mathlib.Core.Path.{refl}
use native.Mathlib.Omega.{arith}
use Rattle.table.specs.model.Writing.{place_of, all, nothing}
use Rattle.table.proofs.writing.write_behind.Goals as goal

pub returns-then-nodes-gt32768 : goal.returns-then-nodes-gt32768
returns-then-nodes-gt32768 c = nothing (λ e. omega (arith, e.few_nodes)) refl

pub returns-then-own-gt32768 : goal.returns-then-own-gt32768
returns-then-own-gt32768 c = nothing (λ e. omega (arith, e.few_rows)) refl

pub returns-then-uses-gt8192 : goal.returns-then-uses-gt8192
returns-then-uses-gt8192 c = nothing (λ e. omega (arith, e.few_uses)) refl

pub returns-then-table-needed : goal.returns-then-table-needed
returns-then-table-needed c =
    let a = c.args in
    nothing (λ e. omega (arith, e.room, c.needed.ensures (place_of a.places.now) a.rows.now a.uses.now)) refl

pub put_all-requires : goal.put_all-requires
put_all-requires c =
    let a = c.args in
    (omega (arith, c.needed.ensures (place_of a.places.now) a.rows.now a.uses.now), omega arith, omega arith, omega arith)

pub returns : goal.returns
returns c =
    let a = c.args in
    all
    (record {
      few_nodes = omega arith;
      few_rows = omega arith;
      few_uses = omega arith;
      room = omega (arith, c.needed.ensures (place_of a.places.now) a.rows.now a.uses.now);
    })
    c.put_all.ensures
