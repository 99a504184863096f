-- `reading::moving::symbols` meets its contract. Each array by itself. Assumes nothing.
use native.Mathlib.Omega.{arith}
use Rattle.reading.proofs.Moves.{symbols_behind}
use Rattle.reading.proofs.moving.symbols.Goals as goal

pub returns : goal.returns
returns c =
    let p = c.requires.0 in
    let q = c.requires.1 in
    let a = c.args in
    record {
      places_after = symbols_behind a.places.now a.ownplaces.now a.m c.lay.ensures (omega arith);
      values_after = rw (← q) (symbols_behind a.values.now a.ownvalues.now a.m c.lay-2.ensures (omega arith));
    }
