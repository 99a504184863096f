-- `emitting::passes::twice` meets its contract: what the first pass found is lent to the second.
-- Assumes nothing.
use Rattle.emitting.proofs.Twice.{second_run}
use lib.ListN.{length}
use Rattle.emitting.specs.model.Emission.{uses_in, place_at}
use Rattle.emitting.proofs.passes.twice.Goals as goal

pub returns : goal.returns
returns c =
    let a = c.args in
    let k = a.known.now in
    second_run (length a.code.now) (place_at k.places.now) k.values.now k.layout.now k.rows.now k.marks.now a.nodes.now (uses_in k.rows.now a.uses.now) c.pass-2.ensures.code_after c.pass.auto.code c.pass.ensures.ahead_after c.pass.ensures.entries_after
