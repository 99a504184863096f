-- By what the cell holds.
use Rattle.machine.proofs.Turns.{read_holds, read_not_holds, read_unset, read_not_unset, read_named}
use Rattle.machine.proofs.ways.reading.Goals as goal

pub returns-then-reaches : goal.returns-then-reaches
returns-then-reaches c = read_holds _ c.args.q _ c.reaches.ensures c.in-Holds.is c.form_of.ensures c.if-reaches.true c.outward.ensures

pub returns-then-reaches-2 : goal.returns-then-reaches-2
returns-then-reaches-2 c = read_unset _ c.args.q _ c.reaches-in-Unset.ensures c.in-Unset.is c.if-reaches-2.true

pub returns-else-reaches : goal.returns-else-reaches
returns-else-reaches c = read_not_holds _ c.args.q _ c.reaches.ensures c.in-Holds.is c.form_of.ensures c.if-reaches.false

pub returns-else-reaches-2 : goal.returns-else-reaches-2
returns-else-reaches-2 c = read_not_unset _ c.args.q _ c.reaches-in-Unset.ensures c.in-Unset.is c.if-reaches-2.false

pub returns-in-Named : goal.returns-in-Named
returns-in-Named c = read_named _ c.args.q _ c.in-Named.is
