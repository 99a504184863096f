-- By what the cell holds.
use Rattle.machine.proofs.Turns.{reach_holds, reach_not_holds, reach_unset, reach_not_unset, reach_named}
use Rattle.machine.proofs.ways.reach.Goals as goal

pub returns-then-reaches : goal.returns-then-reaches
returns-then-reaches c = reach_holds _ 0 _ c.reaches.ensures c.in-Holds.is c.form_of-t.ensures c.if-reaches.true

pub returns-then-reaches-2 : goal.returns-then-reaches-2
returns-then-reaches-2 c = reach_unset _ 0 _ c.reaches-in-Unset.ensures c.in-Unset.is c.if-reaches-2.true

pub returns-else-reaches : goal.returns-else-reaches
returns-else-reaches c = reach_not_holds _ 0 _ c.reaches.ensures c.in-Holds.is c.form_of-t.ensures c.if-reaches.false

pub returns-else-reaches-2 : goal.returns-else-reaches-2
returns-else-reaches-2 c = reach_not_unset _ 0 _ c.reaches-in-Unset.ensures c.in-Unset.is c.if-reaches-2.false

pub returns-in-Named : goal.returns-in-Named
returns-in-Named c = reach_named _ 0 _ c.in-Named.is
