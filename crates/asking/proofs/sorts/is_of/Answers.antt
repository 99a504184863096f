-- `asking::sorts::is_of` meets its contract. Each arm asks for its sort.
-- Assumes nothing.
use mathlib.Core.Bool.{not}
use mathlib.Core.Path.{ap}
use Rattle.asking.proofs.sorts.is_of.Goals as goal

pub returns-in-Asked : goal.returns-in-Asked
returns-in-Asked c = rw c.in-Asked.is (ap not c.is_flag.ensures)

pub returns-in-Named : goal.returns-in-Named
returns-in-Named c = rw c.in-Named.is c.is_named.ensures

pub returns-in-Misfit : goal.returns-in-Misfit
returns-in-Misfit c = rw c.in-Misfit.is c.is_misfit.ensures

pub returns-in-Twice : goal.returns-in-Twice
returns-in-Twice c = rw c.in-Twice.is c.is_twice.ensures

pub returns-in-Capital : goal.returns-in-Capital
returns-in-Capital c = rw c.in-Capital.is c.is_capital.ensures
