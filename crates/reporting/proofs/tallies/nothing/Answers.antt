-- Nothing is counted.
use mathlib.Core.Path.{refl}
use Rattle.reporting.specs.Report.{gather, merge, counts_of, report_of}
use Rattle.reporting.proofs.tallies.nothing.Goals as goal

pub returns : goal.returns
unfolding report_of counts_of gather merge
returns c = refl
