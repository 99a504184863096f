-- `jobs::deed_report` meets its contract: the numbers are those of report's answer.
-- Assumes nothing.
use Rattle.jobs.proofs.Given.{gathered_done}
use Rattle.jobs.proofs.deed_report.Goals as goal

pub returns : goal.returns
returns c =
    gathered_done _ c.args.figures.now _ _ c.report-reported.ensures c.kind.ensures c.number.ensures c.place.ensures c.reported_into.ensures
