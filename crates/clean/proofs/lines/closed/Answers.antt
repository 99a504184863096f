-- `clean::lines::closed` meets its contract: one thing less is open. Assumes nothing.
use mathlib.Core.Path.{ap}
use Rattle.clean.specs.model.Pen.{level_of, open_of}
use Rattle.clean.proofs.lines.closed.Goals as goal

pub returns : goal.returns
returns c = ap (λ n. level_of (open_of c.args.s n) c.args.level) c.less.ensures
