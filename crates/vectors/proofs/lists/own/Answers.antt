-- `vectors::lists::own` meets its contract. Assumes nothing.
use mathlib.Core.Path.{sym, ◌∙◌}
use Rattle.vectors.specs.Sent.{refused, accepted}
use Rattle.vectors.proofs.lists.own.Goals as goal

pub returns-then-accepted : goal.returns-then-accepted
returns-then-accepted c = accepted c.read-verdict.ensures (sym c.accepted.ensures ∙ c.if-accepted.true) c.four.ensures

pub returns : goal.returns
returns c = refused c.read-verdict.ensures (sym c.accepted.ensures ∙ c.if-accepted.false)
