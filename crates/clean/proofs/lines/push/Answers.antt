-- `clean::lines::push` meets its contract: the number behind those that are open is set. Assumes nothing.
use Rattle.clean.proofs.Stacks.{pushed}
use Rattle.clean.proofs.lines.push.Goals as goal

pub returns : goal.returns
returns c = pushed c.args.held.now c.args.n c.args.thing c.requires
