-- `names::rows::identity_of` meets its contract: behind the last word both sides are 0.
use Rattle.std.proofs.Common.{rules}
use Rattle.names.specs.model.Rows.{identity_in}
use Rattle.names.proofs.rows.identity_of.Goals as goal

pub returns : goal.returns
unfolding identity_in
returns c = search rules
