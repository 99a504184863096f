-- `deed::check::check_file` meets its contract. There is no file or no list, or the status is that of the list as it was sent.
-- Assumes nothing.
use Rattle.deed.proofs.Statuses.{sent_most}
use Rattle.deed.proofs.check.check_file.Goals as goal

pub returns : goal.returns
returns c = sent_most c.check_text.ensures
