-- `comparing::comparing::compared` meets its contract. Assumes nothing.
use Rattle.comparing.proofs.Steps.{same_list, list_taken}
use Rattle.comparing.proofs.comparing.compared.Goals as goal

pub returns : goal.returns
returns c =
    let w = c.list_changes-n.ensures in
    same_list c.given.ensures (list_taken _ w.wrote w.value)
