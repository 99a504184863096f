-- `vectors::twos::both` meets its contract.
-- Assumes nothing.
use Rattle.vectors.proofs.twos.both.Goals as goal

pub returns : goal.returns
returns c =
    let x = c.read_two-said in
    record {
      verdict = x.result.first;
      verdict' = x.result.second;
      table = x.new.table;
      reads = x.ensures;
      told = c.compared.ensures;
    }
