-- `vectors::twos::behind` meets its contract.
-- Assumes nothing.
use Rattle.vectors.proofs.twos.behind.Goals as goal

pub returns : goal.returns
returns c =
    let x = c.read_two-said in
    record {
      verdict = x.result.first;
      verdict' = x.result.second;
      words = x.new.table;
      reads = x.ensures;
      told = c.told.ensures;
    }
