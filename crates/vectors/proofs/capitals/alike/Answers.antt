-- `vectors::capitals::alike` meets its contract. Both are read, and the two tables are compared.
-- Assumes nothing.
use mathlib.Core.Path.{ap, ◌∙◌}
use mathlib.Core.Bool.{Bool}
use Rattle.vectors.specs.Listed.{checked}
use Rattle.vectors.proofs.capitals.alike.Goals as goal

pub returns : goal.returns
returns c =
    let a = c.args in
    let x = c.read in
    let y = c.read-2 in
    record {
      verdict = x.result;
      table = x.new.table;
      reads = x.ensures;
      verdict_other = y.result;
      table_other = y.new.table;
      reads_other = y.ensures;
      told = c.check.ensures ∙ ap (λ (b : Bool). checked b a.t) c.same_tables.ensures;
    }
