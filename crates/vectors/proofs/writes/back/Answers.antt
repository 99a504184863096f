-- `vectors::writes::back` meets its contract. Both are read, and the second answer and the two tables are compared.
-- Assumes nothing.
use mathlib.Core.Path.{sym, ◌∙◌}
use Rattle.vectors.specs.Listed.{accepted_by, one_back, one_difference}
use Rattle.vectors.specs.Pages.{same_meanings}
use Rattle.vectors.proofs.Laws.{both_yes, first_no, second_no}
use Rattle.vectors.proofs.writes.back.Goals as goal
use Rattle.vectors.proofs.writes.back.Goals.{else-accepted-via-then-accepted+else-same_meanings, else-accepted-via-else-accepted}

pub returns-then-same_meanings : goal.returns-then-same_meanings
returns-then-same_meanings c =
    let a = c.args in
    let x = c.read in
    let y = c.read-verdict in
    record {
      verdict = x.result;
      table = x.new.table;
      reads = x.ensures;
      verdict_back = y.result;
      table_back = y.new.table;
      reads_back = y.ensures;
      told = c.back.ensures ∙ both_yes (accepted_by y.result) (same_meanings x.new.table y.new.table) (one_back a.t) (one_difference a.t) (sym c.accepted.ensures ∙ c.if-accepted.true) (sym c.same_meanings.ensures ∙ c.if-same_meanings.true);
    }

pub returns : goal.returns
returns c =
    let a = c.args in
    let x = c.read in
    let y = c.read-verdict in
    record {
      verdict = x.result;
      table = x.new.table;
      reads = x.ensures;
      verdict_back = y.result;
      table_back = y.new.table;
      reads_back = y.ensures;
      told = c.check.ensures ∙ elim c.else-accepted.branch [
        | else-accepted-via-then-accepted+else-same_meanings w ↦ second_no (accepted_by y.result) (same_meanings x.new.table y.new.table) (one_back a.t) (one_difference a.t) (sym c.accepted.ensures ∙ w.if-accepted.true) (sym w.same_meanings.ensures ∙ w.if-same_meanings.false)
        | else-accepted-via-else-accepted w ↦ first_no (accepted_by y.result) (same_meanings x.new.table y.new.table) (one_back a.t) (one_difference a.t) (sym c.accepted.ensures ∙ w.if-accepted.false)
      ];
    }
