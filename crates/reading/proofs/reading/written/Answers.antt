-- `reading::reading::written` meets its contract: what stands enters, and its table is written over zeros. Assumes nothing.
use native.Mathlib.Omega.{arith}
use lib.ListN.{length-take}
use Rattle.table.proofs.Written.{entered}
use Rattle.reading.proofs.Answers.{rows_short, nodes-short, table-enters, table-judged}
use Rattle.reading.proofs.reading.written.Goals as goal

pub returns : goal.returns
returns c = λ source kinds values was marks h.
    table-judged h.declared _ _ c.requires.1
    (entered
    (record {
      few_nodes = nodes-short h.declared;
      few_rows = rows_short h.declared;
      few_uses = omega (arith, h.declared.kept.few, length-take c.args.s.uses c.args.uses.now);
      room = table-enters h.declared _ c.requires.1;
    })
    (rw (c.front.ensures, c.front-2.ensures, c.first_rows.ensures.result_value) at c.write.ensures))
