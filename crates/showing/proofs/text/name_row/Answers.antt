-- `showing::text::name_row` meets its contract. The row holds the first n letters, and the others are ahead from i on.
-- Assumes nothing.
use mathlib.Core.Path.{sym, ◌∙◌}
use lib.ListN.{get_or}
use Rattle.io.proofs.Counting.{prefix_len_of_le}
use borrow.Author.Rules.{rules}
use Rattle.symbols.specs.Names.{in_name}
use Rattle.symbols.proofs.Laws.{these_one, these_on, these_stop, these_end}
use Rattle.showing.proofs.Rows.{first, full, ended, passed, put}
use Rattle.showing.proofs.text.name_row.Goals as goal
use Rattle.showing.proofs.text.name_row.Goals.{then-is_name_byte+else-row-n, else-is_name_byte+else-not-is_blank}

pub loop-i-init : goal.loop-i-init
loop-i-init c = first _ _

pub returns-then-row-n : goal.returns-then-row-n
returns-then-row-n c =
    let l = c.loop-i in
    record { fills = full l.invariant c.if-row-n.true; prefix_len = prefix_len_of_le _ _ (search rules) }

pub returns-then-not-is_blank : goal.returns-then-not-is_blank
returns-then-not-is_blank c =
    let s = c.args.source.now in
    let l = c.loop-i in
    let t = these_stop in_name s l.i c.loop-i-test.true (sym c.is_name_byte.ensures ∙ c.if-is_name_byte.false) (sym c.is_blank.ensures ∙ c.if-not-is_blank.true) in
    record { fills = ended l.invariant t; prefix_len = prefix_len_of_le _ _ (search rules) }

pub loop-i-preserved : goal.loop-i-preserved
loop-i-preserved c =
    let s = c.args.source.now in
    let l = c.loop-i in
    let h = c.loop-i-test.true in
    let e = c.is_name_byte.ensures in
    elim c.if-is_name_byte.branch [
      | then-is_name_byte+else-row-n w ↦ rw (w.row-is, w.n-is) (put l.invariant (get_or s l.i 0) _ (these_one in_name s l.i h (sym e ∙ w.if-is_name_byte.true)) w.if-row-n.false)
      | else-is_name_byte+else-not-is_blank w ↦ rw (w.row-is, w.n-is) (passed l.invariant _ (these_on in_name s l.i h (sym e ∙ w.if-is_name_byte.false) (sym w.is_blank.ensures ∙ w.if-not-is_blank.false)))
    ]

pub returns : goal.returns
returns c =
    let l = c.loop-i in
    record { fills = ended l.invariant (these_end in_name c.args.source.now l.i c.loop-i-test.false); prefix_len = prefix_len_of_le _ _ (search rules) }
