-- `deed::check::check_text` meets its contract. Its words are those of the line, and all are numbers, or one is none, or there are too many.
-- Assumes nothing.
use mathlib.Core.Path.{sym, ap, ◌∙◌}
use native.Mathlib.Omega.{arith}
use lib.IntN.{ℤ, pos}
use lib.ListN.{length-replicate}
use lib.Seq.{length-take-le}
use Rattle.std.specs.Prelude.{Err}
use Rattle.deed.proofs.Sent.{words_sent, sent_are, sent_not, sent_full, inside_room}
use Rattle.deed.proofs.check.check_text.Goals as goal

pub slice_bounds-numbers-end : goal.slice_bounds-numbers-end
slice_bounds-numbers-end c = omega (arith, inside_room c.list_in.ensures c.in-Ok.is, length-replicate {A = ℤ} 32768 (pos 0))

pub slice_bounds-tell_checked-end-in-Ok : goal.slice_bounds-tell_checked-end-in-Ok
slice_bounds-tell_checked-end-in-Ok c = sym (length-take-le _ _ (omega (arith, inside_room c.list_in.ensures c.in-Ok.is, length-replicate {A = ℤ} 32768 (pos 0))))

pub returns-in-Ok : goal.returns-in-Ok
returns-in-Ok c = sent_are c.args.text.now _ _ _ _ (length-replicate 32768 (pos 0)) (words_sent c.args.text.now c.large_buffer-row.result _ _ c.list_line-n.ensures (omega (arith, c.large_buffer-row.ensures, c.requires))) c.list_in.ensures _ _ c.in-Ok.is c.tell_checked.ensures

pub returns-in-Err-NoNumber : goal.returns-in-Err-NoNumber
returns-in-Err-NoNumber c = sent_not c.args.text.now _ _ _ _ (length-replicate 32768 (pos 0)) (words_sent c.args.text.now c.large_buffer-row.result _ _ c.list_line-n.ensures (omega (arith, c.large_buffer-row.ensures, c.requires))) c.list_in.ensures _ (c.in-Err-NoNumber.is ∙ ap Err c.in-Err-NoNumber.field-0-is)

pub returns-in-Err-Full : goal.returns-in-Err-Full
returns-in-Err-Full c = sent_full c.args.text.now _ _ _ _ (length-replicate 32768 (pos 0)) (words_sent c.args.text.now c.large_buffer-row.result _ _ c.list_line-n.ensures (omega (arith, c.large_buffer-row.ensures, c.requires))) c.list_in.ensures (c.in-Err-Full.is ∙ ap Err c.in-Err-Full.field-0-is)
