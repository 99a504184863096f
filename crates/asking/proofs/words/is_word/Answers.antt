-- `asking::words::is_word` meets its contract. The tests place the part within the line; then its bytes are compared.
-- Assumes nothing.
use mathlib.Core.Path.{sym, ◌∙◌}
use Rattle.asking.proofs.Lines.{part_here, part_turned, part_outside}
use Rattle.asking.proofs.words.is_word.Goals as goal

pub returns-then-to-from : goal.returns-then-to-from
returns-then-to-from c =
    let args = c.args in
    sym (part_turned args.line.now args.from args.to args.text.now c.if-to-from.true)

pub returns-then-line-to : goal.returns-then-line-to
returns-then-line-to c =
    let args = c.args in
    sym (part_outside args.line.now args.from args.to args.text.now c.if-line-to.true)

pub returns : goal.returns
returns c =
    let args = c.args in
    c.same_bytes.ensures ∙ sym (part_here args.line.now args.from args.to args.text.now c.if-to-from.false c.if-line-to.false)
