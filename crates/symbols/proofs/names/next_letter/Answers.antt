-- `symbols::names::next_letter` meets its contract. From i on the same letters are left as from `from` on.
-- Assumes nothing.
use mathlib.Core.Path.{sym, ◌∙◌}
use Rattle.symbols.specs.Names.{in_name}
use Rattle.symbols.proofs.Laws.{these_one, these_on, these_stop, these_end}
use Rattle.symbols.proofs.names.next_letter.Goals as goal

pub returns-then-is_name_byte : goal.returns-then-is_name_byte
returns-then-is_name_byte c =
    let l = c.loop-i in
    let h = c.loop-i-test.true in
    record { same = l.invariant ∙ these_one in_name c.args.source.now l.i h (sym c.is_name_byte.ensures ∙ c.if-is_name_byte.true); within = (l.auto.i, h) }

pub returns-then-not-is_blank : goal.returns-then-not-is_blank
returns-then-not-is_blank c =
    let l = c.loop-i in
    record { same = l.invariant ∙ these_stop in_name c.args.source.now l.i c.loop-i-test.true (sym c.is_name_byte.ensures ∙ c.if-is_name_byte.false) (sym c.is_blank.ensures ∙ c.if-not-is_blank.true); within = tt }

pub loop-i-preserved : goal.loop-i-preserved
loop-i-preserved c =
    let l = c.loop-i in
    l.invariant ∙ these_on in_name c.args.source.now l.i c.loop-i-test.true (sym c.is_name_byte.ensures ∙ c.if-is_name_byte.false) (sym c.is_blank.ensures ∙ c.if-not-is_blank.false)

pub returns : goal.returns
returns c =
    let l = c.loop-i in
    record { same = l.invariant ∙ these_end in_name c.args.source.now l.i c.loop-i-test.false; within = tt }
