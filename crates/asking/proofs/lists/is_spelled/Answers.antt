-- `asking::lists::is_spelled` meets its contract. A byte at least, and all are digits.
-- Assumes nothing.
use Rattle.std.proofs.Common.{rules, tests, not, sym, ap, ◌∙◌}
use Rattle.std.proofs.lemmas.Iterator.{YieldsList-from_slice}
use Rattle.std.proofs.lemmas.Iterator.Search.{all_from_yields_List}
use Rattle.symbols.specs.Names.{digit}
use Rattle.asking.proofs.Sending.{all_digits, spelled_empty, spelled_all}
use Rattle.asking.proofs.lists.is_spelled.Goals as goal

pub returns-then-not-is_empty : goal.returns-then-not-is_empty
returns-then-not-is_empty c =
    let s = c.args.text.now in
    all_from_yields_List digit _ _ c.all.result c.all.ensures.ran (YieldsList-from_slice s c.iter.ensures.rest) (λ x b q k. search (rules, tests)) ∙ all_digits s
    ∙ sym (spelled_all s (sym c.is_empty.ensures ∙ c.if-not-is_empty.true))

pub returns-else-not-is_empty : goal.returns-else-not-is_empty
returns-else-not-is_empty c = ap not c.if-not-is_empty.false ∙ sym (spelled_empty c.args.text.now (sym c.is_empty.ensures ∙ c.if-not-is_empty.false))
