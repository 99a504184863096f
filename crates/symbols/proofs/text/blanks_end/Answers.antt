-- `symbols::text::blanks_end` meets its contract: the gap ends at the first byte that is no blank.
-- Assumes nothing.
use mathlib.Core.Path.{◌≡◌, ap, sym, ◌∙◌}
use mathlib.Core.Bool.{not}
use Prim.Native.Nat.{◌+◌, ◌-◌}
use lib.ListN.{length, drop, take}
use Rattle.std.proofs.Common.{rules, tests}
use Rattle.std.specs.Option.{unwrap_or}
use Rattle.std.proofs.lemmas.Iterator.{YieldsList-from_slice}
use Rattle.std.proofs.lemmas.Iterator.Search.{position_from_yields_List}
use Rattle.symbols.specs.Names.{blank}
use Rattle.symbols.specs.Scan.{gap}
use Rattle.symbols.proofs.Ascii.{gap_position, first_or_length, rest_from}
use Rattle.symbols.proofs.text.blanks_end.Goals as goal

pub returns : goal.returns
returns c =
    let s = c.args.source.now in
    let xs = take (length s - c.min.result) (drop c.min.result s) in
    let found = position_from_yields_List (λ b. not (blank b)) _ _ c.position.result c.position.ensures.ran (YieldsList-from_slice xs c.iter.ensures.rest) (λ x b q k. search (rules, tests)) in
    let rest : xs ≡ drop c.args.from s = rw c.min.ensures (rest_from s c.args.from) in
    ap (λ k. c.args.from + k) (c.unwrap_or.ensures ∙ ap (λ r. unwrap_or r (length xs)) found ∙ first_or_length (λ b. not (blank b)) xs ∙ sym (gap_position xs) ∙ ap gap rest)
