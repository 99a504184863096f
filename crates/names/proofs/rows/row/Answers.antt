-- `names::rows::row` meets its contract: its four words, or behind the last one zeros.
use mathlib.Core.Path.{ap, ◌∙◌}
use mathlib.Core.List.{List, [], ◌∷◌}
use Prim.Native.Nat.{ℕ}
use Rattle.std.specs.Prelude.{Option}
use Rattle.std.specs.Option.{unwrap_or}
use Rattle.names.specs.Words.{row_of_words}
use Rattle.names.proofs.RowLaws.{row_got}
use Rattle.names.proofs.rows.row.Goals as goal

pub returns : goal.returns
returns c =
    let k = c.as_chunks.ensures in
    c.from.ensures
    ∙ ap row_of_words (c.unwrap_or.ensures ∙ ap (λ (o : Option (List ℕ)). unwrap_or o (0 ∷ 0 ∷ 0 ∷ 0 ∷ [])) c.copied-words.ensures)
    ∙ row_got c.args.rows.now _ c.args.d.number c.get.result k.front k.front_len c.get.ensures.lookup
