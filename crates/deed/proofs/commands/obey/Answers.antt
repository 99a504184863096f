-- `deed::commands::obey` meets its contract. Help is asked for, or there is no row, or the words do not fit it, or they do.
-- Assumes nothing.
use mathlib.Core.Path.{sym, ap, ◌∙◌}
use mathlib.Core.List.{List}
use Prim.Native.Nat.{ℕ}
use lib.ListN.{length-replicate}
use Rattle.asking.specs.Words.{words_of}
use Rattle.asking.specs.Sorts.{asked_from}
use Rattle.deed.specs.Commands.{well_asked}
use Rattle.deed.proofs.Decided.{row_stands, no_row, row_long, helped, not_known, ill_asked, well_settled}
use Rattle.deed.proofs.commands.obey.Goals as goal

pub returns-then-asks_help : goal.returns-then-asks_help
returns-then-asks_help c = helped c.args.line.now (sym c.asks_help.ensures ∙ c.if-asks_help.true)

pub returns-then-n-eq0 : goal.returns-then-n-eq0
returns-then-n-eq0 c = not_known c.args.line.now (sym c.asks_help.ensures ∙ c.if-asks_help.false) c.next_word-w.result c.next_word-w.ensures (no_row _ _ _ _ c.row_line-n.ensures (length-replicate {A = ℕ} 256 0) c.if-n-eq0.true)

pub returns-then-not-well_asked : goal.returns-then-not-well_asked
returns-then-not-well_asked c =
    let s = c.args.line.now in
    let w = c.next_word-w.result in
    let r = row_stands _ _ _ _ c.row_line-n.ensures (length-replicate {A = ℕ} 256 0) in
    let e = sym c.well_asked.ensures ∙ c.if-not-well_asked.true in
    ill_asked s (sym c.asks_help.ensures ∙ c.if-asks_help.false) w c.next_word-w.ensures (ap (λ (x : List ℕ). well_asked x (words_of s) (asked_from s w.to)) (sym r) ∙ e)

pub returns : goal.returns
returns c =
    let s = c.args.line.now in
    let w = c.next_word-w.result in
    let r = row_stands _ _ _ _ c.row_line-n.ensures (length-replicate {A = ℕ} 256 0) in
    let e = sym c.well_asked.ensures ∙ c.if-not-well_asked.false in
    well_settled s (sym c.asks_help.ensures ∙ c.if-asks_help.false) w c.next_word-w.ensures (row_long _ _ _ _ c.row_line-n.ensures (length-replicate {A = ℕ} 256 0) c.if-n-eq0.false) (ap (λ (x : List ℕ). well_asked x (words_of s) (asked_from s w.to)) (sym r) ∙ e) c.settle.result c.settle.ensures
