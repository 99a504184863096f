-- `symbols::lexemes::joined` meets its contract. What stands behind the blanks is what stands where they end.
-- Assumes nothing.
use mathlib.Core.Path.{◌≡◌, sym, ap, ◌∙◌}
use Prim.Native.Nat.{ℕ, ◌+◌, ◌-◌}
use native.Mathlib.Omega.{arith}
use borrow.Author.Tests.{ne_eqb}
use lib.ListN.{get_or, drop}
use lib.ListN.{get_or-eq_default}
use lib.Seq.{get_or-drop}
use Rattle.symbols.specs.Scan.{gap, followed}
use Rattle.symbols.specs.model.Steps.{joined_of}
use Rattle.symbols.proofs.lexemes.joined.Goals as goal
use Rattle.symbols.proofs.lexemes.joined.Goals.{else-end-source-via-then-end-source+else-source-end-eq61, else-end-source-via-else-end-source}

pub returns-then-source-end-eq61 : goal.returns-then-source-end-eq61
unfolding joined_of followed
returns-then-source-end-eq61 c =
    let s = c.args.source.now in
    let bs = drop (c.args.at + 1) s in
    let e = c.blanks_end-end.ensures in
    let g : get_or bs (gap bs) 0 ≡ get_or s c.blanks_end-end.result 0 = get_or-drop (c.args.at + 1) s (gap bs) 0 ∙ ap (λ (k : ℕ). get_or s k 0) (sym e) in
    let n : c.blanks_end-end.result - c.args.at ≡ gap bs + 1 = omega arith in
    rw n (simp (g ∙ c.if-source-end-eq61.true))

pub returns : goal.returns
unfolding joined_of followed
returns c =
    let s = c.args.source.now in
    let bs = drop (c.args.at + 1) s in
    let e = c.blanks_end-end.ensures in
    let g : get_or bs (gap bs) 0 ≡ get_or s c.blanks_end-end.result 0 = get_or-drop (c.args.at + 1) s (gap bs) 0 ∙ ap (λ (k : ℕ). get_or s k 0) (sym e) in
    elim c.else-end-source.branch [
      | else-end-source-via-then-end-source+else-source-end-eq61 w ↦ simp (g, ne_eqb _ _ w.if-source-end-eq61.false)
      | else-end-source-via-else-end-source w ↦ simp (g ∙ get_or-eq_default s 0 w.if-end-source.false)
    ]
