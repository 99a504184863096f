-- `showing::text::line_row` meets its contract. The row holds the first n bytes of the line as they are shown, and the others are ahead from i on.
-- Assumes nothing.
use Prim.Native.Nat.{ℕ, ◌+◌, ◌≤◌, ◌<◌}
use mathlib.Core.Path.{◌≡◌, sym, ap, ◌∙◌}
use mathlib.Core.Bool.{true, false}
use mathlib.Core.List.{List, [], ◌∷◌}
use native.Mathlib.Numerals.{add-one}
use lib.Dec.{eqb}
use lib.ListN.{length, get_or, drop_of_length-le}
use Rattle.io.proofs.Counting.{prefix_len_of_le}
use borrow.Author.Tests.{eq-eqb, ne_eqb}
use Rattle.symbols.proofs.Laws.{peel}
use Rattle.showing.specs.Pages.{shown_at, shown_in, shown_from}
use Rattle.showing.proofs.Rows.{first, full, ended, put}
use borrow.Author.Rules.{rules}
use Rattle.showing.proofs.text.line_row.Goals as goal
use Rattle.showing.proofs.text.line_row.Goals.{then-row-n-via-then-row-n, then-row-n-via-else-row-n+then-source-i-eq10}

-- ---- what is shown from i on, by what is shown from i + 1 on
module _ (s : List ℕ) (i : ℕ) where
  shown-on : i < length s → eqb (get_or s i 0) 10 ≡ false → shown_from s i ≡ shown_at s i ∷ shown_from s (i + 1)
  unfolding shown_from shown_in
  shown-on h e = rw (peel s i h, e, add-one i)

  shown-stop : i < length s → eqb (get_or s i 0) 10 ≡ true → shown_from s i ≡ []
  unfolding shown_from shown_in
  shown-stop h e = rw (peel s i h, e)

  shown-end : length s ≤ i → shown_from s i ≡ []
  unfolding shown_from shown_in
  shown-end h = rw (drop_of_length-le s h)

pub loop-i-init : goal.loop-i-init
loop-i-init c = first _ _

pub returns-then-row-n : goal.returns-then-row-n
returns-then-row-n c =
    let s = c.args.source.now in
    let l = c.loop-i in
    record {
      fills = elim c.then-row-n.branch [
        | then-row-n-via-then-row-n w ↦ full l.invariant w.if-row-n.true
        | then-row-n-via-else-row-n+then-source-i-eq10 w ↦ ended l.invariant (shown-stop s l.i c.loop-i-test.true (eq-eqb (get_or s l.i 0) 10 w.if-source-i-eq10.true))
      ];
      prefix_len = prefix_len_of_le _ _ (search rules);
    }

pub loop-i-preserved : goal.loop-i-preserved
loop-i-preserved c =
    let s = c.args.source.now in
    let l = c.loop-i in
    let t = shown-on s l.i c.loop-i-test.true (ne_eqb (get_or s l.i 0) 10 c.if-source-i-eq10.false) in
    put l.invariant c.shown_at.result _ (t ∙ ap (λ b. b ∷ shown_from s (l.i + 1)) (sym c.shown_at.ensures)) c.if-row-n.false

pub returns : goal.returns
returns c =
    let l = c.loop-i in
    record { fills = ended l.invariant (shown-end c.args.source.now l.i c.loop-i-test.false); prefix_len = prefix_len_of_le _ _ (search rules) }
