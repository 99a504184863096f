-- `webpage::painting::paint_refused` meets its contract: the mark is painted last.
-- Assumes nothing.
use mathlib.Core.Path.{◌∙◌}
use native.Mathlib.Omega.{arith}
use Rattle.webpage.proofs.painting.paint_refused.Goals as goal

pub returns-then-looks-place : goal.returns-then-looks-place
returns-then-looks-place c =
    record {
      marked = λ h. omega (arith, c.paint_symbols.auto.looks, c.paint.auto.row);
      behind = λ i h e. c.paint_symbols.ensures.unmarking.behind i h ∙ c.paint.ensures.behind i (omega arith);
    }

pub returns : goal.returns
returns c =
    let end = c.mark_end.ensures in
    record {
      marked = λ h. c.paint-2.ensures.painted.inside _ (omega arith) (let l = end.lower_bound (omega arith) in omega arith);
      behind = λ i h e. c.paint-2.ensures.painted.outside i (λ a. let l = end.by_index i h (omega arith) in omega arith)
          ∙ (c.paint_symbols.ensures.unmarking.behind i h ∙ c.paint.ensures.behind i (omega arith));
    }
