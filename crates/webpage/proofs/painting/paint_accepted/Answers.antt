-- `webpage::painting::paint_accepted` meets its contract: a note is not marked, and no symbol is.
-- Assumes nothing.
use mathlib.Core.Path.{◌∙◌}
use native.Mathlib.Omega.{arith}
use Rattle.webpage.proofs.painting.paint_accepted.Goals as goal

pub returns : goal.returns
returns c =
    let u = c.paint_symbols.ensures in
    let p = c.paint.ensures in record {
      clean = record {
        behind = λ i h. u.unmarking.behind i h ∙ p.behind i h;
        unmarked = λ i a b. u.unmarking.kept i (rw (p.painted.inside i (omega arith) (omega arith)) (omega arith));
      };
      behind = u.behind;
    }
