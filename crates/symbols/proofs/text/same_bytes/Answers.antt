-- `symbols::text::same_bytes` meets its contract: `==` compares byte by byte.
-- Assumes nothing.
use mathlib.Core.Path.{◌∙◌}
use Rattle.symbols.proofs.Ascii.{pointwise_equal}
use Rattle.symbols.proofs.text.same_bytes.Goals as goal

pub returns : goal.returns
returns c = c.eq.ensures ∙ pointwise_equal c.args.a.now c.args.b.now
