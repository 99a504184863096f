-- `symbols::kinds::decode` meets its contract: each arm has told the kind, and the last one that it is none of them.
-- Assumes nothing.
use Rattle.symbols.specs.model.Kinds.{symbol_of, ordered}
use Rattle.symbols.specs.declared.Symbol.TheVariants.{Colon}
use mathlib.Core.Path.{sym}
use lib.ListN.{get_or-eq_default}
use Rattle.symbols.proofs.Stored.{above}
use Rattle.symbols.proofs.kinds.decode.Goals as goal

pub returns-in_default : goal.returns-in_default
unfolding symbol_of
returns-in_default c = sym (get_or-eq_default (ordered c.args.v) Colon (above 43 c.args.k c.in_default.in_default-own.rest))
