-- `reading::moving::moved` meets its contract. The kinds without a symbol are the four that the match names. Assumes nothing.
use mathlib.Core.Path.{ap}
use mathlib.Core.Bool.{cond}
use Prim.Native.Nat.{◌+◌}
use Rattle.reading.proofs.Moves.{has_none_lem, has_one}
use Rattle.reading.proofs.moving.moved.Goals as goal

pub returns-in-4 : goal.returns-in-4
returns-in-4 c = let args = c.args in ap (λ b. cond b args.symbol (args.symbol + args.m)) (has_none_lem args.kind c.in-4.is)

pub returns-in_default : goal.returns-in_default
returns-in_default c = let args = c.args in ap (λ b. cond b args.symbol (args.symbol + args.m)) (has_one args.kind c.in_default.in_default-own.rest.1)
