-- `vectors::lists::as_number` meets its contract. A word is a number of 64 bits from 0 on. Assumes nothing.
use native.Mathlib.Omega.{arith}
use mir.Syntax.{w64}
use mir.Facts.{to_z_pos}
use Rattle.vectors.proofs.lists.as_number.Goals as goal

pub returns : goal.returns
returns c = to_z_pos w64 {n = c.args.word} (omega arith)
