-- The run, and the store cleared behind it.
use mathlib.Core.Path.{ap, ◌∙◌}
use Prim.Native.Nat.{ℕ}
use lib.ListN.{replicate}
use lib.IntN.{pos}
use Rattle.machine.proofs.Limits.{first_lives, first_positions, first_found}
use Rattle.machine.proofs.steps.used.Goals as goal

pub drive-ran-requires : goal.drive-ran-requires
drive-ran-requires c = (c.requires.0, c.requires.1, first_lives, first_positions, first_found)

pub returns : goal.returns
returns c = record { drove = c.drive-ran.ensures; store_after = c.fill.ensures.after (λ y h. h) ∙ ap (λ (k : ℕ). replicate k (pos 0)) c.drive-ran.auto.store }
