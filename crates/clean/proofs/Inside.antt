-- The text that is written is inside the room. Assumes nothing.
use Rattle.std.proofs.Common.{Result}
use mathlib.Core.List.{List}
use Prim.Native.Nat.{ℕ, ◌≤◌}
use native.Mathlib.Omega.{arith}
use lib.ListN.{length, drop, length-append}
use Rattle.answers.specs.declared.Refusal.{Refusal}
use Rattle.clean.specs.Numbers.{length_of}
use Rattle.clean.specs.Job.{Fits, too_long, too_short, written, Writes, refused, accepted}

fits_inside : {text room room' : List ℕ} {w : Result ℕ Refusal} → Fits text room w room' → length_of w ≤ length room'
fits_inside (too_long h) = omega arith
fits_inside (too_short h k) = omega arith
fits_inside {text} {room} (written h k) = omega (arith, length-append text (drop (length text) room))

pub text_inside : {source room room' : List ℕ} {w : Result ℕ Refusal} → Writes source room w room' → length_of w ≤ length room'
text_inside (refused r j) = omega arith
text_inside (accepted p a b w room' f) = fits_inside f
