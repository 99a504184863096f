-- What the status 0 says: of an end, of what was taken.
use Prim.Native.Nat.{ℕ}
use mathlib.Core.Path.{◌≡◌, refl}
use mathlib.Core.Bool.{Bool, true, false, cond}
use native.Mathlib.Omega.{arith}
use Rattle.answers.specs.declared.Stop.{Stop}
use Rattle.answers.specs.declared.Stop.TheVariants.{Ended, Limit, Fault, Wrong}
use Rattle.desk.specs.Status.{good, bad, of_end, of_taken}

good_left : (t : Bool) → good ≡ cond t bad good → t ≡ false
good_left true h = absurd (omega arith)
good_left false h = refl

pub good_end : (t : Bool) (q : Stop) → good ≡ of_end t q → (q ≡ Ended) × (t ≡ false)
good_end t Ended h = (refl, good_left t h)
good_end t Limit h = absurd (omega arith)
good_end t (Fault r) h = absurd (omega arith)
good_end t (Wrong a) h = absurd (omega arith)

-- and where the tool ends with 0, all that it wrote was taken
pub good_taken : (t : Bool) (s : ℕ) → of_taken t s ≡ good → (t ≡ true) × (s ≡ good)
unfolding of_taken
good_taken true s h = (refl, h)
good_taken false s h = absurd (omega arith)
