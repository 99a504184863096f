-- Laws of Status: each is one of the three.
use mathlib.Core.Bool.{Bool, true, false, cond}
use Prim.Native.Nat.{◌≤◌}
use native.Mathlib.Omega.{arith}
use Rattle.answers.specs.declared.Verdict.{Verdict}
use Rattle.answers.specs.declared.Verdict.TheVariants.{Accepted, Refused}
use Rattle.answers.specs.declared.Stop.{Stop}
use Rattle.answers.specs.declared.Stop.TheVariants.{Ended, Limit, Fault, Wrong}
use Rattle.desk.specs.Status.{good, bad, nothing, of_verdict, of_end}

pub most_verdict : (v : Verdict) → of_verdict v ≤ nothing
most_verdict Accepted = omega arith
most_verdict (Refused r) = omega arith

most_left : (t : Bool) → cond t bad good ≤ nothing
most_left true = omega arith
most_left false = omega arith

pub most_end : (t : Bool) (q : Stop) → of_end t q ≤ nothing
most_end t Ended = most_left t
most_end t Limit = omega arith
most_end t (Fault r) = omega arith
most_end t (Wrong a) = omega arith
