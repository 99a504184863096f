-- Whole numbers are compared in 64 bits, in which they are themselves.
use Rattle.std.proofs.Common.{Bool, ℤ, ap, ◌∙◌, to_z-of_z, w32}
use Rattle.reals.specs.Values.{past, past_by}
use Rattle.reals.specs.declared.Value.TheVariants.{Truth}
use Rattle.reals.specs.declared.Outcome.TheVariants.{Is}
use Rattle.reals.proofs.Signed.{read_back}
use Rattle.reals.proofs.loops.past_wholes.Goals as goal

pub returns-in-Whole : goal.returns-in-Whole
unfolding past_by
returns-in-Whole c = simp c.in-Whole.is (ap (λ (b : Bool). Is (Truth b)) (simp (to_z-of_z c.ranges.v, to_z-of_z c.ranges.y) at c.past.ensures ∙ ap (λ (z : ℤ). past c.args.v z c.args.y) (read_back w32 c.in-Whole.s c.in-Whole.known_told-1-own.given.0.1)))

pub returns-in-Real : goal.returns-in-Real
unfolding past_by
returns-in-Real c = simp c.in-Real.is (ap (λ (b : Bool). Is (Truth b)) (simp (to_z-of_z c.ranges.v, to_z-of_z c.ranges.y) at c.past_real.ensures))

pub returns-in-Truth : goal.returns-in-Truth
unfolding past_by
returns-in-Truth c = simp c.in-Truth.is
