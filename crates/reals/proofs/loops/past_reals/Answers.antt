-- The step's sign is that of a whole number or of a real, each by the law of `past_real`.
use Rattle.std.proofs.Common.{Bool, ℤ, ap, ◌∙◌, w32}
use lib.Ieee.{binary64, of_int}
use Rattle.reals.specs.Values.{past_r, past_by}
use Rattle.reals.specs.declared.Value.TheVariants.{Truth}
use Rattle.reals.specs.declared.Outcome.TheVariants.{Is}
use Rattle.reals.proofs.Signed.{read_back}
use Rattle.reals.proofs.loops.past_reals.Goals as goal

pub returns-in-Whole : goal.returns-in-Whole
unfolding past_by
returns-in-Whole c = simp c.in-Whole.is (ap (λ (b : Bool). Is (Truth b)) (c.past_real.ensures ∙ ap (λ (z : ℤ). past_r c.args.v (of_int binary64 z) c.args.y) (read_back w32 c.in-Whole.s c.in-Whole.known_told-1-own.given.0.1)))

pub returns-in-Real : goal.returns-in-Real
unfolding past_by
returns-in-Real c = simp c.in-Real.is (ap (λ (b : Bool). Is (Truth b)) c.past_real-in-Real.ensures)

pub returns-in-Truth : goal.returns-in-Truth
unfolding past_by
returns-in-Truth c = simp c.in-Truth.is
