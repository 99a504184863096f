-- A load is a number of 64 bits, and goes through them.
use Rattle.std.proofs.Common.{T, ℤ, sym, refl, ap, ◌∙◌, subst, w32, w64, to_z, of_z}
use Rattle.reals.specs.model.Stored.{kind_of, load_of}
use Rattle.reals.proofs.Signed.{wide_fits, wide_same}
use Rattle.reals.proofs.ReadBack.{long_again, truth_again}
use Rattle.reals.proofs.stored.held.Goals as goal

pub overflow_cast-result : goal.overflow_cast-result
overflow_cast-result c = wide_fits w32 w64 tt {a = c.in-Whole.z} (record { sfits = c.in-Whole.known_told-1-own.given.0.1 })

pub returns-in-Whole : goal.returns-in-Whole
unfolding kind_of load_of
returns-in-Whole c = simp c.in-Whole.is (refl, wide_same w32 w64 tt {a = c.in-Whole.z} (record { sfits = c.in-Whole.known_told-1-own.given.0.1 }))

pub returns-in-Real : goal.returns-in-Real
unfolding kind_of load_of
returns-in-Real c = simp c.in-Real.is (refl, ap (λ (z : ℤ). to_z w64 (of_z w64 z)) (c.long_number.ensures ∙ ap (to_z w64) c.bits_of.ensures) ∙ long_again c.in-Real.x (subst T (sym c.in-Real.known_told-in-Real-1-own.given.0.1) tt))

pub returns-in-Truth : goal.returns-in-Truth
unfolding kind_of load_of
returns-in-Truth c = simp c.in-Truth.is (refl, ap (λ (z : ℤ). to_z w64 (of_z w64 z)) c.truth.ensures ∙ truth_again c.in-Truth.b)
