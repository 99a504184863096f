-- One law an arm: a value, an unassigned cell by its type, a name formal by its number.
use Rattle.std.proofs.Common.{ℤ, refl, ap, ◌∙◌, w64, to_z, of_z}
use Rattle.reals.specs.model.Stored.{kind_of, load_of}
use Rattle.reals.proofs.ReadBack.{kind_again, narrow}
use Rattle.reals.proofs.stored.encode.Goals as goal

pub returns-in-Holds : goal.returns-in-Holds
returns-in-Holds c = simp c.in-Holds.is c.held.ensures

pub returns-in-Unset : goal.returns-in-Unset
unfolding kind_of load_of
returns-in-Unset c = simp c.in-Unset.is (ap (λ (z : ℤ). to_z w64 (of_z w64 z)) c.unset.ensures ∙ kind_again c.in-Unset.f, refl)

pub returns-in-Named : goal.returns-in-Named
unfolding kind_of load_of
returns-in-Named c = simp c.in-Named.is (refl, narrow c.in-Named.a c.in-Named.known_told-in-Named-1-own.given.0.1)
