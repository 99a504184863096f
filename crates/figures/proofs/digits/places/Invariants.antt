-- `figures::digits::places` meets its contract: the digits from t on are all 0.
-- Assumes nothing.
use mathlib.Core.Path.{◌≡◌}
use lib.ListN.{drop}
use Rattle.figures.specs.Digits.{value, places_to}
use Rattle.figures.proofs.digits.places.Given as goal

abbrev pub invariant-loop-t : goal.invariant-loop-t
invariant-loop-t l = (places_to 772 (value l.a) ≡ places_to l.t (value l.a)) × (value (drop l.t l.a) ≡ 0)
