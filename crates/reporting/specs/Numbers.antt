-- The answers' numbers and places: "More than 65,535 sets is new answer 31"; a bad word has its index.
use Rattle.std.specs.Prelude.{ℕ, min, List, [], ◌∷◌, ◌++◌, ℤ, pos, length, take, drop, Ok, Err}
use Rattle.answers.specs.Numbers.{too_many_sets}
use Rattle.reporting.specs.declared.Report.{Report as Gathered}
use Rattle.reporting.specs.declared.Refused.TheVariants.{TooMany, Bad}
use Rattle.reporting.specs.Report.{Reported}

abbrev pub kind_of : Reported → ℕ
kind_of (Ok r) = 0
kind_of (Err TooMany) = 1
kind_of (Err (Bad i)) = 2

abbrev pub number_of : Reported → ℕ
number_of (Ok r) = 0
number_of (Err TooMany) = too_many_sets
number_of (Err (Bad i)) = 0

abbrev pub place_of : Reported → ℕ
place_of (Ok r) = 0
place_of (Err TooMany) = 0
place_of (Err (Bad i)) = i

-- a report's numbers in order: the twelve counts, 0 and 20 to 30; how many ended without a whole-number output; least, greatest, sum
abbrev pub figures_of : Gathered → List ℤ
figures_of r =
    pos r.counts.ended
    ∷ pos r.counts.limit
    ∷ pos r.counts.range
    ∷ pos r.counts.divisor
    ∷ pos r.counts.unassigned
    ∷ pos r.counts.input
    ∷ pos r.counts.output
    ∷ pos r.counts.cells
    ∷ pos r.counts.activations
    ∷ pos r.counts.channel
    ∷ pos r.counts.instruction
    ∷ pos r.counts.variable
    ∷ pos r.without
    ∷ r.least
    ∷ r.greatest
    ∷ r.sum
    ∷ []

-- .. in the first of some numbers, as many as there are; what lies behind them is untouched
unfoldable pub figures_in : Gathered → List ℤ → List ℤ
figures_in r zs = take (min 16 (length zs)) (figures_of r) ++ drop (min 16 (length zs)) zs

-- of an answer: only a report has figures
abbrev pub figures_after : Reported → List ℤ → List ℤ
figures_after (Ok r) zs = figures_in r zs
figures_after (Err TooMany) zs = zs
figures_after (Err (Bad i)) zs = zs
