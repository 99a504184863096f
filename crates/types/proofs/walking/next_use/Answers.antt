-- `walking::next_use`: the word at the count of the uses, where there is one.
use lib.ListN.{drop_of_length-le}
use Rattle.types.specs.model.Passes.{next_use, with_use}
use Rattle.types.proofs.Stacks.{uses_on}
use Rattle.types.proofs.walking.next_use.Goals as goal

pub returns-in-Some-clause-by_index : goal.returns-in-Some-clause-by_index
unfolding next_use with_use
returns-in-Some-clause-by_index c =
    let h = c.in-Some.ensures.lookup.3 in
    λ s d b. rw (h.1 0, uses_on c.args.uses.now c.args.t.uses h.0)

pub returns-in_default-clause-by_index : goal.returns-in_default-clause-by_index
unfolding next_use
returns-in_default-clause-by_index c = λ s d b. rw (drop_of_length-le c.args.uses.now c.in_default.ensures.lookup.3)
