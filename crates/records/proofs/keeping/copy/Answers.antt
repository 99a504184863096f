-- The words stand there, and nothing else has changed.
use Rattle.records.proofs.Keeps.{copied}
use Rattle.records.proofs.keeping.copy.Goals as goal

pub returns : goal.returns
returns c = copied c.args.room.now c.args.words.now c.args.at c.requires c.copy_from_slice.ensures.after
