-- `checking::checking::is_word` meets its contract. Assumes nothing.
use Rattle.checking.proofs.RowLaws.{word_bits}
use Rattle.checking.proofs.checking.is_word.Goals as goal

pub returns : goal.returns
returns c = word_bits c.args.number c.args.word c.ranges.number c.ranges.word
