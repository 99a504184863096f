-- `clean::spelling::spelled` meets its contract: the kind tells which words it is among. Assumes nothing.
use mathlib.Core.Path.{sym}
use native.Mathlib.Omega.{arith}
use Rattle.clean.proofs.Putting.{puts_as}
use Rattle.clean.proofs.Spelled.{by_low, by_letters}
use Rattle.clean.proofs.spelling.spelled.Goals as goal

pub returns-then-kind-lt14 : goal.returns-then-kind-lt14
returns-then-kind-lt14 c =
    let args = c.args in
    puts_as c.statement_word.ensures (sym (by_low args.source.now args.kind args.place.at (omega arith)))

pub returns-then-kind-lt22 : goal.returns-then-kind-lt22
returns-then-kind-lt22 c =
    let args = c.args in
    puts_as c.logic_word.ensures (sym (by_low args.source.now args.kind args.place.at (omega arith)))

pub returns-then-kind-lt38 : goal.returns-then-kind-lt38
returns-then-kind-lt38 c =
    let args = c.args in
    puts_as c.sign.ensures (sym (by_low args.source.now args.kind args.place.at (omega arith)))

pub returns-then-kind-lt40 : goal.returns-then-kind-lt40
returns-then-kind-lt40 c =
    let args = c.args in
    puts_as c.letters.ensures (by_letters args.source.now args.kind args.place.at (omega arith) (omega arith))
