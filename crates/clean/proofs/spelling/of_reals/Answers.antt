-- `clean::spelling::of_reals` meets its contract: each arm has told the kind. Assumes nothing.
use mathlib.Core.Path.{◌≡◌}
use native.Mathlib.Omega.{arith}
use Rattle.symbols.specs.Spelling.{word_for, sign_for, spell}
use Rattle.symbols.specs.model.Kinds.{symbol_of}
use Rattle.clean.proofs.Putting.{puts_as}
use Rattle.clean.proofs.Spelled.{past, by_decimals}
use borrow.Author.Rules.{rules}
use Rattle.clean.proofs.spelling.of_reals.Goals as goal

pub word-requires : goal.word-requires
unfolding word_for sign_for symbol_of spell
word-requires c = search rules

pub word-requires-in-41 : goal.word-requires-in-41
unfolding word_for sign_for symbol_of spell
word-requires-in-41 c = search rules

pub decimal-requires : goal.decimal-requires
unfolding word_for sign_for symbol_of spell
decimal-requires c = search rules

pub returns-in-40 : goal.returns-in-40
unfolding word_for sign_for symbol_of spell
returns-in-40 c = rw c.in-40.is c.word.ensures

pub returns-in-41 : goal.returns-in-41
unfolding word_for sign_for symbol_of spell
returns-in-41 c = rw c.in-41.is c.word-in-41.ensures

pub returns-in_default : goal.returns-in_default
returns-in_default c =
    let x = c.args in
    let e : x.kind ≡ 42 = let h = past 40 2 x.kind c.requires.1 c.in_default.in_default-own.rest in omega (arith, c.requires.2) in
    rw e (puts_as c.decimal.ensures (by_decimals x.source.now x.place.at))
