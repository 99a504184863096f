-- `clean::spelling::logic_word` meets its contract: each arm has told the kind. Assumes nothing.
use mathlib.Core.Path.{◌≡◌}
use native.Mathlib.Omega.{arith}
use Rattle.symbols.specs.Spelling.{word_for, sign_for}
use Rattle.symbols.specs.model.Kinds.{symbol_of}
use Rattle.clean.proofs.Spelled.{past}
use borrow.Author.Rules.{rules}
use Rattle.clean.proofs.spelling.logic_word.Goals as goal

pub word-requires : goal.word-requires
unfolding word_for sign_for symbol_of
word-requires c = search rules

pub word-requires-in-15 : goal.word-requires-in-15
unfolding word_for sign_for symbol_of
word-requires-in-15 c = search rules

pub word-requires-in-16 : goal.word-requires-in-16
unfolding word_for sign_for symbol_of
word-requires-in-16 c = search rules

pub word-requires-in-17 : goal.word-requires-in-17
unfolding word_for sign_for symbol_of
word-requires-in-17 c = search rules

pub word-requires-in-18 : goal.word-requires-in-18
unfolding word_for sign_for symbol_of
word-requires-in-18 c = search rules

pub word-requires-in-19 : goal.word-requires-in-19
unfolding word_for sign_for symbol_of
word-requires-in-19 c = search rules

pub word-requires-in-20 : goal.word-requires-in-20
unfolding word_for sign_for symbol_of
word-requires-in-20 c = search rules

pub word-requires-in_default : goal.word-requires-in_default
unfolding word_for sign_for symbol_of
word-requires-in_default c = search rules

pub returns-in-14 : goal.returns-in-14
unfolding word_for sign_for symbol_of
returns-in-14 c = rw c.in-14.is c.word.ensures

pub returns-in-15 : goal.returns-in-15
unfolding word_for sign_for symbol_of
returns-in-15 c = rw c.in-15.is c.word-in-15.ensures

pub returns-in-16 : goal.returns-in-16
unfolding word_for sign_for symbol_of
returns-in-16 c = rw c.in-16.is c.word-in-16.ensures

pub returns-in-17 : goal.returns-in-17
unfolding word_for sign_for symbol_of
returns-in-17 c = rw c.in-17.is c.word-in-17.ensures

pub returns-in-18 : goal.returns-in-18
unfolding word_for sign_for symbol_of
returns-in-18 c = rw c.in-18.is c.word-in-18.ensures

pub returns-in-19 : goal.returns-in-19
unfolding word_for sign_for symbol_of
returns-in-19 c = rw c.in-19.is c.word-in-19.ensures

pub returns-in-20 : goal.returns-in-20
unfolding word_for sign_for symbol_of
returns-in-20 c = rw c.in-20.is c.word-in-20.ensures

pub returns-in_default : goal.returns-in_default
unfolding word_for sign_for symbol_of
returns-in_default c = let e : c.args.kind ≡ 21 = let h = past 14 7 c.args.kind c.requires.1 c.in_default.in_default-own.rest in omega arith in rw e c.word-in_default.ensures
