-- `clean::spelling::sign` meets its contract: each arm has told the kind. Assumes nothing.
use mathlib.Core.Path.{◌≡◌}
use native.Mathlib.Omega.{arith}
use Rattle.symbols.specs.Spelling.{word_for, sign_for}
use Rattle.symbols.specs.model.Kinds.{symbol_of}
use Rattle.clean.proofs.Spelled.{past}
use borrow.Author.Rules.{rules}
use Rattle.clean.proofs.spelling.sign.Goals as goal

pub word-requires : goal.word-requires
unfolding word_for sign_for symbol_of
word-requires c = search rules

pub word-requires-in-23 : goal.word-requires-in-23
unfolding word_for sign_for symbol_of
word-requires-in-23 c = search rules

pub word-requires-in-24 : goal.word-requires-in-24
unfolding word_for sign_for symbol_of
word-requires-in-24 c = search rules

pub word-requires-in-25 : goal.word-requires-in-25
unfolding word_for sign_for symbol_of
word-requires-in-25 c = search rules

pub word-requires-in-26 : goal.word-requires-in-26
unfolding word_for sign_for symbol_of
word-requires-in-26 c = search rules

pub word-requires-in-27 : goal.word-requires-in-27
unfolding word_for sign_for symbol_of
word-requires-in-27 c = search rules

pub word-requires-in-28 : goal.word-requires-in-28
unfolding word_for sign_for symbol_of
word-requires-in-28 c = search rules

pub word-requires-in-29 : goal.word-requires-in-29
unfolding word_for sign_for symbol_of
word-requires-in-29 c = search rules

pub word-requires-in-30 : goal.word-requires-in-30
unfolding word_for sign_for symbol_of
word-requires-in-30 c = search rules

pub word-requires-in-31 : goal.word-requires-in-31
unfolding word_for sign_for symbol_of
word-requires-in-31 c = search rules

pub word-requires-in-32 : goal.word-requires-in-32
unfolding word_for sign_for symbol_of
word-requires-in-32 c = search rules

pub word-requires-in-33 : goal.word-requires-in-33
unfolding word_for sign_for symbol_of
word-requires-in-33 c = search rules

pub word-requires-in-34 : goal.word-requires-in-34
unfolding word_for sign_for symbol_of
word-requires-in-34 c = search rules

pub word-requires-in-35 : goal.word-requires-in-35
unfolding word_for sign_for symbol_of
word-requires-in-35 c = search rules

pub word-requires-in-36 : goal.word-requires-in-36
unfolding word_for sign_for symbol_of
word-requires-in-36 c = search rules

pub word-requires-in_default : goal.word-requires-in_default
unfolding word_for sign_for symbol_of
word-requires-in_default c = search rules

pub returns-in-22 : goal.returns-in-22
unfolding word_for sign_for symbol_of
returns-in-22 c = rw c.in-22.is c.word.ensures

pub returns-in-23 : goal.returns-in-23
unfolding word_for sign_for symbol_of
returns-in-23 c = rw c.in-23.is c.word-in-23.ensures

pub returns-in-24 : goal.returns-in-24
unfolding word_for sign_for symbol_of
returns-in-24 c = rw c.in-24.is c.word-in-24.ensures

pub returns-in-25 : goal.returns-in-25
unfolding word_for sign_for symbol_of
returns-in-25 c = rw c.in-25.is c.word-in-25.ensures

pub returns-in-26 : goal.returns-in-26
unfolding word_for sign_for symbol_of
returns-in-26 c = rw c.in-26.is c.word-in-26.ensures

pub returns-in-27 : goal.returns-in-27
unfolding word_for sign_for symbol_of
returns-in-27 c = rw c.in-27.is c.word-in-27.ensures

pub returns-in-28 : goal.returns-in-28
unfolding word_for sign_for symbol_of
returns-in-28 c = rw c.in-28.is c.word-in-28.ensures

pub returns-in-29 : goal.returns-in-29
unfolding word_for sign_for symbol_of
returns-in-29 c = rw c.in-29.is c.word-in-29.ensures

pub returns-in-30 : goal.returns-in-30
unfolding word_for sign_for symbol_of
returns-in-30 c = rw c.in-30.is c.word-in-30.ensures

pub returns-in-31 : goal.returns-in-31
unfolding word_for sign_for symbol_of
returns-in-31 c = rw c.in-31.is c.word-in-31.ensures

pub returns-in-32 : goal.returns-in-32
unfolding word_for sign_for symbol_of
returns-in-32 c = rw c.in-32.is c.word-in-32.ensures

pub returns-in-33 : goal.returns-in-33
unfolding word_for sign_for symbol_of
returns-in-33 c = rw c.in-33.is c.word-in-33.ensures

pub returns-in-34 : goal.returns-in-34
unfolding word_for sign_for symbol_of
returns-in-34 c = rw c.in-34.is c.word-in-34.ensures

pub returns-in-35 : goal.returns-in-35
unfolding word_for sign_for symbol_of
returns-in-35 c = rw c.in-35.is c.word-in-35.ensures

pub returns-in-36 : goal.returns-in-36
unfolding word_for sign_for symbol_of
returns-in-36 c = rw c.in-36.is c.word-in-36.ensures

pub returns-in_default : goal.returns-in_default
unfolding word_for sign_for symbol_of
returns-in_default c = let e : c.args.kind ≡ 37 = let h = past 22 15 c.args.kind c.requires.1 c.in_default.in_default-own.rest in omega arith in rw e c.word-in_default.ensures
