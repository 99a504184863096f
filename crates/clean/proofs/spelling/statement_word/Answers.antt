-- `clean::spelling::statement_word` meets its contract: each arm has told the kind. Assumes nothing.
use mathlib.Core.Path.{◌≡◌}
use native.Mathlib.Omega.{arith}
use Rattle.symbols.specs.Spelling.{word_for, sign_for}
use Rattle.symbols.specs.model.Kinds.{symbol_of}
use Rattle.clean.proofs.Spelled.{past}
use borrow.Author.Rules.{rules}
use Rattle.clean.proofs.spelling.statement_word.Goals as goal

pub word-requires : goal.word-requires
unfolding word_for sign_for symbol_of
word-requires c = search rules

pub word-requires-in-1 : goal.word-requires-in-1
unfolding word_for sign_for symbol_of
word-requires-in-1 c = search rules

pub word-requires-in-2 : goal.word-requires-in-2
unfolding word_for sign_for symbol_of
word-requires-in-2 c = search rules

pub word-requires-in-3 : goal.word-requires-in-3
unfolding word_for sign_for symbol_of
word-requires-in-3 c = search rules

pub word-requires-in-4 : goal.word-requires-in-4
unfolding word_for sign_for symbol_of
word-requires-in-4 c = search rules

pub word-requires-in-5 : goal.word-requires-in-5
unfolding word_for sign_for symbol_of
word-requires-in-5 c = search rules

pub word-requires-in-6 : goal.word-requires-in-6
unfolding word_for sign_for symbol_of
word-requires-in-6 c = search rules

pub word-requires-in-7 : goal.word-requires-in-7
unfolding word_for sign_for symbol_of
word-requires-in-7 c = search rules

pub word-requires-in-8 : goal.word-requires-in-8
unfolding word_for sign_for symbol_of
word-requires-in-8 c = search rules

pub word-requires-in-9 : goal.word-requires-in-9
unfolding word_for sign_for symbol_of
word-requires-in-9 c = search rules

pub word-requires-in-10 : goal.word-requires-in-10
unfolding word_for sign_for symbol_of
word-requires-in-10 c = search rules

pub word-requires-in-11 : goal.word-requires-in-11
unfolding word_for sign_for symbol_of
word-requires-in-11 c = search rules

pub word-requires-in-12 : goal.word-requires-in-12
unfolding word_for sign_for symbol_of
word-requires-in-12 c = search rules

pub word-requires-in_default : goal.word-requires-in_default
unfolding word_for sign_for symbol_of
word-requires-in_default c = search rules

pub returns-in-0 : goal.returns-in-0
unfolding word_for sign_for symbol_of
returns-in-0 c = rw c.in-0.is c.word.ensures

pub returns-in-1 : goal.returns-in-1
unfolding word_for sign_for symbol_of
returns-in-1 c = rw c.in-1.is c.word-in-1.ensures

pub returns-in-2 : goal.returns-in-2
unfolding word_for sign_for symbol_of
returns-in-2 c = rw c.in-2.is c.word-in-2.ensures

pub returns-in-3 : goal.returns-in-3
unfolding word_for sign_for symbol_of
returns-in-3 c = rw c.in-3.is c.word-in-3.ensures

pub returns-in-4 : goal.returns-in-4
unfolding word_for sign_for symbol_of
returns-in-4 c = rw c.in-4.is c.word-in-4.ensures

pub returns-in-5 : goal.returns-in-5
unfolding word_for sign_for symbol_of
returns-in-5 c = rw c.in-5.is c.word-in-5.ensures

pub returns-in-6 : goal.returns-in-6
unfolding word_for sign_for symbol_of
returns-in-6 c = rw c.in-6.is c.word-in-6.ensures

pub returns-in-7 : goal.returns-in-7
unfolding word_for sign_for symbol_of
returns-in-7 c = rw c.in-7.is c.word-in-7.ensures

pub returns-in-8 : goal.returns-in-8
unfolding word_for sign_for symbol_of
returns-in-8 c = rw c.in-8.is c.word-in-8.ensures

pub returns-in-9 : goal.returns-in-9
unfolding word_for sign_for symbol_of
returns-in-9 c = rw c.in-9.is c.word-in-9.ensures

pub returns-in-10 : goal.returns-in-10
unfolding word_for sign_for symbol_of
returns-in-10 c = rw c.in-10.is c.word-in-10.ensures

pub returns-in-11 : goal.returns-in-11
unfolding word_for sign_for symbol_of
returns-in-11 c = rw c.in-11.is c.word-in-11.ensures

pub returns-in-12 : goal.returns-in-12
unfolding word_for sign_for symbol_of
returns-in-12 c = rw c.in-12.is c.word-in-12.ensures

pub returns-in_default : goal.returns-in_default
unfolding word_for sign_for symbol_of
returns-in_default c = let e : c.args.kind ≡ 13 = let h = past 0 13 c.args.kind (omega arith) c.in_default.in_default-own.rest in omega arith in rw e c.word-in_default.ensures
