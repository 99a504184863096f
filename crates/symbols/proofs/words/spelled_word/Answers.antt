-- `symbols::words::spelled_word` meets its contract. An arm has told the first letter, in small, and some the length: the words of the table that share
-- it are computed, and are those that the arm compares.
-- Assumes nothing.
use borrow.Author.Rules.{rules}
use mathlib.Core.Path.{◌≡◌, refl, sym, ap, ◌∙◌}
use mathlib.Core.Bool.{Bool, cond}
use mathlib.Core.List.{List}
use Prim.Native.Nat.{ℕ}
use borrow.Author.Tests.{eqb-true}
use Rattle.symbols.specs.Text.{bytes}
use Rattle.symbols.specs.Names.{folded, same_name}
use Rattle.symbols.specs.Symbols.{words}
use Rattle.symbols.specs.Scan.{spelled}
use Rattle.symbols.specs.declared.Symbol.TheVariants.{Boolean}
use Rattle.std.specs.Prelude.{Some, None}
use Rattle.symbols.proofs.Keyed.{by_letter, by_length_lem, of_length, of_another, of_neither, elsewhere}
use Rattle.symbols.proofs.words.spelled_word.Goals as goal

-- the one word that the table does not have in small letters alone
in_small : (w : List ℕ) → same_name w (bytes "boolean") ≡ same_name w (bytes "Boolean")
unfolding same_name folded
in_small w = refl

pub returns-then-is_empty : goal.returns-then-is_empty
unfolding spelled folded
returns-then-is_empty c = sym (by_length_lem words _ 0 (eqb-true _ _ (sym c.is_empty.ensures ∙ c.if-is_empty.true)))

pub fold-first-requires : goal.fold-first-requires
unfolding spelled folded
fold-first-requires c = search rules

pub only-requires : goal.only-requires
unfolding spelled folded
only-requires c = search rules

pub only-requires-in-5 : goal.only-requires-in-5
unfolding spelled folded
only-requires-in-5 c = search rules

pub only-requires-in_default-len : goal.only-requires-in_default-len
unfolding spelled folded
only-requires-in_default-len c = search rules

pub only-requires-in-99 : goal.only-requires-in-99
unfolding spelled folded
only-requires-in-99 c = search rules

pub only-requires-in-100 : goal.only-requires-in-100
unfolding spelled folded
only-requires-in-100 c = search rules

pub only-requires-in-3 : goal.only-requires-in-3
unfolding spelled folded
only-requires-in-3 c = search rules

pub only-requires-in-4 : goal.only-requires-in-4
unfolding spelled folded
only-requires-in-4 c = search rules

pub only-requires-in_default-len-2 : goal.only-requires-in_default-len-2
unfolding spelled folded
only-requires-in_default-len-2 c = search rules

pub only-requires-in-3-len : goal.only-requires-in-3-len
unfolding spelled folded
only-requires-in-3-len c = search rules

pub only-requires-in_default-len-3 : goal.only-requires-in_default-len-3
unfolding spelled folded
only-requires-in_default-len-3 c = search rules

pub only-requires-in-2 : goal.only-requires-in-2
unfolding spelled folded
only-requires-in-2 c = search rules

pub only-requires-in-4-len : goal.only-requires-in-4-len
unfolding spelled folded
only-requires-in-4-len c = search rules

pub only-requires-in_default-len-4 : goal.only-requires-in_default-len-4
unfolding spelled folded
only-requires-in_default-len-4 c = search rules

pub only-requires-in-110 : goal.only-requires-in-110
unfolding spelled folded
only-requires-in-110 c = search rules

pub only-requires-in-111 : goal.only-requires-in-111
unfolding spelled folded
only-requires-in-111 c = search rules

pub only-requires-in-112 : goal.only-requires-in-112
unfolding spelled folded
only-requires-in-112 c = search rules

pub only-requires-in-114 : goal.only-requires-in-114
unfolding spelled folded
only-requires-in-114 c = search rules

pub only-requires-in-115 : goal.only-requires-in-115
unfolding spelled folded
only-requires-in-115 c = search rules

pub either-requires : goal.either-requires
unfolding spelled folded
either-requires c = search rules

pub only-requires-in-117 : goal.only-requires-in-117
unfolding spelled folded
only-requires-in-117 c = search rules

pub only-requires-in-118 : goal.only-requires-in-118
unfolding spelled folded
only-requires-in-118 c = search rules

pub only-requires-in-119 : goal.only-requires-in-119
unfolding spelled folded
only-requires-in-119 c = search rules

pub returns-in-97 : goal.returns-in-97
unfolding spelled folded
returns-in-97 c = c.only.ensures ∙ sym (by_letter words _ 97 (sym c.fold-first.ensures ∙ c.in-97.is))

-- b
pub returns-in-5 : goal.returns-in-5
unfolding spelled folded
returns-in-5 c = c.only-in-5.ensures ∙ sym (of_length words _ 98 (sym c.fold-first.ensures ∙ c.in-98.is) 5 c.in-5.is)

pub returns-in_default-len : goal.returns-in_default-len
unfolding spelled folded
returns-in_default-len c = c.only-in_default-len.ensures ∙ ap (λ (t : Bool). cond t (Some Boolean) None) (in_small _) ∙ sym (of_another words _ 98 (sym c.fold-first.ensures ∙ c.in-98.is) 5 c.in_default-len.in_default-len-own.rest.1)

pub returns-in-99 : goal.returns-in-99
unfolding spelled folded
returns-in-99 c = c.only-in-99.ensures ∙ sym (by_letter words _ 99 (sym c.fold-first.ensures ∙ c.in-99.is))

pub returns-in-100 : goal.returns-in-100
unfolding spelled folded
returns-in-100 c = c.only-in-100.ensures ∙ sym (by_letter words _ 100 (sym c.fold-first.ensures ∙ c.in-100.is))

-- e
pub returns-in-3 : goal.returns-in-3
unfolding spelled folded
returns-in-3 c = c.only-in-3.ensures ∙ sym (of_length words _ 101 (sym c.fold-first.ensures ∙ c.in-101.is) 3 c.in-3.is)

pub returns-in-4 : goal.returns-in-4
unfolding spelled folded
returns-in-4 c = c.only-in-4.ensures ∙ sym (of_length words _ 101 (sym c.fold-first.ensures ∙ c.in-101.is) 4 c.in-4.is)

pub returns-in_default-len-2 : goal.returns-in_default-len-2
unfolding spelled folded
returns-in_default-len-2 c = c.only-in_default-len-2.ensures ∙ sym (of_neither words _ 101 (sym c.fold-first.ensures ∙ c.in-101.is) 3 4 c.in_default-len-2.in_default-len-2-own.rest.0.1 c.in_default-len-2.in_default-len-2-own.rest.1)

-- f
pub returns-in-3-len : goal.returns-in-3-len
unfolding spelled folded
returns-in-3-len c = c.only-in-3-len.ensures ∙ sym (of_length words _ 102 (sym c.fold-first.ensures ∙ c.in-102.is) 3 c.in-3-len.is)

pub returns-in_default-len-3 : goal.returns-in_default-len-3
unfolding spelled folded
returns-in_default-len-3 c = c.only-in_default-len-3.ensures ∙ sym (of_another words _ 102 (sym c.fold-first.ensures ∙ c.in-102.is) 3 c.in_default-len-3.in_default-len-3-own.rest.1)

-- i
pub returns-in-2 : goal.returns-in-2
unfolding spelled folded
returns-in-2 c = c.only-in-2.ensures ∙ sym (of_length words _ 105 (sym c.fold-first.ensures ∙ c.in-105.is) 2 c.in-2.is)

pub returns-in-4-len : goal.returns-in-4-len
unfolding spelled folded
returns-in-4-len c = c.only-in-4-len.ensures ∙ sym (of_length words _ 105 (sym c.fold-first.ensures ∙ c.in-105.is) 4 c.in-4-len.is)

pub returns-in_default-len-4 : goal.returns-in_default-len-4
unfolding spelled folded
returns-in_default-len-4 c = c.only-in_default-len-4.ensures ∙ sym (of_neither words _ 105 (sym c.fold-first.ensures ∙ c.in-105.is) 2 4 c.in_default-len-4.in_default-len-4-own.rest.0.1 c.in_default-len-4.in_default-len-4-own.rest.1)

pub returns-in-110 : goal.returns-in-110
unfolding spelled folded
returns-in-110 c = c.only-in-110.ensures ∙ sym (by_letter words _ 110 (sym c.fold-first.ensures ∙ c.in-110.is))

pub returns-in-111 : goal.returns-in-111
unfolding spelled folded
returns-in-111 c = c.only-in-111.ensures ∙ sym (by_letter words _ 111 (sym c.fold-first.ensures ∙ c.in-111.is))

pub returns-in-112 : goal.returns-in-112
unfolding spelled folded
returns-in-112 c = c.only-in-112.ensures ∙ sym (by_letter words _ 112 (sym c.fold-first.ensures ∙ c.in-112.is))

pub returns-in-114 : goal.returns-in-114
unfolding spelled folded
returns-in-114 c = c.only-in-114.ensures ∙ sym (by_letter words _ 114 (sym c.fold-first.ensures ∙ c.in-114.is))

pub returns-in-115 : goal.returns-in-115
unfolding spelled folded
returns-in-115 c = c.only-in-115.ensures ∙ sym (by_letter words _ 115 (sym c.fold-first.ensures ∙ c.in-115.is))

pub returns-in-116 : goal.returns-in-116
unfolding spelled folded
returns-in-116 c = c.either.ensures ∙ sym (by_letter words _ 116 (sym c.fold-first.ensures ∙ c.in-116.is))

pub returns-in-117 : goal.returns-in-117
unfolding spelled folded
returns-in-117 c = c.only-in-117.ensures ∙ sym (by_letter words _ 117 (sym c.fold-first.ensures ∙ c.in-117.is))

pub returns-in-118 : goal.returns-in-118
unfolding spelled folded
returns-in-118 c = c.only-in-118.ensures ∙ sym (by_letter words _ 118 (sym c.fold-first.ensures ∙ c.in-118.is))

pub returns-in-119 : goal.returns-in-119
unfolding spelled folded
returns-in-119 c = c.only-in-119.ensures ∙ sym (by_letter words _ 119 (sym c.fold-first.ensures ∙ c.in-119.is))

pub returns-in_default : goal.returns-in_default
unfolding spelled folded
returns-in_default c = sym (elsewhere (bytes "wvutsrponifedcba") words _ _ (sym c.fold-first.ensures) refl c.in_default.in_default-own.rest)
