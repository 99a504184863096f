-- Pages by computation: the two that the settled reading gives, and those that refute a wrong writer: one that gives a fixed text, one that drops
-- parentheses, one that runs two statements into one line, one that writes one name for all, one that writes a number by its value.
use Prim.Native.Nat.{ℕ}
use Prim.Native.String.{String}
use mathlib.Core.Path.{◌≡◌, refl, sym, ap, ◌∙◌}
use mathlib.Core.Bool.{true, false}
use mathlib.Core.List.{List, [], ◌∷◌}
use borrow.Author.Tests.{eq-eqb}
use Rattle.symbols.specs.Text.{bytes}
use Rattle.symbols.specs.Names.{blank, letter, digit, in_name, these, reach, value_from, decimals, equal, folded, same_name}
use Rattle.symbols.specs.Scan.{before, closed, spelled, named, word, gap, followed, sign, sized, name, valued, pointed, with_point, number, point, lexeme, behind, ends_remark, note, counted, judged, turn, scan_from, scan, kinds_of}
use Rattle.grammar.specs.Grammar as G
use Rattle.grammar.specs.Grammar.{Prod, rhs, program}
use Rattle.grammar.specs.Trees.{Syn, nil, tok, sub, yield}
use Rattle.grammar.specs.declared.Entry.TheVariants.{Variable}
use Rattle.grammar.specs.declared.Level.TheVariants.{Product, Sum, Conjunction, Disjunction, Implication, Equivalence}
use Rattle.symbols.specs.Spelling.{word_for, sign_for, spell, spelling, text, with_decimals, read_off, dress}
use Rattle.symbols.proofs.SpelledSymbols.{yes_no}
use Rattle.clean.specs.House.{laid, closes, ends_operand, opens_call, begins_sum, tight, gaps, house, page}

-- ---- trees

-- a primary and what is added to it, as an expression; a primary alone
abbrev sum : (p : Prod G.primary) → Syn (rhs p) → (q : Prod (G.more Sum)) → Syn (rhs q) → Syn (rhs G.simple)
sum p t q u =
    sub (G.chain Equivalence)
    (sub (G.chain Implication)
    (sub (G.chain Disjunction)
    (sub (G.chain Conjunction)
    (sub G.no_not
    (sub G.a_relation
    (sub (G.chain Sum)
    (sub (G.chain Product) (sub p t (sub (G.no_more Product) nil nil)) (sub q u nil))
    (sub G.no_comparison nil nil))
    nil)
    (sub (G.no_more Conjunction) nil nil))
    (sub (G.no_more Disjunction) nil nil))
    (sub (G.no_more Implication) nil nil))
    (sub (G.no_more Equivalence) nil nil))
    nil

abbrev alone : (p : Prod G.primary) → Syn (rhs p) → Syn (rhs G.simple)
alone p t = sum p t (G.no_more Sum) nil

-- 1
abbrev one : Syn (rhs G.simple)
one = alone G.number (tok nil)

-- (1)
abbrev enclosed : Syn (rhs G.simple)
enclosed = alone G.in_parentheses (tok (sub G.simple one (tok nil)))

-- a number with a point, less another
abbrev difference : Syn (rhs G.simple)
difference = sum G.decimal (tok nil) (G.again G.minus) (tok (sub (G.chain Product) (sub G.decimal (tok nil) (sub (G.no_more Product) nil nil)) (sub (G.no_more Sum) nil nil)))

-- a := ..
abbrev assigned : Syn (rhs G.simple) → Syn (rhs G.plain)
assigned e = sub G.with_name (tok (sub G.assignment (tok (sub G.value (sub G.simple e nil) nil)) nil)) nil

abbrev dummy : Syn (rhs G.plain)
dummy = sub G.dummy nil nil

-- one statement; two
abbrev single : Syn (rhs G.plain) → Syn (rhs G.a_tail)
single s = sub G.plain s (sub G.no_statement nil nil)

abbrev double : Syn (rhs G.plain) → Syn (rhs G.plain) → Syn (rhs G.a_tail)
double s s' = sub G.plain s (sub G.a_statement (tok (sub G.a_tail (single s') nil)) nil)

-- 'begin' .. 'end'; 'begin' 'integer' a; .. 'end', or with another type
abbrev compound : Syn (rhs G.a_tail) → Syn program
compound s = tok (sub G.a_compound (sub G.a_tail s nil) (tok nil))

abbrev declares : (p : Prod G.type) → Syn (rhs p) → Syn (rhs G.typed)
declares p t = sub p t (sub G.variables (sub (G.a_list Variable) (tok (sub (G.no_other Variable) nil nil)) nil) nil)

abbrev block_of : Syn (rhs G.typed) → Syn (rhs G.a_tail) → Syn program
block_of d s = tok (sub G.a_block (sub G.a_head (sub G.typed d (tok (sub G.no_declaration nil nil))) (sub G.a_tail s nil)) (tok nil))

abbrev block : Syn (rhs G.a_tail) → Syn program
block = block_of (declares G.integer (tok nil))

abbrev pub empty : Syn program
empty = compound (single dummy)

abbrev pub first : Syn program
first = block (single (assigned one))

abbrev pub parenthesized : Syn program
parenthesized = block (single (assigned enclosed))

abbrev pub reals : Syn program
reals = block_of (declares G.real (tok nil)) (single (assigned difference))

abbrev pub dummies : Syn program
dummies = compound (double dummy dummy)

abbrev pub assignments : Syn program
assignments = block (double (assigned one) (assigned one))

-- ---- their pages

abbrev pub page_of : String → Syn program → List ℕ
page_of source t = page 2048 (bytes source) t

-- the tree is that of the source
pub record Page (source : String) (t : Syn program) (written : String) : Type 0 where
  pub tree : yield t ≡ kinds_of (scan 2048 (bytes source)).found
  pub is : page_of source t ≡ bytes written

pub record Pages : Type 0 where
  pub empty_page : Page "'begin'\t'end' of it" empty "'begin'\n\n'end'\n"
  pub first_page : Page "'begin' 'integer' a; a:=1 'end'" first "'begin'\n  'integer' a;\n  a := 1\n'end'\n"
  pub other_name : Page "'begin' 'integer' b; b:=1 'end'" first "'begin'\n  'integer' b;\n  b := 1\n'end'\n"
  pub in_parentheses : Page "'begin' 'integer' a; a:=(1) 'end'" parenthesized "'begin'\n  'integer' a;\n  a := (1)\n'end'\n"
  pub points : Page "'begin' 'real' a; a:=0 1 . 5 0-.5 'end'" reals "'begin'\n  'real' a;\n  a := 01.50 - .5\n'end'\n"
  pub two_dummies : Page "'begin' ; 'end'" dummies "'begin'\n  ;\n\n'end'\n"
  pub two_assignments : Page "'begin' 'integer' a; a:=1; a:=1 'end'" assignments "'begin'\n  'integer' a;\n  a := 1;\n  a := 1\n'end'\n"

pub pages : Pages
unfolding page house gaps laid yield tight closes ends_operand opens_call begins_sum text dress spelling spell word_for sign_for read_off with_decimals scan scan_from turn judged counted note lexeme point number decimals with_point pointed valued name sized sign followed gap word named spelled closed before behind ends_remark blank letter digit in_name these reach value_from equal folded same_name
pages =
    record {
      empty_page = record { tree = refl; is = refl };
      first_page = record { tree = refl; is = refl };
      other_name = record { tree = refl; is = refl };
      in_parentheses = record { tree = refl; is = refl };
      points = record { tree = refl; is = refl };
      two_dummies = record { tree = refl; is = refl };
      two_assignments = record { tree = refl; is = refl };
    }

-- ---- wrong writers

equal_itself : (a : List ℕ) → equal a a ≡ true
unfolding equal
equal_itself [] = refl
equal_itself (b ∷ a) = rw (eq-eqb b b refl, equal_itself a)

differ : (a b : List ℕ) → equal a b ≡ false → a ≡ b → ⊥
differ a b e h = yes_no (sym (equal_itself a) ∙ ap (λ c. equal a c) h ∙ e)

-- one that gives a fixed text
pub not_fixed : (fixed : List ℕ) → fixed ≡ page_of "'begin'\t'end' of it" empty → fixed ≡ page_of "'begin' 'integer' a; a:=1 'end'" first → ⊥
unfolding equal
not_fixed fixed h k =
    differ (bytes "'begin'\n\n'end'\n") (bytes "'begin'\n  'integer' a;\n  a := 1\n'end'\n") refl
    (sym pages.empty_page.is ∙ sym h ∙ k ∙ pages.first_page.is)

-- one that drops parentheses
pub not_without_parentheses : bytes "'begin'\n  'integer' a;\n  a := 1\n'end'\n" ≡ page_of "'begin' 'integer' a; a:=(1) 'end'" parenthesized → ⊥
unfolding equal
not_without_parentheses h = differ _ _ refl (h ∙ pages.in_parentheses.is)

-- one that runs two statements into one line
pub not_in_one_line : bytes "'begin'\n  ;\n'end'\n" ≡ page_of "'begin' ; 'end'" dummies → ⊥
unfolding equal
not_in_one_line h = differ _ _ refl (h ∙ pages.two_dummies.is)

pub not_assignments_in_one_line : bytes "'begin'\n  'integer' a;\n  a := 1; a := 1\n'end'\n" ≡ page_of "'begin' 'integer' a; a:=1; a:=1 'end'" assignments → ⊥
unfolding equal
not_assignments_in_one_line h = differ _ _ refl (h ∙ pages.two_assignments.is)

-- one that writes `a` for every name
pub not_one_name : bytes "'begin'\n  'integer' a;\n  a := 1\n'end'\n" ≡ page_of "'begin' 'integer' b; b:=1 'end'" first → ⊥
unfolding equal
not_one_name h = differ _ _ refl (h ∙ pages.other_name.is)

-- one that writes a number by its value
pub not_by_value : bytes "'begin'\n  'real' a;\n  a := 1.5 - 0.5\n'end'\n" ≡ page_of "'begin' 'real' a; a:=0 1 . 5 0-.5 'end'" reals → ⊥
unfolding equal
not_by_value h = differ _ _ refl (h ∙ pages.points.is)
