-- S1 and S2: "A count of uses, then its triples". Their trees are written down; that they spell the sources, and what the table holds, is computed.
use Prim.Native.Nat.{ℕ, ◌≤◌}
use mathlib.Core.Path.{◌≡◌, refl, sym, ap, subst, ◌∙◌}
use mathlib.Core.List.{List, [], ◌∷◌, ◌++◌}
use mathlib.Core.Option.{none}
use native.Mathlib.Omega.{arith}
use lib.ListN.{length, get_or}
use borrow.Author.Tests.{leb-true}
use Rattle.answers.specs.declared.Verdict.{Verdict}
use Rattle.answers.specs.declared.Verdict.TheVariants.{Accepted}
use Rattle.symbols.specs.Text.{bytes}
use Rattle.symbols.specs.Names.{blank, letter, digit, in_name, these, reach, value_from, decimals, equal, folded, same_name}
use Rattle.symbols.specs.Scan.{before, closed, spelled, named, word, gap, followed, sign, sized, name, valued, pointed, with_point, number as numberLexeme, point, lexeme, behind, ends_remark, note, counted, judged, turn, scan_from, scan}
use Rattle.grammar.specs.declared.Level.TheVariants.{Product, Sum, Conjunction, Disjunction, Implication, Equivalence}
use Rattle.grammar.specs.declared.Entry.TheVariants.{Variable}
use Rattle.grammar.specs.Grammar.{program, rhs, begin_end, a_block, a_tail, a_head, no_declaration, typed, variables, integer, a_list, no_other, a_statement, no_statement, plain, compound, with_name, assignment, value, simple, chain, no_more, no_not, a_relation, no_comparison, number}
use Rattle.grammar.specs.Trees.{Syn, nil, tok, sub, yield}
use Rattle.grammar.proofs.Meet.{trip}
use Rattle.grammar.proofs.Unique.{clear_keeps}
use Rattle.names.specs.ReadOff.{build, read, program_of}
use Rattle.names.specs.Scopes.{has, variables_in, in_block, find_in, find_given, meaning}
use Rattle.names.specs.Uses.{uses_e, uses_s, uses_ss, uses_d, scopes_s, scopes_ss, scopes_d, each, twice_in, heading_in, joined, name_faults, least, use_rows}
use Rattle.names.specs.Nodes.{nodes_e, nodes_n, nodes_left, nodes_s, nodes_ss, nodes_d}
use Rattle.names.specs.Outline.{size_s, size_ss, size_d, rows_n, rows_s, rows_ss, rows_d, declarations}
use Rattle.types.specs.Types.{as_left, faults_e, faults_left, sort_e, faults_s, faults_ss, faults_d, type_faults, type_fault}
use Rattle.table.specs.Table.{fours, use_words, declaration_words, has_none, node_words, table_of}
use Rattle.reading.specs.Judging.{its_program, accepted}
use Rattle.reading.specs.Reading.{place_in, table_words, filled, Grammatical, Judged, Reads, enough}
use Rattle.reading.proofs.Only.{only}

-- ---- the trees

-- a number as an expression
abbrev one : Syn (rhs simple)
one =
    let product : Syn (rhs (chain Product)) = sub number (tok nil) (sub (no_more Product) nil nil) in
    let sum : Syn (rhs (chain Sum)) = sub (chain Product) product (sub (no_more Sum) nil nil) in
    let relation : Syn (rhs a_relation) = sub (chain Sum) sum (sub no_comparison nil nil) in
    let conjunction : Syn (rhs (chain Conjunction)) = sub no_not (sub a_relation relation nil) (sub (no_more Conjunction) nil nil) in
    let disjunction : Syn (rhs (chain Disjunction)) = sub (chain Conjunction) conjunction (sub (no_more Disjunction) nil nil) in
    let implication : Syn (rhs (chain Implication)) = sub (chain Disjunction) disjunction (sub (no_more Implication) nil nil) in
    sub (chain Equivalence) (sub (chain Implication) implication (sub (no_more Equivalence) nil nil)) nil

-- a := 1, as a statement
abbrev assigned : Syn (rhs plain)
assigned = sub with_name (tok (sub assignment (tok (sub value (sub simple one nil) nil)) nil)) nil

-- 'integer' a;
abbrev declared : Syn (rhs a_head)
declared =
    sub typed (sub integer (tok nil) (sub variables (sub (a_list Variable) (tok (sub (no_other Variable) nil nil)) nil) nil))
    (tok (sub no_declaration nil nil))

abbrev block_of : Syn (rhs a_tail) → Syn program
block_of t = tok (sub a_block (sub a_head declared (sub a_tail t nil)) (tok nil))

abbrev S1t : Syn program
S1t = block_of (sub plain assigned (sub no_statement nil nil))

abbrev S2t : Syn program
S2t =
    block_of
    (sub plain (sub compound (sub begin_end S1t nil) nil)
    (sub a_statement (tok (sub a_tail (sub plain assigned (sub no_statement nil nil)) nil)) nil))

abbrev S1 : List ℕ
S1 = bytes "'begin' 'integer' a; a := 1 'end'"

abbrev S2 : List ℕ
S2 = bytes "'begin' 'integer' a; 'begin' 'integer' a; a := 2 'end'; a := 1 'end'"

-- ---- that they are read

unfoldable p1 : Grammatical S1
unfolding blank letter digit in_name these reach value_from decimals equal folded same_name before closed spelled named word gap followed sign sized name valued pointed with_point numberLexeme point lexeme behind ends_remark note counted judged turn scan_from scan yield trip
p1 = record { scanned = record { short = leb-true (length S1) 16384 refl; whole = refl }; tree = S1t; keeps = clear_keeps S1t 8 refl refl }

unfoldable p2 : Grammatical S2
unfolding blank letter digit in_name these reach value_from decimals equal folded same_name before closed spelled named word gap followed sign sized name valued pointed with_point numberLexeme point lexeme behind ends_remark note counted judged turn scan_from scan yield trip
p2 = record { scanned = record { short = leb-true (length S2) 16384 refl; whole = refl }; tree = S2t; keeps = clear_keeps S2t 17 refl refl }

-- uses, declarations (place, kind, scope, type) and nodes
abbrev table1 : List ℕ
table1 =
    1 ∷ 21 ∷ 1 ∷ 18 ∷
    1 ∷ 18 ∷ 1 ∷ 1 ∷ 1 ∷
    8 ∷ 1 ∷ 0 ∷ 0 ∷ 0 ∷ 4 ∷ 0 ∷ 1 ∷ 0 ∷ 5 ∷ 18 ∷ 0 ∷ 0 ∷ 2 ∷ 0 ∷ 0 ∷ 0 ∷ 23 ∷ 21 ∷ 2 ∷ 0 ∷ 28 ∷ 26 ∷ 0 ∷ 0 ∷ 24 ∷ 23 ∷ 0 ∷ 0 ∷ 3 ∷ 0 ∷ 0 ∷ 0 ∷ []

-- of S2 the uses and the declarations; then the nodes
abbrev table2 : List ℕ
table2 =
    2 ∷ 42 ∷ 1 ∷ 39 ∷ 56 ∷ 1 ∷ 18 ∷
    2 ∷ 18 ∷ 1 ∷ 1 ∷ 1 ∷ 39 ∷ 1 ∷ 2 ∷ 1 ∷
    16 ∷ 1 ∷ 0 ∷ 0 ∷ 0 ∷ 4 ∷ 0 ∷ 1 ∷ 0 ∷ 5 ∷ 18 ∷ 0 ∷ 0 ∷ 2 ∷ 0 ∷ 0 ∷ 0 ∷
    1 ∷ 21 ∷ 0 ∷ 0 ∷ 4 ∷ 0 ∷ 1 ∷ 0 ∷ 5 ∷ 39 ∷ 0 ∷ 0 ∷ 2 ∷ 21 ∷ 0 ∷ 0 ∷ 23 ∷ 42 ∷ 3 ∷ 0 ∷ 28 ∷ 47 ∷ 0 ∷ 0 ∷ 24 ∷ 44 ∷ 0 ∷ 0 ∷ 3 ∷ 21 ∷ 0 ∷ 0 ∷
    23 ∷ 56 ∷ 2 ∷ 0 ∷ 28 ∷ 61 ∷ 0 ∷ 0 ∷ 24 ∷ 58 ∷ 0 ∷ 0 ∷ 3 ∷ 0 ∷ 0 ∷ 0 ∷ []

is1 : (least (name_faults (its_program p1)) ≡ none) × (type_fault (its_program p1) ≡ none) × (table_of (place_in S1) (its_program p1) ≡ table1)
unfolding blank letter digit in_name these reach value_from decimals equal folded same_name before closed spelled named word gap followed sign sized name valued pointed with_point numberLexeme point lexeme behind ends_remark note counted judged turn scan_from scan read build program_of has variables_in in_block find_in find_given meaning uses_e uses_s uses_ss uses_d scopes_s scopes_ss scopes_d each twice_in heading_in joined name_faults least use_rows yield as_left faults_e faults_left sort_e faults_s faults_ss faults_d type_faults type_fault nodes_e nodes_n nodes_left nodes_s nodes_ss nodes_d size_s size_ss size_d rows_n rows_s rows_ss rows_d declarations fours use_words declaration_words has_none node_words table_of p1
is1 = (refl, refl, refl)

is2 : (least (name_faults (its_program p2)) ≡ none) × (type_fault (its_program p2) ≡ none) × (table_of (place_in S2) (its_program p2) ≡ table2)
unfolding blank letter digit in_name these reach value_from decimals equal folded same_name before closed spelled named word gap followed sign sized name valued pointed with_point numberLexeme point lexeme behind ends_remark note counted judged turn scan_from scan read build program_of has variables_in in_block find_in find_given meaning uses_e uses_s uses_ss uses_d scopes_s scopes_ss scopes_d each twice_in heading_in joined name_faults least use_rows yield as_left faults_e faults_left sort_e faults_s faults_ss faults_d type_faults type_fault nodes_e nodes_n nodes_left nodes_s nodes_ss nodes_d size_s size_ss size_d rows_n rows_s rows_ss rows_d declarations fours use_words declaration_words has_none node_words table_of p2
is2 = (refl, refl, refl)

pub s1 : Judged S1 Accepted (filled table1)
s1 = subst (λ w. Judged S1 Accepted (filled w)) is1.2 (accepted p1 is1.0 is1.1)

pub s2 : Judged S2 Accepted (filled table2)
s2 = subst (λ w. Judged S2 Accepted (filled w)) is2.2 (accepted p2 is2.0 is2.1)

-- ---- so: what a reader may not do

-- one that refuses S1
pub refusing : {table words : List ℕ} {v : Verdict} → table_words ≤ length table → Reads S1 table v words → v ≡ Accepted
refusing l r = (only r (enough l Accepted (filled table1) s1)).0

-- one with the same table for S1 and S2
first_word : (a b : ℕ) (u v w x : List ℕ) → (a ∷ u) ++ w ≡ (b ∷ v) ++ x → a ≡ b
first_word a b u v w x q = cc

pub fixed : {table words : List ℕ} {v v₂ : Verdict} → table_words ≤ length table → Reads S1 table v words → Reads S2 table v₂ words → ⊥
fixed {table} l r r₂ =
    let e = sym (only r (enough l Accepted (filled table1) s1)).1 ∙ (only r₂ (enough l Accepted (filled table2) s2)).1 in
    let z : ◌≡◌ {A = ℕ} 1 2 = ap (λ w. get_or w 0 0) e in
    omega arith

-- one that leaves a table, whatever it holds, untouched for both
pub untouched : {table words words₂ : List ℕ} {v v₂ : Verdict} → table_words ≤ length table → Reads S1 table v words → Reads S2 table v₂ words₂ → words ≡ table → words₂ ≡ table → ⊥
untouched {table} {v = v} {v₂} l r r₂ e e₂ = fixed l (subst (Reads S1 table v) e r) (subst (Reads S2 table v₂) e₂ r₂)
