-- Request 7 from bytes: a scheme that uses a procedure of the prelude, one that hides it, and a prelude that is refused. The trees are written down; that they spell the
-- texts, and what the halves hold, is computed.
use Prim.Native.Nat.{ℕ, ◌+◌, ◌≤◌}
use mathlib.Core.Path.{◌≡◌, refl, subst}
use mathlib.Core.List.{List, [], ◌∷◌, ◌++◌}
use mathlib.Core.Option.{none, some}
use lib.ListN.{length, drop}
use borrow.Author.Tests.{leb-true}
use Rattle.answers.specs.Answers.{refusal}
use Rattle.answers.specs.Numbers.{twice}
use Rattle.answers.specs.declared.Verdict.TheVariants.{Accepted, Refused}
use Rattle.symbols.specs.Text.{bytes}
use Rattle.symbols.specs.Names.{blank, letter, digit, in_name, these, reach, value_from, decimals, equal, same_name, folded}
use Rattle.symbols.specs.Scan.{before, closed, spelled, named, word, gap, followed, sign, sized, name, valued, pointed, with_point, number as numberLexeme, point, lexeme, behind, ends_remark, note, counted, judged, turn, scan_from, scan}
use Rattle.grammar.specs.declared.Level.TheVariants.{Product, Sum, Conjunction, Disjunction, Implication, Equivalence}
use Rattle.grammar.specs.declared.Entry.TheVariants.{Variable}
use Rattle.grammar.specs.declared.Use.TheVariants.{AsPrimary}
use Rattle.grammar.specs.Grammar.{program, preludes, rhs, a_block, a_tail, a_head, no_declaration, typed, variables, integer, a_list, no_other, no_statement, plain, dummy, with_name, assignment, value, simple, chain, no_more, no_not, a_relation, no_comparison, number, a_name_lem, bare, primary, part, a_procedure, a_heading, no_formals, no_values, no_specification, typed_procedure, untyped_procedure, no_procedure}
use Rattle.grammar.specs.Trees.{Syn, nil, tok, sub, yield}
use Rattle.grammar.specs.model.Parsing.{zeros}
use Rattle.grammar.proofs.Meet.{trip}
use Rattle.grammar.proofs.Unique.{clear_keeps, clear_keeps_in}
use Rattle.grammar.proofs.Preludes.{a_prelude}
use Rattle.names.specs.ReadOff.{build, read, program_from, prelude_of}
use Rattle.names.specs.Scopes.{has, variables_in, in_block, in_body, find_in, find_given, meaning}
use Rattle.names.specs.Uses.{uses_e, uses_s, uses_ss, uses_d, uses_p, scopes_s, scopes_ss, scopes_d, scopes_p, each, twice_in, heading_in, all_names, missing, joined, name_faults, least}
use Rattle.names.specs.Nodes.{nodes_e, nodes_n, nodes_left, nodes_s, nodes_ss, nodes_d}
use Rattle.names.specs.Outline.{size_s, size_ss, size_d, size_p, rows_n, rows_s, rows_ss, rows_d}
use Rattle.names.specs.Prelude.{name_faults_with, rows_with, declarations_with}
use Rattle.types.specs.Types.{as_left, own_sort, in_expression, faults_e, faults_left, sort_e, faults_s, faults_ss, faults_d, faults_p, type_faults, type_fault, type_fault_in}
use Rattle.table.specs.Table.{fours, use_words, declaration_words, has_none, node_words, table_with}
use Rattle.reading.specs.Judging.{filled}
use Rattle.reading.specs.Judges.{GrammaticalBy, JudgedBy, misnamed, accepted}
use Rattle.reading.specs.Two.{half_words, prelude_judge, Prelude, procedures, scheme_judge, Half, no_prelude, behind as after, ReadsTwo, enough}

-- ---- the trees

-- a primary as an expression
abbrev alone : Syn (part primary ∷ []) → Syn (rhs simple)
alone (sub p t nil) =
    let product : Syn (rhs (chain Product)) = sub p t (sub (no_more Product) nil nil) in
    let sum : Syn (rhs (chain Sum)) = sub (chain Product) product (sub (no_more Sum) nil nil) in
    let relation : Syn (rhs a_relation) = sub (chain Sum) sum (sub no_comparison nil nil) in
    let conjunction : Syn (rhs (chain Conjunction)) = sub no_not (sub a_relation relation nil) (sub (no_more Conjunction) nil nil) in
    let disjunction : Syn (rhs (chain Disjunction)) = sub (chain Conjunction) conjunction (sub (no_more Disjunction) nil nil) in
    let implication : Syn (rhs (chain Implication)) = sub (chain Disjunction) disjunction (sub (no_more Implication) nil nil) in
    sub (chain Equivalence) (sub (chain Implication) implication (sub (no_more Equivalence) nil nil)) nil

-- a number; a name
abbrev a_number : Syn (rhs simple)
a_number = alone (sub number (tok nil) nil)

abbrev a_name : Syn (rhs simple)
a_name = alone (sub a_name_lem (tok (sub (bare AsPrimary) nil nil)) nil)

-- an assignment, as a statement
abbrev assigned : Syn (rhs simple) → Syn (rhs plain)
assigned e = sub with_name (tok (sub assignment (tok (sub value (sub simple e nil) nil)) nil)) nil

-- a block with one integer variable, and this as its statement
abbrev block_of : Syn (rhs simple) → Syn program
block_of e =
    tok (sub a_block (sub a_head (sub typed (sub integer (tok nil) (sub variables (sub (a_list Variable) (tok (sub (no_other Variable) nil nil)) nil) nil)) (tok (sub no_declaration nil nil)))
    (sub a_tail (sub plain (assigned e) (sub no_statement nil nil)) nil)) (tok nil))

-- a procedure without formals
abbrev procedure_of : Syn (rhs plain) → Syn (rhs a_procedure)
procedure_of b = sub a_heading (tok (sub no_formals nil (tok (sub no_values nil (sub no_specification nil nil))))) (sub plain b nil)

-- ---- a prelude, and two schemes

abbrev P : List ℕ
P = bytes "'integer' 'procedure' f; f := 1;"

abbrev A : List ℕ
A = bytes "'begin' 'integer' a; a := f 'end'"

abbrev B : List ℕ
B = bytes "'begin' 'integer' f; f := 1 'end'"

abbrev Pt : Syn preludes
Pt = sub typed_procedure (sub integer (tok nil) (tok (sub a_procedure (procedure_of (assigned a_number)) (tok (sub no_procedure nil nil))))) nil

unfoldable p_p : GrammaticalBy prelude_judge P
unfolding blank letter digit in_name these reach value_from decimals equal before closed spelled named word gap followed sign sized name valued pointed with_point numberLexeme point lexeme behind ends_remark note counted judged turn scan_from scan yield trip same_name folded
p_p = record { scanned = record { short = leb-true (length P) 16384 refl; whole = refl }; tree = Pt; keeps = clear_keeps_in preludes 0 a_prelude Pt 8 refl refl }

unfoldable the_prelude : Prelude P
unfolding blank letter digit in_name these reach value_from decimals equal before closed spelled named word gap followed sign sized name valued pointed with_point numberLexeme point lexeme behind ends_remark note counted judged turn scan_from scan same_name read build prelude_of has variables_in in_block in_body find_in find_given meaning uses_e uses_s uses_ss uses_d uses_p scopes_s scopes_ss scopes_d scopes_p each twice_in heading_in all_names missing joined name_faults least as_left own_sort in_expression faults_e faults_left sort_e faults_s faults_ss faults_d faults_p type_faults type_fault p_p folded
the_prelude = record { read = p_p; named = refl; typed = refl }

unfoldable q_a : GrammaticalBy (scheme_judge P (procedures the_prelude)) A
unfolding blank letter digit in_name these reach value_from decimals equal before closed spelled named word gap followed sign sized name valued pointed with_point numberLexeme point lexeme behind ends_remark note counted judged turn scan_from scan yield trip same_name folded
q_a = record { scanned = record { short = leb-true (length A) 16384 refl; whole = refl }; tree = block_of a_name; keeps = clear_keeps (block_of a_name) 8 refl refl }

unfoldable q_b : GrammaticalBy (scheme_judge P (procedures the_prelude)) B
unfolding blank letter digit in_name these reach value_from decimals equal before closed spelled named word gap followed sign sized name valued pointed with_point numberLexeme point lexeme behind ends_remark note counted judged turn scan_from scan yield trip same_name folded
q_b = record { scanned = record { short = leb-true (length B) 16384 refl; whole = refl }; tree = block_of a_number; keeps = clear_keeps (block_of a_number) 8 refl refl }

-- a's place is 18, f's is 22 and 32,768 added; the scope of a is the third, behind the prelude's block and the body of f
abbrev table_a : List ℕ
table_a =
    2 ∷ 21 ∷ 1 ∷ 18 ∷ 26 ∷ 4 ∷ 32790 ∷
    1 ∷ 18 ∷ 1 ∷ 3 ∷ 1 ∷
    8 ∷ 1 ∷ 0 ∷ 0 ∷ 0 ∷ 4 ∷ 0 ∷ 1 ∷ 0 ∷ 5 ∷ 18 ∷ 0 ∷ 0 ∷ 2 ∷ 0 ∷ 0 ∷ 0 ∷ 23 ∷ 21 ∷ 2 ∷ 0 ∷ 30 ∷ 26 ∷ 2 ∷ 0 ∷ 24 ∷ 23 ∷ 0 ∷ 0 ∷ 3 ∷ 0 ∷ 0 ∷ 0 ∷ []

-- the scheme's own f hides the prelude's
abbrev table_b : List ℕ
table_b =
    1 ∷ 21 ∷ 1 ∷ 18 ∷
    1 ∷ 18 ∷ 1 ∷ 3 ∷ 1 ∷
    8 ∷ 1 ∷ 0 ∷ 0 ∷ 0 ∷ 4 ∷ 0 ∷ 1 ∷ 0 ∷ 5 ∷ 18 ∷ 0 ∷ 0 ∷ 2 ∷ 0 ∷ 0 ∷ 0 ∷ 23 ∷ 21 ∷ 2 ∷ 0 ∷ 28 ∷ 26 ∷ 0 ∷ 0 ∷ 24 ∷ 23 ∷ 0 ∷ 0 ∷ 3 ∷ 0 ∷ 0 ∷ 0 ∷ []

is_a : ((scheme_judge P (procedures the_prelude)).name_fault A q_a.tree ≡ none) × ((scheme_judge P (procedures the_prelude)).type_fault A q_a.tree ≡ none) × ((scheme_judge P (procedures the_prelude)).words A q_a.tree ≡ table_a)
unfolding blank letter digit in_name these reach value_from decimals equal before closed spelled named word gap followed sign sized name valued pointed with_point numberLexeme point lexeme behind ends_remark note counted judged turn scan_from scan same_name read build prelude_of program_from has variables_in in_block in_body find_in find_given meaning uses_e uses_s uses_ss uses_d uses_p scopes_s scopes_ss scopes_d scopes_p each twice_in heading_in all_names missing joined name_faults name_faults_with least rows_with yield as_left own_sort in_expression faults_e faults_left sort_e faults_s faults_ss faults_d faults_p type_faults type_fault type_fault_in nodes_e nodes_n nodes_left nodes_s nodes_ss nodes_d size_s size_ss size_d size_p rows_n rows_s rows_ss rows_d declarations_with fours use_words declaration_words has_none node_words table_with p_p the_prelude q_a folded
is_a = (refl, refl, refl)

is_b : ((scheme_judge P (procedures the_prelude)).name_fault B q_b.tree ≡ none) × ((scheme_judge P (procedures the_prelude)).type_fault B q_b.tree ≡ none) × ((scheme_judge P (procedures the_prelude)).words B q_b.tree ≡ table_b)
unfolding blank letter digit in_name these reach value_from decimals equal before closed spelled named word gap followed sign sized name valued pointed with_point numberLexeme point lexeme behind ends_remark note counted judged turn scan_from scan same_name read build prelude_of program_from has variables_in in_block in_body find_in find_given meaning uses_e uses_s uses_ss uses_d uses_p scopes_s scopes_ss scopes_d scopes_p each twice_in heading_in all_names missing joined name_faults name_faults_with least rows_with yield as_left own_sort in_expression faults_e faults_left sort_e faults_s faults_ss faults_d faults_p type_faults type_fault type_fault_in nodes_e nodes_n nodes_left nodes_s nodes_ss nodes_d size_s size_ss size_d size_p rows_n rows_s rows_ss rows_d declarations_with fours use_words declaration_words has_none node_words table_with p_p the_prelude q_b folded
is_b = (refl, refl, refl)

pub half_a : Half P A Accepted (filled half_words table_a)
half_a = subst (λ w. Half P A Accepted (filled half_words w)) is_a.2 (after the_prelude Accepted _ (accepted q_a is_a.0 is_a.1))

pub half_b : Half P B Accepted (filled half_words table_b)
half_b = subst (λ w. Half P B Accepted (filled half_words w)) is_b.2 (after the_prelude Accepted _ (accepted q_b is_b.0 is_b.1))

-- both, in one table
pub two : (table : List ℕ) → half_words + half_words ≤ length table → ReadsTwo P A B table Accepted Accepted (filled half_words table_a ++ (filled half_words table_b ++ drop (half_words + half_words) table))
two table l = enough l Accepted Accepted _ _ half_a half_b

-- ---- a prelude that declares p twice: 7 at the later one, 29 and 32,768 added; "its refusal goes to both"

abbrev D : List ℕ
D = bytes "'procedure' p; ; 'procedure' p; ;"

abbrev Dt : Syn preludes
Dt =
    let p : Syn (rhs a_procedure) = procedure_of (sub dummy nil nil) in
    sub untyped_procedure (tok (sub a_procedure p (tok (sub untyped_procedure (tok (sub a_procedure p (tok (sub no_procedure nil nil)))) nil)))) nil

unfoldable p_d : GrammaticalBy prelude_judge D
unfolding blank letter digit in_name these reach value_from decimals equal before closed spelled named word gap followed sign sized name valued pointed with_point numberLexeme point lexeme behind ends_remark note counted judged turn scan_from scan yield trip same_name folded
p_d = record { scanned = record { short = leb-true (length D) 16384 refl; whole = refl }; tree = Dt; keeps = clear_keeps_in preludes 0 a_prelude Dt 8 refl refl }

seven : prelude_judge.name_fault D p_d.tree ≡ some (record { symbol = 5; answer = twice })
unfolding blank letter digit in_name these reach value_from decimals equal before closed spelled named word gap followed sign sized name valued pointed with_point numberLexeme point lexeme behind ends_remark note counted judged turn scan_from scan same_name read build prelude_of has in_block in_body find_in uses_s uses_ss uses_d uses_p scopes_s scopes_ss scopes_d scopes_p each twice_in heading_in all_names missing joined name_faults least p_d folded
seven = refl

placed : prelude_judge.fault_place D 5 ≡ 32797
unfolding blank letter digit in_name these reach value_from decimals equal before closed spelled named word gap followed sign sized name valued pointed with_point numberLexeme point lexeme behind ends_remark note counted judged turn scan_from scan same_name folded
placed = refl

pub twice_refused : (a b table : List ℕ) → half_words + half_words ≤ length table → ReadsTwo D a b table (Refused (refusal twice 32797)) (Refused (refusal twice 32797)) (zeros half_words ++ (zeros half_words ++ drop (half_words + half_words) table))
twice_refused a b table l =
    let h : JudgedBy prelude_judge D (Refused (refusal twice 32797)) (zeros 0) = subst (λ n. JudgedBy prelude_judge D (Refused (refusal twice n)) (zeros 0)) placed (misnamed p_d _ seven) in
    enough l _ _ _ _ (no_prelude _ _ h) (no_prelude _ _ h)
