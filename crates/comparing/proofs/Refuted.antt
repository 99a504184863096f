-- S1, `'begin' 'integer' a; a := 1 'end'`, against S2, which has it inside and a use more, S3, which is S1 with another letter, and S4, which is S1 with a blank
-- more: what is answered, computed, and comparers that this rules out.
use Rattle.std.proofs.Common.{Result, Ok}
use Prim.Native.Nat.{ℕ, ◌≤◌}
use mathlib.Core.Path.{◌≡◌, refl, sym, ap, ◌∙◌}
use mathlib.Core.List.{List, [], ◌∷◌, ◌++◌}
use mathlib.Core.Option.{none}
use native.Mathlib.Omega.{arith}
use lib.ListN.{length, drop}
use borrow.Author.Tests.{leb-true}
use Rattle.symbols.specs.Text.{bytes}
use Rattle.symbols.specs.Names.{blank, letter, digit, in_name, these, reach, value_from, decimals, equal, folded, same_name}
use Rattle.symbols.specs.Scan.{before, closed, spelled, named, word, gap, followed, sign, sized, name, valued, pointed, with_point, number as numberLexeme, point, lexeme, behind, ends_remark, note, counted, judged, turn, scan_from, scan}
use Rattle.grammar.specs.declared.Level.TheVariants.{Product, Sum, Conjunction, Disjunction, Implication, Equivalence}
use Rattle.grammar.specs.declared.Entry.TheVariants.{Variable}
use Rattle.grammar.specs.Grammar.{program, rhs, begin_end, a_block, a_tail, a_head, no_declaration, typed, variables, integer, a_list, no_other, a_statement, no_statement, plain, compound, with_name, assignment, value, simple, chain, no_more, no_not, a_relation, no_comparison, number}
use Rattle.grammar.specs.Trees.{Syn, nil, tok, sub, yield}
use Rattle.grammar.proofs.Meet.{trip}
use Rattle.grammar.proofs.Unique.{clear_keeps}
use Rattle.names.specs.ReadOff.{build, read, program_of}
use Rattle.names.specs.Scopes.{has, variables_in, in_block, find_in, find_given, meaning}
use Rattle.names.specs.Uses.{uses_e, uses_s, uses_ss, uses_d, scopes_s, scopes_ss, scopes_d, each, twice_in, heading_in, joined, name_faults, least, use_rows}
use Rattle.names.specs.Outline.{size_s, size_ss, size_d, rows_n, rows_s, rows_ss, rows_d, declarations}
use Rattle.types.specs.Types.{as_left, faults_e, faults_left, sort_e, faults_s, faults_ss, faults_d, type_faults, type_fault}
use Rattle.reading.specs.Judging.{its_program}
use Rattle.reading.specs.Reading.{Grammatical}
use Rattle.comparing.specs.Comparing.{number_in, sense_of, senses, differing, Edition, meant, changes, listed, Compares, compared}
use Rattle.comparing.specs.declared.Sense.{Sense}
use Rattle.comparing.specs.declared.Uncompared.{Uncompared}
use Rattle.comparing.proofs.Promises.{one_result, same_meanings_lem}

-- ---- the trees

abbrev one : Syn (rhs simple)
one =
    let product : Syn (rhs (chain Product)) = sub number (tok nil) (sub (no_more Product) nil nil) in
    let sum : Syn (rhs (chain Sum)) = sub (chain Product) product (sub (no_more Sum) nil nil) in
    let relation : Syn (rhs a_relation) = sub (chain Sum) sum (sub no_comparison nil nil) in
    let conjunction : Syn (rhs (chain Conjunction)) = sub no_not (sub a_relation relation nil) (sub (no_more Conjunction) nil nil) in
    let disjunction : Syn (rhs (chain Disjunction)) = sub (chain Conjunction) conjunction (sub (no_more Disjunction) nil nil) in
    let implication : Syn (rhs (chain Implication)) = sub (chain Disjunction) disjunction (sub (no_more Implication) nil nil) in
    sub (chain Equivalence) (sub (chain Implication) implication (sub (no_more Equivalence) nil nil)) nil

abbrev assigned : Syn (rhs plain)
assigned = sub with_name (tok (sub assignment (tok (sub value (sub simple one nil) nil)) nil)) nil

abbrev declared : Syn (rhs a_head)
declared =
    sub typed (sub integer (tok nil) (sub variables (sub (a_list Variable) (tok (sub (no_other Variable) nil nil)) nil) nil))
    (tok (sub no_declaration nil nil))

abbrev block_of : Syn (rhs a_tail) → Syn program
block_of t = tok (sub a_block (sub a_head declared (sub a_tail t nil)) (tok nil))

abbrev S1t : Syn program
S1t = block_of (sub plain assigned (sub no_statement nil nil))

abbrev S2t : Syn program
S2t =
    block_of
    (sub plain (sub compound (sub begin_end S1t nil) nil)
    (sub a_statement (tok (sub a_tail (sub plain assigned (sub no_statement nil nil)) nil)) nil))

-- ---- the sources

abbrev pub S1 : List ℕ
S1 = bytes "'begin' 'integer' a; a := 1 'end'"

abbrev pub S2 : List ℕ
S2 = bytes "'begin' 'integer' a; 'begin' 'integer' a; a := 2 'end'; a := 1 'end'"

abbrev pub S3 : List ℕ
S3 = bytes "'begin' 'integer' b; b := 1 'end'"

abbrev pub S4 : List ℕ
S4 = bytes "'begin'  'integer' a; a := 1 'end'"

unfoldable p1 : Grammatical S1
unfolding blank letter digit in_name these reach value_from decimals equal folded same_name before closed spelled named word gap followed sign sized name valued pointed with_point numberLexeme point lexeme behind ends_remark note counted judged turn scan_from scan yield trip
p1 = record { scanned = record { short = leb-true (length S1) 16384 refl; whole = refl }; tree = S1t; keeps = clear_keeps S1t 8 refl refl }

unfoldable p2 : Grammatical S2
unfolding blank letter digit in_name these reach value_from decimals equal folded same_name before closed spelled named word gap followed sign sized name valued pointed with_point numberLexeme point lexeme behind ends_remark note counted judged turn scan_from scan yield trip
p2 = record { scanned = record { short = leb-true (length S2) 16384 refl; whole = refl }; tree = S2t; keeps = clear_keeps S2t 17 refl refl }

unfoldable p3 : Grammatical S3
unfolding blank letter digit in_name these reach value_from decimals equal folded same_name before closed spelled named word gap followed sign sized name valued pointed with_point numberLexeme point lexeme behind ends_remark note counted judged turn scan_from scan yield trip
p3 = record { scanned = record { short = leb-true (length S3) 16384 refl; whole = refl }; tree = S1t; keeps = clear_keeps S1t 8 refl refl }

unfoldable p4 : Grammatical S4
unfolding blank letter digit in_name these reach value_from decimals equal folded same_name before closed spelled named word gap followed sign sized name valued pointed with_point numberLexeme point lexeme behind ends_remark note counted judged turn scan_from scan yield trip
p4 = record { scanned = record { short = leb-true (length S4) 16384 refl; whole = refl }; tree = S1t; keeps = clear_keeps S1t 8 refl refl }

-- a variable, by its number
abbrev v : ℕ → Sense
v n = record { kind = 1; number = n }

abbrev Is : {source : List ℕ} → Grammatical source → List Sense → Type 0
Is p l = (least (name_faults (its_program p)) ≡ none) × (type_fault (its_program p) ≡ none) × (senses (its_program p) ≡ l)

is1 : Is p1 (v 0 ∷ [])
unfolding blank letter digit in_name these reach value_from decimals equal folded same_name before closed spelled named word gap followed sign sized name valued pointed with_point numberLexeme point lexeme behind ends_remark note counted judged turn scan_from scan read build program_of has variables_in in_block find_in find_given meaning uses_e uses_s uses_ss uses_d scopes_s scopes_ss scopes_d each twice_in heading_in joined name_faults least use_rows yield as_left faults_e faults_left sort_e faults_s faults_ss faults_d type_faults type_fault size_s size_ss size_d rows_n rows_s rows_ss rows_d declarations number_in sense_of senses p1
is1 = (refl, refl, refl)

is2 : Is p2 (v 1 ∷ v 0 ∷ [])
unfolding blank letter digit in_name these reach value_from decimals equal folded same_name before closed spelled named word gap followed sign sized name valued pointed with_point numberLexeme point lexeme behind ends_remark note counted judged turn scan_from scan read build program_of has variables_in in_block find_in find_given meaning uses_e uses_s uses_ss uses_d scopes_s scopes_ss scopes_d each twice_in heading_in joined name_faults least use_rows yield as_left faults_e faults_left sort_e faults_s faults_ss faults_d type_faults type_fault size_s size_ss size_d rows_n rows_s rows_ss rows_d declarations number_in sense_of senses p2
is2 = (refl, refl, refl)

is3 : Is p3 (v 0 ∷ [])
unfolding blank letter digit in_name these reach value_from decimals equal folded same_name before closed spelled named word gap followed sign sized name valued pointed with_point numberLexeme point lexeme behind ends_remark note counted judged turn scan_from scan read build program_of has variables_in in_block find_in find_given meaning uses_e uses_s uses_ss uses_d scopes_s scopes_ss scopes_d each twice_in heading_in joined name_faults least use_rows yield as_left faults_e faults_left sort_e faults_s faults_ss faults_d type_faults type_fault size_s size_ss size_d rows_n rows_s rows_ss rows_d declarations number_in sense_of senses p3
is3 = (refl, refl, refl)

is4 : Is p4 (v 0 ∷ [])
unfolding blank letter digit in_name these reach value_from decimals equal folded same_name before closed spelled named word gap followed sign sized name valued pointed with_point numberLexeme point lexeme behind ends_remark note counted judged turn scan_from scan read build program_of has variables_in in_block find_in find_given meaning uses_e uses_s uses_ss uses_d scopes_s scopes_ss scopes_d each twice_in heading_in joined name_faults least use_rows yield as_left faults_e faults_left sort_e faults_s faults_ss faults_d type_faults type_fault size_s size_ss size_d rows_n rows_s rows_ss rows_d declarations number_in sense_of senses p4
is4 = (refl, refl, refl)

abbrev e1 : Edition S1
e1 = record { program = p1; named = is1.0; typed = is1.1 }

abbrev e2 : Edition S2
e2 = record { program = p2; named = is2.0; typed = is2.1 }

abbrev e3 : Edition S3
e3 = record { program = p3; named = is3.0; typed = is3.1 }

abbrev e4 : Edition S4
e4 = record { program = p4; named = is4.0; typed = is4.1 }

-- ---- what is answered

two : changes e1 e2 ≡ 0 ∷ 1 ∷ []
unfolding differing
two = λ i. differing 0 (is1.2 i) (is2.2 i)

-- the pair differs, and the second source alone has a use more
pub grown : {room new : List ℕ} {c : Result ℕ Uncompared} → 2 ≤ length room → Compares S1 S2 room c new → (c ≡ Ok 2) × (new ≡ (0 ∷ 1 ∷ []) ++ drop 2 room)
grown {room} h r =
    let l = ap length two in
    let q = one_result r (compared e1 e2 (listed (omega (arith, l)))) in
    (q.0 ∙ ap Ok l, q.1 ∙ (λ i. two i ++ drop (l i) room))

-- with the same meanings nothing is listed
unchanged : {first second room new : List ℕ} {c : Result ℕ Uncompared} (a : Edition first) (b : Edition second) → meant a ≡ meant b → Compares first second room c new → (c ≡ Ok 0) × (new ≡ room)
unchanged {room = room} a b e r =
    let none-changed = same_meanings_lem a b e in
    let l = ap length none-changed in
    let q = one_result r (compared a b (listed (omega (arith, l)))) in
    (q.0 ∙ ap Ok l, q.1 ∙ (λ i. none-changed i ++ drop (l i) room))

-- ---- comparers that are refuted

-- one that lists the extra uses of the first side alone: with nothing differing behind the first use, it lists one number
pub first_side_alone : {room new : List ℕ} → 2 ≤ length room → Compares S1 S2 room (Ok 1) new → ⊥
first_side_alone h r = let q = (grown h r).0 in let z : ◌≡◌ {A = ℕ} 1 2 = cc in omega arith

-- one that matches declarations by letters: it lists the use of S3
pub by_letters : {room new : List ℕ} → Compares S1 S3 room (Ok 1) new → ⊥
by_letters r = let q = (unchanged e1 e3 (is1.2 ∙ sym is3.2) r).0 in let z : ◌≡◌ {A = ℕ} 1 0 = cc in omega arith

-- one that matches uses by place: it lists the use of S4
pub by_place : {room new : List ℕ} → Compares S1 S4 room (Ok 1) new → ⊥
by_place r = let q = (unchanged e1 e4 (is1.2 ∙ sym is4.2) r).0 in let z : ◌≡◌ {A = ℕ} 1 0 = cc in omega arith
