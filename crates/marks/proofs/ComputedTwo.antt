-- The texts that refute the wrong rules of request 7: a prelude, and schemes behind it; and what they come to by the right rule and by the wrong ones, computed in the
-- prover.
use Prim.Native.Nat.{ℕ}
use mathlib.Core.Path.{◌≡◌, refl}
use mathlib.Core.List.{List, [], ◌∷◌, ◌++◌}
use Rattle.answers.specs.Answers.{refusal}
use Rattle.answers.specs.declared.Verdict.TheVariants.{Accepted, Refused}
use Rattle.symbols.specs.Text.{bytes}
use Rattle.symbols.specs.Names.{blank, letter, digit, in_name, these, reach, value_from, equal as equalBytes, folded, same_name, decimals}
use Rattle.symbols.specs.Scan.{before, closed, spelled, named, word, gap, followed, sign, sized, name, valued, number, lexeme, behind, ends_remark, note, counted, judged, turn, scan_from, scan, pointed, with_point, point}
use Rattle.grammar.specs.Trees.{yield}
use Rattle.grammar.specs.model.Text.{kind_at}
use Rattle.names.specs.ReadOff.{build, read, program_from, prelude_of}
use Rattle.names.specs.Scopes.{has, modes, specified, variables_in, in_block, in_body, find_in, find_given, meaning}
use Rattle.names.specs.Uses.{uses_e, uses_l, uses_s, uses_ss, uses_d, uses_p, scopes_s, scopes_ss, scopes_d, scopes_p, each, twice_in, all_names, missing, heading_in, joined, name_faults, least, use_rows}
use Rattle.names.specs.Nodes.{nodes_e, nodes_n, nodes_left, nodes_s, nodes_ss, nodes_d}
use Rattle.names.specs.Outline.{size_s, size_ss, size_d, size_p, rows_n, rows_s, rows_ss, rows_d}
use Rattle.names.specs.Prelude.{name_faults_with, rows_with, declarations_with}
use Rattle.types.specs.Types.{in_expression, own_sort, as_left, faults_e, faults_left, sort_e, faults_s, faults_ss, faults_d, faults_p, type_faults, type_fault, type_fault_in}
use Rattle.table.specs.Table.{fours, use_words, declaration_words, has_none, node_words, table_with}
use Rattle.names.specs.Program.{Procedure}
use Rattle.reading.specs.Judges.{Judge}
use Rattle.reading.specs.Two.{scheme_judge}
use Rattle.marks.specs.Marks.{copies}
use Rattle.marks.proofs.WrongTwo.{deeper, joining, listing, counting}
use Rattle.marks.specs.model.Parsing.{among, parse}
use Rattle.marks.specs.model.Judging.{judged_of, Left, leaves}
use Rattle.marks.proofs.Halves.{half_of, seen_of}

-- a prelude of 8 symbols, with one use in it
abbrev pub prelude : List ℕ
prelude = bytes "'integer' 'procedure' f; f := 1;"

-- one that declares a, and one that uses an a and declares none
abbrev pub declaring : List ℕ
declaring = bytes "'begin' 'integer' a; a := 1 'end'"

abbrev pub borrowing : List ℕ
borrowing = bytes "'begin' a := 1 'end'"

-- one that uses the prelude's f
abbrev pub calling : List ℕ
calling = bytes "'begin' 'integer' a; a := f 'end'"

-- one with an f of its own; and one with a dummy statement at depth 64
abbrev pub hiding : List ℕ
hiding = bytes "'begin' 'integer' f; f := 1 'end'"

abbrev pub deepest : List ℕ
deepest = copies 63 "'begin'" ++ copies 63 "'end'"

-- one of 1,017 symbols, with the prelude's 1,025; the last is the 'end' at 1,022
abbrev pub longest : List ℕ
longest = bytes "'begin'" ++ (copies 1015 ";" ++ bytes "'end'")

-- ---- what they come to

-- fuel enough for the longest
abbrev pub fuel : ℕ
fuel = 5000

abbrev pub right : List ℕ → Left
right scheme = half_of (scheme_judge prelude) prelude scheme fuel

abbrev pub wrong : (List ℕ → List Procedure → Judge) → List ℕ → Left
wrong judge scheme = half_of (judge prelude) prelude scheme fuel

-- the words of `declaring` and of `hiding`; of `borrowing` by the wrong rule; of `calling`, behind its uses
abbrev pub declared : List ℕ
declared =
    1 ∷ 21 ∷ 1 ∷ 18 ∷
    1 ∷ 18 ∷ 1 ∷ 3 ∷ 1 ∷
    8 ∷ 1 ∷ 0 ∷ 0 ∷ 0 ∷ 4 ∷ 0 ∷ 1 ∷ 0 ∷ 5 ∷ 18 ∷ 0 ∷ 0 ∷ 2 ∷ 0 ∷ 0 ∷ 0 ∷ 23 ∷ 21 ∷ 2 ∷ 0 ∷ 28 ∷ 26 ∷ 0 ∷ 0 ∷ 24 ∷ 23 ∷ 0 ∷ 0 ∷ 3 ∷ 0 ∷ 0 ∷ 0 ∷ []

abbrev pub borrowed : List ℕ
borrowed = 0 ∷ 0 ∷ 3 ∷ 23 ∷ 8 ∷ 2 ∷ 0 ∷ 28 ∷ 13 ∷ 0 ∷ 0 ∷ 24 ∷ 10 ∷ 0 ∷ 0 ∷ []

abbrev pub called : List ℕ
called =
    1 ∷ 18 ∷ 1 ∷ 3 ∷ 1 ∷
    8 ∷ 1 ∷ 0 ∷ 0 ∷ 0 ∷ 4 ∷ 0 ∷ 1 ∷ 0 ∷ 5 ∷ 18 ∷ 0 ∷ 0 ∷ 2 ∷ 0 ∷ 0 ∷ 0 ∷ 23 ∷ 21 ∷ 2 ∷ 0 ∷ 30 ∷ 26 ∷ 2 ∷ 0 ∷ 24 ∷ 23 ∷ 0 ∷ 0 ∷ 3 ∷ 0 ∷ 0 ∷ 0 ∷ []

-- by the right rule
pub rightly :
    (right borrowing ≡ leaves (Refused (refusal 8 8)) [])
    × (right declaring ≡ leaves Accepted declared)
    × (right calling ≡ leaves Accepted (2 ∷ 21 ∷ 1 ∷ 18 ∷ 26 ∷ 4 ∷ 32790 ∷ called))
    × (right hiding ≡ leaves Accepted declared)
    × (right deepest ≡ leaves Accepted (0 ∷ 0 ∷ 0 ∷ []))
    × (right longest ≡ leaves (Refused (refusal 4 1022)) [])
unfolding blank letter digit in_name these reach value_from equalBytes folded same_name decimals before closed spelled named word gap followed sign sized name valued number lexeme behind ends_remark note counted judged turn scan_from scan pointed with_point point yield kind_at build read program_from prelude_of has modes specified variables_in in_block in_body find_in find_given meaning uses_e uses_l uses_s uses_ss uses_d uses_p scopes_s scopes_ss scopes_d scopes_p each twice_in all_names missing heading_in joined name_faults least use_rows nodes_e nodes_n nodes_left nodes_s nodes_ss nodes_d size_s size_ss size_d size_p rows_n rows_s rows_ss rows_d name_faults_with rows_with declarations_with in_expression own_sort as_left faults_e faults_left sort_e faults_s faults_ss faults_d faults_p type_faults type_fault type_fault_in fours use_words declaration_words has_none node_words table_with copies among parse judged_of
rightly = (refl, refl, refl, refl, refl, refl)

-- by the wrong ones
pub wrongly :
    (seen_of prelude declaring borrowing fuel ≡ leaves Accepted borrowed)
    × (wrong listing calling ≡ leaves Accepted (3 ∷ 32793 ∷ 4 ∷ 32790 ∷ 21 ∷ 1 ∷ 18 ∷ 26 ∷ 4 ∷ 32790 ∷ called))
    × (wrong joining hiding ≡ leaves (Refused (refusal 7 18)) [])
    × (wrong deeper deepest ≡ leaves (Refused (refusal 6 441)) [])
    × (wrong counting longest ≡ leaves Accepted (0 ∷ 0 ∷ 0 ∷ []))
unfolding blank letter digit in_name these reach value_from equalBytes folded same_name decimals before closed spelled named word gap followed sign sized name valued number lexeme behind ends_remark note counted judged turn scan_from scan pointed with_point point yield kind_at build read program_from prelude_of has modes specified variables_in in_block in_body find_in find_given meaning uses_e uses_l uses_s uses_ss uses_d uses_p scopes_s scopes_ss scopes_d scopes_p each twice_in all_names missing heading_in joined name_faults least use_rows nodes_e nodes_n nodes_left nodes_s nodes_ss nodes_d size_s size_ss size_d size_p rows_n rows_s rows_ss rows_d name_faults_with rows_with declarations_with in_expression own_sort as_left faults_e faults_left sort_e faults_s faults_ss faults_d faults_p type_faults type_fault type_fault_in fours use_words declaration_words has_none node_words table_with copies among parse judged_of
wrongly = (refl, refl, refl, refl, refl)
