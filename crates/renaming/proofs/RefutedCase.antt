-- Rules of letter case that look right (request 8), refuted by computed programs: the low five bits alone compared; the first letter alone folded; delimiter words
-- folded but names not; names folded in declarations but not in value parts. A rule says what of a name's letters is compared, by the name's symbol; what it
-- answers to a program is what the paper answers to the program in which these stand instead, each byte spread over two small letters, in which no
-- two bytes are alike. Held so against itself the paper's own rule answers as it does.
-- Assumes nothing.
use Prim.Native.Nat.{ℕ, ◌+◌, ◌/◌, ◌%◌}
use Prim.Native.String.{String}
use mathlib.Core.Path.{◌≡◌, refl}
use mathlib.Core.Bool.{cond}
use mathlib.Core.List.{List, [], ◌∷◌, map}
use mathlib.Core.Option.{Option, none, some}
use lib.Dec.{eqb}
use Rattle.answers.specs.Numbers.{twice, undeclared, heading as badHeading}
use Rattle.symbols.specs.Text.{bytes}
use Rattle.symbols.specs.Names.{same_name, equal, folded}
use Rattle.names.specs.Program.{Name, integer, Statement, number, done, then, assignment, procedure, dummy, compound, block, last, variables, declare, heading, none as no_more}
use Rattle.names.specs.Scopes.{has, specified, variables_in, in_block, in_body, find_in, find_given, meaning}
use Rattle.names.specs.Uses.{Fault, uses_e, uses_es, uses_s, uses_ss, uses_d, uses_p, scopes_s, scopes_ss, scopes_d, scopes_p, each, twice_in, all_names, missing, heading_in, joined, name_faults, least, Row, use_rows}
use Rattle.renaming.specs.Relabel.{expr_r, stmt_r, stmts_r, decls_r, proc_r}

-- ---- rules

abbrev Rule : Type 0
Rule = ℕ → List ℕ → List ℕ

abbrev spread : List ℕ → List ℕ
spread [] = []
spread (b ∷ bs) = (97 + b / 16) ∷ (97 + b % 16) ∷ spread bs

-- the program as a rule sees it, and what is answered to it: the least fault, or none
abbrev seen : Rule → Statement → Statement
seen g s = stmt_r (λ k l. spread (g k l)) s

abbrev answer : Statement → Option Fault
answer s = least (name_faults s)

abbrev by_case : Rule
by_case k l = map folded l

abbrev by_five_bits : Rule
by_five_bits k l = map (λ b. b % 32) l

abbrev first_folded : List ℕ → List ℕ
first_folded [] = []
first_folded (b ∷ bs) = folded b ∷ bs

abbrev by_first_letter : Rule
by_first_letter k l = first_folded l

abbrev by_letters : Rule
by_letters k l = l

-- entries of the value part, which are symbol 8 here, by their letters
abbrev but_in_value_parts : Rule
but_in_value_parts k l = cond (eqb k 8) l (map folded l)

-- ---- programs

abbrev n : ℕ → String → Name
n i s = record { symbol = i; letters = bytes s }

-- 'begin' 'integer' a1, aq; a1 := 1 'end'
abbrev a1_aq : Statement
a1_aq = block 0 (variables integer (n 2 "a1" ∷ n 4 "aq" ∷ []) no_more) (last (assignment (n 6 "a1") [] 7 (number 8 1)))

-- 'begin' 'integer' payRate; PAYrate := 1 'end'
abbrev pay_rate : Statement
pay_rate = block 0 (variables integer (n 2 "payRate" ∷ []) no_more) (last (assignment (n 4 "PAYrate") [] 5 (number 6 1)))

-- 'BEGIN' 'INTEGER' Rate, rate; 'END'
abbrev rate_rate : Statement
rate_rate = block 0 (variables integer (n 2 "Rate" ∷ n 4 "rate" ∷ []) no_more) (last dummy)

-- 'begin' 'procedure' pay(rate); 'value' RATE; 'integer' rate; ; 'end'
abbrev valued : Statement
valued =
    block 0 (declare (heading none (n 2 "pay") (n 4 "rate" ∷ []) (n 8 "RATE" ∷ []) (record { sort = integer; names = n 11 "rate" ∷ [] } ∷ []) dummy) no_more)
    (last dummy)

-- ---- refuted

abbrev fault : ℕ → ℕ → Option Fault
fault a k = some (record { symbol = k; answer = a })

-- "the low five bits alone compared": `1` and `q` share them, and a program without fault has a name declared twice
pub not_five_bits : (answer a1_aq ≡ none) × (answer (seen by_case a1_aq) ≡ none) × (answer (seen by_five_bits a1_aq) ≡ fault twice 4)
unfolding expr_r stmt_r stmts_r decls_r proc_r same_name equal folded has specified variables_in in_block in_body find_in find_given meaning uses_e uses_s uses_ss uses_d uses_p scopes_s scopes_ss scopes_d scopes_p each twice_in all_names missing heading_in joined name_faults least
not_five_bits = (refl, refl, refl)

-- "only the first letter folded": the use is the declared name's, and would be declared nowhere
pub not_first_letter : (answer pay_rate ≡ none) × (answer (seen by_case pay_rate) ≡ none) × (answer (seen by_first_letter pay_rate) ≡ fault undeclared 4)
unfolding expr_r stmt_r stmts_r decls_r proc_r same_name equal folded has specified variables_in in_block in_body find_in find_given meaning uses_e uses_s uses_ss uses_d uses_p scopes_s scopes_ss scopes_d scopes_p each twice_in all_names missing heading_in joined name_faults least
not_first_letter = (refl, refl, refl)

-- "delimiter words folded but names not": `Rate` and `rate` in one block are 7 at the later name, and would be two
pub not_words_alone : (answer rate_rate ≡ fault twice 4) × (answer (seen by_case rate_rate) ≡ fault twice 4) × (answer (seen by_letters rate_rate) ≡ none)
unfolding expr_r stmt_r stmts_r decls_r proc_r same_name equal folded has specified variables_in in_block in_body find_in find_given meaning uses_e uses_s uses_ss uses_d uses_p scopes_s scopes_ss scopes_d scopes_p each twice_in all_names missing heading_in joined name_faults least
not_words_alone = (refl, refl, refl)

-- "names folded in declarations but not in value parts": RATE is the formal, and would be none
pub not_but_in_value_parts : (answer valued ≡ none) × (answer (seen by_case valued) ≡ none) × (answer (seen but_in_value_parts valued) ≡ fault badHeading 8)
unfolding expr_r stmt_r stmts_r decls_r proc_r same_name equal folded has specified variables_in in_block in_body find_in find_given meaning uses_e uses_s uses_ss uses_d uses_p scopes_s scopes_ss scopes_d scopes_p each twice_in all_names missing heading_in joined name_faults least
not_but_in_value_parts = (refl, refl, refl)

-- ---- and of the environment

abbrev row : ℕ → ℕ → ℕ → Row
row a b c = record { symbol = a; kind = b; means = c }

-- 'begin' OutInteger(1, 2) 'end'
abbrev OutInteger : Statement
OutInteger = compound (last (procedure (n 1 "OutInteger") (then (number 3 1) (then (number 5 2) done))))

-- 'begin' 'integer' ININTEGER; ininteger := 1 'end'
abbrev ININTEGER : Statement
ININTEGER = block 0 (variables integer (n 2 "ININTEGER" ∷ []) no_more) (last (assignment (n 4 "ininteger") [] 5 (number 6 1)))

-- its names are found in any case
pub of_the_environment : (use_rows OutInteger ≡ row 1 0 3 ∷ []) × (answer OutInteger ≡ none)
unfolding same_name equal folded has variables_in in_block find_in find_given meaning uses_e uses_es uses_s uses_ss uses_d scopes_s scopes_ss scopes_d each twice_in heading_in joined name_faults least use_rows
of_the_environment = (refl, refl)

-- and hidden in any case
pub hidden : (use_rows ININTEGER ≡ row 4 1 2 ∷ []) × (answer ININTEGER ≡ none)
unfolding same_name equal folded has variables_in in_block find_in find_given meaning uses_e uses_s uses_ss uses_d scopes_s scopes_ss scopes_d each twice_in heading_in joined name_faults least use_rows
hidden = (refl, refl)
