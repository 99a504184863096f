-- Request 7: rules that `read_two` does not follow, each as a definition beside `ReadsTwo` (RefutedTwo has the texts on which they differ). Where a rule is wrong of a
-- scheme alone, it is a wrong judge of the scheme.
use Prim.Native.Nat.{ℕ, ◌+◌, ◌-◌, ◌<◌, ◌≤◌}
use mathlib.Core.Bool.{cond}
use mathlib.Core.List.{List, [], ◌∷◌, ◌++◌, map}
use mathlib.Core.Option.{Option}
use lib.Dec.{ltb}
use lib.ListN.{length, get_or, take, drop}
use Rattle.answers.specs.Numbers.{short}
use Rattle.answers.specs.Answers.{refusal}
use Rattle.answers.specs.declared.Refusal.{Refusal}
use Rattle.answers.specs.declared.Verdict.{Verdict}
use Rattle.answers.specs.declared.Verdict.TheVariants.{Accepted, Refused}
use Rattle.symbols.specs.Names.{letters_at}
use Rattle.symbols.specs.Scan.{scan, values_of}
use Rattle.grammar.specs.Grammar.{program}
use Rattle.grammar.specs.Trees.{Syn}
use Rattle.grammar.specs.model.Parsing.{zeros}
use Rattle.names.specs.Program.{Statement, dummy, assignment, procedure, when, either, repeat, compound, block, Declarations, declare, Procedure}
use Rattle.names.specs.ReadOff.{program_from}
use Rattle.names.specs.Scopes.{Scope, of_block}
use Rattle.names.specs.Uses.{Fault, joined, scopes_s, uses_s, faults_here, unmeant, name_faults, use_rows, least}
use Rattle.names.specs.Nodes.{nodes_s}
use Rattle.names.specs.Prelude.{around_it, with_prelude, fourth, name_faults_with, declarations_with}
use Rattle.types.specs.Types.{type_fault_in}
use Rattle.table.specs.Table.{use_words, declaration_words, node_words, fours, table_with}
use Rattle.reading.specs.Judging as any
use Rattle.reading.specs.Judges.{Judge, GrammaticalBy, JudgedBy}
use Rattle.reading.specs.Two.{half_words, prelude_judge, Prelude, procedures, count_of, left, prelude_place, place_with, scheme_in, scheme_judge, Half, ReadsTwo}

-- ---- rules

-- what a prelude, two schemes and a table are answered, and the table afterwards; and that it is not what `ReadsTwo` says
abbrev pub Rule : Type 1
Rule = (prelude a b table : List ℕ) → Verdict → Verdict → List ℕ → Type 0

abbrev pub Refuted : Rule → Type 0
Refuted rule = ((prelude a b table new : List ℕ) (v v' : Verdict) → rule prelude a b table v v' new → ReadsTwo prelude a b table v v' new) → ⊥

-- a table of two halves, each by its own rule; `ReadsTwo` is this of `Half` and `Half`
pub data TwoBy (first second : Verdict → List ℕ → Type 0) (table : List ℕ) : Verdict → Verdict → List ℕ → Type 0 where
  too_short : length table < half_words + half_words → TwoBy first second table (Refused (refusal short 0)) (Refused (refusal short 0)) table
  enough : half_words + half_words ≤ length table → (v v' : Verdict) (w w' : List ℕ) → first v w → second v' w' → TwoBy first second table v v' (w ++ (w' ++ drop (half_words + half_words) table))

-- a half by a judge of the scheme behind the prelude's procedures; `Half` is this of `scheme_judge`
pub data HalfBy (judge : List Procedure → Judge) (prelude scheme : List ℕ) : Verdict → List ℕ → Type 0 where
  no_prelude : (r : Refusal) (words : List ℕ) → JudgedBy prelude_judge prelude (Refused r) words → HalfBy judge prelude scheme (Refused r) (zeros half_words)
  behind : (p : Prelude prelude) (v : Verdict) (words : List ℕ) → JudgedBy (judge (procedures p)) scheme v words → HalfBy judge prelude scheme v words

abbrev pub halves_by : (List ℕ → List Procedure → Judge) → Rule
halves_by judge prelude a b table = TwoBy (HalfBy (judge prelude) prelude a) (HalfBy (judge prelude) prelude b) table

-- `scheme_judge`, but for the scheme's depth, its faults and its words
abbrev pub scheme_but : List ℕ → ℕ → (List ℕ → Syn program → Option Fault) → (List ℕ → Syn program → Option Fault) → (List ℕ → Syn program → List ℕ) → Judge
scheme_but prelude own nameFault typeFault words = record {
  start = program;
  own = own;
  symbols = left prelude;
  added = 0;
  name_fault = nameFault;
  type_fault = typeFault;
  place = any.place_in (left prelude);
  fault_place = place_with prelude;
  words = words;
  room = half_words;
}

-- ---- a prelude that is a block of the program: the scheme stands one deeper; or the prelude's procedures are declared in the scheme's own block

abbrev pub deeper : List ℕ → List Procedure → Judge
deeper prelude ps = let j : Judge = scheme_judge prelude ps in scheme_but prelude 2 j.name_fault j.type_fault j.words

abbrev pub and : List Procedure → Declarations → Declarations
and [] d = d
and (p ∷ ps) d = declare p (and ps d)

abbrev pub inside : List Procedure → Statement → Statement
inside ps dummy = dummy
inside ps (assignment x xs q e) = assignment x xs q e
inside ps (procedure x es) = procedure x es
inside ps (when q c s) = when q c s
inside ps (either q c s t) = either q c s t
inside ps (repeat x l ls s) = repeat x l ls s
inside ps (compound ss) = compound ss
inside ps (block q d ss) = block q (and ps d) ss

abbrev pub joining : List ℕ → List Procedure → Judge
joining prelude ps =
    let j : Judge = scheme_judge prelude ps in
    scheme_but prelude 1 (λ scheme t. least (name_faults (inside ps (scheme_in prelude scheme t)))) j.type_fault j.words

-- ---- a scheme that sees the other's names: those of the first scheme's outermost block are still there when the second is read

abbrev pub outermost : Statement → List Scope
outermost dummy = []
outermost (assignment x xs q e) = []
outermost (procedure x es) = []
outermost (when q c s) = []
outermost (either q c s t) = []
outermost (repeat x l ls s) = []
outermost (compound ss) = []
outermost (block q d ss) = of_block d ∷ []

-- theirs: the scopes of the first
abbrev pub seeing_judge : List ℕ → List Scope → List Procedure → Judge
seeing_judge prelude theirs ps =
    let around = theirs ++ around_it ps in
    scheme_but prelude 1 (λ scheme t. let s = scheme_in prelude scheme t in least (joined faults_here (scopes_s around s) ++ joined unmeant (uses_s around s)))
    (λ scheme t. type_fault_in around (scheme_in prelude scheme t))
    (scheme_judge prelude ps).words

pub data Sees (prelude a b : List ℕ) : Verdict → List ℕ → Type 0 where
  sees : (p : Prelude prelude) (q : GrammaticalBy (scheme_judge prelude (procedures p)) a) (v : Verdict) (w : List ℕ)
      → JudgedBy (seeing_judge prelude (outermost (scheme_in prelude a q.tree)) (procedures p)) b v w → Sees prelude a b v w

abbrev pub seeing : Rule
seeing prelude a b table = TwoBy (Half prelude a) (Sees prelude a b) table

-- ---- a refused scheme that leaves its half as it was

pub data Leaves (old prelude scheme : List ℕ) : Verdict → List ℕ → Type 0 where
  refused : (r : Refusal) (w : List ℕ) → Half prelude scheme (Refused r) w → Leaves old prelude scheme (Refused r) old
  accepted : (w : List ℕ) → Half prelude scheme Accepted w → Leaves old prelude scheme Accepted w

abbrev pub leaving : Rule
leaving prelude a b table = TwoBy (Leaves (take half_words table) prelude a) (Leaves (take half_words (drop half_words table)) prelude b) table

-- ---- the prelude's uses listed: the first section has the uses of both

abbrev pub listed : List ℕ → List Procedure → List ℕ → Statement → List ℕ
listed prelude ps scheme s =
    let place = place_with prelude scheme in
    let rows = map (fourth (count_of prelude)) (use_rows (with_prelude (count_of prelude) ps s)) in
    (length rows ∷ joined (use_words place) rows)
    ++ ((fours (declarations_with ps s) ∷ declaration_words place (declarations_with ps s))
    ++ (fours (nodes_s 1 s) ∷ node_words place (nodes_s 1 s)))

abbrev pub listing : List ℕ → List Procedure → Judge
listing prelude ps = let j : Judge = scheme_judge prelude ps in scheme_but prelude 1 j.name_fault j.type_fault (λ scheme t. listed prelude ps scheme (scheme_in prelude scheme t))

-- ---- one count of 2,048 symbols, prelude included

abbrev pub most : List ℕ → ℕ
most prelude = 2048 - count_of prelude

abbrev pub place_in : List ℕ → List ℕ → ℕ → ℕ
place_in prelude scheme k = cond (ltb k (count_of prelude)) (prelude_place prelude k) (any.place_in (most prelude) scheme (k - count_of prelude))

abbrev pub program_in : List ℕ → List ℕ → Syn program → Statement
program_in prelude scheme t =
    program_from (λ k. get_or (values_of (scan (most prelude) scheme).found) (k - count_of prelude) 0) (λ k. letters_at scheme (any.place_in (most prelude) scheme (k - count_of prelude))) (count_of prelude) t

abbrev pub counting : List ℕ → List Procedure → Judge
counting prelude ps = record {
  start = program;
  own = 1;
  symbols = most prelude;
  added = 0;
  name_fault = λ scheme t. least (name_faults_with ps (program_in prelude scheme t));
  type_fault = λ scheme t. type_fault_in (around_it ps) (program_in prelude scheme t);
  place = λ scheme k. any.place_in (most prelude) scheme k;
  fault_place = place_in prelude;
  words = λ scheme t. table_with (place_in prelude scheme) (count_of prelude) ps (program_in prelude scheme t);
  room = half_words;
}
