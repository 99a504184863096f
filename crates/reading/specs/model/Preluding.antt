-- Request 7: what is found of a prelude, of a scheme behind it, and of both as one program. These serve contracts and are no part of the paper.
use Rattle.std.specs.Prelude.{ℕ, ◌*◌, ◌<◌, ◌≤◌, ◌≡◌, List, [], ◌∷◌, ◌++◌, length, get_or, take, Result, Ok, Err}
use Rattle.std.proofs.Math.Option.{none}
use Rattle.answers.specs.declared.Refusal.{Refusal}
use Rattle.answers.specs.declared.Verdict.TheVariants.{Refused}
use Rattle.symbols.specs.Scan.{scan, values_of}
use Rattle.grammar.specs.model.Marked.{nodes_of, prelude_nodes}
use Rattle.grammar.specs.model.Parsing.{zeros}
use Rattle.names.specs.Program.{Procedure}
use Rattle.names.specs.Nodes.{nodes_s}
use Rattle.names.specs.Outline.{declarations}
use Rattle.names.specs.Prelude.{prelude_alone, with_prelude, around_it, name_faults_with}
use Rattle.names.specs.Uses.{uses_s, least}
use Rattle.types.specs.Types.{type_fault_in}
use Rattle.types.specs.model.Passes.{marks_of}
use Rattle.reading.specs.Judging as any
use Rattle.reading.specs.Judges.{further, GrammaticalBy, JudgedBy}
use Rattle.reading.specs.Two.{beyond, symbols, half_words, count_of, left, prelude_judge, Prelude, procedures, scheme_judge, scheme_in, Half}
use Rattle.reading.specs.model.Moves.{page, PlacedWith}
use Rattle.reading.specs.model.Passing.{Kept}
use Rattle.reading.specs.declared.Sizes.{Sizes}
use Rattle.reading.specs.declared.Both.{Both}

-- ---- the symbols of a text, of which at most so many may come, stand in the arrays

pub record SymbolsIn (most : ℕ) (source places values : List ℕ) (n : ℕ) : Type 0 where
  pub scanned : any.Scanned most source
  pub count : n ≡ length (any.kinds_in most source)
  pub few : n ≤ most
  pub long : n ≤ length places
  pub placed : (k : ℕ) → k < n → get_or places k 0 ≡ any.place_in most source k
  pub valued : take n values ≡ values_of (scan most source).found

-- ---- a prelude: its refusal before 32,768 is added, or it is without a fault, and its symbols and nodes stand; its rows and uses were counted

pub record PreludeFills (prelude places values nodes : List ℕ) (z : Sizes) : Type 0 where
  pub whole : Prelude prelude
  pub symbols_in : SymbolsIn symbols prelude places values z.symbols
  pub words : take z.nodes nodes ≡ prelude_nodes whole.read.tree
  pub many : z.nodes ≡ length (prelude_nodes whole.read.tree)
  pub rows : 4 * z.rows ≡ length (declarations (prelude_alone (procedures whole)))
  pub uses : z.uses ≡ length (uses_s [] (prelude_alone (procedures whole)))

pub data PreludeTold (prelude places values nodes : List ℕ) : Result Sizes Refusal → Type 0 where
  prelude_refused : (x : Refusal) → x.place.at ≤ 16384 → JudgedBy prelude_judge prelude (Refused (further beyond x)) (zeros 0) → PreludeTold prelude places values nodes (Err x)
  prelude_stands : (z : Sizes) → PreludeFills prelude places values nodes z → PreludeTold prelude places values nodes (Ok z)

-- the same with 32,768 added
pub data PreludeFound (prelude places values nodes : List ℕ) : Result Sizes Refusal → Type 0 where
  found_refused : (x : Refusal) → JudgedBy prelude_judge prelude (Refused x) (zeros 0) → PreludeFound prelude places values nodes (Err x)
  found_stands : (z : Sizes) → PreludeFills prelude places values nodes z → PreludeFound prelude places values nodes (Ok z)

-- it keeps the grammar, and its nodes stand
pub record PreludeNodes (prelude places values nodes : List ℕ) (n b : ℕ) : Type 0 where
  pub symbols_in : SymbolsIn symbols prelude places values n
  pub read : GrammaticalBy prelude_judge prelude
  pub words : take b nodes ≡ prelude_nodes read.tree
  pub many : b ≡ length (prelude_nodes read.tree)

-- ---- a scheme behind it, by itself: 2 to 6, whatever the prelude's procedures are; or its symbols and nodes stand

pub record SchemeNodes (prelude scheme places values nodes : List ℕ) (n b : ℕ) : Type 0 where
  pub symbols_in : SymbolsIn (left prelude) scheme places values n
  pub read : any.Grammatical (left prelude) scheme
  pub words : take b nodes ≡ nodes_of read.tree
  pub many : b ≡ length (nodes_of read.tree)

pub data SchemeTold (prelude scheme places values nodes : List ℕ) : Result Sizes Refusal → Type 0 where
  scheme_refused : (x : Refusal) → ((ps : List Procedure) → JudgedBy (scheme_judge prelude ps) scheme (Refused x) (zeros half_words)) → SchemeTold prelude scheme places values nodes (Err x)
  scheme_stands : (z : Sizes) → SchemeNodes prelude scheme places values nodes z.symbols z.nodes → SchemeTold prelude scheme places values nodes (Ok z)

-- ---- both as one program, whose nodes, rows, uses and marks stand; own: the scheme's nodes alone

-- the depth of the one program: 0 where there is a block around the scheme
abbrev pub depth_with : List Procedure → ℕ
depth_with [] = 1
depth_with (p ∷ ps) = 0

-- the scheme's tree for the judge of a scheme
abbrev pub as_scheme : (prelude scheme : List ℕ) (ps : List Procedure) → any.Grammatical (left prelude) scheme → GrammaticalBy (scheme_judge prelude ps) scheme
as_scheme prelude scheme ps q = record { scanned = record { short = q.scanned.short; whole = q.scanned.whole }; tree = q.tree; keeps = q.keeps }

pub record Joined (prelude scheme places values nodes own rows uses was marks : List ℕ) (p : Prelude prelude) (q : any.Grammatical (left prelude) scheme) (words : ℕ) (z : Sizes) : Type 0 where
  pub placed : PlacedWith prelude scheme places z.symbols
  pub few : z.symbols ≤ 1024
  pub valued : take z.symbols values ≡ values_of (scan symbols prelude).found ++ values_of (scan (left prelude) scheme).found
  pub noded : take z.nodes nodes ≡ nodes_s (depth_with (procedures p)) (with_prelude (count_of prelude) (procedures p) (scheme_in prelude scheme q.tree))
  pub owned : take words own ≡ nodes_s 1 (scheme_in prelude scheme q.tree)
  pub kept : Kept (page scheme prelude) places (take z.nodes nodes) rows uses z.symbols z.rows z.uses
  pub named : least (name_faults_with (procedures p) (scheme_in prelude scheme q.tree)) ≡ none
  pub typed : type_fault_in (around_it (procedures p)) (scheme_in prelude scheme q.tree) ≡ none
  pub marked : marks ≡ marks_of (take (4 * z.rows) rows) (take z.uses uses) (take z.nodes nodes) was

-- what was found of each by itself: m symbols of the prelude and n of the scheme, in arrays of their own; the words of the nodes
pub record Apart (prelude scheme places values places' values' first own : List ℕ) (m n b c : ℕ) : Type 0 where
  pub whole : Prelude prelude
  pub before : SymbolsIn symbols prelude places values m
  pub behind : SchemeNodes prelude scheme places' values' own n c
  pub words : take b first ≡ prelude_nodes whole.read.tree
  pub many : b ≡ length (prelude_nodes whole.read.tree)

-- 7 to 10 of the scheme, or both stand
pub data JoinTold (prelude scheme places values nodes own rows uses was marks : List ℕ) (p : Prelude prelude) (q : any.Grammatical (left prelude) scheme) (words : ℕ) : Result Sizes Refusal → Type 0 where
  both_refused : (x : Refusal) → JudgedBy (scheme_judge prelude (procedures p)) scheme (Refused x) (zeros half_words)
      → JoinTold prelude scheme places values nodes own rows uses was marks p q words (Err x)
  both_stand : (z : Sizes) → Joined prelude scheme places values nodes own rows uses was marks p q words z → JoinTold prelude scheme places values nodes own rows uses was marks p q words (Ok z)

-- what every job is told that takes a prelude and a scheme: the refusal of either, or the one program
pub record BothFill (prelude scheme places values nodes own rows uses was marks : List ℕ) (b : Both) : Type 0 where
  pub whole : Prelude prelude
  pub read : any.Grammatical (left prelude) scheme
  pub joined : Joined prelude scheme places values nodes own rows uses was marks whole read b.own b.all
  pub rows_before : 4 * b.before.rows ≡ length (declarations (prelude_alone (procedures whole)))
  pub uses_before : b.before.uses ≡ length (uses_s [] (prelude_alone (procedures whole)))

pub data FindsBoth (prelude scheme places values nodes own rows uses was marks : List ℕ) : Result Both Refusal → Type 0 where
  none_stands : (x : Refusal) → Half prelude scheme (Refused x) (zeros half_words) → FindsBoth prelude scheme places values nodes own rows uses was marks (Err x)
  program_stands : (b : Both) → BothFill prelude scheme places values nodes own rows uses was marks b → FindsBoth prelude scheme places values nodes own rows uses was marks (Ok b)
