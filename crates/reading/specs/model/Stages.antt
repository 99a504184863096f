-- What the stages of the front end need and give back. No part of the paper.
use Rattle.std.specs.Prelude.{ℕ, ◌*◌, ◌<◌, ◌≤◌, ◌≡◌, List, length, get_or, take, Result, Ok, Err}
use Rattle.std.proofs.Math.Option.{none}
use Rattle.grammar.specs.model.Marked.{nodes_of}
use Rattle.types.specs.Types.{type_fault}
use Rattle.types.specs.model.Passes.{marks_of}
use Rattle.symbols.specs.Scan.{scan, values_of}
use Rattle.answers.specs.declared.Refusal.{Refusal}
use Rattle.answers.specs.declared.Verdict.TheVariants.{Refused}
use Rattle.names.specs.Uses.{name_faults, least}
use Rattle.reading.specs.Judging.{its_program}
use Rattle.reading.specs.Reading.{symbols, kinds_in, place_in, cleared, Scanned, Grammatical, Judged}
use Rattle.reading.specs.model.Passing.{Kept}
use Rattle.reading.specs.declared.Sizes.{Sizes}

-- ---- what is known at each stage

-- the places of a source's symbols stand in the array
pub record Placed (source places : List ℕ) (n : ℕ) : Type 0 where
  pub count : n ≡ length (kinds_in source)
  pub few : n ≤ 2048
  pub placed : (k : ℕ) → k < n → get_or places k 0 ≡ place_in source k

-- and their kinds
pub record Symbols (source kinds places : List ℕ) (n : ℕ) : Type 0 where
  pub scanned : Scanned source
  pub kinded : take n kinds ≡ kinds_in source
  pub places_in : Placed source places n

-- the nodes of a program stand, and its symbols' places
pub record Ready (source places nodes : List ℕ) (n : ℕ) : Type 0 where
  pub program : Grammatical source
  pub places_in : Placed source places n
  pub words : nodes ≡ nodes_of program.tree

-- ---- what each stage of the front end gives back: the refusal of the source, or what stands

-- what is found is the source's refusal, or its sizes are told with what stands then
pub data Tells (source : List ℕ) (P : Sizes → Type 0) : Result Sizes Refusal → Type 0 where
  program : (s : Sizes) → P s → Tells source P (Ok s)
  refused : (r : Refusal) → Judged source (Refused r) cleared → Tells source P (Err r)

-- the nodes, rows and uses are the first of those that are lent, and no name or type is at fault; the marks, which were others before, are those of the type
-- pass
pub record Declared (source places nodes rows uses was marks : List ℕ) (n : ℕ) (s : Sizes) : Type 0 where
  pub ready : Ready source places (take s.nodes nodes) n
  pub kept : Kept source places (take s.nodes nodes) rows uses n s.rows s.uses
  pub faultless : least (name_faults (its_program ready.program)) ≡ none
  pub typed : type_fault (its_program ready.program) ≡ none
  pub count : s.symbols ≡ n
  pub marked : marks ≡ marks_of (take (4 * s.rows) rows) (take s.uses uses) (take s.nodes nodes) was

-- and so are the kinds and the values of the symbols: this is what every job that takes a source is told
pub record Holds (source kinds places values nodes rows uses was marks : List ℕ) (s : Sizes) : Type 0 where
  pub declared : Declared source places nodes rows uses was marks s.symbols s
  pub kinded : take s.symbols kinds ≡ kinds_in source
  pub valued : take s.symbols values ≡ values_of (scan symbols source).found

abbrev pub Finds : List ℕ → List ℕ → List ℕ → List ℕ → List ℕ → List ℕ → List ℕ → List ℕ → List ℕ → Result Sizes Refusal → Type 0
Finds source kinds places values nodes rows uses was marks = Tells source (Holds source kinds places values nodes rows uses was marks)
