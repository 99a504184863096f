-- What the passes over names and types leave, of any nodes and any page: a program's by itself, a prelude's, and those of a prelude and a scheme as one program. No part of the paper.
use Rattle.std.specs.Prelude.{ℕ, ◌*◌, ◌<◌, ◌≤◌, min, ◌≡◌, cond, List, ltb, get_or, take, Result, Ok, Err}
use Rattle.answers.specs.Answers.{refusal}
use Rattle.answers.specs.declared.Refusal.{Refusal}
use Rattle.names.specs.model.Identity.{Identified}
use Rattle.names.specs.model.Rows.{fault_of, no_fault, outline_of, uses_of}
use Rattle.types.specs.model.Passes.{typed_of, marks_of}
use Rattle.reading.specs.declared.Sizes.{Sizes}

-- the place of a symbol, of which the first n stand in the array; behind the last one, the end that is handed in
abbrev pub place_from : List ℕ → ℕ → ℕ → ℕ → ℕ
place_from places n end k = cond (ltb k (min n 2048)) (get_or places k 0) end

-- the refusal of a fault, which is one number
abbrev pub refused_for : (ℕ → ℕ) → ℕ → Refusal
refused_for place k = refusal (fault_of k).answer (place (fault_of k).symbol)

-- what is kept of some nodes: the identities of n symbols, a rows, b uses
pub record Kept (page places nodes rows uses : List ℕ) (n a b : ℕ) : Type 0 where
  pub ids : List ℕ
  pub identified : Identified page places ids (min n 2048)
  pub rowed : take (4 * a) rows ≡ (outline_of ids nodes).rows
  pub used : take b uses ≡ (uses_of ids (take (4 * a) rows) nodes).uses
  pub small : a ≤ 8192
  pub few : b ≤ 8192

module _ {page places nodes rows uses : List ℕ} {n a b : ℕ} (x : Kept page places nodes rows uses n a b) where
  -- the least fault of names, and of types
  abbrev pub name_key : ℕ
  name_key = min (outline_of x.ids nodes).least (uses_of x.ids (take (4 * a) rows) nodes).least

  abbrev pub type_key : ℕ
  type_key = typed_of (take (4 * a) rows) (take b uses) nodes

-- names first, then types; without a fault what stands, and the marks, which were others before
pub data Passes (page places nodes rows uses was marks : List ℕ) (n end words : ℕ) : Result Sizes Refusal → Type 0 where
  misnamed : (k a b : ℕ) (x : Kept page places nodes rows uses n a b) → k ≡ name_key x → k < no_fault
      → Passes page places nodes rows uses was marks n end words (Err (refused_for (place_from places n end) k))
  mistyped : (k a b : ℕ) (x : Kept page places nodes rows uses n a b) → (name_key x < no_fault → ⊥) → k ≡ type_key x → k < no_fault
      → Passes page places nodes rows uses was marks n end words (Err (refused_for (place_from places n end) k))
  sound : (z : Sizes) (x : Kept page places nodes rows uses n z.rows z.uses) → (name_key x < no_fault → ⊥) → (type_key x < no_fault → ⊥)
      → marks ≡ marks_of (take (4 * z.rows) rows) (take z.uses uses) nodes was → z.symbols ≡ n → z.nodes ≡ words
      → Passes page places nodes rows uses was marks n end words (Ok z)
