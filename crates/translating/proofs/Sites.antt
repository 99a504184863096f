-- What the pass that writes code is told of the layout: its table has, by their declarations' numbers, the level and offset of all names. These are
-- definitions; LaidOut proves it of layoutOf, Emitted takes it.
use Prim.Native.Nat.{ℕ, suc, ◌+◌, ◌<◌}
use mathlib.Core.Path.{◌≡◌}
use mathlib.Core.Bool.{cond}
use mathlib.Core.List.{List, [], ◌∷◌}
use mathlib.Core.Option.{some}
use lib.Dec.{eqb}
use lib.ListN.{get_or}
use Rattle.machine.specs.Instructions.{packed}
use Rattle.names.specs.Program.{Name, Statement, dummy, assignment, procedure, when, either, repeat, compound, block, Statements, last, first, Declarations, none as no_more, variables, declare, Procedure, heading}
use Rattle.names.specs.Scopes.{Thing, variable, routine, formal, by_name, Declared, Scope, of_block, of_body, declares, find_in, sort_of}
use Rattle.rules.specs.Entered.{cells_in, among_cells, one_if}

-- a declaration's number: of the row with its name's symbol
unfoldable pub number_of : List ℕ → ℕ → ℕ
number_of [] x = 0
number_of (k ∷ []) x = 0
number_of (k ∷ s ∷ []) x = 0
number_of (k ∷ s ∷ q ∷ []) x = 0
number_of (k ∷ s ∷ q ∷ t ∷ ws) x = cond (eqb s x) 0 (suc (number_of ws x))

-- key: the numbers of declarations, by their names' symbols
module _ (key : ℕ → ℕ) (L : List ℕ) where
  -- the word of a declaring name, in which a level is cut to six bits (with a prelude there may be one more level): of a cell, its level and offset; of a procedure the level of its declaration, and 1 where it has a result
  abbrev pub Lying : ℕ → ℕ → Thing → ℕ → Type 0
  Lying level o (variable t) k = (get_or L (key k) 0 ≡ packed level o 0) × (o < 8192)
  Lying level o (formal t) k = (get_or L (key k) 0 ≡ packed level o 0) × (o < 8192)
  Lying level o (by_name t) k = (get_or L (key k) 0 ≡ packed level o 0) × (o < 8192)
  Lying level o (routine p) k = get_or L (key k) 0 ≡ packed level (one_if (sort_of p)) 0

  -- a scope at a level, whose first cell is at the offset o
  abbrev pub Lies : ℕ → ℕ → Scope → Type 0
  Lies level o s = (x : Name) (d : Declared) → find_in (declares s) x ≡ some d → Lying level (o + among_cells s x) d.thing d.name.symbol

  -- every scope of a tree: level, the activations around; reach, the cells of the running one's scopes around
  abbrev mutual
    pub LaidS : ℕ → ℕ → Statement → Type 0
    LaidS level reach dummy = Unit {0}
    LaidS level reach (assignment x xs q e) = Unit {0}
    LaidS level reach (procedure x es) = Unit {0}
    LaidS level reach (when q c s) = LaidS level reach s
    LaidS level reach (either q c s t) = LaidS level reach s × LaidS level reach t
    LaidS level reach (repeat x l ls s) = LaidS level reach s
    LaidS level reach (compound ss) = LaidSs level reach ss
    LaidS level reach (block q ds ss) = Lies level reach (of_block ds) × LaidDs level ds × LaidSs level (reach + cells_in (of_block ds)) ss

    pub LaidSs : ℕ → ℕ → Statements → Type 0
    LaidSs level reach (last s) = LaidS level reach s
    LaidSs level reach (first s ss) = LaidS level reach s × LaidSs level reach ss

    pub LaidDs : ℕ → Declarations → Type 0
    LaidDs level no_more = Unit {0}
    LaidDs level (variables t xs ds) = LaidDs level ds
    LaidDs level (declare p ds) = LaidP level p × LaidDs level ds

    -- the level of a procedure's declaration; its body is one further in
    pub LaidP : ℕ → Procedure → Type 0
    LaidP level (heading t f xs vs ss s) =
        (get_or L (key f.symbol) 0 ≡ packed level (one_if t) 0)
        × Lies (suc level) 0 (of_body (heading t f xs vs ss s))
        × LaidS (suc level) (cells_in (of_body (heading t f xs vs ss s))) s
