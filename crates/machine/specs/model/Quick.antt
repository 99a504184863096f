-- The quick way of an instruction that uses whole numbers alone: a model that the contracts of the inner functions need, and no part of what `run`
-- promises.
use Rattle.std.specs.Prelude.{ℕ, ◌<◌, ◌≡◌, List, [], ◌∷◌, ℤ, Option, Some, None}
use Rattle.std.proofs.Math.Option.{Option as Maybe}
use Rattle.reals.specs.declared.Form.TheVariants.{Wholes}
use Rattle.reals.specs.declared.Value.TheVariants.{Whole}
use Rattle.reals.specs.declared.Cell.{Cell}
use Rattle.reals.specs.declared.Cell.TheVariants.{Unset, Holds, Named}
use Rattle.reals.specs.Values.{form_of}
use Rattle.machine.specs.declared.Counts.{Counts}
use Rattle.machine.specs.Data.{Link, link, Target, to, Data, new_cells, Act, act_on, downs, work}
use Rattle.machine.specs.Instructions.{Location, Instruction, variable}
use Rattle.machine.specs.Machine.{base, target_in, obey}
use Rattle.machine.specs.model.Holding.{data_of, trace_of, positions_of, frames_of, own_of, mach_of, goes, stepped, Sound}

-- ---- cells

-- the whole number that a cell holds, where one is told
abbrev pub NumberIn : Option ℤ → Cell → Type 0
NumberIn (Some z) x = x ≡ Holds (Whole z)
NumberIn None x = Unit {0}

-- a whole number's cell
abbrev pub TakesWholes : Cell → Type 0
TakesWholes (Unset t) = t ≡ Wholes
TakesWholes (Holds v) = form_of v ≡ Wholes
TakesWholes (Named n) = ⊥

-- ---- variables

-- every formal on the way is a whole number's: none converts it
abbrev pub OnWholes : List Link → Type 0
OnWholes [] = Unit {0}
OnWholes (link t q ∷ l) = (t ≡ Wholes) × OnWholes l

-- cell c, through such formals
abbrev pub LeadsTo : ℕ → Target → Type 0
LeadsTo c (to d l) = (c ≡ d) × OnWholes l

-- the variable v of the running activation a is such a cell, where c is in use, and the activation's first cell is below k; l: the machine's own
-- memory
abbrev pub Spots : ℕ → ℕ → ℕ → Counts → ℕ → List ℕ → Type 0
Spots c v k n a l =
    c < n.cells → (base (frames_of l a) a < k) × ((m : Counts) (s i o : List ℤ) → LeadsTo c (target_in (frames_of l a) (data_of m (own_of l a) s i o) (variable v)))

-- ---- instructions

-- f, at a place, is a new cell that holds x
abbrev pub Fills : Cell → (ℕ → Act Location) → Type 0
Fills x f = (q : ℕ) → (downs (f q) ≡ 0) × ((y : Location → Target) (d : Data) → work (act_on y (f q)) d ≡ new_cells q (x ∷ []) d)

-- so many cells are in use
abbrev pub cut : ℕ → Counts → Counts
cut c n = record { cells = c; held = n.held; taken = n.taken; written = n.written }

-- the instruction f, whatever its place, was obeyed; or nothing was done
abbrev pub Quickly : (ℕ → Maybe Instruction) → ℕ → ℕ → Counts → Option (ℕ × ℕ) → List ℤ → List ℤ → List ℕ → Type 0
Quickly f at a n (Some (pc, c)) s s' l =
    ((q : ℕ) (i o : List ℤ) → goes (mach_of pc a (cut c n) s' l i o) (trace_of n o) ≡ stepped (trace_of n o) (obey (f q) at (positions_of l a) (frames_of l a) (data_of n (own_of l a) s i o)))
    × Sound (cut c n) s'
Quickly f at a n None s s' l = s' ≡ s
