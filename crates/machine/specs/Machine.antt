-- The machine, for any words at all: where it is; the return positions of the running activation; the activations, the newest first; the data.
-- Assumes nothing: these are definitions.
use Rattle.std.specs.Prelude.{ℕ, zero, suc, ◌+◌, ◌-◌, ◌*◌, ◌/◌, min, cond, List, [], ◌∷◌, ◌++◌, leb, ltb, eqb, get_or, length, drop, replicate, take, ℤ, pos}
use Rattle.std.proofs.Math.Option.{Option, none, some}
use Rattle.answers.specs.Numbers.{no_variable}
use Rattle.answers.specs.Answers.{refusal}
use Rattle.answers.specs.declared.Stop.{Stop}
use Rattle.answers.specs.declared.Stop.TheVariants.{Ended, Limit, Wrong, Fault}
use Rattle.machine.specs.declared.Ran.{Ran}
use Rattle.reals.specs.declared.Form.TheVariants.{Wholes}
use Rattle.reals.specs.declared.Cell.{Cell}
use Rattle.reals.specs.declared.Cell.TheVariants.{Unset, Holds, Named}
use Rattle.machine.specs.Limits.{most_words, most_cells, cell_numbers}
use Rattle.machine.specs.Run.{untold, Out, halt, next, End, done, over, run, quiet}
use Rattle.machine.specs.Data.{Target, to, Data, contents, cells, act_on, test_on, Fate, kept, gone, stored, lift, guard, look, found_in, seeking, name_cell, downs, downs_t, work, test, either, open_block, close_block, enter, leave}
use Rattle.machine.specs.Instructions.{Location, located, cell_found, Instruction, END, DO, IF, JUMP, ENTER, LEAVE, CALL, RETURN, GO, NEXT, NAME, WORK, SEEK, PASS, REFUSE, fetch}

-- an activation: where to return to, its first cell, the activation around it, the fate of its first cell, the call's place, and the return
-- positions of its caller. Activations are numbered from 1, the oldest; 0 is the program
pub data Activation : Type 0 where
  activation : ℕ → ℕ → ℕ → Fate → ℕ → List ℕ → Activation

pub data Running : Type 0 where
  running : ℕ → List ℕ → List Activation → Data → Running

unfoldable pub activation_at : List Activation → ℕ → Activation
activation_at fs f = get_or fs (length fs - suc f) (activation 0 0 0 gone 0 [])

abbrev pub link_of : Activation → ℕ
link_of (activation r b l f q ps) = l

abbrev pub base_of : Activation → ℕ
base_of (activation r b l f q ps) = b

-- u activations out from f; the program has none around it
unfoldable pub walk : List Activation → ℕ → ℕ → ℕ
walk fs f zero = f
walk fs zero (suc u) = 0
walk fs (suc f) (suc u) = walk fs (link_of (activation_at fs f)) u

abbrev pub base : List Activation → ℕ → ℕ
base fs zero = 0
base fs (suc f) = base_of (activation_at fs f)

-- where the running activation begins
abbrev pub floor : List Activation → ℕ
floor fs = base fs (length fs)

unfoldable pub target_in : List Activation → Data → Location → Target
target_in fs d (located u o) = to (base fs (walk fs (length fs) u) + o) []
target_in fs d cell_found = found_in d

-- what a name formal's cell holds
abbrev pub cell_at : ℕ → Data → Cell
cell_at c d = cond (ltb c (cells d)) (look c d) (Unset Wholes)

-- 29 at the counter: "no instruction at the counter, an operand outside its range, or a value taken where none is held"; "A value of another type
-- than the instruction takes is 29"
abbrev pub stray : ℕ → Stop
stray pc = Wrong (record { at = pc })

-- a name formal's actual worked out: c its cell, f the activation whose formal it is. The activation before that one made the cell, and it is
-- around the new one. The code of the actual is at n: of its store part there, of its read part 2 further
abbrev pub part_at : Fate → ℕ → ℕ
part_at kept n = suc (suc n)
part_at gone n = n
part_at stored n = n

-- a working out for a store forgets the formals on the way to an earlier one
abbrev pub begins : Fate → Data → Data
begins kept d = d
begins gone d = d
begins stored d = seeking d

unfoldable pub work_out : Cell → ℕ → Fate → ℕ → ℕ → ℕ → List ℕ → List Activation → Data → Out Running
work_out (Named n) f t q q' pc ps fs d = lift (stray pc) 1 (running (part_at t n) [] (activation (suc pc) (cells d) (f - 1) t q' ps ∷ fs)) (enter q (begins t d))
work_out (Unset i) f t q q' pc ps fs d = halt (stray pc)
work_out (Holds v) f t q q' pc ps fs d = halt (stray pc)

abbrev pub working : Fate → ℕ → ℕ → ℕ → ℕ → ℕ → List ℕ → List Activation → Data → Out Running
working t q q' u o pc ps fs d =
    let f = walk fs (length fs) u in
    work_out (cell_at (base fs f + o) d) f t q q' pc ps fs d

-- where the store began that the running activation works out
abbrev pub began : Activation → ℕ
began (activation r b l f q ps) = q

-- one instruction. The values that it uses lie above the first cell of the running activation
unfoldable pub exec : Instruction → ℕ → List ℕ → List Activation → Data → Out Running
exec END pc ps fs d = halt Ended
exec (DO a) pc ps fs d =
    lift (stray pc) 1 (running (suc pc) ps fs) (guard (leb (floor fs + downs a) (cells d)) (work (act_on (target_in fs d) a) d))
exec (IF t l) pc ps fs d =
    lift (stray pc) 1 (either (running (suc pc) ps fs) (running l ps fs)) (guard (leb (floor fs + downs_t t) (cells d)) (test (test_on (target_in fs d) t) d))
exec (JUMP l) pc ps fs d = next 1 quiet (running l ps fs d)
exec (ENTER q n) pc ps fs d = lift (stray pc) 1 (running (suc pc) ps fs) (open_block q n d)
exec (LEAVE n) pc ps fs d = lift (stray pc) 1 (running (suc pc) ps fs) (guard (leb (floor fs + n) (cells d)) (close_block n d))
exec (CALL q l u n f) pc ps fs d =
    lift (stray pc) 1 (running l [] (activation (suc pc) (cells d - n) (walk fs (length fs) u) f q ps ∷ fs))
    (guard (leb (floor fs + n) (cells d)) (enter q d))
exec (RETURN x) pc ps [] d = halt (stray pc)
exec (RETURN x) pc ps (activation r b l f q ps' ∷ fs) d = lift (stray pc) 1 (running r ps' fs) (leave f x q b d)
exec (GO m l r) pc ps fs d = cond (eqb m (length ps)) (next 1 quiet (running l (r ∷ ps) fs d)) (halt (stray pc))
exec (NEXT m) pc [] fs d = halt (stray pc)
exec (NEXT m) pc (r ∷ ps) fs d = cond (eqb m (length ps)) (next 1 quiet (running r ps fs d)) (halt (stray pc))
exec (NAME q l) pc ps fs d = lift (stray pc) 1 (running l ps fs) (name_cell q (suc pc) d)
exec (WORK q u o) pc ps fs d = working kept q q u o pc ps fs d
exec (SEEK q u o) pc ps fs d = working stored q q u o pc ps fs d
exec (PASS q u o) pc ps [] d = halt (stray pc)
exec (PASS q u o) pc ps (x ∷ fs) d = working stored q (began x) u o pc ps (x ∷ fs) d
exec REFUSE pc ps [] d = halt (stray pc)
exec REFUSE pc ps (x ∷ fs) d = halt (Fault (refusal no_variable (began x)))

unfoldable pub obey : Option Instruction → ℕ → List ℕ → List Activation → Data → Out Running
obey none pc ps fs d = halt (stray pc)
obey (some i) pc ps fs d = exec i pc ps fs d

unfoldable pub step : List ℕ → Running → Out Running
step words (running pc ps fs d) = obey (fetch words pc) pc ps fs d

-- ---- the run

-- how it stopped, "instructions done, numbers taken and numbers written"
pub record Finish : Type 0 where
  pub stop : Stop
  pub done : ℕ
  pub taken : ℕ
  pub written : List ℤ

-- Instructions done are the limit tests passed, the instruction that stops included. 20: "instruction limit reached"
unfoldable pub finish : End Running → Finish
finish (done q n o) = record { stop = q; done = n + 1; taken = o.taken; written = o.written }
finish (over n o m) = record { stop = Limit; done = n; taken = o.taken; written = o.written }

-- no cell in use, no activation, no number taken
abbrev pub start : List ℤ → ℕ → ℕ → Running
start input cellsLent space = running 0 [] [] (contents [] [] 0 (record { cells_lent = cellsLent; input = input; space = space; found = to 0 [] }))

-- It takes how many cells there are and how many numbers may be written, and never what stands there.
unfoldable pub machine : List ℕ → List ℤ → ℕ → ℕ → ℕ → Finish
machine words input limit cellsLent space = finish (run (step words) limit (start input cellsLent space) 0 untold)

-- ---- the job `run`: what is lent, and what it holds afterwards

-- "A run reads at most the first 16,384 code words."
abbrev pub on_code : List ℕ → List ℤ → ℕ → ℕ → ℕ → Finish
on_code code input limit cellsLent space = machine (take most_words code) input limit cellsLent space

-- "It uses the first 8,192 cells of the store, or fewer if lent fewer"; a cell "takes two of the store's numbers, .. and an odd last one is unused"
abbrev pub used : List ℤ → ℕ
used store = min most_cells (length store / cell_numbers)

-- what is handed back, and what the store and the output hold
pub record Exit : Type 0 where
  pub ran : Ran
  pub store : List ℤ
  pub output : List ℤ

abbrev pub exit : Ran → List ℤ → List ℤ → Exit
exit r s o = record { ran = r; store = s; output = o }

-- "what they held before doesn't matter, and they are zero afterwards"; "Output past the written part is untouched"
unfoldable pub afterwards : Finish → List ℤ → List ℤ → Exit
afterwards f store output = record {
  ran = record { stop = f.stop; done = f.done; taken = f.taken; written = length f.written };
  store = replicate (cell_numbers * used store) (pos 0) ++ drop (cell_numbers * used store) store;
  output = f.written ++ drop (length f.written) output;
}

-- "run (code, input numbers, store, output)", with its limit
abbrev pub job : List ℕ → List ℤ → ℕ → List ℤ → List ℤ → Exit
job code input limit store output = afterwards (on_code code input limit (used store) (length output)) store output
