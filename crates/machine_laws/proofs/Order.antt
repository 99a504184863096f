-- "At one instruction the order is 20, 29, 28, 24 or 25, then 21 to 23, then 26, then 27", "27 coming before 30". What an instruction asks of the
-- state is a list of demands, each with its answer and its own test of the state; the answer given is the first in the paper's order whose demand fails.
use Prim.Native.Nat.{ℕ, zero, suc, ◌+◌, ◌-◌, ◌≤◌, ◌<◌}
use borrow.Author.Tests.{le-leb}
use native.Mathlib.Omega.{arith}
use mathlib.Core.Bool.{Bool, true, false, cond, not, ◌&&◌, ◌||◌, beq, false≢true}
use mathlib.Core.Path.{◌≡◌, refl, sym, ap, subst, ◌∙◌}
use mathlib.Core.List.{List, [], ◌∷◌}
use mathlib.Core.Logic.{◌⊎◌, inl, inr}
use mathlib.Core.Option.{Option, none, some}
use lib.Dec.{T, leb, ltb, eqb, eqb-suc-zero, eqb-suc-suc, leb→le}
use lib.IntN.{ℤ, pos, neg_ℤ, nat_abs, ◌+ℤ◌, ◌-ℤ◌, ◌*ℤ◌}
use lib.Ieee.{Float, nan, inf, fin, binary64, add, sub, mul, div, eq, lt, le, of_int}
use lib.ListN.{length, get_or, drop}
use lib.Seq.{drop-cons}
use lib.Signed.{mag, lt_z, le_z, quot_z}
use Rattle.answers.specs.Answers.{stop_number, answer}
use Rattle.answers.specs.Numbers.{ended, limit, range, zero_divisor, unassigned, input_ended, output_full, activations, channel, no_instruction, no_variable, cells as noCell}
use Rattle.reals.specs.declared.Form.{Form}
use Rattle.reals.specs.declared.Form.TheVariants.{Truths, Wholes, Reals}
use Rattle.reals.specs.declared.Value.{Value}
use Rattle.reals.specs.declared.Value.TheVariants.{Truth, Whole, Real}
use Rattle.reals.specs.declared.Outcome.{Outcome}
use Rattle.reals.specs.declared.Outcome.TheVariants.{Is, Fault, Stray}
use Rattle.reals.specs.declared.Both.{Both}
use Rattle.reals.specs.declared.Both.TheVariants.{Truths as Truths2, Wholes as Wholes2, Reals as Reals2, Neither}
use Rattle.reals.specs.declared.Unary.{Unary}
use Rattle.reals.specs.declared.Unary.TheVariants.{Minus, Negation, Absolute}
use Rattle.reals.specs.declared.Binary.{Binary}
use Rattle.reals.specs.declared.Binary.TheVariants.{Plus, Less, Times, Over, Divide, Below, AtMost, Equal, AtLeast, Above, Unequal, And, Or, Impl, Equiv}
use Rattle.reals.specs.declared.Cell.{Cell}
use Rattle.reals.specs.declared.Cell.TheVariants.{Unset, Holds, Named}
use Rattle.reals.specs.Values.{form_of, finite_b, same, is_zero, nought, half, whole, real, whole_of, entier, convert, apply1, both_of, on_numbers, on_truths, cut, quotient, apply2, past_by, leaves}
use Rattle.std.specs.Prelude.{Result as Returned, Ok, Err}
use Rattle.machine.specs.declared.Trouble.{Trouble}
use Rattle.machine.specs.declared.Trouble.TheVariants.{Fault as Bad, Stray as Astray}
use Rattle.machine.specs.Run.{Event, quiet, took, Trace, Out, halt, next, after, run}
use Rattle.machine.specs.Data.{Link, link, Target, to, Data, contents, cells, joined, arithmetic, Result, bad, wrong, good, lift, guard, check, new_cells, newest, on_value, one, two, back, look, plain, form_in, put, reading, valued, suits, reaching, outward, saving, hold, unhold, held, input, space, rest, taking, written, writing, on_channel, heightened, picking, cell_of, form_at, Act, push, heighten, load, store, assign, reserve, forget, receive, send, keep, unary, binary, lend, channel as tested, sum as added, turn, act_on, work, downs, Two, Test, condition, upto, test_on, test, downs_t, Counted, in_all, open_block, close_block, name_cell, enter, seeking, Fate, kept, gone, stored, given, leave, Lent}
use Rattle.machine.specs.Instructions.{Location, Instruction, END, DO, IF, JUMP, ENTER, LEAVE, CALL, RETURN, GO, NEXT, NAME, WORK, SEEK, PASS, REFUSE, fetch}
use Rattle.machine.specs.Machine.{Activation, activation, Running, running, walk, base, floor, target_in, cell_at, begins, stray, work_out, began, exec, obey, step, finish}
use Rattle.machine.specs.model.Holding.{turned, on_turned, all_suit, onward, out_t, inwards, in_t}
use Rattle.machine.proofs.Kept.{unset_length}
use Rattle.machine.proofs.Turns.{along_guard, guard_and, outward_is, inward_is}

-- ---- what is asked for. Cells are numbered from the oldest, values taken from the newest

pub data Demand : Type 0 where
  -- 20: one more instruction, of so many that are left
  left : ℕ → Demand
  -- 29: an instruction at the counter; so many cells of the running activation; values in the so many newest cells; with so many cells gone, this
  -- cell in use and no name formal's; with so many gone, a target that values of a type go to or come from: its cell so, and cell and formals of
  -- their kind; a step held; so many positions noted; an activation to return from, with its first cell, no name formal's, where that is needed; a
  -- name formal's cell; an activation that runs
  there : Demand
  own : ℕ → Demand
  values : ℕ → Demand
  used : ℕ → ℕ → Demand
  reached : ℕ → Form → Target → Demand
  a_step : Demand
  noted : ℕ → Demand
  some_activation : Demand
  named : ℕ → Demand
  not_the_program : Demand
  -- 29, of types: the value taken a number, and the step held; a logical value; what is written there; a half of a finite real; a channel, among
  -- the values taken, a whole number; types that an operator takes; a type that becomes the other
  a_number_taken : Demand
  a_number_held : Demand
  a_truth : Demand
  of_type : Form → Demand
  low_half : ℕ → Demand
  line : ℕ → Demand
  takes1 : Unary → Demand
  takes2 : Binary → Demand
  becomes : Form → Demand
  -- 28: the channel, among the values taken
  one_in : ℕ → Demand
  -- 24, 25: a number to take; room for an entry that is written
  a_number : Demand
  a_place : Demand
  -- 21, 22: the operator's result, of one value and of two; the value as one of a type; one read through formals, with so many cells gone; one
  -- stored through them, and the next input number; the sum of what is read and the value taken; a divisor
  result1 : Unary → Demand
  result2 : Binary → Demand
  converted : Form → Demand
  read_so : ℕ → Target → Demand
  stored_so : ℕ → Target → Demand
  taken_so : ℕ → Target → Demand
  sum : Target → Demand
  divisor : Binary → Demand
  -- 23: with so many cells gone, the cell that is read; the result that is needed
  assigned : ℕ → ℕ → Demand
  given_back : Demand
  -- 26: so many new cells
  new : ℕ → Demand
  -- 27: one more activation
  one_more : Demand
  -- 30: an actual that is a variable
  a_variable : Demand
  -- 0: more to do, where END stands
  more : Demand

abbrev pub answer_to : Demand → ℕ
answer_to (left t) = limit
answer_to there = no_instruction
answer_to (own n) = no_instruction
answer_to (values n) = no_instruction
answer_to (used k c) = no_instruction
answer_to (reached k t x) = no_instruction
answer_to a_step = no_instruction
answer_to (noted m) = no_instruction
answer_to some_activation = no_instruction
answer_to (named c) = no_instruction
answer_to not_the_program = no_instruction
answer_to a_number_taken = no_instruction
answer_to a_number_held = no_instruction
answer_to a_truth = no_instruction
answer_to (of_type t) = no_instruction
answer_to (low_half h) = no_instruction
answer_to (line k) = no_instruction
answer_to (takes1 o) = no_instruction
answer_to (takes2 o) = no_instruction
answer_to (becomes t) = no_instruction
answer_to (one_in k) = channel
answer_to a_number = input_ended
answer_to a_place = output_full
answer_to (result1 o) = range
answer_to (result2 o) = range
answer_to (converted t) = range
answer_to (read_so k x) = range
answer_to (stored_so q x) = range
answer_to (taken_so q x) = range
answer_to (sum x) = range
answer_to (divisor o) = zero_divisor
answer_to (assigned k c) = unassigned
answer_to given_back = unassigned
answer_to (new n) = noCell
answer_to one_more = activations
answer_to a_variable = no_variable
answer_to more = ended

-- ---- when it fails: each test by itself, of the state alone

-- none is left
abbrev none_left : ℕ → Bool
none_left zero = true
none_left (suc t) = false

-- one of the n newest cells holds no value
abbrev lacks : ℕ → List Cell → Bool
lacks zero w = false
lacks (suc n) [] = true
lacks (suc n) (Unset t ∷ w) = true
lacks (suc n) (Holds v ∷ w) = lacks n w
lacks (suc n) (Named m ∷ w) = true

abbrev unset : Cell → Bool
unset (Unset t) = true
unset (Holds v) = false
unset (Named m) = false

abbrev unnamed : Cell → Bool
unnamed (Unset t) = true
unnamed (Holds v) = true
unnamed (Named m) = false

-- it holds a value that is so
abbrev such : (Value → Bool) → Cell → Bool
such f (Unset t) = false
such f (Holds v) = f v
such f (Named m) = false

abbrev newest_cell : List Cell → Cell
newest_cell w = get_or w 0 (Unset Wholes)

abbrev none_of : {A : Type 0} → List A → Bool
none_of [] = true
none_of (v ∷ i) = false

abbrev no_number : Value → Bool
no_number v = not (suits Wholes (form_of v))

abbrev first_no_number : List Value → Bool
first_no_number [] = false
first_no_number (s ∷ h) = no_number s

abbrev no_truth : Value → Bool
no_truth (Truth b) = false
no_truth (Whole z) = true
no_truth (Real r) = true

abbrev not_of : Form → Value → Bool
not_of Truths v = true
not_of Wholes (Truth b) = true
not_of Wholes (Whole z) = false
not_of Wholes (Real r) = true
not_of Reals (Truth b) = true
not_of Reals (Whole z) = true
not_of Reals (Real r) = false

abbrev no_half : ℕ → Value → Bool
no_half h (Truth b) = true
no_half h (Whole z) = not (finite_b (joined z h))
no_half h (Real r) = true

abbrev no_line : Value → Bool
no_line (Truth b) = true
no_line (Whole z) = false
no_line (Real r) = true

abbrev other_line : Value → Bool
other_line (Truth b) = false
other_line (Whole z) = not (same z (pos 1))
other_line (Real r) = false

-- the operator's fault is this one; the operator takes no such value
abbrev fault : ℕ → Outcome → Bool
fault n (Is v) = false
fault n (Fault a) = eqb a.number n
fault n Stray = false

abbrev strays : Outcome → Bool
strays (Is v) = false
strays (Fault a) = false
strays Stray = true

-- a conversion on the way has a fault
abbrev ill : Returned Value Trouble → Bool
ill (Ok v) = false
ill (Err (Bad a q)) = true
ill (Err Astray) = false

-- what it has become has one
abbrev then_ill : (Value → Bool) → Returned Value Trouble → Bool
then_ill f (Ok v) = f v
then_ill f (Err (Bad a q)) = false
then_ill f (Err Astray) = false

abbrev first_ill : (ℤ → Returned Value Trouble) → List ℤ → Bool
first_ill f [] = false
first_ill f (z ∷ i) = ill (f z)

abbrev links_to : Target → List Link
links_to (to c l) = l

-- cell and formals are of the type's kind
abbrev reachable : Form → Target → Data → Bool
reachable t (to c l) d = ltb c (cells d) && (plain (look c d) && (suits t (form_in (look c d)) && all_suit t l))

-- the program runs, which is no activation
abbrev no_activation : List Activation → Bool
no_activation [] = true
no_activation (x ∷ fs) = false

-- no activation, or its first cell (a needed result, and no name formal's) or those below it are not there
abbrev no_return : List Activation → List Cell → Bool
no_return [] w = true
no_return (activation r b l kept q ps ∷ fs) w = not (ltb b (length w) && plain (get_or w (length w - suc b) (Unset Wholes)))
no_return (activation r b l gone q ps ∷ fs) w = not (leb b (length w))
no_return (activation r b l stored q ps ∷ fs) w = not (leb b (length w))

-- a needed result is unassigned
abbrev no_result : List Activation → List Cell → Bool
no_result [] w = false
no_result (activation r b l kept q ps ∷ fs) w = unset (get_or w (length w - suc b) (Unset Wholes))
no_result (activation r b l gone q ps ∷ fs) w = false
no_result (activation r b l stored q ps ∷ fs) w = false

-- with k cells gone
abbrev without : ℕ → Data → Data
without k (contents w h a l) = contents (drop k w) h a l

abbrev pub fails : List ℕ → List Activation → Data → Demand → Bool
fails ps fs d (left t) = none_left t
fails ps fs d there = true
fails ps fs d (own n) = not (leb (floor fs + n) (cells d))
fails ps fs (contents w h a l) (values n) = lacks n w
fails ps fs d (used k c) = not (ltb c (cells (without k d)) && plain (look c (without k d)))
fails ps fs d (reached k t x) = not (reachable t x (without k d))
fails ps fs (contents w h a l) a_step = none_of h
fails ps fs d (noted m) = not (eqb m (length ps))
fails ps fs (contents w h a l) some_activation = no_return fs w
fails ps fs d (named c) = unnamed (cell_at c d)
fails ps fs d not_the_program = no_activation fs
fails ps fs (contents w h a l) a_number_taken = such no_number (newest_cell w)
fails ps fs (contents w h a l) a_number_held = first_no_number h
fails ps fs (contents w h a l) a_truth = such no_truth (newest_cell w)
fails ps fs (contents w h a l) (of_type t) = such (not_of t) (newest_cell w)
fails ps fs (contents w h a l) (low_half n) = such (no_half n) (newest_cell w)
fails ps fs (contents w h a l) (line k) = such no_line (get_or w k (Unset Wholes))
fails ps fs (contents w h a l) (takes1 o) = such (λ x. strays (apply1 o x)) (newest_cell w)
fails ps fs (contents w h a l) (takes2 o) = such (λ y. such (λ x. strays (apply2 o x y)) (get_or w 1 (Unset Wholes))) (newest_cell w)
fails ps fs (contents w h a l) (becomes t) = such (λ x. strays (convert t x)) (newest_cell w)
fails ps fs (contents w h a l) (one_in k) = such other_line (get_or w k (Unset Wholes))
fails ps fs d a_number = none_of (input d)
fails ps fs d a_place = not (leb 3 (space d))
fails ps fs (contents w h a l) (result1 o) = such (λ x. fault range (apply1 o x)) (newest_cell w)
fails ps fs (contents w h a l) (result2 o) = such (λ y. such (λ x. fault range (apply2 o x y)) (get_or w 1 (Unset Wholes))) (newest_cell w)
fails ps fs (contents w h a l) (converted t) = such (λ x. fault range (convert t x)) (newest_cell w)
fails ps fs d (read_so k x) = such (λ v. ill (out_t (links_to x) v)) (look (cell_of x) (without k d))
fails ps fs (contents w h a l) (stored_so q x) = such (λ v. ill (in_t q (form_in (look (cell_of x) (contents (drop 1 w) h a l))) (links_to x) v)) (newest_cell w)
fails ps fs d (taken_so q x) = first_ill (λ z. in_t q (form_in (look (cell_of x) (without 1 d))) (links_to x) (Whole z)) (input d)
fails ps fs (contents w h a l) (sum x) = such (λ s. such (λ v. then_ill (λ u. fault range (apply2 Plus u s)) (out_t (links_to x) v)) (look (cell_of x) (contents (drop 1 w) h a l))) (newest_cell w)
fails ps fs (contents w h a l) (divisor o) = such (λ y. such (λ x. fault zero_divisor (apply2 o x y)) (get_or w 1 (Unset Wholes))) (newest_cell w)
fails ps fs d (assigned k c) = unset (look c (without k d))
fails ps fs (contents w h a l) given_back = no_result fs w
fails ps fs (contents w h a l) (new n) = not (leb (length w + length h + n) l.cells_lent)
fails ps fs (contents w h a l) one_more = not (ltb a 256)
fails ps fs d a_variable = true
fails ps fs d more = true

-- ---- what each instruction asks for, in no order that counts

-- the type of the newest cell
abbrev form_taken : Data → Form
form_taken (contents w h a l) = form_in (newest_cell w)

abbrev pub asks_act : Data → Act Target → List Demand
asks_act d (push q v) = own 0 ∷ new 1 ∷ []
asks_act d (heighten h) = own 1 ∷ values 1 ∷ low_half h ∷ []
asks_act d (load q x) = own 0 ∷ reached 0 (form_at x d) x ∷ read_so 0 x ∷ assigned 0 (cell_of x) ∷ new 1 ∷ []
asks_act d (store q x) = own 1 ∷ values 1 ∷ reached 1 (form_taken d) x ∷ stored_so q x ∷ []
asks_act d (assign q x) = own 1 ∷ values 1 ∷ reached 1 (form_taken d) x ∷ stored_so q x ∷ []
asks_act d (reserve q t) = own 0 ∷ new 1 ∷ []
asks_act d forget = own 1 ∷ values 1 ∷ []
asks_act d (receive q x) = own 1 ∷ values 1 ∷ reached 1 Wholes x ∷ line 0 ∷ one_in 0 ∷ a_number ∷ taken_so q x ∷ []
asks_act d (send q t) = own 2 ∷ values 2 ∷ of_type t ∷ line 1 ∷ one_in 1 ∷ a_place ∷ []
asks_act d keep = own 1 ∷ values 1 ∷ []
asks_act d (unary q o) = own 1 ∷ values 1 ∷ takes1 o ∷ result1 o ∷ []
asks_act d (binary q o) = own 2 ∷ values 2 ∷ takes2 o ∷ result2 o ∷ divisor o ∷ []
asks_act d (lend x) = own 0 ∷ used 0 (cell_of x) ∷ []
asks_act d (tested q) = own 1 ∷ values 1 ∷ line 0 ∷ one_in 0 ∷ []
asks_act d (added q x) = own 1 ∷ values 1 ∷ a_step ∷ a_number_taken ∷ reached 1 Wholes x ∷ read_so 1 x ∷ sum x ∷ assigned 1 (cell_of x) ∷ []
asks_act d (turn q t) = own 1 ∷ values 1 ∷ becomes t ∷ converted t ∷ []

abbrev pub asks_test : Test Target → List Demand
asks_test condition = own 1 ∷ values 1 ∷ a_truth ∷ []
asks_test (upto q x) = own 1 ∷ values 1 ∷ a_step ∷ a_number_taken ∷ a_number_held ∷ reached 1 Wholes x ∷ read_so 1 x ∷ assigned 1 (cell_of x) ∷ []

-- a name formal's cell, o behind the first of the activation u out; and an activation more
abbrev pub working : List Activation → ℕ → ℕ → List Demand
working fs u o = named (base fs (walk fs (length fs) u) + o) ∷ one_more ∷ []

abbrev pub asks : List Activation → Data → Instruction → List Demand
asks fs d END = more ∷ []
asks fs d (DO a) = asks_act d (act_on (target_in fs d) a)
asks fs d (IF t l) = asks_test (test_on (target_in fs d) t)
asks fs d (JUMP l) = []
asks fs d (ENTER q n) = new (in_all n) ∷ []
asks fs d (LEAVE n) = own n ∷ []
asks fs d (CALL q l u n f) = own n ∷ one_more ∷ []
asks fs d (RETURN x) = some_activation ∷ given_back ∷ []
asks fs d (GO m l r) = noted m ∷ []
asks fs d (NEXT m) = noted (suc m) ∷ []
asks fs d (NAME q l) = new 1 ∷ []
asks fs d (WORK q u o) = working fs u o
asks fs d (SEEK q u o) = working fs u o
asks fs d (PASS q u o) = not_the_program ∷ working fs u o
asks fs d REFUSE = not_the_program ∷ a_variable ∷ []

-- .. and what stands at the counter: an instruction, or none
abbrev pub asked : List Activation → Data → Option Instruction → List Demand
asked fs d none = there ∷ []
asked fs d (some i) = asks fs d i

-- ---- the paper's order: "20, 29, 28, 24 or 25, then 21 to 23, then 26, then 27", then 30; and 0 where END stands and nothing else is due

abbrev pub order : List ℕ
order = limit ∷ no_instruction ∷ channel ∷ input_ended ∷ output_full ∷ range ∷ zero_divisor ∷ unassigned ∷ noCell ∷ activations ∷ no_variable ∷ ended ∷ []

-- demands by their answers, each with whether it fails
abbrev pub due : List ℕ → List Activation → Data → List Demand → List (ℕ × Bool)
due ps fs d [] = []
due ps fs d (x ∷ l) = (answer_to x, fails ps fs d x) ∷ due ps fs d l

abbrev pub is_due : ℕ → List (ℕ × Bool) → Bool
is_due n [] = false
is_due n (x ∷ l) = (eqb x.0 n && x.1) || is_due n l

-- the first of the answers that is due
abbrev pub first : List ℕ → List (ℕ × Bool) → Option ℕ
first [] l = none
first (n ∷ ns) l = cond (is_due n l) (some n) (first ns l)

-- what is answered at an instruction before which t may still be done
abbrev pub answered : ℕ → Out Running → Option ℕ
answered zero r = some limit
answered (suc t) (halt q) = some (stop_number q)
answered (suc t) (next k e m) = none

-- ---- the shapes of an instruction's tests

abbrev told : {A : Type 0} → Result A → Option ℕ
told (bad a q) = some a
told wrong = some no_instruction
told (good e x) = none

lift_told : {A : Type 0} (t pc : ℕ) (f : A → Running) (r : Result A) → answered (suc t) (lift (stray pc) 1 f r) ≡ told r
unfolding lift
lift_told t pc f (bad a q) = refl
lift_told t pc f wrong = refl
lift_told t pc f (good e x) = refl

-- with the limit not reached
unfoldable given_out : List (ℕ × Bool) → Option ℕ
given_out l = first order ((limit, false) ∷ l)

abbrev Dues : Type 0
Dues = List (ℕ × Bool)

-- the first that is due, of lists whose answers stand in the order
module _ (l : Dues) where
  yes_29 : is_due limit l ≡ false → given_out ((no_instruction, true) ∷ l) ≡ some no_instruction
  unfolding given_out
  yes_29 e = rw e

  no_29 : given_out ((no_instruction, false) ∷ l) ≡ given_out l
  unfolding given_out
  no_29 = refl

  yes_28 : is_due limit l ≡ false → is_due no_instruction l ≡ false → given_out ((no_instruction, false) ∷ (channel, true) ∷ l) ≡ some channel
  unfolding given_out
  yes_28 e g = rw (e, g)

  no_28 : given_out ((no_instruction, false) ∷ (channel, false) ∷ l) ≡ given_out l
  unfolding given_out
  no_28 = refl

-- none, or one alone
none_due : none ≡ given_out []
unfolding given_out
none_due = refl

last_26 : given_out ((noCell, true) ∷ []) ≡ some noCell
unfolding given_out
last_26 = refl

last_25 : given_out ((output_full, true) ∷ []) ≡ some output_full
unfolding given_out
last_25 = refl

last_27 : given_out ((activations, true) ∷ []) ≡ some activations
unfolding given_out
last_27 = refl

none_26 : given_out ((noCell, false) ∷ []) ≡ none
unfolding given_out
none_26 = refl

none_25 : given_out ((output_full, false) ∷ []) ≡ none
unfolding given_out
none_25 = refl

none_27 : given_out ((activations, false) ∷ []) ≡ none
unfolding given_out
none_27 = refl

ended_24 : (b : Bool) → given_out ((input_ended, true) ∷ (range, b) ∷ []) ≡ some input_ended
unfolding given_out
ended_24 b = refl

no_24 : (b : Bool) → given_out ((input_ended, false) ∷ (range, b) ∷ []) ≡ given_out ((range, b) ∷ [])
unfolding given_out
no_24 b = refl

-- behind a read: a new cell, or nothing
module _ (r : Bool) where
  read_21 : given_out ((range, true) ∷ (unassigned, false) ∷ (noCell, r) ∷ []) ≡ some range
  unfolding given_out
  read_21 = refl

  read_23 : given_out ((range, false) ∷ (unassigned, true) ∷ (noCell, r) ∷ []) ≡ some unassigned
  unfolding given_out
  read_23 = refl

  read_on : given_out ((range, false) ∷ (unassigned, false) ∷ (noCell, r) ∷ []) ≡ given_out ((noCell, r) ∷ [])
  unfolding given_out
  read_on = refl

test_21 : given_out ((range, true) ∷ (unassigned, false) ∷ []) ≡ some range
unfolding given_out
test_21 = refl

test_23 : given_out ((range, false) ∷ (unassigned, true) ∷ []) ≡ some unassigned
unfolding given_out
test_23 = refl

test_on_lem : given_out ((range, false) ∷ (unassigned, false) ∷ []) ≡ given_out []
unfolding given_out
test_on_lem = refl

sum_21 : given_out ((range, true) ∷ (range, false) ∷ (unassigned, false) ∷ []) ≡ some range
unfolding given_out
sum_21 = refl

sum_23 : given_out ((range, false) ∷ (range, false) ∷ (unassigned, true) ∷ []) ≡ some unassigned
unfolding given_out
sum_23 = refl

-- 29, the first test that fails, or what follows; and any other fault
module _ {A : Type 0} where
  -- l: what is asked behind it, which has no 20
  guarded : (g : Bool) (r : Result A) (l : Dues) → is_due limit l ≡ false → (g ≡ true → told r ≡ given_out l) → told (guard g r) ≡ given_out ((no_instruction, not g) ∷ l)
  unfolding guard
  guarded true r l y e = e refl ∙ sym (no_29 l)
  guarded false r l y e = sym (yes_29 l y)

  -- the last test
  checked : (b : Bool) (a q : ℕ) (e : Event) (x : A) → given_out ((a, true) ∷ []) ≡ some a → given_out ((a, false) ∷ []) ≡ none → told (check b a q (good e x)) ≡ given_out ((a, not b) ∷ [])
  unfolding check
  checked true a q e x y n = sym n
  checked false a q e x y n = sym y

  -- a target
  reach_guard : (t : Form) (c : ℕ) (l : List Link) (d : Data) (r : Result A) → reaching t (to c l) d r ≡ guard (reachable t (to c l) d) r
  reach_guard t c l d r =
      guard_and (ltb c (cells d)) _ r _
      (guard_and (plain (look c d)) _ r _
      (guard_and (suits t (form_in (look c d))) (all_suit t l) r _ (along_guard t l r)))

  -- a channel
  heard_check : (b : Bool) (q : ℕ) (r : Result A) (l : Dues) → is_due limit l ≡ false → is_due no_instruction l ≡ false
      → told r ≡ given_out l → told (check b channel q r) ≡ given_out ((no_instruction, false) ∷ (channel, not b) ∷ l)
  unfolding check
  heard_check true q r l y c e = e ∙ sym (no_28 l)
  heard_check false q r l y c e = sym (yes_28 l y c)

  heard : (q : ℕ) (k : Value) (r : Result A) (l : Dues) → is_due limit l ≡ false → is_due no_instruction l ≡ false
      → told r ≡ given_out l → told (on_channel q k r) ≡ given_out ((no_instruction, no_line k) ∷ (channel, other_line k) ∷ l)
  unfolding on_channel
  heard q (Truth b) r l y c e = sym (yes_29 ((channel, false) ∷ l) y)
  heard q (Real x) r l y c e = sym (yes_29 ((channel, false) ∷ l) y)
  heard q (Whole z) r l y c e = heard_check (same z (pos 1)) q r l y c e

-- ---- conversions: of values of one kind there is a value, or 21

abbrev Ranged : Returned Value Trouble → Type 0
Ranged (Ok v) = Unit {0}
Ranged (Err (Bad a q)) = a.number ≡ range
Ranged (Err Astray) = ⊥

-- .. and the value is of the kind of t
abbrev Kind : Form → Returned Value Trouble → Type 0
Kind t (Ok v) = suits t (form_of v) ≡ true
Kind t (Err (Bad a q)) = a.number ≡ range
Kind t (Err Astray) = ⊥

kind_ranged : (t : Form) (x : Returned Value Trouble) → Kind t x → Ranged x
kind_ranged t (Ok v) h = tt
kind_ranged t (Err (Bad a q)) h = h
kind_ranged t (Err Astray) h = h

never_both : (b : Bool) → beq b true ≡ true → beq b false ≡ true → ⊥
never_both true g h = absurd (false≢true h)
never_both false g h = absurd (false≢true g)

whole_kind : (t : Form) (q : ℕ) (x : ℤ) → suits t Wholes ≡ true → Kind t (turned q (whole x))
unfolding whole
whole_kind t q x h = go (ltb (mag x) 2147483648)
  where
    go : (b : Bool) → Kind t (turned q (cond b (Is (Whole x)) (Fault (answer range))))
    go true = h
    go false = refl

entier_kind : (t : Form) (q : ℕ) (x : Float) → suits t Wholes ≡ true → Kind t (turned q (whole_of x))
unfolding whole_of
entier_kind t q nan h = refl
entier_kind t q (inf s) h = refl
entier_kind t q (fin s m e) h = whole_kind t q (entier (fin s m e)) h

conv_kind : (t u : Form) (q : ℕ) (v : Value) → suits t (form_of v) ≡ true → suits t u ≡ true → Kind t (turned q (convert u v))
unfolding convert
conv_kind t Truths q (Truth b) g h = h
conv_kind t Truths q (Whole z) g h = never_both (arithmetic t) g h
conv_kind t Truths q (Real r) g h = never_both (arithmetic t) g h
conv_kind t Wholes q (Truth b) g h = never_both (arithmetic t) h g
conv_kind t Wholes q (Whole z) g h = h
conv_kind t Wholes q (Real r) g h = entier_kind t q (add binary64 r half) h
conv_kind t Reals q (Truth b) g h = never_both (arithmetic t) h g
conv_kind t Reals q (Whole z) g h = h
conv_kind t Reals q (Real r) g h = h

both_first : (a b : Bool) → (a && b) ≡ true → a ≡ true
both_first true b e = refl
both_first false b e = absurd (false≢true e)

both_second : (a b : Bool) → (a && b) ≡ true → b ≡ true
both_second true b e = e
both_second false b e = absurd (false≢true e)

reach_second : (t : Form) (c : ℕ) (l : List Link) (d : Data) → reachable t (to c l) d ≡ true → (plain (look c d) && (suits t (form_in (look c d)) && all_suit t l)) ≡ true
reach_second t c l d g = both_second (ltb c (cells d)) (plain (look c d) && (suits t (form_in (look c d)) && all_suit t l)) g

on_kind : (t u : Form) (q : ℕ) (x : Returned Value Trouble) → Kind t x → suits t u ≡ true → Kind t (onward u q x)
on_kind t u q (Ok v) k h = conv_kind t u q v k h
on_kind t u q (Err (Bad a p)) k h = k
on_kind t u q (Err Astray) k h = k

out_kind : (t : Form) (l : List Link) (v : Value) → suits t (form_of v) ≡ true → all_suit t l ≡ true → Kind t (out_t l v)
unfolding out_t all_suit
out_kind t [] v g h = g
out_kind t (link u q ∷ l) v g h = on_kind t u q (out_t l v) (out_kind t l v g (both_second (suits t u) (all_suit t l) h)) (both_first (suits t u) (all_suit t l) h)

in_on : (t : Form) (q : ℕ) (f : Value → Returned Value Trouble) (x : Outcome) → Kind t (turned q x) → ((v : Value) → suits t (form_of v) ≡ true → Ranged (f v)) → Ranged (inwards f q x)
in_on t q f (Is v) k h = h v k
in_on t q f (Fault a) k h = k
in_on t q f Stray k h = k

in_kind : (t : Form) (q : ℕ) (u : Form) (l : List Link) (v : Value) → suits t (form_of v) ≡ true → suits t u ≡ true → all_suit t l ≡ true → Ranged (in_t q u l v)
unfolding in_t all_suit
in_kind t q u [] v g h k = kind_ranged t (turned q (convert u v)) (conv_kind t u q v g h)
in_kind t q u (link w p ∷ l) v g h k =
    in_on t q (in_t q u l) (convert w v) (conv_kind t w q v g (both_first (suits t w) (all_suit t l) k))
    (λ x e. in_kind t q u l x e h (both_second (suits t w) (all_suit t l) k))

-- ---- what is done with them

module _ {A : Type 0} where
  stores : (e : Event) (f : Value → A) (x : Returned Value Trouble) → Ranged x → told (on_turned (λ u. good e (f u)) x) ≡ given_out ((range, ill x) ∷ [])
  unfolding given_out
  stores e f (Ok v) h = refl
  stores e f (Err (Bad a q)) h = rw h
  stores e f (Err Astray) h = absurd h

  -- a cell is read: what follows asks for l, and finds the value to be of the kind
  module _ (t : Form) (q : ℕ) (l : List Link) (f : Value → Result A) (g : Value → Bool) (x : Dues) where
    reads_on : (y : Returned Value Trouble) → Kind t y
        → given_out ((range, true) ∷ (range, false) ∷ (unassigned, false) ∷ x) ≡ some range
        → ((u : Value) → suits t (form_of u) ≡ true → told (f u) ≡ given_out ((range, false) ∷ (range, g u) ∷ (unassigned, false) ∷ x))
        → told (on_turned f y) ≡ given_out ((range, ill y) ∷ (range, then_ill g y) ∷ (unassigned, false) ∷ x)
    reads_on (Ok u) k a e = e u k
    reads_on (Err (Bad b p)) k a e = rw k (sym a)
    reads_on (Err Astray) k a e = absurd k

    reads : (c : Cell) → (plain c && (suits t (form_in c) && all_suit t l)) ≡ true
        → given_out ((range, true) ∷ (range, false) ∷ (unassigned, false) ∷ x) ≡ some range
        → given_out ((range, false) ∷ (range, false) ∷ (unassigned, true) ∷ x) ≡ some unassigned
        → ((u : Value) → suits t (form_of u) ≡ true → told (f u) ≡ given_out ((range, false) ∷ (range, g u) ∷ (unassigned, false) ∷ x))
        → told (reading q (outward l f) c) ≡ given_out ((range, such (λ v. ill (out_t l v)) c) ∷ (range, such (λ v. then_ill g (out_t l v)) c) ∷ (unassigned, unset c) ∷ x)
    unfolding reading
    reads (Unset u) h a b e = sym b
    reads (Holds v) h a b e =
        ap told (outward_is l f v)
        ∙ reads_on (out_t l v) (out_kind t l v (both_first (suits t (form_of v)) (all_suit t l) h) (both_second (suits t (form_of v)) (all_suit t l) h)) a e
    reads (Named m) h a b e = absurd (false≢true h)

    -- .. and where that is all that is asked of the value
    plain_on : (y : Returned Value Trouble) → Kind t y → given_out ((range, true) ∷ (unassigned, false) ∷ x) ≡ some range → given_out ((range, false) ∷ (unassigned, false) ∷ x) ≡ given_out x
        → ((u : Value) → suits t (form_of u) ≡ true → told (f u) ≡ given_out x) → told (on_turned f y) ≡ given_out ((range, ill y) ∷ (unassigned, false) ∷ x)
    plain_on (Ok u) k a n e = e u k ∙ sym n
    plain_on (Err (Bad b p)) k a n e = rw k (sym a)
    plain_on (Err Astray) k a n e = absurd k

    reads_plain : (c : Cell) → (plain c && (suits t (form_in c) && all_suit t l)) ≡ true
        → given_out ((range, true) ∷ (unassigned, false) ∷ x) ≡ some range → given_out ((range, false) ∷ (unassigned, true) ∷ x) ≡ some unassigned → given_out ((range, false) ∷ (unassigned, false) ∷ x) ≡ given_out x
        → ((u : Value) → suits t (form_of u) ≡ true → told (f u) ≡ given_out x)
        → told (reading q (outward l f) c) ≡ given_out ((range, such (λ v. ill (out_t l v)) c) ∷ (unassigned, unset c) ∷ x)
    unfolding reading
    reads_plain (Unset u) h a b n e = sym b
    reads_plain (Holds v) h a b n e =
        ap told (outward_is l f v)
        ∙ plain_on (out_t l v) (out_kind t l v (both_first (suits t (form_of v)) (all_suit t l) h) (both_second (suits t (form_of v)) (all_suit t l) h)) a n e
    reads_plain (Named m) h a b n e = absurd (false≢true h)

-- ---- operators

-- 21 alone, 21 or 22; a number always
abbrev RangedO : Outcome → Type 0
RangedO (Is v) = Unit {0}
RangedO (Fault a) = a.number ≡ range
RangedO Stray = Unit {0}

abbrev Faulty : Outcome → Type 0
Faulty (Is v) = Unit {0}
Faulty (Fault a) = (a.number ≡ range) ⊎ (a.number ≡ zero_divisor)
Faulty Stray = Unit {0}

abbrev RangedN : Outcome → Type 0
RangedN (Is v) = Unit {0}
RangedN (Fault a) = a.number ≡ range
RangedN Stray = ⊥

ranged_n : (x : Outcome) → RangedN x → RangedO x
ranged_n (Is v) h = tt
ranged_n (Fault a) h = h
ranged_n Stray h = tt

ranged_faulty : (x : Outcome) → RangedN x → Faulty x
ranged_faulty (Is v) h = tt
ranged_faulty (Fault a) h = inl h
ranged_faulty Stray h = tt

whole_n : (x : ℤ) → RangedN (whole x)
unfolding whole
whole_n x = go (ltb (mag x) 2147483648)
  where
    go : (b : Bool) → RangedN (cond b (Is (Whole x)) (Fault (answer range)))
    go true = tt
    go false = refl

real_n : (x : Float) → RangedN (real x)
unfolding real
real_n x = go (finite_b x)
  where
    go : (b : Bool) → RangedN (cond b (Is (Real x)) (Fault (answer range)))
    go true = tt
    go false = refl

entier_o : (x : Float) → RangedO (whole_of x)
unfolding whole_of
entier_o nan = refl
entier_o (inf s) = refl
entier_o (fin s m e) = ranged_n (whole (entier (fin s m e))) (whole_n (entier (fin s m e)))

convert_ranged : (t : Form) (v : Value) → RangedO (convert t v)
unfolding convert
convert_ranged Truths (Truth b) = tt
convert_ranged Truths (Whole z) = tt
convert_ranged Truths (Real r) = tt
convert_ranged Wholes (Truth b) = tt
convert_ranged Wholes (Whole z) = tt
convert_ranged Wholes (Real r) = entier_o (add binary64 r half)
convert_ranged Reals (Truth b) = tt
convert_ranged Reals (Whole z) = tt
convert_ranged Reals (Real r) = tt

unary_ranged : (o : Unary) (v : Value) → RangedO (apply1 o v)
unfolding apply1
unary_ranged Minus (Truth b) = tt
unary_ranged Minus (Whole x) = ranged_n (whole (neg_ℤ x)) (whole_n (neg_ℤ x))
unary_ranged Minus (Real r) = tt
unary_ranged Negation (Truth b) = tt
unary_ranged Negation (Whole x) = tt
unary_ranged Negation (Real r) = tt
unary_ranged Absolute (Truth b) = tt
unary_ranged Absolute (Whole x) = ranged_n (whole (pos (nat_abs x))) (whole_n (pos (nat_abs x)))
unary_ranged Absolute (Real r) = tt

cut_faulty : (x y : ℤ) → Faulty (cut x y)
unfolding cut
cut_faulty x y = go (is_zero y)
  where
    go : (b : Bool) → Faulty (cond b (Fault (answer zero_divisor)) (whole (quot_z x y)))
    go true = inr refl
    go false = ranged_faulty (whole (quot_z x y)) (whole_n (quot_z x y))

quotient_faulty : (x y : Float) → Faulty (quotient x y)
unfolding quotient
quotient_faulty x y = go (eq y nought)
  where
    go : (b : Bool) → Faulty (cond b (Fault (answer zero_divisor)) (real (div binary64 x y)))
    go true = inr refl
    go false = ranged_faulty (real (div binary64 x y)) (real_n (div binary64 x y))

numbers_faulty : (f : ℤ → ℤ → Outcome) (g : Float → Float → Outcome) → ((x y : ℤ) → Faulty (f x y)) → ((x y : Float) → Faulty (g x y)) → (b : Both) → Faulty (on_numbers f g b)
unfolding on_numbers
numbers_faulty f g p q (Truths2 x y) = tt
numbers_faulty f g p q (Wholes2 x y) = p x y
numbers_faulty f g p q (Reals2 x y) = q x y
numbers_faulty f g p q Neither = tt

truths_faulty : (f : Bool → Bool → Bool) (b : Both) → Faulty (on_truths f b)
unfolding on_truths
truths_faulty f (Truths2 x y) = tt
truths_faulty f (Wholes2 x y) = tt
truths_faulty f (Reals2 x y) = tt
truths_faulty f Neither = tt

binary_faulty : (o : Binary) (x y : Value) → Faulty (apply2 o x y)
unfolding apply2
binary_faulty Plus x y =
    numbers_faulty (λ x y. whole (x +ℤ y)) (λ x y. real (add binary64 x y))
    (λ a b. ranged_faulty (whole (a +ℤ b)) (whole_n (a +ℤ b))) (λ a b. ranged_faulty (real (add binary64 a b)) (real_n (add binary64 a b))) (both_of x y)
binary_faulty Less x y =
    numbers_faulty (λ x y. whole (x -ℤ y)) (λ x y. real (sub binary64 x y))
    (λ a b. ranged_faulty (whole (a -ℤ b)) (whole_n (a -ℤ b))) (λ a b. ranged_faulty (real (sub binary64 a b)) (real_n (sub binary64 a b))) (both_of x y)
binary_faulty Times x y =
    numbers_faulty (λ x y. whole (x *ℤ y)) (λ x y. real (mul binary64 x y))
    (λ a b. ranged_faulty (whole (a *ℤ b)) (whole_n (a *ℤ b))) (λ a b. ranged_faulty (real (mul binary64 a b)) (real_n (mul binary64 a b))) (both_of x y)
binary_faulty Over x y = numbers_faulty (λ x y. cut x y) (λ x y. Stray) (λ a b. cut_faulty a b) (λ a b. tt) (both_of x y)
binary_faulty Divide x y = numbers_faulty (λ x y. quotient (of_int binary64 x) (of_int binary64 y)) (λ x y. quotient x y) (λ a b. quotient_faulty (of_int binary64 a) (of_int binary64 b)) (λ a b. quotient_faulty a b) (both_of x y)
binary_faulty Below x y = numbers_faulty (λ x y. Is (Truth (lt_z x y))) (λ x y. Is (Truth (lt x y))) (λ a b. tt) (λ a b. tt) (both_of x y)
binary_faulty AtMost x y = numbers_faulty (λ x y. Is (Truth (le_z x y))) (λ x y. Is (Truth (le x y))) (λ a b. tt) (λ a b. tt) (both_of x y)
binary_faulty Equal x y = numbers_faulty (λ x y. Is (Truth (same x y))) (λ x y. Is (Truth (eq x y))) (λ a b. tt) (λ a b. tt) (both_of x y)
binary_faulty AtLeast x y = numbers_faulty (λ x y. Is (Truth (le_z y x))) (λ x y. Is (Truth (le y x))) (λ a b. tt) (λ a b. tt) (both_of x y)
binary_faulty Above x y = numbers_faulty (λ x y. Is (Truth (lt_z y x))) (λ x y. Is (Truth (lt y x))) (λ a b. tt) (λ a b. tt) (both_of x y)
binary_faulty Unequal x y = numbers_faulty (λ x y. Is (Truth (not (same x y)))) (λ x y. Is (Truth (not (eq x y)))) (λ a b. tt) (λ a b. tt) (both_of x y)
binary_faulty And x y = truths_faulty (λ x y. x && y) (both_of x y)
binary_faulty Or x y = truths_faulty (λ x y. x || y) (both_of x y)
binary_faulty Impl x y = truths_faulty (λ x y. not x || y) (both_of x y)
binary_faulty Equiv x y = truths_faulty (λ x y. beq x y) (both_of x y)

-- the sum of two numbers
plus_n : (x y : Value) → suits Wholes (form_of x) ≡ true → suits Wholes (form_of y) ≡ true → RangedN (apply2 Plus x y)
unfolding apply2 both_of on_numbers
plus_n (Truth b) y g h = absurd (false≢true g)
plus_n (Whole a) (Truth b) g h = absurd (false≢true h)
plus_n (Whole a) (Whole b) g h = whole_n (a +ℤ b)
plus_n (Whole a) (Real b) g h = real_n (add binary64 (of_int binary64 a) b)
plus_n (Real a) (Truth b) g h = absurd (false≢true h)
plus_n (Real a) (Whole b) g h = real_n (add binary64 a (of_int binary64 b))
plus_n (Real a) (Real b) g h = real_n (add binary64 a b)

module _ {A : Type 0} (q : ℕ) (k : Value → A) where
  one_value : (v : Outcome) → RangedO v → told (valued q (λ x. good quiet (k x)) v) ≡ given_out ((no_instruction, strays v) ∷ (range, fault range v) ∷ [])
  unfolding valued given_out
  one_value (Is x) h = refl
  one_value (Fault a) h = rw h
  one_value Stray h = refl

  two_values : (v : Outcome) → Faulty v → told (valued q (λ x. good quiet (k x)) v) ≡ given_out ((no_instruction, strays v) ∷ (range, fault range v) ∷ (zero_divisor, fault zero_divisor v) ∷ [])
  unfolding valued given_out
  two_values (Is x) h = refl
  two_values (Fault a) (inl h) = rw h
  two_values (Fault a) (inr h) = rw h
  two_values Stray h = refl

  sum_value : (v : Outcome) → RangedN v → told (valued q (λ x. good quiet (k x)) v) ≡ given_out ((range, false) ∷ (range, fault range v) ∷ (unassigned, false) ∷ [])
  unfolding valued given_out
  sum_value (Is x) h = refl
  sum_value (Fault a) h = rw h
  sum_value Stray h = absurd h

-- a step element's test has no fault
picked : (b : Bool) (m n : Two) → told (picking (Truth b) m n) ≡ none
unfolding picking
picked true m n = refl
picked false m n = refl

test_none : (q : ℕ) (m n : Two) (v s y : Value) → suits Wholes (form_of v) ≡ true → suits Wholes (form_of s) ≡ true → suits Wholes (form_of y) ≡ true
    → told (valued q (λ b. picking b m n) (leaves v s y)) ≡ none
unfolding valued past_by both_of
test_none q m n (Truth b) s y f g h = absurd (false≢true f)
test_none q m n (Whole a) (Truth b) y f g h = absurd (false≢true g)
test_none q m n (Real a) (Truth b) y f g h = absurd (false≢true g)
test_none q m n (Whole a) (Whole b) (Truth c) f g h = absurd (false≢true h)
test_none q m n (Whole a) (Real b) (Truth c) f g h = absurd (false≢true h)
test_none q m n (Real a) (Whole b) (Truth c) f g h = absurd (false≢true h)
test_none q m n (Real a) (Real b) (Truth c) f g h = absurd (false≢true h)
test_none q m n (Whole a) (Whole b) (Whole c) f g h = picked _ m n
test_none q m n (Whole a) (Whole b) (Real c) f g h = picked _ m n
test_none q m n (Whole a) (Real b) (Whole c) f g h = picked _ m n
test_none q m n (Whole a) (Real b) (Real c) f g h = picked _ m n
test_none q m n (Real a) (Whole b) (Whole c) f g h = picked _ m n
test_none q m n (Real a) (Whole b) (Real c) f g h = picked _ m n
test_none q m n (Real a) (Real b) (Whole c) f g h = picked _ m n
test_none q m n (Real a) (Real b) (Real c) f g h = picked _ m n

-- a condition
truth_told : (v : Value) (m n : Two) → told (picking v m n) ≡ given_out ((no_instruction, no_truth v) ∷ [])
unfolding picking given_out
truth_told (Truth true) m n = refl
truth_told (Truth false) m n = refl
truth_told (Whole z) m n = refl
truth_told (Real r) m n = refl

-- a real constant
half_told : (h : ℕ) (v : Value) (k : Value → Data) → told (heightened v h (λ u. good quiet (k u))) ≡ given_out ((no_instruction, no_half h v) ∷ [])
unfolding heightened given_out
half_told h (Truth b) k = refl
half_told h (Whole z) k = guarded (finite_b (joined z h)) _ [] refl (λ e. none_due)
half_told h (Real r) k = refl

suits_self : (t : Form) → suits t t ≡ true
suits_self Truths = refl
suits_self Wholes = refl
suits_self Reals = refl

-- ---- each instruction

-- a value is missing
lost : (A : Type 0) (g : Bool) (l : Dues) → is_due limit l ≡ false → told {A = A} (guard g wrong) ≡ given_out ((no_instruction, not g) ∷ (no_instruction, true) ∷ l)
unfolding guard given_out
lost A true l e = rw e
lost A false l e = rw e

-- cells that are among those in use
among : (n : ℕ) (w : List Cell) (x : Data) → n ≤ length w → told (guard (leb n (length w)) (good quiet x)) ≡ none
unfolding guard
among n w x h = rw (le-leb n (length w) h)

module _ (ps : List ℕ) (fs : List Activation) where
  -- the demands of what is to be done, with the limit not reached
  abbrev Due : Data → List Demand → Option ℕ
  Due d l = given_out (due ps fs d l)

  -- a value is taken: the newest cell holds one; and two
  module _ {A : Type 0} where
    takes : (x : List Cell → List Demand) (z : (w : List Cell) (d : Data) → is_due limit (due ps fs d (x w)) ≡ false) (f : Value → Data → Result A) (w : List Cell) (h : List Value) (a : ℕ) (l : Lent)
        → ((v : Value) (w : List Cell) → told (f v (contents w h a l)) ≡ Due (contents (Holds v ∷ w) h a l) (x (Holds v ∷ w)))
        → told (guard (leb (floor fs + 1) (length w)) (one f (contents w h a l))) ≡ Due (contents w h a l) (own 1 ∷ values 1 ∷ x w)
    unfolding newest on_value
    takes x z f [] h a l e = lost A (leb (floor fs + 1) 0) _ (z [] (contents [] h a l))
    takes x z f (Unset t ∷ w) h a l e = lost A (leb (floor fs + 1) (length (Unset t ∷ w))) _ (z (Unset t ∷ w) (contents (Unset t ∷ w) h a l))
    takes x z f (Holds v ∷ w) h a l e = guarded (leb (floor fs + 1) (length (Holds v ∷ w))) _ _ (z (Holds v ∷ w) (contents (Holds v ∷ w) h a l)) (λ g. e v w ∙ sym (no_29 _))
    takes x z f (Named m ∷ w) h a l e = lost A (leb (floor fs + 1) (length (Named m ∷ w))) _ (z (Named m ∷ w) (contents (Named m ∷ w) h a l))

    takes_two : (x : List Demand) (z : (d : Data) → is_due limit (due ps fs d x) ≡ false) (f : Value → Value → Data → Result A) (w : List Cell) (h : List Value) (a : ℕ) (l : Lent)
        → ((v y : Value) (w : List Cell) → told (f v y (contents w h a l)) ≡ Due (contents (Holds y ∷ Holds v ∷ w) h a l) x)
        → told (guard (leb (floor fs + 2) (length w)) (two f (contents w h a l))) ≡ Due (contents w h a l) (own 2 ∷ values 2 ∷ x)
    unfolding newest on_value
    takes_two x z f [] h a l e = lost A (leb (floor fs + 2) 0) _ (z (contents [] h a l))
    takes_two x z f (Unset t ∷ w) h a l e = lost A (leb (floor fs + 2) (length (Unset t ∷ w))) _ (z (contents (Unset t ∷ w) h a l))
    takes_two x z f (Named m ∷ w) h a l e = lost A (leb (floor fs + 2) (length (Named m ∷ w))) _ (z (contents (Named m ∷ w) h a l))
    takes_two x z f (Holds y ∷ []) h a l e = lost A (leb (floor fs + 2) (length (Holds y ∷ []))) _ (z (contents (Holds y ∷ []) h a l))
    takes_two x z f (Holds y ∷ Unset t ∷ w) h a l e = lost A (leb (floor fs + 2) (length (Holds y ∷ Unset t ∷ w))) _ (z (contents (Holds y ∷ Unset t ∷ w) h a l))
    takes_two x z f (Holds y ∷ Holds v ∷ w) h a l e = guarded (leb (floor fs + 2) (length (Holds y ∷ Holds v ∷ w))) _ _ (z (contents (Holds y ∷ Holds v ∷ w) h a l)) (λ g. e v y w ∙ sym (no_29 _))
    takes_two x z f (Holds y ∷ Named m ∷ w) h a l e = lost A (leb (floor fs + 2) (length (Holds y ∷ Named m ∷ w))) _ (z (contents (Holds y ∷ Named m ∷ w) h a l))

  -- a new cell
  roomy : (g : Bool) (q : ℕ) (x : Cell) (w : List Cell) (h : List Value) (a : ℕ) (l : Lent) → told (guard g (new_cells q (x ∷ []) (contents w h a l))) ≡ given_out ((no_instruction, not g) ∷ (noCell, not (leb (length w + length h + 1) l.cells_lent)) ∷ [])
  unfolding new_cells
  roomy g q x w h a l = guarded g _ _ refl (λ e. checked (leb (length w + length h + 1) l.cells_lent) noCell q quiet _ last_26 none_26)

  load_first : (q : ℕ) (x : Target) (d : Data) → told (guard (leb (floor fs + 0) (cells d)) (work (load q x) d)) ≡ Due d (asks_act d (load q x))
  unfolding work new_cells
  load_first q (to c l) (contents w h a n) =
      let d : Data = contents w h a n in
      let t = form_in (look c d) in
      let r = not (leb (length w + length h + 1) n.cells_lent) in
      guarded (leb (floor fs + 0) (length w)) _ _ refl
      (λ e. ap told (reach_guard t c l d _)
      ∙ guarded (reachable t (to c l) d) _ _ refl
      (λ g. reads_plain t q l _ (λ u. false) _ (look c d) (reach_second t c l d g) (read_21 r) (read_23 r) (read_on r) (λ u k. checked (leb (length w + length h + 1) n.cells_lent) noCell q quiet _ last_26 none_26)))

  -- a value goes to a target
  goes_to : {A : Type 0} (q : ℕ) (t : Form) (c : ℕ) (l : List Link) (v : Value) (d : Data) (ev : Event) (f : Data → A) → suits t (form_of v) ≡ true → reachable t (to c l) d ≡ true
      → told (saving q (to c l) v d (λ x. good ev (f x))) ≡ given_out ((range, ill (in_t q (form_in (look c d)) l v)) ∷ [])
  goes_to q t c l v d ev f s g =
      let r = both_second (plain (look c d)) (suits t (form_in (look c d)) && all_suit t l) (reach_second t c l d g) in
      ap told (inward_is q (form_in (look c d)) l (λ u. good ev (f (put c u d))) v)
      ∙ stores ev (λ u. f (put c u d)) (in_t q (form_in (look c d)) l v) (in_kind t q (form_in (look c d)) l v s (both_first (suits t (form_in (look c d))) (all_suit t l) r) (both_second (suits t (form_in (look c d))) (all_suit t l) r))

  store_first : (q : ℕ) (x : Target) (d : Data) → told (guard (leb (floor fs + 1) (cells d)) (work (store q x) d)) ≡ Due d (asks_act d (store q x))
  unfolding work
  store_first q (to c l) (contents w h a n) =
      takes (λ w. reached 1 (form_in (newest_cell w)) (to c l) ∷ stored_so q (to c l) ∷ []) (λ w d. refl) _ w h a n
      λ v w. ap told (reach_guard (form_of v) c l (contents w h a n) _) ∙ guarded (reachable (form_of v) (to c l) (contents w h a n)) _ _ refl (λ g. goes_to q (form_of v) c l v (contents w h a n) quiet (λ x. x) (suits_self (form_of v)) g)

  assign_first : (q : ℕ) (x : Target) (d : Data) → told (guard (leb (floor fs + 1) (cells d)) (work (assign q x) d)) ≡ Due d (asks_act d (assign q x))
  unfolding work
  assign_first q (to c l) (contents w h a n) =
      takes (λ w. reached 1 (form_in (newest_cell w)) (to c l) ∷ stored_so q (to c l) ∷ []) (λ w d. refl) _ w h a n
      λ v w. ap told (reach_guard (form_of v) c l (contents w h a n) _) ∙ guarded (reachable (form_of v) (to c l) (contents w h a n)) _ _ refl (λ g. goes_to q (form_of v) c l v (contents w h a n) quiet (λ x. back v x) (suits_self (form_of v)) g)

  rest_first : (q c : ℕ) (l : List Link) (w : List Cell) (h : List Value) (a : ℕ) (n : Lent) (z : ℤ) (i : List ℤ) → reachable Wholes (to c l) (contents w h a n) ≡ true
      → told (saving q (to c l) (Whole z) (rest i (contents w h a n)) (good took)) ≡ given_out ((range, ill (in_t q (form_in (look c (contents w h a n))) l (Whole z))) ∷ [])
  unfolding rest look
  rest_first q c l w h a n z i g = goes_to q Wholes c l (Whole z) (rest i (contents w h a n)) took (λ x. x) refl g

  taken_first : (q c : ℕ) (l : List Link) (d : Data) (i : List ℤ) → reachable Wholes (to c l) d ≡ true
      → told (taking q (to c l) d i) ≡ given_out ((input_ended, none_of i) ∷ (range, first_ill (λ z. in_t q (form_in (look c d)) l (Whole z)) i) ∷ [])
  unfolding taking
  taken_first q c l d [] g = sym (ended_24 false)
  taken_first q c l (contents w h a n) (z ∷ i) g = rest_first q c l w h a n z i g ∙ sym (no_24 _)

  receive_first : (q : ℕ) (x : Target) (d : Data) → told (guard (leb (floor fs + 1) (cells d)) (work (receive q x) d)) ≡ Due d (asks_act d (receive q x))
  unfolding work input
  receive_first q (to c l) (contents w h a n) =
      takes (λ w. reached 1 Wholes (to c l) ∷ line 0 ∷ one_in 0 ∷ a_number ∷ taken_so q (to c l) ∷ []) (λ w d. refl) _ w h a n
      λ k w. ap told (reach_guard Wholes c l (contents w h a n) _)
      ∙ guarded (reachable Wholes (to c l) (contents w h a n)) _ _ refl
      (λ g. heard q k _ _ refl refl (taken_first q c l (contents w h a n) n.input g))

  send_one : (q : ℕ) (t : Form) (k v : Value) (d : Data) → told (written t v (λ e. on_channel q k (writing q e d))) ≡ given_out ((no_instruction, not_of t v) ∷ (no_instruction, no_line k) ∷ (channel, other_line k) ∷ (output_full, not (leb 3 (space d))) ∷ [])
  unfolding written writing
  send_one q Truths k v d = sym (yes_29 _ refl)
  send_one q Wholes k (Truth b) d = sym (yes_29 _ refl)
  send_one q Wholes k (Whole z) d = heard q k _ _ refl refl (checked (leb 3 (space d)) output_full q _ _ last_25 none_25) ∙ sym (no_29 _)
  send_one q Wholes k (Real r) d = sym (yes_29 _ refl)
  send_one q Reals k (Truth b) d = sym (yes_29 _ refl)
  send_one q Reals k (Whole z) d = sym (yes_29 _ refl)
  send_one q Reals k (Real r) d = heard q k _ _ refl refl (checked (leb 3 (space d)) output_full q _ _ last_25 none_25) ∙ sym (no_29 _)

  sum_first : (q : ℕ) (x : Target) (d : Data) → told (guard (leb (floor fs + 1) (cells d)) (work (added q x) d)) ≡ Due d (asks_act d (added q x))
  unfolding work held
  sum_first q (to c l) (contents w [] a n) =
      takes (λ w. a_step ∷ a_number_taken ∷ reached 1 Wholes (to c l) ∷ read_so 1 (to c l) ∷ sum (to c l) ∷ assigned 1 c ∷ []) (λ w d. refl) _ w [] a n λ s w. sym (yes_29 _ refl)
  sum_first q (to c l) (contents w (y ∷ h) a n) =
      takes (λ w. a_step ∷ a_number_taken ∷ reached 1 Wholes (to c l) ∷ read_so 1 (to c l) ∷ sum (to c l) ∷ assigned 1 c ∷ []) (λ w d. refl) _ w (y ∷ h) a n
      λ s w. guarded (suits Wholes (form_of s)) _ _ refl
      (λ e. ap told (reach_guard Wholes c l (contents w (y ∷ h) a n) _)
      ∙ guarded (reachable Wholes (to c l) (contents w (y ∷ h) a n)) _ _ refl
      (λ g. reads Wholes q l _ (λ u. fault range (apply2 Plus u s)) [] (look c (contents w (y ∷ h) a n)) (reach_second Wholes c l (contents w (y ∷ h) a n) g) sum_21 sum_23
      (λ u k. sum_value q (λ z. back z (hold s (unhold (contents w (y ∷ h) a n)))) (apply2 Plus u s) (plus_n u s k e))))
      ∙ sym (no_29 _)

  lend_first : (x : Target) (d : Data) → told (guard (leb (floor fs + 0) (cells d)) (work (lend x) d)) ≡ Due d (asks_act d (lend x))
  unfolding work
  lend_first (to c l) (contents w h a n) =
      guarded (leb (floor fs + 0) (length w)) _ _ refl
      (λ e. ap told (guard_and (ltb c (length w)) (plain (look c (contents w h a n))) _ _ refl) ∙ guarded (ltb c (length w) && plain (look c (contents w h a n))) _ [] refl (λ g. none_due))

  -- f: what an operand means
  act_first : (f : Location → Target) (a : Act Location) (d : Data) → told (guard (leb (floor fs + downs a) (cells d)) (work (act_on f a) d)) ≡ Due d (asks_act d (act_on f a))
  unfolding work written given_out space
  act_first f (push q v) (contents w h a l) = roomy (leb (floor fs + 0) (length w)) q (Holds v) w h a l
  act_first f (heighten n) (contents w h a l) = takes (λ w. low_half n ∷ []) (λ w d. refl) _ w h a l λ v w. half_told n v (λ u. back u (contents w h a l))
  act_first f (load q x) d = load_first q (f x) d
  act_first f (store q x) d = store_first q (f x) d
  act_first f (assign q x) d = assign_first q (f x) d
  act_first f (reserve q t) (contents w h a l) = roomy (leb (floor fs + 0) (length w)) q (Unset t) w h a l
  act_first f forget (contents w h a l) = takes (λ w. []) (λ w d. refl) _ w h a l λ v w. none_due
  act_first f (receive q x) d = receive_first q (f x) d
  act_first f (send q t) (contents w h a l) = takes_two (of_type t ∷ line 1 ∷ one_in 1 ∷ a_place ∷ []) (λ d. refl) _ w h a l λ k v w. send_one q t k v (contents w h a l)
  act_first f keep (contents w h a l) = takes (λ w. []) (λ w d. refl) _ w h a l λ v w. none_due
  act_first f (unary q o) (contents w h a l) = takes (λ w. takes1 o ∷ result1 o ∷ []) (λ w d. refl) _ w h a l λ x w. one_value q (λ v. back v (contents w h a l)) (apply1 o x) (unary_ranged o x)
  act_first f (binary q o) (contents w h a l) =
      takes_two (takes2 o ∷ result2 o ∷ divisor o ∷ []) (λ d. refl) _ w h a l λ x y w. two_values q (λ v. back v (contents w h a l)) (apply2 o x y) (binary_faulty o x y)
  act_first f (lend x) d = lend_first (f x) d
  act_first f (tested q) (contents w h a l) = takes (λ w. line 0 ∷ one_in 0 ∷ []) (λ w d. refl) _ w h a l λ k w. heard q k _ [] refl refl none_due
  act_first f (added q x) d = sum_first q (f x) d
  act_first f (turn q t) (contents w h a l) = takes (λ w. becomes t ∷ converted t ∷ []) (λ w d. refl) _ w h a l λ x w. one_value q (λ v. back v (contents w h a l)) (convert t x) (convert_ranged t x)

  upto_first : (q : ℕ) (x : Target) (d : Data) → told (guard (leb (floor fs + 1) (cells d)) (test (upto q x) d)) ≡ Due d (asks_test (upto q x))
  unfolding test held
  upto_first q (to c l) (contents w [] a n) =
      takes (λ w. a_step ∷ a_number_taken ∷ a_number_held ∷ reached 1 Wholes (to c l) ∷ read_so 1 (to c l) ∷ assigned 1 c ∷ []) (λ w d. refl) _ w [] a n λ y w. sym (yes_29 _ refl)
  upto_first q (to c l) (contents w (s ∷ h) a n) =
      takes (λ w. a_step ∷ a_number_taken ∷ a_number_held ∷ reached 1 Wholes (to c l) ∷ read_so 1 (to c l) ∷ assigned 1 c ∷ []) (λ w d. refl) _ w (s ∷ h) a n
      λ y w. guarded (suits Wholes (form_of y)) _ _ refl
      (λ e. guarded (suits Wholes (form_of s)) _ _ refl
      (λ j. ap told (reach_guard Wholes c l (contents w (s ∷ h) a n) _)
      ∙ guarded (reachable Wholes (to c l) (contents w (s ∷ h) a n)) _ _ refl
      (λ g. reads_plain Wholes q l _ (λ u. false) [] (look c (contents w (s ∷ h) a n)) (reach_second Wholes c l (contents w (s ∷ h) a n) g) test_21 test_23 test_on_lem
      (λ u k. test_none q _ _ u s y k j e ∙ none_due))))
      ∙ sym (no_29 _)

  test_first : (f : Location → Target) (a : Test Location) (d : Data) → told (guard (leb (floor fs + downs_t a) (cells d)) (test (test_on f a) d)) ≡ Due d (asks_test (test_on f a))
  unfolding test
  test_first f condition (contents w h a l) = takes (λ w. a_truth ∷ []) (λ w d. refl) _ w h a l λ v w. truth_told v _ _
  test_first f (upto q x) d = upto_first q (f x) d

  opens : (r : Bool) (q : ℕ) (x : Data) → told (check r noCell q (good quiet x)) ≡ given_out ((noCell, not r) ∷ [])
  opens r q x = checked r noCell q quiet x last_26 none_26

  open-first : (q : ℕ) (n : Counted) (d : Data) → told (open_block q n d) ≡ Due d (new (in_all n) ∷ [])
  unfolding open_block new_cells
  open-first q n (contents w h a l) = rw (unset_length n) (opens (leb (length w + length h + in_all n) l.cells_lent) q _)

  name_first : (q n : ℕ) (d : Data) → told (name_cell q n d) ≡ Due d (new 1 ∷ [])
  unfolding name_cell new_cells
  name_first q n (contents w h a l) = opens (leb (length w + length h + 1) l.cells_lent) q _

  -- the cells above the activation's first are among those in use
  close_first : (n : ℕ) (d : Data) → told (guard (leb (floor fs + n) (cells d)) (close_block n d)) ≡ Due d (own n ∷ [])
  unfolding close_block
  close_first n (contents w h a l) = guarded (leb (floor fs + n) (length w)) _ [] refl (λ e. among n w _ (omega (arith, leb→le (floor fs + n) (length w) (subst T (sym e) tt))) ∙ none_due)

  enter_first : (q : ℕ) (d : Data) → told (enter q d) ≡ Due d (one_more ∷ [])
  unfolding enter
  enter_first q (contents w h a l) = checked (ltb a 256) activations q quiet _ last_27 none_27

  call_first : (q n : ℕ) (d : Data) → told (guard (leb (floor fs + n) (cells d)) (enter q d)) ≡ Due d (own n ∷ one_more ∷ [])
  call_first q n d = guarded (leb (floor fs + n) (cells d)) _ _ refl (λ e. enter_first q d)

  -- for a store no formal is on the way yet
  begin_first : (t : Fate) (q : ℕ) (d : Data) → told (enter q (begins t d)) ≡ Due d (one_more ∷ [])
  unfolding enter seeking
  begin_first kept q d = enter_first q d
  begin_first gone q d = enter_first q d
  begin_first stored q (contents w h a l) = checked (ltb a 256) activations q quiet _ last_27 none_27

results : (q : ℕ) (c : Cell) (w : List Cell) (h : List Value) (a : ℕ) (l : Lent) → told (given q (c ∷ w) h a l) ≡ given_out ((no_instruction, not (plain c)) ∷ (unassigned, unset c) ∷ [])
unfolding given given_out
results q (Unset t) w h a l = refl
results q (Holds v) w h a l = refl
results q (Named m) w h a l = refl

-- a return, with the result that is needed and without
returns : (g p b : Bool) (x : Result Data) → (T g → told x ≡ given_out ((no_instruction, not p) ∷ (unassigned, b) ∷ [])) → told (guard g x) ≡ given_out ((no_instruction, not (g && p)) ∷ (unassigned, b) ∷ [])
unfolding guard given_out
returns true p b x e = e tt
returns false p b x e = refl

goes_back : (g : Bool) (x : Data) → told (guard g (good quiet x)) ≡ given_out ((no_instruction, not g) ∷ (unassigned, false) ∷ [])
unfolding guard given_out
goes_back true x = refl
goes_back false x = refl

-- the result's cell is the first of those that stay
return_first : (ps : List ℕ) (r b k : ℕ) (f : Fate) (q : ℕ) (ps' : List ℕ) (fs : List Activation) (y : Link) (d : Data) → told (leave f y q b d) ≡ Due ps (activation r b k f q ps' ∷ fs) d (some_activation ∷ given_back ∷ [])
unfolding leave
return_first ps r b k kept q ps' fs y (contents w h a l) =
    returns (ltb b (length w)) (plain (get_or w (length w - suc b) (Unset Wholes))) (unset (get_or w (length w - suc b) (Unset Wholes))) (given q (drop (length w - suc b) w) h (a - 1) l) λ e.
    let n : length w - suc b < length w = omega (arith, leb→le (suc b) (length w) e) in
    rw (drop-cons w (length w - suc b) (Unset Wholes) n) (results q (get_or w (length w - suc b) (Unset Wholes)) (drop (suc (length w - suc b)) w) h (a - 1) l)
return_first ps r b k gone q ps' fs y (contents w h a l) = goes_back (leb b (length w)) _
return_first ps r b k stored q ps' fs y (contents w h a l) = goes_back (leb b (length w)) _

-- a return position
positions : (t pc : ℕ) (b : Bool) (m : Running) → answered (suc t) (cond b (next 1 quiet m) (halt (stray pc))) ≡ given_out ((no_instruction, not b) ∷ [])
unfolding given_out
positions t pc true m = refl
positions t pc false m = refl

-- a name formal's actual is worked out where the cell is a name formal's
work_first : (t : ℕ) (c : Cell) (f : ℕ) (e : Fate) (q q' pc : ℕ) (ps : List ℕ) (fs : List Activation) (d : Data)
    → answered (suc t) (work_out c f e q q' pc ps fs d) ≡ given_out ((no_instruction, unnamed c) ∷ (activations, fails ps fs d one_more) ∷ [])
unfolding work_out given_out
work_first t (Unset i) f e q q' pc ps fs d = refl
work_first t (Holds v) f e q q' pc ps fs d = refl
work_first t (Named m) f e q q' pc ps fs d = lift_told t pc _ _ ∙ begin_first ps fs e q d

exec_first : (t : ℕ) (i : Instruction) (pc : ℕ) (ps : List ℕ) (fs : List Activation) (d : Data) → answered (suc t) (exec i pc ps fs d) ≡ Due ps fs d (asks fs d i)
unfolding exec given_out
exec_first t END pc ps fs d = refl
exec_first t (DO a) pc ps fs d = lift_told t pc _ _ ∙ act_first ps fs (target_in fs d) a d
exec_first t (IF a l) pc ps fs d = lift_told t pc _ _ ∙ test_first ps fs (target_in fs d) a d
exec_first t (JUMP l) pc ps fs d = refl
exec_first t (ENTER q n) pc ps fs d = lift_told t pc _ _ ∙ open-first ps fs q n d
exec_first t (LEAVE n) pc ps fs d = lift_told t pc _ _ ∙ close_first ps fs n d
exec_first t (CALL q l u n f) pc ps fs d = lift_told t pc _ _ ∙ call_first ps fs q n d
exec_first t (RETURN x) pc ps [] (contents w h a l) = refl
exec_first t (RETURN x) pc ps (activation r b l f q ps' ∷ fs) d = lift_told t pc _ _ ∙ return_first ps r b l f q ps' fs x d
exec_first t (GO m l r) pc ps fs d = positions t pc (eqb m (length ps)) _
exec_first t (NEXT m) pc [] fs d = rw (eqb-suc-zero m)
exec_first t (NEXT m) pc (r ∷ ps) fs d = rw (eqb-suc-suc m (length ps)) (positions t pc (eqb m (length ps)) _)
exec_first t (NAME q l) pc ps fs d = lift_told t pc _ _ ∙ name_first ps fs q (suc pc) d
exec_first t (WORK q u o) pc ps fs d = work_first t (cell_at (base fs (walk fs (length fs) u) + o) d) (walk fs (length fs) u) kept q q pc ps fs d
exec_first t (SEEK q u o) pc ps fs d = work_first t (cell_at (base fs (walk fs (length fs) u) + o) d) (walk fs (length fs) u) stored q q pc ps fs d
exec_first t (PASS q u o) pc ps [] d = refl
exec_first t (PASS q u o) pc ps (x ∷ fs) d =
    let f = walk (x ∷ fs) (length (x ∷ fs)) u in
    work_first t (cell_at (base (x ∷ fs) f + o) d) f stored q (began x) pc ps (x ∷ fs) d
exec_first t REFUSE pc ps [] d = refl
exec_first t REFUSE pc ps (x ∷ fs) d = refl

obey_first : (t : ℕ) (i : Option Instruction) (pc : ℕ) (ps : List ℕ) (fs : List Activation) (d : Data) → answered t (obey i pc ps fs d) ≡ first order (due ps fs d (left t ∷ asked fs d i))
unfolding obey given_out
obey_first zero i pc ps fs d = refl
obey_first (suc t) none pc ps fs d = refl
obey_first (suc t) (some i) pc ps fs d = exec_first t i pc ps fs d

-- ---- the law, for any words and any state

-- what stands at the counter asks for this, with t instructions left
abbrev pub demands : List ℕ → ℕ → Running → List (ℕ × Bool)
demands words t (running pc ps fs d) = due ps fs d (left t ∷ asked fs d (fetch words pc))

pub in_order : (words : List ℕ) (t : ℕ) (m : Running) → answered t (step words m) ≡ first order (demands words t m)
unfolding step
in_order words t (running pc ps fs d) = obey_first t (fetch words pc) pc ps fs d

-- .. and it is what the run answers
pub run_answers : (words : List ℕ) (t n : ℕ) (m : Running) (o : Trace) (a : ℕ) → first order (demands words t m) ≡ some a → stop_number (finish (run (step words) t m n o)).stop ≡ a
unfolding run finish
run_answers words zero n m o a e = let z : answered 0 (step words m) ≡ some a = in_order words 0 m ∙ e in cc
run_answers words (suc t) n m o a e = go (step words m) (in_order words (suc t) m ∙ e)
  where
    go : (x : Out Running) → answered (suc t) x ≡ some a → stop_number (finish (after x n o (run (step words) t))).stop ≡ a
    go (halt q) e = cc
    go (next k y m') e = absurd (let z : ◌≡◌ {A = ℕ} 0 1 = cc in omega arith)

-- ---- "24 or 25", "21 to 23": two of them are never due together, so that their order among themselves decides nothing

abbrev pub Never : ℕ → ℕ → List (ℕ × Bool) → Type 0
Never a b l = (is_due a l && is_due b l) ≡ false

abbrev pub Apart : List (ℕ × Bool) → Type 0
Apart l = Never input_ended output_full l × Never range zero_divisor l × Never range unassigned l × Never zero_divisor unassigned l

and_no : (b : Bool) → (b && false) ≡ false
and_no true = refl
and_no false = refl

one_fault : (v : Outcome) → Faulty v → ((fault range v || false) && (fault zero_divisor v || false)) ≡ false
one_fault (Is x) h = refl
one_fault (Fault a) (inl h) = rw h
one_fault (Fault a) (inr h) = rw h
one_fault Stray h = refl

unset_or_so : (f : Value → Bool) (c : Cell) → ((such f c || false) && (unset c || false)) ≡ false
unset_or_so f (Unset t) = refl
unset_or_so f (Holds v) = and_no (f v || false)
unset_or_so f (Named m) = refl

unset_or_two : (f g : Value → Bool) (c : Cell) → ((such f c || (such g c || false)) && (unset c || false)) ≡ false
unset_or_two f g (Unset t) = refl
unset_or_two f g (Holds v) = and_no (f v || (g v || false))
unset_or_two f g (Named m) = refl

abbrev asked_of : List ℕ → List Activation → ℕ → Data → Act Target → List (ℕ × Bool)
asked_of ps fs t d a = due ps fs d (left t ∷ asks_act d a)

module _ (ps : List ℕ) (fs : List Activation) (t : ℕ) where
  act_apart : (a : Act Target) (d : Data) → Apart (due ps fs d (left t ∷ asks_act d a))
  act_apart (push q v) d = (refl, refl, refl, refl)
  act_apart (heighten n) d = (refl, refl, refl, refl)
  act_apart (load q x) d = (refl, and_no (is_due range (asked_of ps fs t d (load q x))), unset_or_so (λ v. ill (out_t (links_to x) v)) (look (cell_of x) (without 0 d)), refl)
  act_apart (store q x) d = (refl, and_no (is_due range (asked_of ps fs t d (store q x))), and_no (is_due range (asked_of ps fs t d (store q x))), refl)
  act_apart (assign q x) d = (refl, and_no (is_due range (asked_of ps fs t d (assign q x))), and_no (is_due range (asked_of ps fs t d (assign q x))), refl)
  act_apart (reserve q f) d = (refl, refl, refl, refl)
  act_apart forget d = (refl, refl, refl, refl)
  act_apart (receive q x) d = (and_no (is_due input_ended (asked_of ps fs t d (receive q x))), and_no (is_due range (asked_of ps fs t d (receive q x))), and_no (is_due range (asked_of ps fs t d (receive q x))), refl)
  act_apart (send q f) d = (refl, refl, refl, refl)
  act_apart keep d = (refl, refl, refl, refl)
  act_apart (unary q o) d = (refl, and_no (is_due range (asked_of ps fs t d (unary q o))), and_no (is_due range (asked_of ps fs t d (unary q o))), refl)
  act_apart (binary q o) (contents [] h a l) = (refl, refl, refl, refl)
  act_apart (binary q o) (contents (Unset f ∷ w) h a l) = (refl, refl, refl, refl)
  act_apart (binary q o) (contents (Named m ∷ w) h a l) = (refl, refl, refl, refl)
  act_apart (binary q o) (contents (Holds y ∷ []) h a l) = (refl, refl, refl, refl)
  act_apart (binary q o) (contents (Holds y ∷ Named m ∷ w) h a l) = (refl, refl, refl, refl)
  act_apart (binary q o) (contents (Holds y ∷ Unset f ∷ w) h a l) = (refl, refl, refl, refl)
  act_apart (binary q o) (contents (Holds y ∷ Holds x ∷ w) h a l) = (refl, one_fault (apply2 o x y) (binary_faulty o x y), and_no (is_due range (asked_of ps fs t (contents (Holds y ∷ Holds x ∷ w) h a l) (binary q o))), and_no (is_due zero_divisor (asked_of ps fs t (contents (Holds y ∷ Holds x ∷ w) h a l) (binary q o))))
  act_apart (lend x) d = (refl, refl, refl, refl)
  act_apart (tested q) d = (refl, refl, refl, refl)
  act_apart (added q x) (contents [] h a l) = (refl, and_no (is_due range (asked_of ps fs t (contents [] h a l) (added q x))), unset_or_so (λ v. ill (out_t (links_to x) v)) (look (cell_of x) (contents [] h a l)), refl)
  act_apart (added q x) (contents (Unset f ∷ w) h a l) = (refl, and_no (is_due range (asked_of ps fs t (contents (Unset f ∷ w) h a l) (added q x))), unset_or_so (λ v. ill (out_t (links_to x) v)) (look (cell_of x) (contents w h a l)), refl)
  act_apart (added q x) (contents (Named m ∷ w) h a l) = (refl, and_no (is_due range (asked_of ps fs t (contents (Named m ∷ w) h a l) (added q x))), unset_or_so (λ v. ill (out_t (links_to x) v)) (look (cell_of x) (contents w h a l)), refl)
  act_apart (added q x) (contents (Holds s ∷ w) h a l) =
      (refl, and_no (is_due range (asked_of ps fs t (contents (Holds s ∷ w) h a l) (added q x))), unset_or_two (λ v. ill (out_t (links_to x) v)) (λ v. then_ill (λ u. fault range (apply2 Plus u s)) (out_t (links_to x) v)) (look (cell_of x) (contents w h a l)), refl)
  act_apart (turn q f) d = (refl, and_no (is_due range (asked_of ps fs t d (turn q f))), and_no (is_due range (asked_of ps fs t d (turn q f))), refl)

  test_apart : (a : Test Target) (d : Data) → Apart (due ps fs d (left t ∷ asks_test a))
  test_apart condition d = (refl, refl, refl, refl)
  test_apart (upto q x) d = (refl, and_no (is_due range (due ps fs d (left t ∷ asks_test (upto q x)))), unset_or_so (λ v. ill (out_t (links_to x) v)) (look (cell_of x) (without 1 d)), refl)

  asked_apart : (i : Option Instruction) (d : Data) → Apart (due ps fs d (left t ∷ asked fs d i))
  asked_apart none d = (refl, refl, refl, refl)
  asked_apart (some END) d = (refl, refl, refl, refl)
  asked_apart (some (DO a)) d = act_apart (act_on (target_in fs d) a) d
  asked_apart (some (IF a l)) d = test_apart (test_on (target_in fs d) a) d
  asked_apart (some (JUMP l)) d = (refl, refl, refl, refl)
  asked_apart (some (ENTER q n)) d = (refl, refl, refl, refl)
  asked_apart (some (LEAVE n)) d = (refl, refl, refl, refl)
  asked_apart (some (CALL q l u n f)) d = (refl, refl, refl, refl)
  asked_apart (some (RETURN x)) d = (refl, refl, refl, refl)
  asked_apart (some (GO m l r)) d = (refl, refl, refl, refl)
  asked_apart (some (NEXT m)) d = (refl, refl, refl, refl)
  asked_apart (some (NAME q l)) d = (refl, refl, refl, refl)
  asked_apart (some (WORK q u o)) d = (refl, refl, refl, refl)
  asked_apart (some (SEEK q u o)) d = (refl, refl, refl, refl)
  asked_apart (some (PASS q u o)) d = (refl, refl, refl, refl)
  asked_apart (some REFUSE) d = (refl, refl, refl, refl)

pub apart : (words : List ℕ) (t : ℕ) (m : Running) → Apart (demands words t m)
apart words t (running pc ps fs d) = asked_apart ps fs t (fetch words pc) d
