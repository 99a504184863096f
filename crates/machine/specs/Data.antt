-- What the source rules and the machine share: the data, and the operations on them with their faults. An operation takes a cell's number,
-- never a scope, a level or an address. Assumes nothing: these are definitions.
use Rattle.std.specs.Prelude.{ℕ, suc, ◌+◌, ◌-◌, ◌*◌, Bool, true, false, List, [], ◌∷◌, ◌++◌, length, get_or, set, drop, replicate, leb, ltb, ℤ, pos, Float}
use Rattle.std.specs.Bool.{beq}
use Rattle.std.specs.Float.{binary64}
use Rattle.std.specs.Float.Ieee.{of_bits}
use Rattle.std.specs.Int.{w32}
use Rattle.std.proofs.Common.{of_z}
use Rattle.answers.specs.Numbers.{unassigned, input_ended, output_full, activations, channel as noChannel, cells as noCell}
use Rattle.answers.specs.Answers.{refusal}
use Rattle.answers.specs.declared.Stop.{Stop}
use Rattle.answers.specs.declared.Stop.TheVariants.{Fault as Faulty}
use Rattle.reals.specs.declared.Form.{Form}
use Rattle.reals.specs.declared.Form.TheVariants.{Truths, Wholes, Reals}
use Rattle.reals.specs.declared.Value.{Value}
use Rattle.reals.specs.declared.Value.TheVariants.{Truth, Whole, Real}
use Rattle.reals.specs.declared.Outcome.{Outcome}
use Rattle.reals.specs.declared.Outcome.TheVariants.{Is, Fault, Stray}
use Rattle.reals.specs.declared.Unary.{Unary}
use Rattle.reals.specs.declared.Binary.{Binary}
use Rattle.reals.specs.declared.Binary.TheVariants.{Plus}
use Rattle.reals.specs.declared.Cell.{Cell}
use Rattle.reals.specs.declared.Cell.TheVariants.{Unset, Holds, Named}
use Rattle.reals.specs.Values.{form_of, finite_b, same, convert, apply1, apply2, leaves, entry_w, entry_r}
use Rattle.machine.specs.Limits.{most_live, entry_numbers}
use Rattle.machine.specs.Run.{Event, quiet, wrote, took, Out, halt, next}

-- ---- the data

-- a name formal on the way of a store to its variable: its type, and where its actual begins
pub data Link : Type 0 where
  link : Form → ℕ → Link

-- none, at the end of any other activation
abbrev pub unlinked : Link
unlinked = link Wholes 0

-- what is stored to or read: a cell, and the name formals on the way to it, the outermost first
pub data Target : Type 0 where
  to : ℕ → List Link → Target

-- what the run was lent: the cells that it may use, the input numbers not yet taken, and how many more may be written; and what the last store
-- through a name formal came to
pub record Lent : Type 0 where
  pub cells_lent : ℕ
  pub input : List ℤ
  pub space : ℕ
  pub found : Target

-- The cells in use, the newest first (cell 0 is the oldest): "one per variable of an entered block; for a typed call one result cell first;
-- one per evaluated value until it is used; actuals become formals". "A cell now carries its type, Boolean, whole number or 64-bit real, or that it
-- is a name formal's": an unassigned one too. Then the held steps, the newest first; then how many activations are live; then what was lent.
pub data Data : Type 0 where
  contents : List Cell → List Value → ℕ → Lent → Data

abbrev pub cells : Data → ℕ
cells (contents w h a x) = length w

-- ---- what an operation gives

-- a fault (answer, place); what no translated program comes to; or what it tells and its result
pub data Result (A : Type 0) : Type 0 where
  bad : ℕ → ℕ → Result A
  wrong : Result A
  good : Event → A → Result A

-- as a step that counts k: `w` is what is answered to `wrong`
unfoldable pub lift : {A S : Type 0} → Stop → ℕ → (A → S) → Result A → Out S
lift w k f (bad a q) = halt (Faulty (refusal a q))
lift w k f wrong = halt w
lift w k f (good e x) = next k e (f x)

unfoldable pub guard : {A : Type 0} → Bool → Result A → Result A
guard true r = r
guard false r = wrong

-- the fault a at q, where the test fails
unfoldable pub check : {A : Type 0} → Bool → ℕ → ℕ → Result A → Result A
check true a q r = r
check false a q r = bad a q

-- ---- cells

-- 26: "one more cell than the run may use". New cells with the contents x, for what stands at q; held values count
unfoldable pub new_cells : ℕ → List Cell → Data → Result Data
new_cells q x (contents w h a l) =
    check (leb (length w + length h + length x) l.cells_lent) noCell q (good quiet (contents (x ++ w) h a l))

-- the value in the newest cell, which goes
pub data Took : Type 0 where
  value : Value → Data → Took
  nothing : Took

unfoldable pub newest : Data → Took
newest (contents [] h a l) = nothing
newest (contents (Unset t ∷ w) h a l) = nothing
newest (contents (Holds v ∷ w) h a l) = value v (contents w h a l)
newest (contents (Named n ∷ w) h a l) = nothing

unfoldable pub on_value : {A : Type 0} → (Value → Data → Result A) → Took → Result A
on_value f (value v d) = f v d
on_value f nothing = wrong

-- a value is used; two are, the newer one last
abbrev pub one : {A : Type 0} → (Value → Data → Result A) → Data → Result A
one f d = on_value f (newest d)

abbrev pub two : {A : Type 0} → (Value → Value → Data → Result A) → Data → Result A
two f d = one (λ y. one (λ x. f x y)) d

-- a value in the place of those that were used: no new cell
unfoldable pub back : Value → Data → Data
back v (contents w h a l) = contents (Holds v ∷ w) h a l

unfoldable pub look : ℕ → Data → Cell
look c (contents w h a l) = get_or w (length w - suc c) (Unset Wholes)

-- no name formal's cell
abbrev pub plain : Cell → Bool
plain (Unset t) = true
plain (Holds v) = true
plain (Named n) = false

-- the type of a cell
abbrev pub form_in : Cell → Form
form_in (Unset t) = t
form_in (Holds v) = form_of v
form_in (Named n) = Wholes

unfoldable pub put : ℕ → Value → Data → Data
put c v (contents w h a l) = contents (set w (length w - suc c) (Holds v)) h a l

-- what stands in a cell, or 23: "unassigned variable, formal or needed result read"
unfoldable pub reading : {A : Type 0} → ℕ → (Value → Result A) → Cell → Result A
reading q f (Unset t) = bad unassigned q
reading q f (Holds v) = f v
reading q f (Named n) = wrong

-- what an operator or a conversion gives, or its fault
unfoldable pub valued : {A : Type 0} → ℕ → (Value → Result A) → Outcome → Result A
valued q f (Is v) = f v
valued q f (Fault a) = bad a.number q
valued q f Stray = wrong

-- ---- types: "A value of another type than the instruction takes is 29", and 29 comes before every fault

-- a whole number or a real
abbrev pub arithmetic : Form → Bool
arithmetic Truths = false
arithmetic Wholes = true
arithmetic Reals = true

-- values of the one type become values of the other
abbrev pub suits : Form → Form → Bool
suits t u = beq (arithmetic t) (arithmetic u)

abbrev pub suited : {A : Type 0} → Form → Form → Result A → Result A
suited t u r = guard (suits t u) r

unfoldable pub along : {A : Type 0} → Form → List Link → Result A → Result A
along t [] r = r
along t (link u q ∷ l) r = suited t u (along t l r)

-- a number is used
abbrev pub counting : {A : Type 0} → Value → Result A → Result A
counting v r = suited Wholes (form_of v) r

-- cell c is in use, and no name formal's
abbrev pub within : {A : Type 0} → ℕ → Data → Result A → Result A
within c d r = guard (ltb c (cells d)) (guard (plain (look c d)) r)

-- values of a type go to a target, or come from it
abbrev pub reaching : {A : Type 0} → Form → Target → Data → Result A → Result A
reaching t (to c l) d r = within c d (suited t (form_in (look c d)) (along t l r))

-- ---- conversions on the way: "A name formal converts at each read and store"

-- a value read goes through the formals, the innermost first: 21 where the formal's actual begins
unfoldable pub outward : {A : Type 0} → List Link → (Value → Result A) → Value → Result A
outward [] f v = f v
outward (link t q ∷ l) f v = outward l (λ u. valued q f (convert t u)) v

-- a value stored goes through them, the outermost first, and takes the cell's type t: 21 "at the name where the store began"
unfoldable pub inward : {A : Type 0} → ℕ → Form → List Link → (Value → Result A) → Value → Result A
inward q t [] f v = valued q f (convert t v)
inward q t (link u p ∷ l) f v = valued q (inward q t l f) (convert u v)

-- what stands in a target
abbrev pub read_from : {A : Type 0} → ℕ → Target → Data → (Value → Result A) → Result A
read_from q (to c l) d f = reading q (outward l f) (look c d)

-- a value stored in a target; r: what follows
abbrev pub saving : {A : Type 0} → ℕ → Target → Value → Data → (Data → Result A) → Result A
saving q (to c l) v d r = inward q (form_in (look c d)) l (λ u. r (put c u d)) v

-- ---- held steps

unfoldable pub hold : Value → Data → Data
hold x (contents w h a l) = contents w (x ∷ h) a l

unfoldable pub unhold : Data → Data
unhold (contents w h a l) = contents w (drop 1 h) a l

-- the newest step
unfoldable pub held : {A : Type 0} → (Value → Result A) → Data → Result A
held f (contents w [] a l) = wrong
held f (contents w (x ∷ h) a l) = f x

-- ---- what was found for a store

unfoldable pub found_in : Data → Target
found_in (contents w h a l) = l.found

abbrev pub finding : Target → Lent → Lent
finding x l = record { cells_lent = l.cells_lent; input = l.input; space = l.space; found = x }

-- a cell is found, and no formal on the way yet
unfoldable pub find : ℕ → Data → Data
find c (contents w h a l) = contents w h a (finding (to c []) l)

-- a formal's actual is worked out for a store: the formals on the way to an earlier one are forgotten
abbrev pub bare : Target → Target
bare (to c l) = to c []

unfoldable pub seeking : Data → Data
seeking (contents w h a l) = contents w h a (finding (bare l.found) l)

-- it is worked out: its formal is on the way
abbrev pub behind : Link → Target → Target
behind x (to c l) = to c (x ∷ l)

-- ---- input and output

unfoldable pub input : Data → List ℤ
input (contents w h a l) = l.input

unfoldable pub space : Data → ℕ
space (contents w h a l) = l.space

unfoldable pub rest : List ℤ → Data → Data
rest i (contents w h a l) = contents w h a (record { cells_lent = l.cells_lent; input = i; space = l.space; found = l.found })

unfoldable pub spend : Data → Data
spend (contents w h a l) = contents w h a (record { cells_lent = l.cells_lent; input = l.input; space = l.space - entry_numbers; found = l.found })

-- 24: "input ended". The next number is stored
unfoldable pub taking : ℕ → Target → Data → List ℤ → Result Data
taking q x d [] = bad input_ended q
taking q x d (z ∷ i) = saving q x (Whole z) (rest i d) (good took)

-- 25: "fewer than three are free"
unfoldable pub writing : ℕ → List ℤ → Data → Result Data
writing q e d = check (leb entry_numbers (space d)) output_full q (good (wrote e) (spend d))

-- the entry of outinteger's value, of outreal's
unfoldable pub written : Form → Value → (List ℤ → Result Data) → Result Data
written Truths v f = wrong
written Wholes (Truth b) f = wrong
written Wholes (Whole z) f = f (entry_w z)
written Wholes (Real r) f = wrong
written Reals (Truth b) f = wrong
written Reals (Whole z) f = wrong
written Reals (Real r) f = f (entry_r r)

-- 28: "channel not 1"
unfoldable pub on_channel : {A : Type 0} → ℕ → Value → Result A → Result A
on_channel q (Truth b) r = wrong
on_channel q (Whole k) r = check (same k (pos 1)) noChannel q r
on_channel q (Real x) r = wrong

-- ---- real constants: the lower half of the bits as a whole number, then the upper half

abbrev pub joined : ℤ → ℕ → Float
joined z h = of_bits binary64 (4294967296 * h + of_z w32 z)

-- "a real result that is no finite number" is no constant
unfoldable pub heightened : {A : Type 0} → Value → ℕ → (Value → Result A) → Result A
heightened (Truth b) h f = wrong
heightened (Whole z) h f = guard (finite_b (joined z h)) (f (Real (joined z h)))
heightened (Real r) h f = wrong

-- ---- the operations, over what names a variable

pub data Act (X : Type 0) : Type 0 where
  -- a number or logical value evaluated; maxint
  push : ℕ → Value → Act X
  -- the upper half of a real constant
  heighten : ℕ → Act X
  -- a variable or formal evaluated
  load : ℕ → X → Act X
  -- the last left part, or the controlled variable, stored; another left part stored
  store : ℕ → X → Act X
  assign : ℕ → X → Act X
  -- a result cell of a type taken
  reserve : ℕ → Form → Act X
  -- a value that nobody needs goes
  forget : Act X
  -- ininteger; outinteger and outreal
  receive : ℕ → X → Act X
  send : ℕ → Form → Act X
  -- a step is held
  keep : Act X
  -- an operator applied
  unary : ℕ → Unary → Act X
  binary : ℕ → Binary → Act X
  -- a variable is found for a store; a channel tested; a new step and a variable added, and the step held in the place of the old one
  lend : X → Act X
  channel : ℕ → Act X
  sum : ℕ → X → Act X
  -- a value becomes one of a type
  turn : ℕ → Form → Act X

abbrev pub act_on : {X Y : Type 0} → (X → Y) → Act X → Act Y
act_on f (push q v) = push q v
act_on f (heighten h) = heighten h
act_on f (load q x) = load q (f x)
act_on f (store q x) = store q (f x)
act_on f (assign q x) = assign q (f x)
act_on f (reserve q t) = reserve q t
act_on f forget = forget
act_on f (receive q x) = receive q (f x)
act_on f (send q t) = send q t
act_on f keep = keep
act_on f (unary q o) = unary q o
act_on f (binary q o) = binary q o
act_on f (lend x) = lend (f x)
act_on f (channel q) = channel q
act_on f (sum q x) = sum q (f x)
act_on f (turn q t) = turn q t

-- a cell as a target of its own
abbrev pub cell_of : Target → ℕ
cell_of (to c l) = c

-- the type of what stands in a target
abbrev pub form_at : Target → Data → Form
form_at x d = form_in (look (cell_of x) d)

unfoldable pub work : Act Target → Data → Result Data
work (push q v) d = new_cells q (Holds v ∷ []) d
work (heighten h) d = one (λ v d. heightened v h (λ u. good quiet (back u d))) d
work (load q x) d = reaching (form_at x d) x d (read_from q x d (λ v. new_cells q (Holds v ∷ []) d))
-- "A left part list takes one value, stored left to right": each left part converts the value itself
work (store q x) d = one (λ v d. reaching (form_of v) x d (saving q x v d (good quiet))) d
work (assign q x) d = one (λ v d. reaching (form_of v) x d (saving q x v d (λ d. good quiet (back v d)))) d
work (reserve q t) d = new_cells q (Unset t ∷ []) d
work forget d = one (λ v d. good quiet d) d
-- "the channel is tested first"; "ininteger's second actual is neither read nor held"; "Input stays whole numbers"
work (receive q x) d = one (λ k d. reaching Wholes x d (on_channel q k (taking q x d (input d)))) d
work (send q t) d = two (λ k v d. written t v (λ e. on_channel q k (writing q e d))) d
-- the step is held: "θ := B"
work keep d = one (λ x d. good quiet (hold x d)) d
-- "its value replaces its actuals' cells" for iabs, and an operator's its operands'
work (unary q o) d = one (λ x d. valued q (λ v. good quiet (back v d)) (apply1 o x)) d
work (binary q o) d = two (λ x y d. valued q (λ v. good quiet (back v d)) (apply2 o x y)) d
work (lend x) d = within (cell_of x) d (good quiet (find (cell_of x) d))
-- "for ininteger between 28 and 24"
work (channel q) d = one (λ k d. on_channel q k (good quiet (back k d))) d
-- the new step is held in the place of the old one, and the sum has the cell that its value leaves
work (sum q x) d =
    one (λ s d. held (λ y. counting s (reaching Wholes x d (read_from q x d (λ v. valued q (λ u. good quiet (back u (hold s (unhold d)))) (apply2 Plus v s))))) d) d
-- "a whole number becomes a real exactly"; "Storing a real in an integer is entier(E + 0.5)", an actual's too
work (turn q t) d = one (λ v d. valued q (λ u. good quiet (back u d)) (convert t v)) d

-- how many values an operation uses
abbrev pub downs : {X : Type 0} → Act X → ℕ
downs (push q v) = 0
downs (heighten h) = 1
downs (load q x) = 0
downs (store q x) = 1
downs (assign q x) = 1
downs (reserve q t) = 0
downs forget = 1
downs (receive q x) = 1
downs (send q t) = 2
downs keep = 1
downs (unary q o) = 1
downs (binary q o) = 2
downs (lend x) = 0
downs (channel q) = 1
downs (sum q x) = 1
downs (turn q t) = 1

-- ---- tests

pub data Two : Type 0 where
  yea nay : Data → Two

abbrev pub either : {B : Type 0} → (Data → B) → (Data → B) → Two → B
either f g (yea d) = f d
either f g (nay d) = g d

pub data Test (X : Type 0) : Type 0 where
  -- a condition decided; a step element tested
  condition : Test X
  upto : ℕ → X → Test X

abbrev pub test_on : {X Y : Type 0} → (X → Y) → Test X → Test Y
test_on f condition = condition
test_on f (upto q x) = upto q (f x)

-- a logical value decides
unfoldable pub picking : {A : Type 0} → Value → A → A → Result A
picking (Truth true) x y = good quiet x
picking (Truth false) x y = good quiet y
picking (Whole z) x y = wrong
picking (Real r) x y = wrong

-- the step is held until the loop is left; the bound is a value that the test uses
unfoldable pub test : Test Target → Data → Result Two
test condition d = one (λ v d. picking v (yea d) (nay d)) d
test (upto q x) d =
    one (λ y d. held (λ s. counting y (counting s (reaching Wholes x d (read_from q x d (λ v. valued q (λ b. picking b (nay (unhold d)) (yea d)) (leaves v s y)))))) d) d

abbrev pub downs_t : {X : Type 0} → Test X → ℕ
downs_t condition = 1
downs_t (upto q x) = 1

-- ---- blocks and activations

-- how many cells of each type a block has: "A cell now carries its type"
pub record Counted : Type 0 where
  pub wholes : ℕ
  pub reals : ℕ
  pub truths : ℕ

abbrev pub in_all : Counted → ℕ
in_all n = n.wholes + n.reals + n.truths

-- a block's cells, taken all at once and unassigned, those of one type beside each other: integers, reals, Booleans, the newest last; and dropped
abbrev pub unset : Counted → List Cell
unset n = replicate n.truths (Unset Truths) ++ (replicate n.reals (Unset Reals) ++ replicate n.wholes (Unset Wholes))

unfoldable pub open_block : ℕ → Counted → Data → Result Data
open_block q n d = new_cells q (unset n) d

unfoldable pub close_block : ℕ → Data → Result Data
close_block n (contents w h a l) = guard (leb n (length w)) (good quiet (contents (drop n w) h a l))

-- a name formal's cell: "needed at its actual's first symbol, and giving it that cell is one step". n: where the actual's code is
unfoldable pub name_cell : ℕ → ℕ → Data → Result Data
name_cell q n d = new_cells q (Named n ∷ []) d

-- 27: "a 257th activation live". A call of a declared procedure enters one; "The program and environment calls are no activations"
unfoldable pub enter : ℕ → Data → Result Data
enter q (contents w h a l) = check (ltb a most_live) activations q (good quiet (contents w h (suc a) l))

-- an activation ends: its cells begin at b. The first is its result, and stays where it is needed; nothing of it stays; or it was begun for a store,
-- and its formal is on the way to what was found
pub data Fate : Type 0 where
  kept gone stored : Fate

-- how many of its cells stay
abbrev pub stays : Fate → ℕ
stays kept = 1
stays gone = 0
stays stored = 0

-- what was found, once it has ended; x: the formal on the way
abbrev pub passed : Fate → Link → Lent → Lent
passed kept x l = l
passed gone x l = l
passed stored x l = finding (behind x l.found) l

-- the result: 23 where it is unassigned
unfoldable pub given : ℕ → List Cell → List Value → ℕ → Lent → Result Data
given q [] h a l = wrong
given q (Unset t ∷ w) h a l = bad unassigned q
given q (Holds v ∷ w) h a l = good quiet (contents (Holds v ∷ w) h a l)
given q (Named n ∷ w) h a l = wrong

abbrev pub dropped : Fate → Link → ℕ → Data → Result Data
dropped f x b (contents w h a l) = guard (leb b (length w)) (good quiet (contents (drop (length w - b) w) h (a - 1) (passed f x l)))

unfoldable pub leave : Fate → Link → ℕ → ℕ → Data → Result Data
leave kept x q b (contents w h a l) = guard (ltb b (length w)) (given q (drop (length w - suc b) w) h (a - 1) l)
leave gone x q b d = dropped gone x b d
leave stored x q b d = dropped stored x b d
