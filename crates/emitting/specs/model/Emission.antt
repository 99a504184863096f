-- How the code is written: one pass over the nodes of a program, with its uses, the layout of its cells, and the values and places of its symbols. The
-- pass takes the addresses that lie ahead from tables, and fills such tables itself: done once with nothing in them, it finds them; done again with
-- those, it writes the code. This is the model of the code and no part of the paper; crate translating has that it comes to what Translate says.
use Rattle.std.specs.Prelude.{ℕ, zero, suc, ◌+◌, ◌*◌, ◌-◌, ◌/◌, ◌%◌, Bool, cond, ◌&&◌, ◌||◌, List, [], ◌∷◌, eqb, ltb, get_or, set, replicate}
use Rattle.std.specs.Float.{binary64}
use Rattle.std.specs.Float.Ieee.{to_bits}
use Rattle.reals.specs.Values.{reading}
use Rattle.machine.specs.Instructions.{high, mid, low}
use Rattle.grammar.specs.NodeKinds.{n_block, n_statements, n_block_end, n_variable, n_procedure, n_formal, n_procedure_end, n_then, n_else, n_if_end, n_start, n_once, n_while, n_step, n_amount, n_do, n_for_end, n_left, n_assign, n_condition_end, n_unary, n_binary, n_number, n_decimal, n_logical, n_use, n_call, n_call_end, n_actual}
use Rattle.names.specs.model.Rows.{fold_nodes, is_use, meant_of}
use Rattle.names.specs.declared.Meant.{Meant}
use Rattle.names.specs.declared.Meant.TheVariants.{Declared, Given, Nothing}
use Rattle.emitting.specs.model.Layout.{packed, declaration_room, counts_for}

-- ---- uses

-- kind: 0 environment, 1 variable, 2 procedure, 3 formal called by value, 4 formal called by name; means: the declaration's number, or the
-- environment's
pub record Used : Type 0 where
  pub kind : ℕ
  pub means : ℕ

-- row i as a formal's: 0 it is of no formal, 1 called by value, 2 called by name
unfoldable pub formal_at : List ℕ → ℕ → ℕ
formal_at rows i = cond (eqb (get_or rows (4 * i) 0) n_formal) (cond (ltb (get_or rows (4 * i + 3) 0) 4) 1 2) 0

-- a type (1 integer, 2 Boolean, 3 real, 0 none) as an instruction has it: 0 whole number, 1 real, 2 Boolean
unfoldable pub form_of : ℕ → ℕ
form_of t = cond (eqb t 3) 1 (cond (eqb t 2) 2 0)

-- that of declaration i, whose row has its type in the last word's lower bits
unfoldable pub form_at : List ℕ → ℕ → ℕ
form_at rows i = form_of (get_or rows (4 * i + 3) 0 % 4)

-- of a declaration the kind stands in its row, a word of 16 bits; nothing, which no accepted program has, is zeros
unfoldable pub used_as : List ℕ → Meant → Used
used_as rows (Declared d) = record { kind = cond (eqb (formal_at rows d.number) 2) 4 (get_or rows (4 * d.number) 0 % 65536 - 4); means = d.number }
used_as rows (Given e) = record { kind = 0; means = e.number }
used_as rows Nothing = record { kind = 0; means = 0 }

-- uses as they are kept
unfoldable pub uses_in : List ℕ → List ℕ → List Used
uses_in rows [] = []
uses_in rows (w ∷ ws) = used_as rows (meant_of w) ∷ uses_in rows ws

-- the next one's kind and what it means; none are zeros
unfoldable pub kind_next : List Used → ℕ
kind_next [] = 0
kind_next (u ∷ l) = u.kind

unfoldable pub means_next : List Used → ℕ
means_next [] = 0
means_next (u ∷ l) = u.means

unfoldable pub others_next : List Used → List Used
others_next [] = []
others_next (u ∷ l) = l

-- the place of a symbol, of 16 bits
abbrev pub place_at : List ℕ → ℕ → ℕ
place_at places s = get_or places s 0 % 65536

-- the mark of a symbol, of 16 bits: of an 'if' which part is a whole number beside a real one, 1 the 'then' part, 2 the 'else' part
abbrev pub mark_at : List ℕ → ℕ → ℕ
mark_at marks s = get_or marks s 0 % 65536

-- ---- what is known behind some nodes

-- something open, or a left part; what each number is stands where it is opened. The second is a word, or what a use means; the others are counts,
-- places and kinds
pub record Opened : Type 0 where
  pub first : ℕ
  pub second : ℕ
  pub third : ℕ
  pub fourth : ℕ

abbrev pub opened : ℕ → ℕ → ℕ → ℕ → Opened
opened a b c d = record { first = a; second = b; third = c; fourth = d }

-- the uses to come; the address of the next instruction; how many addresses lie ahead so far; the activations and the for
-- statements of the running one that are around; the variables of the block so far; the left parts before; 1 where a name stands that a number is
-- taken to; the word of the name that was the last node, 0 where it was no such name, and among declarations 1 behind a procedure; how many declarations
-- and formals there were; what is open, newest first; the words; the addresses that lay ahead; those of procedures, by their declarations' numbers
pub record State : Type 0 where
  pub uses : List Used
  pub at : ℕ
  pub slots : ℕ
  pub level : ℕ
  pub loops : ℕ
  pub cells : ℕ
  pub lefts : ℕ
  pub awaits : ℕ
  pub variable : ℕ
  pub declared : ℕ
  pub open_ones : List Opened
  pub code : List ℕ
  pub ahead : List ℕ
  pub entries : List ℕ

-- as many addresses ahead as there may be
abbrev pub slot_room : ℕ
slot_room = 8192

-- room: for as many words
abbrev pub fresh : ℕ → List Used → State
fresh room uses =
    record { uses = uses; at = 0; slots = 0; level = 0; loops = 0; cells = 0; lefts = 0; awaits = 0; variable = 0; declared = 0; open_ones = []; code = replicate room 0; ahead = replicate slot_room 0; entries = replicate declaration_room 0 }

-- ---- the parts of a state

-- an instruction: operation, place, operand
unfoldable pub put : ℕ → ℕ → ℕ → State → State
put o p v st =
    record { uses = st.uses; at = st.at + 1; slots = st.slots; level = st.level; loops = st.loops; cells = st.cells; lefts = st.lefts; awaits = st.awaits; variable = st.variable; declared = st.declared; open_ones = st.open_ones; code = set (set st.code (2 * st.at) (o + 64 * p)) (2 * st.at + 1) v; ahead = st.ahead; entries = st.entries }

unfoldable pub with_open : List Opened → State → State
with_open l st =
    record { uses = st.uses; at = st.at; slots = st.slots; level = st.level; loops = st.loops; cells = st.cells; lefts = st.lefts; awaits = st.awaits; variable = st.variable; declared = st.declared; open_ones = l; code = st.code; ahead = st.ahead; entries = st.entries }

-- one address more lies ahead
unfoldable pub with_slot : State → State
with_slot st =
    record { uses = st.uses; at = st.at; slots = st.slots + 1; level = st.level; loops = st.loops; cells = st.cells; lefts = st.lefts; awaits = st.awaits; variable = st.variable; declared = st.declared; open_ones = st.open_ones; code = st.code; ahead = st.ahead; entries = st.entries }

-- what lay ahead at a slot
unfoldable pub noted : ℕ → ℕ → State → State
noted i v st =
    record { uses = st.uses; at = st.at; slots = st.slots; level = st.level; loops = st.loops; cells = st.cells; lefts = st.lefts; awaits = st.awaits; variable = st.variable; declared = st.declared; open_ones = st.open_ones; code = st.code; ahead = set st.ahead i v; entries = st.entries }

unfoldable pub within : ℕ → ℕ → ℕ → State → State
within level loops cells st =
    record { uses = st.uses; at = st.at; slots = st.slots; level = level; loops = loops; cells = cells; lefts = st.lefts; awaits = st.awaits; variable = st.variable; declared = st.declared; open_ones = st.open_ones; code = st.code; ahead = st.ahead; entries = st.entries }

unfoldable pub with_lefts : ℕ → State → State
with_lefts n st =
    record { uses = st.uses; at = st.at; slots = st.slots; level = st.level; loops = st.loops; cells = st.cells; lefts = n; awaits = st.awaits; variable = st.variable; declared = st.declared; open_ones = st.open_ones; code = st.code; ahead = st.ahead; entries = st.entries }

unfoldable pub with_variable : ℕ → ℕ → State → State
with_variable awaits v st =
    record { uses = st.uses; at = st.at; slots = st.slots; level = st.level; loops = st.loops; cells = st.cells; lefts = st.lefts; awaits = awaits; variable = v; declared = st.declared; open_ones = st.open_ones; code = st.code; ahead = st.ahead; entries = st.entries }

unfoldable pub with_uses : List Used → State → State
with_uses l st =
    record { uses = l; at = st.at; slots = st.slots; level = st.level; loops = st.loops; cells = st.cells; lefts = st.lefts; awaits = st.awaits; variable = st.variable; declared = st.declared; open_ones = st.open_ones; code = st.code; ahead = st.ahead; entries = st.entries }

-- a variable or formal; a procedure, which begins here
unfoldable pub with_cell : State → State
with_cell st =
    record { uses = st.uses; at = st.at; slots = st.slots; level = st.level; loops = st.loops; cells = st.cells; lefts = st.lefts; awaits = st.awaits; variable = st.variable; declared = st.declared + 1; open_ones = st.open_ones; code = st.code; ahead = st.ahead; entries = st.entries }

unfoldable pub with_entry : State → State
with_entry st =
    record { uses = st.uses; at = st.at; slots = st.slots; level = st.level; loops = st.loops; cells = st.cells; lefts = st.lefts; awaits = st.awaits; variable = st.variable; declared = st.declared + 1; open_ones = st.open_ones; code = st.code; ahead = st.ahead; entries = set st.entries st.declared st.at }

unfoldable pub top : List Opened → Opened
top [] = opened 0 0 0 0
top (x ∷ l) = x

unfoldable pub below : List Opened → List Opened
below [] = []
below (x ∷ l) = l

unfoldable pub pushed : ℕ → ℕ → ℕ → ℕ → State → State
pushed a b c d st = with_open (opened a b c d ∷ st.open_ones) st

unfoldable pub popped : State → State
popped st = with_open (below st.open_ones) st

-- another one in place of the newest
unfoldable pub replaced : ℕ → ℕ → ℕ → ℕ → State → State
replaced a b c d st = with_open (opened a b c d ∷ below st.open_ones) st

-- the last node was no name
unfoldable pub nameless : State → State
nameless st = with_variable st.awaits 0 st

-- ---- words: where a name's cell lies, and in the low part 1 for one that has it, 2 for a formal called by name, whose cell is sought

-- as an operand; and that of the cell found
unfoldable pub bare : ℕ → ℕ
bare v = packed (high v) (mid v) 0

abbrev pub found_word : ℕ
found_word = packed 0 8191 0

-- an operation on the cell of a name at p, whose own place is q
unfoldable pub on_cell : ℕ → ℕ → ℕ → ℕ → State → State
on_cell o q p v st = cond (eqb (low v) 2) (put o q found_word (put 41 p (bare v) st)) (put o q (bare v) st)

-- ---- operators, by their symbols' kinds: 17 'and', 18 'or', 20 'impl', 21 'equiv', 22 `+` to 31 `#`, 41 `/`; 19 is 'not'

unfoldable pub operation_of : ℕ → ℕ
operation_of k = cond (ltb k 19) (k + 18) (cond (ltb k 22) (k + 17) (cond (ltb k 32) (k + 3) (k + 5)))

unfoldable pub signed : ℕ → ℕ → State → State
signed k p st = cond (eqb k 19) (put 23 p 0 st) (cond (eqb k 23) (put 22 p 0 st) st)

-- ---- numbers with a point: all digits as one whole number, and how many of them stand behind the point, as one word; the halves of their bits

unfoldable pub bits_of : ℕ → ℕ
bits_of w = to_bits binary64 (reading (w / 16) (w % 16))

unfoldable pub lower_of : ℕ → ℕ
lower_of w = bits_of w % 4294967296

unfoldable pub upper_of : ℕ → ℕ
upper_of w = bits_of w / 4294967296

-- ---- the pass. values: of numbers, by symbol; layout: as Layout has it; ahead, entries: what is known already of what lies ahead

-- the largest whole number
abbrev pub largest : ℕ
largest = 2147483647

module _ (values layout ahead entries : List ℕ) where
  unfoldable pub ahead_at : ℕ → ℕ
  ahead_at i = get_or ahead i 0

  -- the word of a use of kind k that means m; of a procedure that of its result
  unfoldable pub cell_of : ℕ → ℕ → ℕ → ℕ
  cell_of level k m =
      let w = get_or layout m 0 in
      cond (eqb k 2) (packed (level - (high w + 1)) 0 1) (packed (level - high w) (mid w) (cond (eqb k 4) 2 1))

  -- 1 where it is a procedure with a result
  unfoldable pub result_of : ℕ → ℕ → ℕ
  result_of k m = cond (eqb k 2) (mid (get_or layout m 0)) 0

  -- a call of it with n actuals; u: 0 as a primary, 1 as a statement
  unfoldable pub called_with : ℕ → ℕ → ℕ → ℕ → ℕ → State → State
  called_with k m n u p st =
      put (5 + u) p (packed (st.level - high (get_or layout m 0)) (result_of k m + n) (get_or entries m 0)) st

  -- f: the type of what it gives
  unfoldable pub result_for : ℕ → ℕ → ℕ → ℕ → State → State
  result_for k m p f st = cond (eqb (result_of k m) 0) st (put 16 p f st)

  -- what a statement does not need
  unfoldable pub dropped : ℕ → State → State
  dropped u st = cond (eqb u 0) st (put 17 0 0 st)

  -- a name alone; a variable or formal, a procedure, maxint
  unfoldable pub named : ℕ → ℕ → ℕ → ℕ → ℕ → State → State
  named k m u p f st =
      cond (eqb k 0) (dropped u (put 12 p largest st))
      (cond (eqb k 2) (called_with k m 0 u p (result_for k m p f st))
      (put (cond (eqb k 4) 40 13) p (bare (cell_of st.level k m)) st))

  -- the word that an actual has which is this name and nothing else, not even in parentheses: those are deeper, by d, than the call that is open
  unfoldable pub word_of : ℕ → ℕ → ℕ → State → ℕ
  word_of k m d st = cond (eqb k 0 || eqb k 2) 0 (cond (eqb d (top st.open_ones).fourth) (cell_of st.level k m) 0)

  -- the second actual of ininteger is stored to, not loaded
  unfoldable pub named_or : ℕ → ℕ → ℕ → ℕ → ℕ → ℕ → State → State
  named_or k m u p d f st =
      cond (eqb st.awaits 0) (with_variable 0 (word_of k m d st) (named k m u p f st)) (with_variable 0 (cell_of st.level k m) st)

  -- the store part of an actual, by its word
  unfoldable pub lending : ℕ → ℕ → State → State
  lending w p st = cond (eqb (low w) 0) (put 44 0 0 st) (cond (eqb (low w) 1) (put 43 0 (bare w) st) (put 42 p (bare w) st))

  -- actual j of a call of the procedure m, whose formal is called by name and of the type f, d deep, begins: three slots, of where it ends, its place and
  -- its word. The open call's first number is then 4 and the first of the slots
  unfoldable pub name_begun : ℕ → ℕ → ℕ → ℕ → State → State
  name_begun m j d f st =
      within (st.level + 1) st.loops st.cells
      (with_slot (with_slot (with_slot (replaced (4 + st.slots) m j d
      (put 7 (ahead_at (st.slots + 1) % 65536) f
      (lending (ahead_at (st.slots + 2)) (ahead_at (st.slots + 1) % 65536)
      (put 39 (ahead_at (st.slots + 1) % 65536) (ahead_at st.slots) st)))))))

  -- it ends; p: the place of its first symbol
  unfoldable pub name_ended : Opened → ℕ → ℕ → State → State
  name_ended c p f st =
      noted (c.first - 4) (packed 0 0 (st.at + 1 + 1))
      (noted (c.first - 4 + 1) p
      (noted (c.first - 4 + 2) st.variable (within (st.level - 1) st.loops st.cells (put 7 0 0 (put 50 p f st)))))

  -- the end of an actual of the environment's: its value becomes one of the type that is wanted, but that ininteger's second one is no value
  unfoldable pub given_turned : Opened → ℕ → State → State
  given_turned c p st =
      cond (eqb c.third 1) (cond (eqb c.second 2) st (put 50 p (cond (eqb c.second 4) 1 0) st)) (put 50 p 0 st)

  -- what is taken in goes to the cell of the last name, at q
  unfoldable pub taken_in : ℕ → ℕ → State → State
  taken_in p q st = on_cell 18 p q st.variable (cond (eqb (low st.variable) 2) (put 45 p 0 st) st)

  -- an open call: 2, the procedure, actuals so far and how deep they are; or 0, what the environment gives, actuals so far and the place of the last
  unfoldable pub call_ended : Opened → ℕ → ℕ → State → State
  call_ended c p u st =
      nameless
      (cond (eqb c.first 2) (called_with 2 c.second c.third u p st)
      (cond (eqb c.second 0) (dropped u (put 24 p 0 st))
      (cond (eqb c.second 2) (taken_in p c.fourth st)
      (put (cond (eqb c.second 4) 47 19) p 0 st))))

  -- a for statement with its elements: slot of the body's address, the variable, its place, the address of the element
  unfoldable pub repeated : ℕ → ℕ → ℕ → State → State
  repeated k m p st = with_slot (pushed st.slots (cell_of st.level k m) p st.at st)

  -- rows: of the declarations, which tell how formals are called
  module _ (rows : List ℕ) where
    -- actual j of a call of the procedure m begins, d deep
    unfoldable pub begun : ℕ → ℕ → ℕ → State → State
    begun m j d st = cond (eqb (formal_at rows (m + 1 + j)) 2) (name_begun m j d (form_at rows (m + 1 + j)) st) st

    unfoldable pub calling : ℕ → ℕ → ℕ → ℕ → State → State
    calling k m p a st =
        cond (eqb k 2) (begun m 0 (a + 1) (pushed 2 m 0 (a + 1) (result_for k m p (form_at rows m) st))) (pushed k m 0 0 (result_for k m p (form_at rows m) st))

    -- an actual ends, whose first symbol's place is p, and the next begins
    unfoldable pub actual_in : Opened → ℕ → State → State
    actual_in c p st =
        cond (eqb c.first 0) (with_variable (cond (eqb c.second 2 && eqb c.third 0) 1 0) st.variable (replaced 0 c.second (c.third + 1) p (given_turned c p st)))
        (begun c.second (c.third + 1) c.fourth
        (replaced 2 c.second (c.third + 1) c.fourth
        (cond (ltb c.first 4) (put 50 p (form_at rows (c.second + 1 + c.third)) st) (name_ended c p (form_at rows (c.second + 1 + c.third)) st))))

    unfoldable pub use_node : ℕ → ℕ → ℕ → ℕ → ℕ → ℕ → State → State
    use_node n k m b p a st =
        cond (eqb n n_use) (named_or k m b p a (form_at rows m) st)
        (cond (eqb n n_call) (calling k m p a st)
        (cond (eqb n n_left) (with_lefts (st.lefts + 1) (pushed 0 (cell_of st.level k m) p 0 st))
        (repeated k m p st)))

  -- behind an element: it goes on there, if it is not the last
  unfoldable pub element : Opened → State → State
  element f st = noted st.slots (packed 0 0 st.at) (with_slot (replaced f.first f.second f.third st.at st))

  -- to the body, with the place to return to
  unfoldable pub bodied : Opened → ℕ → State → State
  bodied f r st = put 8 0 (packed st.loops r (ahead_at f.first)) st

  -- the test of a step element, on the cell of a name at q with the word v; w: where it goes on
  unfoldable pub tested : ℕ → ℕ → ℕ → State → State
  tested q v w st = cond (eqb (low v) 2) (put 11 q (packed 0 8191 w) (put 41 q (bare v) st)) (put 11 q (packed (high v) (mid v) w) st)

  -- the addition and its store; p: the place of 'step'
  unfoldable pub added : ℕ → ℕ → ℕ → State → State
  added q v p st = on_cell 14 q q v (on_cell 21 p q v st)

  -- a step element begins: to its step, and on where a slot tells. It is open with that slot, 0, the place of 'step' and the step's address; once the
  -- bound's address is known, with that one and 1
  unfoldable pub step_begun : ℕ → State → State
  step_begun p st = with_slot (pushed st.slots 0 p (st.at + 1) (put 8 0 (packed st.loops (ahead_at st.slots) (st.at + 1)) st))

  -- behind the step: on to where it is wanted, the first time to the next instruction, which holds it
  unfoldable pub step_held : Opened → State → State
  step_held c st =
      noted c.first (packed 0 0 (st.at + 1)) (replaced (st.at + 1 + 1) 1 c.third c.fourth (put 20 0 0 (put 9 0 (packed st.loops 0 0) st)))

  -- to the step again, and then to what follows here
  unfoldable pub step_again : Opened → State → State
  step_again c st = put 8 0 (packed st.loops (st.at + 1) c.fourth) st

  -- behind the bound, in the for statement f: the test, the body, the step again, the addition, back to the bound
  unfoldable pub turning : Opened → State → State
  turning f st = bodied f ((tested f.third f.second (ahead_at st.slots) st).at + 1) (tested f.third f.second (ahead_at st.slots) st)

  unfoldable pub stepping : Opened → Opened → State → State
  stepping f c st = put 2 0 (packed 0 0 c.first) (added f.third f.second c.third (step_again c (turning f st)))

  -- behind the step and behind the bound
  unfoldable pub amount : Opened → State → State
  amount c st = cond (eqb c.second 0) (step_held c st) (element (top (below st.open_ones)) (stepping (top (below st.open_ones)) c (popped st)))

  unfoldable pub element_node : ℕ → Opened → ℕ → State → State
  element_node k f p st =
      cond (eqb k n_start) (on_cell 14 f.third f.third f.second st)
      (cond (eqb k n_once) (element f (bodied f (ahead_at st.slots) st))
      (cond (eqb k n_while) (element f (bodied f f.fourth (put 10 0 (packed 0 0 (ahead_at st.slots)) st)))
      (cond (eqb k n_step) (step_begun p st)
      (amount f st))))

  -- behind the last element: the slot of where it goes on, which is behind the loop
  unfoldable pub loop_node : ℕ → Opened → State → State
  loop_node k f st =
      cond (eqb k n_do) (within st.level (st.loops + 1) st.cells (noted f.first (packed 0 0 st.at) (replaced (st.slots - 1) 0 0 0 st)))
      (noted f.first (packed 0 0 (st.at + 1)) (popped (within st.level (st.loops - 1) st.cells (put 9 0 (packed (st.loops - 1) 0 0) st))))

  -- part i of a conditional expression ends: it becomes a real, where the mark says so, which has no fault
  unfoldable pub widened : ℕ → Opened → State → State
  widened i c st = cond (eqb c.second i) (put 50 0 1 st) st

  -- behind the 'then' part, where there is another; behind it all
  unfoldable pub otherwise : Opened → State → State
  otherwise c st =
      noted c.first (packed 0 0 (st.at + 1))
      (with_slot (replaced st.slots c.second 0 0 (put 2 0 (packed 0 0 (ahead_at st.slots)) st)))

  unfoldable pub joined : Opened → State → State
  joined c st = nameless (noted c.first (packed 0 0 st.at) (popped st))

  -- a condition, whose 'if' has the mark m: the slot of where it goes on, and the mark
  unfoldable pub choice_node : ℕ → Opened → ℕ → State → State
  choice_node k c m st =
      cond (eqb k n_then) (with_slot (pushed st.slots m 0 0 (put 10 0 (packed 0 0 (ahead_at st.slots)) st)))
      (cond (eqb k n_else) (otherwise c (widened 1 c st))
      (joined c (widened 2 c st)))

  -- a block: the slot of its opening, which lies behind its procedures; the number of its first declaration, and behind the declarations its own
  -- variables; those of the block around
  unfoldable pub opening : List ℕ → Opened → ℕ → State → State
  opening rows c p st = noted c.first (packed 0 0 st.at) (replaced c.first 0 st.cells c.fourth (put 3 p (counts_for rows c.third) st))

  unfoldable pub block_node : List ℕ → ℕ → Opened → ℕ → State → State
  block_node rows k c p st =
      cond (eqb k n_block) (within st.level st.loops 0 (with_slot (pushed st.slots 0 st.declared st.cells (nameless st))))
      (cond (eqb k n_statements) (opening rows c p st)
      (within st.level st.loops c.fourth (popped (put 4 0 (packed 0 c.third 0) st))))

  -- before the first procedure of a block: to its opening
  unfoldable pub skipped : Opened → State → State
  skipped c st = cond (eqb st.variable 0) (put 2 0 (packed 0 0 (ahead_at c.first)) st) st

  -- a procedure: the for statements around
  unfoldable pub proceeding : State → State
  proceeding st = within (st.level + 1) 0 st.cells (pushed st.loops 0 0 0 (with_entry st))

  unfoldable pub procedure_node : ℕ → Opened → State → State
  procedure_node k c st =
      cond (eqb k n_procedure) (proceeding (skipped c st))
      (with_variable st.awaits 1 (within (st.level - 1) c.first st.cells (popped (put 7 0 0 st))))

  -- left parts, from the first to the last
  unfoldable pub stored : List Opened → State → State
  stored [] st = st
  stored (x ∷ []) st = on_cell 14 x.third x.third x.second st
  stored (x ∷ y ∷ l) st = stored (y ∷ l) (on_cell 15 x.third x.third x.second st)

  unfoldable pub lefts_of : ℕ → List Opened → List Opened → List Opened
  lefts_of zero l acc = acc
  lefts_of (suc n) l acc = lefts_of n (below l) (top l ∷ acc)

  unfoldable pub behind_lefts : ℕ → List Opened → List Opened
  behind_lefts zero l = l
  behind_lefts (suc n) l = behind_lefts n (below l)

  unfoldable pub assigned : State → State
  assigned st = with_lefts 0 (with_open (behind_lefts st.lefts st.open_ones) (stored (lefts_of st.lefts st.open_ones []) st))

  -- of the symbol s, whose place is p
  unfoldable pub plain_node : ℕ → ℕ → ℕ → ℕ → State → State
  plain_node k s p a st =
      cond (eqb k n_number) (nameless (put 12 p (get_or values s 0 % 4294967296) st))
      (cond (eqb k n_decimal) (nameless (put 49 0 (upper_of (get_or values s 0)) (put 12 p (lower_of (get_or values s 0)) st)))
      (cond (eqb k n_logical) (nameless (put 48 p a st))
      (cond (eqb k n_unary) (nameless (signed a p st))
      (cond (eqb k n_binary) (nameless (put (operation_of a) p 0 st))
      (cond (eqb k n_assign) (assigned st)
      (cond (eqb k n_variable) (with_cell (within st.level st.loops (st.cells + 1) st))
      (cond (eqb k n_formal) (with_cell st)
      st)))))))

  abbrev pub is_element : ℕ → Bool
  is_element k = eqb k n_start || (eqb k n_once || (eqb k n_while || (eqb k n_step || eqb k n_amount)))

  abbrev pub is_choice : ℕ → Bool
  is_choice k = eqb k n_then || (eqb k n_else || (eqb k n_if_end || eqb k n_condition_end))

  abbrev pub is_block : ℕ → Bool
  is_block k = eqb k n_block || (eqb k n_statements || eqb k n_block_end)

  module _ (rows marks : List ℕ) where
    -- what a node adds
    unfoldable pub code_node : ℕ → ℕ → ℕ → ℕ → ℕ → State → State
    code_node k s p a b st =
        cond (is_use k) (use_node rows k (kind_next st.uses) (means_next st.uses) b p a (with_uses (others_next st.uses) st))
        (cond (eqb k n_actual) (actual_in rows (top st.open_ones) p st)
        (cond (eqb k n_call_end) (call_ended (top st.open_ones) p b (popped st))
        (cond (is_element k) (element_node k (top st.open_ones) p st)
        (cond (eqb k n_do || eqb k n_for_end) (loop_node k (top st.open_ones) st)
        (cond (is_choice k) (choice_node k (top st.open_ones) (mark_at marks s) st)
        (cond (is_block k) (block_node rows k (top st.open_ones) p st)
        (cond (eqb k n_procedure || eqb k n_procedure_end) (procedure_node k (top st.open_ones) st)
        (plain_node k s p a st))))))))

    -- a node, whose symbol's place is looked up
    abbrev pub placed_node : (ℕ → ℕ) → ℕ → ℕ → ℕ → ℕ → State → State
    placed_node place k s a b st = code_node k s (place s) a b st

    -- all nodes, and the end
    unfoldable pub emitted : ℕ → (ℕ → ℕ) → List ℕ → List Used → State
    emitted room place nodes uses = put 1 0 0 (fold_nodes (placed_node place) nodes (fresh room uses))

-- twice: what lies ahead is found, then the code is written
unfoldable pub code_of : ℕ → (ℕ → ℕ) → List ℕ → List ℕ → List ℕ → List ℕ → List ℕ → List Used → List ℕ
code_of room place values layout rows marks nodes uses =
    let found = emitted values layout [] [] rows marks room place nodes uses in
    (emitted values layout found.ahead found.entries rows marks room place nodes uses).code
