-- The instructions, and how two words of 32 bits hold one: docs/MACHINE.md has them in words. Assumes nothing: these are definitions.
use Rattle.std.specs.Prelude.{ℕ, ◌+◌, ◌*◌, ◌/◌, ◌%◌, true, false, cond, List, ltb, eqb, length, get_or}
use Rattle.std.proofs.Math.Option.{Option, none, some}
use Rattle.std.specs.Int.{w32}
use Rattle.std.proofs.Common.{to_z}
use Rattle.reals.specs.declared.Form.{Form}
use Rattle.reals.specs.declared.Form.TheVariants.{Truths, Wholes, Reals}
use Rattle.reals.specs.declared.Value.TheVariants.{Truth, Whole}
use Rattle.reals.specs.declared.Unary.{Unary}
use Rattle.reals.specs.declared.Unary.TheVariants.{Minus, Negation, Absolute}
use Rattle.reals.specs.declared.Binary.{Binary}
use Rattle.reals.specs.declared.Binary.TheVariants.{Plus, Less, Times, Over, Divide, Below, AtMost, Equal, AtLeast, Above, Unequal, And, Or, Impl, Equiv}
use Rattle.machine.specs.Operations.{o_none, o_end, o_jump, o_enter, o_leave, o_call_needed, o_call, o_return, o_go, o_next, o_unless, o_test, o_const, o_load, o_store, o_assign, o_result, o_drop, o_in, o_out, o_hold, o_sum, o_minus, o_not, o_plus, o_less, o_times, o_over, o_below, o_at_most, o_equal, o_at_least, o_above, o_unequal, o_and, o_or, o_impl, o_name, o_work, o_seek, o_pass, o_lend, o_refuse, o_channel, o_divide, o_outreal, o_logical, o_high, o_as}
use Rattle.machine.specs.Data.{Link, link, Act, push, heighten, load, store, assign, reserve, forget, receive, send, keep, unary, binary, lend, channel, sum, turn, Test, condition, upto, Fate, kept, gone, Counted}

-- a variable: activations out, offset there; or the cell found
pub data Location : Type 0 where
  located : ℕ → ℕ → Location
  cell_found : Location

pub data Instruction : Type 0 where
  -- the run ends
  END : Instruction
  -- an operation on the data; a test, which goes on at the address where it says no
  DO : Act Location → Instruction
  IF : Test Location → ℕ → Instruction
  JUMP : ℕ → Instruction
  -- a block: place, cells of each type; and its end
  ENTER : ℕ → Counted → Instruction
  LEAVE : ℕ → Instruction
  -- a call: place, entry, activations out to the one around, cells that become the activation's, fate of the first of them
  CALL : ℕ → ℕ → ℕ → ℕ → Fate → Instruction
  -- an activation ends; of one begun for a store: the formal on the way
  RETURN : Link → Instruction
  -- to a loop's body, noting a position (nesting, body, position); and from it to the position noted
  GO : ℕ → ℕ → ℕ → Instruction
  NEXT : ℕ → Instruction
  -- a name formal's cell, which holds where its actual's code is (place, where it goes on): the next instruction
  NAME : ℕ → ℕ → Instruction
  -- an actual worked out, of the formal at an offset some activations out: for a read; for a store; for a store that passes on
  WORK : ℕ → ℕ → ℕ → Instruction
  SEEK : ℕ → ℕ → ℕ → Instruction
  PASS : ℕ → ℕ → ℕ → Instruction
  -- the actual is no variable
  REFUSE : Instruction

-- ---- the second word: three parts, of 6, 13 and 13 bits, or one number of 32 bits in two's complement

abbrev pub six_bits : ℕ
six_bits = 64

abbrev pub thirteen_bits : ℕ
thirteen_bits = 8192

abbrev pub twenty_six_bits : ℕ
twenty_six_bits = 67108864

abbrev pub high : ℕ → ℕ
high v = v / twenty_six_bits

abbrev pub mid : ℕ → ℕ
mid v = v / thirteen_bits % thirteen_bits

abbrev pub low : ℕ → ℕ
low v = v % thirteen_bits

abbrev pub pack : ℕ → ℕ → ℕ → ℕ
pack a b c = twenty_six_bits * a + thirteen_bits * b + c

-- each part cut to its range, so that they fit 32 bits whatever they are
abbrev pub packed : ℕ → ℕ → ℕ → ℕ
packed a b c = pack (a % six_bits) (b % thirteen_bits) (c % thirteen_bits)

-- the offset that no variable has, and that stands for the cell found
abbrev pub found_offset : ℕ
found_offset = 8191

-- three counts: of whole numbers, of reals, of Booleans, of 10 bits each, the last one with what is above them
abbrev pub ten_bits : ℕ
ten_bits = 1024

abbrev pub counted : ℕ → Counted
counted v = record { wholes = v % ten_bits; reals = v / ten_bits % ten_bits; truths = v / ten_bits / ten_bits }

abbrev pub pack_counted : Counted → ℕ
pack_counted n = n.wholes + ten_bits * (n.reals + ten_bits * n.truths)

-- a type by its number; no other number is one's
abbrev pub form_number : Form → ℕ
form_number Wholes = 0
form_number Reals = 1
form_number Truths = 2

unfoldable pub with_form : ℕ → (Form → Instruction) → Option Instruction
with_form n f = cond (eqb n 0) (some (f Wholes)) (cond (eqb n 1) (some (f Reals)) (cond (eqb n 2) (some (f Truths)) none))

-- 'false' is 0 and 'true' 1
unfoldable pub logical : ℕ → ℕ → Option Instruction
logical q n = cond (eqb n 0) (some (DO (push q (Truth false)))) (cond (eqb n 1) (some (DO (push q (Truth true)))) none)

-- levels and offset
abbrev pub variable : ℕ → Location
variable v = cond (eqb (mid v) found_offset) cell_found (located (high v) (mid v))

-- ---- the first word: operation + 64 · place

unfoldable pub unary_of : ℕ → Unary
unary_of k = cond (eqb k o_minus) Minus (cond (eqb k o_not) Negation Absolute)

unfoldable pub binary_of : ℕ → Binary
binary_of k =
    cond (eqb k o_plus) Plus
    (cond (eqb k o_less) Less
    (cond (eqb k o_times) Times
    (cond (eqb k o_over) Over
    (cond (eqb k o_below) Below
    (cond (eqb k o_at_most) AtMost
    (cond (eqb k o_equal) Equal
    (cond (eqb k o_at_least) AtLeast
    (cond (eqb k o_above) Above
    (cond (eqb k o_unequal) Unequal
    (cond (eqb k o_and) And
    (cond (eqb k o_or) Or
    (cond (eqb k o_impl) Impl
    Equiv))))))))))))

-- an operation on the data, at q, over the variable x and the word v
unfoldable pub act_of : {X : Type 0} → ℕ → ℕ → X → ℕ → Act X
act_of k q x v =
    cond (eqb k o_const) (push q (Whole (to_z w32 v)))
    (cond (eqb k o_load) (load q x)
    (cond (eqb k o_store) (store q x)
    (cond (eqb k o_assign) (assign q x)
    (cond (eqb k o_drop) forget
    (cond (eqb k o_in) (receive q x)
    (cond (eqb k o_out) (send q Wholes)
    (cond (eqb k o_hold) keep
    (cond (eqb k o_sum) (sum q x)
    (cond (ltb k o_plus) (unary q (unary_of k))
    (binary q (binary_of k)))))))))))

unfoldable pub decode : ℕ → ℕ → ℕ → Option Instruction
decode k q v =
    cond (eqb k o_none) none
    (cond (eqb k o_end) (some END)
    (cond (eqb k o_jump) (some (JUMP (low v)))
    (cond (eqb k o_enter) (some (ENTER q (counted v)))
    (cond (eqb k o_leave) (some (LEAVE (mid v)))
    (cond (eqb k o_call_needed) (some (CALL q (low v) (high v) (mid v) kept))
    (cond (eqb k o_call) (some (CALL q (low v) (high v) (mid v) gone))
    (cond (eqb k o_return) (with_form (low v) (λ t. RETURN (link t q)))
    (cond (eqb k o_go) (some (GO (high v) (low v) (mid v)))
    (cond (eqb k o_next) (some (NEXT (high v)))
    (cond (eqb k o_unless) (some (IF condition (low v)))
    (cond (eqb k o_test) (some (IF (upto q (variable v)) (low v)))
    (cond (eqb k o_result) (with_form (low v) (λ t. DO (reserve q t)))
    (cond (ltb k o_name) (some (DO (act_of k q (variable v) v)))
    (cond (eqb k o_name) (some (NAME q (low v)))
    (cond (eqb k o_work) (some (WORK q (high v) (mid v)))
    (cond (eqb k o_seek) (some (SEEK q (high v) (mid v)))
    (cond (eqb k o_pass) (some (PASS q (high v) (mid v)))
    (cond (eqb k o_lend) (some (DO (lend (variable v))))
    (cond (eqb k o_refuse) (some REFUSE)
    (cond (eqb k o_channel) (some (DO (channel q)))
    (cond (eqb k o_divide) (some (DO (binary q Divide)))
    (cond (eqb k o_outreal) (some (DO (send q Reals)))
    (cond (eqb k o_logical) (logical q (low v))
    (cond (eqb k o_high) (some (DO (heighten v)))
    (cond (eqb k o_as) (with_form (low v) (λ t. DO (turn q t)))
    none)))))))))))))))))))))))))

-- the instruction that two words hold
abbrev pub instruction : ℕ → ℕ → Option Instruction
instruction w v = decode (w % six_bits) (w / six_bits) v

-- 29: "no instruction at the counter": there is one where both of its words are there and its operation is known
unfoldable pub fetch : List ℕ → ℕ → Option Instruction
fetch words c = cond (ltb (2 * c + 1) (length words)) (instruction (get_or words (2 * c) 0) (get_or words (2 * c + 1) 0)) none
