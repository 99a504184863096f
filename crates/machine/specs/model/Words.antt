-- The words of instructions: two each, as docs/MACHINE.md lays them down. Assumes nothing: these are definitions.
use Rattle.std.specs.Prelude.{ℕ, ◌+◌, ◌*◌, ◌<◌, true, false, List, [], ◌∷◌}
use Rattle.std.specs.Int.Signed.{mag}
use Rattle.std.specs.Int.{w32}
use Rattle.std.proofs.Common.{of_z}
use Rattle.reals.specs.declared.Form.TheVariants.{Truths, Wholes, Reals}
use Rattle.reals.specs.declared.Value.TheVariants.{Truth, Whole, Real}
use Rattle.reals.specs.declared.Unary.{Unary}
use Rattle.reals.specs.declared.Unary.TheVariants.{Minus, Negation, Absolute}
use Rattle.reals.specs.declared.Binary.{Binary}
use Rattle.reals.specs.declared.Binary.TheVariants.{Plus, Less, Times, Over, Divide, Below, AtMost, Equal, AtLeast, Above, Unequal, And, Or, Impl, Equiv}
use Rattle.machine.specs.Operations.{o_end, o_jump, o_enter, o_leave, o_call_needed, o_call, o_return, o_go, o_next, o_unless, o_test, o_const, o_load, o_store, o_assign, o_result, o_drop, o_in, o_out, o_hold, o_sum, o_minus, o_not, o_iabs, o_plus, o_less, o_times, o_over, o_below, o_at_most, o_equal, o_at_least, o_above, o_unequal, o_and, o_or, o_impl, o_equiv, o_name, o_work, o_seek, o_pass, o_lend, o_refuse, o_channel, o_divide, o_outreal, o_logical, o_high, o_as}
use Rattle.machine.specs.Data.{link, Act, push, heighten, load, store, assign, reserve, forget, receive, send, keep, unary, binary, lend, channel, sum, turn, Test, condition, upto, kept, gone, stored}
use Rattle.machine.specs.Instructions.{Location, located, cell_found, Instruction, END, DO, IF, JUMP, ENTER, LEAVE, CALL, RETURN, GO, NEXT, NAME, WORK, SEEK, PASS, REFUSE, six_bits, ten_bits, thirteen_bits, pack, pack_counted, form_number, found_offset}

-- ---- an instruction is its operation, its place and its operand

pub record Parts : Type 0 where
  pub operation : ℕ
  pub place : ℕ
  pub operand : ℕ

-- a variable, and what stands beside it
abbrev pub beside : Location → ℕ → ℕ
beside (located u o) l = pack u o l
beside cell_found l = pack 0 found_offset l

abbrev pub unary_number : Unary → ℕ
unary_number Minus = o_minus
unary_number Negation = o_not
unary_number Absolute = o_iabs

abbrev pub binary_number : Binary → ℕ
binary_number Plus = o_plus
binary_number Less = o_less
binary_number Times = o_times
binary_number Over = o_over
binary_number Divide = o_divide
binary_number Below = o_below
binary_number AtMost = o_at_most
binary_number Equal = o_equal
binary_number AtLeast = o_at_least
binary_number Above = o_above
binary_number Unequal = o_unequal
binary_number And = o_and
binary_number Or = o_or
binary_number Impl = o_impl
binary_number Equiv = o_equiv

abbrev pub parts_of_act : Act Location → Parts
parts_of_act (push q (Truth false)) = record { operation = o_logical; place = q; operand = 0 }
parts_of_act (push q (Truth true)) = record { operation = o_logical; place = q; operand = 1 }
parts_of_act (push q (Whole z)) = record { operation = o_const; place = q; operand = of_z w32 z }
-- a real constant is two instructions, CONST and HIGH
parts_of_act (push q (Real r)) = record { operation = o_const; place = q; operand = 0 }
parts_of_act (heighten h) = record { operation = o_high; place = 0; operand = h }
parts_of_act (load q x) = record { operation = o_load; place = q; operand = beside x 0 }
parts_of_act (store q x) = record { operation = o_store; place = q; operand = beside x 0 }
parts_of_act (assign q x) = record { operation = o_assign; place = q; operand = beside x 0 }
parts_of_act (reserve q t) = record { operation = o_result; place = q; operand = form_number t }
parts_of_act forget = record { operation = o_drop; place = 0; operand = 0 }
parts_of_act (receive q x) = record { operation = o_in; place = q; operand = beside x 0 }
parts_of_act (send q Truths) = record { operation = o_out; place = q; operand = 0 }
parts_of_act (send q Wholes) = record { operation = o_out; place = q; operand = 0 }
parts_of_act (send q Reals) = record { operation = o_outreal; place = q; operand = 0 }
parts_of_act keep = record { operation = o_hold; place = 0; operand = 0 }
parts_of_act (unary q o) = record { operation = unary_number o; place = q; operand = 0 }
parts_of_act (binary q o) = record { operation = binary_number o; place = q; operand = 0 }
parts_of_act (lend x) = record { operation = o_lend; place = 0; operand = beside x 0 }
parts_of_act (channel q) = record { operation = o_channel; place = q; operand = 0 }
parts_of_act (sum q x) = record { operation = o_sum; place = q; operand = beside x 0 }
parts_of_act (turn q t) = record { operation = o_as; place = q; operand = form_number t }

abbrev pub parts_of : Instruction → Parts
parts_of END = record { operation = o_end; place = 0; operand = 0 }
parts_of (JUMP l) = record { operation = o_jump; place = 0; operand = pack 0 0 l }
parts_of (ENTER q n) = record { operation = o_enter; place = q; operand = pack_counted n }
parts_of (LEAVE n) = record { operation = o_leave; place = 0; operand = pack 0 n 0 }
parts_of (CALL q l u n kept) = record { operation = o_call_needed; place = q; operand = pack u n l }
parts_of (CALL q l u n gone) = record { operation = o_call; place = q; operand = pack u n l }
parts_of (CALL q l u n stored) = record { operation = o_call; place = q; operand = pack u n l }
parts_of (RETURN (link t q)) = record { operation = o_return; place = q; operand = form_number t }
parts_of (GO m l r) = record { operation = o_go; place = 0; operand = pack m r l }
parts_of (NEXT m) = record { operation = o_next; place = 0; operand = pack m 0 0 }
parts_of (IF condition l) = record { operation = o_unless; place = 0; operand = pack 0 0 l }
parts_of (IF (upto q x) l) = record { operation = o_test; place = q; operand = beside x l }
parts_of (DO a) = parts_of_act a
parts_of (NAME q l) = record { operation = o_name; place = q; operand = pack 0 0 l }
parts_of (WORK q u o) = record { operation = o_work; place = q; operand = pack u o 0 }
parts_of (SEEK q u o) = record { operation = o_seek; place = q; operand = pack u o 0 }
parts_of (PASS q u o) = record { operation = o_pass; place = q; operand = pack u o 0 }
parts_of REFUSE = record { operation = o_refuse; place = 0; operand = 0 }

-- ---- the two words

abbrev pub first_word : Parts → ℕ
first_word p = p.operation + six_bits * p.place

unfoldable pub words : List Instruction → List ℕ
words [] = []
words (i ∷ p) = first_word (parts_of i) ∷ (parts_of i).operand ∷ words p

-- ---- operands in range: levels and nesting below 64, offsets below 8,191, a block's counts below 1,024, other counts and addresses below 8,192,
-- numbers of 32 bits

abbrev pub LocFits : Location → Type 0
LocFits (located u o) = (u < six_bits) × (o < found_offset)
LocFits cell_found = Unit {0}

abbrev pub ActFits : Act Location → Type 0
ActFits (push q (Truth b)) = Unit {0}
ActFits (push q (Whole z)) = mag z < 2147483648
ActFits (push q (Real r)) = ⊥
ActFits (heighten h) = h < 4294967296
ActFits (load q x) = LocFits x
ActFits (store q x) = LocFits x
ActFits (assign q x) = LocFits x
ActFits (reserve q t) = Unit {0}
ActFits forget = Unit {0}
ActFits (receive q x) = LocFits x
ActFits (send q Truths) = ⊥
ActFits (send q Wholes) = Unit {0}
ActFits (send q Reals) = Unit {0}
ActFits keep = Unit {0}
ActFits (unary q o) = Unit {0}
ActFits (binary q o) = Unit {0}
ActFits (lend x) = LocFits x
ActFits (channel q) = Unit {0}
ActFits (sum q x) = LocFits x
ActFits (turn q t) = Unit {0}

abbrev pub TestFits : Test Location → Type 0
TestFits condition = Unit {0}
TestFits (upto q x) = LocFits x

abbrev pub InstrFits : Instruction → Type 0
InstrFits END = Unit {0}
InstrFits (JUMP l) = l < thirteen_bits
InstrFits (ENTER q n) = (n.wholes < ten_bits) × (n.reals < ten_bits) × (n.truths < ten_bits)
InstrFits (LEAVE n) = n < thirteen_bits
InstrFits (CALL q l u n kept) = (l < thirteen_bits) × (u < six_bits) × (n < thirteen_bits)
InstrFits (CALL q l u n gone) = (l < thirteen_bits) × (u < six_bits) × (n < thirteen_bits)
InstrFits (CALL q l u n stored) = ⊥
InstrFits (RETURN x) = Unit {0}
InstrFits (GO m l r) = (m < six_bits) × (l < thirteen_bits) × (r < thirteen_bits)
InstrFits (NEXT m) = m < six_bits
InstrFits (IF t l) = TestFits t × (l < thirteen_bits)
InstrFits (DO a) = ActFits a
InstrFits (NAME q l) = l < thirteen_bits
InstrFits (WORK q u o) = (u < six_bits) × (o < found_offset)
InstrFits (SEEK q u o) = (u < six_bits) × (o < found_offset)
InstrFits (PASS q u o) = (u < six_bits) × (o < found_offset)
InstrFits REFUSE = Unit {0}

abbrev pub CodeFits : List Instruction → Type 0
CodeFits [] = Unit {0}
CodeFits (i ∷ p) = InstrFits i × CodeFits p
