-- The numbers of the operations, as docs/MACHINE.md lays them down. Assumes nothing: these are definitions.
use Rattle.std.specs.Prelude.{ℕ}

-- no instruction
abbrev pub o_none : ℕ
o_none = 0

-- the run, jumps, blocks
abbrev pub o_end : ℕ
o_end = 1

abbrev pub o_jump : ℕ
o_jump = 2

abbrev pub o_enter : ℕ
o_enter = 3

abbrev pub o_leave : ℕ
o_leave = 4

-- calls: with a result that is needed, and any other
abbrev pub o_call_needed : ℕ
o_call_needed = 5

abbrev pub o_call : ℕ
o_call = 6

abbrev pub o_return : ℕ
o_return = 7

-- loops: to a body and from it, a condition, the test of a step element
abbrev pub o_go : ℕ
o_go = 8

abbrev pub o_next : ℕ
o_next = 9

abbrev pub o_unless : ℕ
o_unless = 10

abbrev pub o_test : ℕ
o_test = 11

-- values and variables
abbrev pub o_const : ℕ
o_const = 12

abbrev pub o_load : ℕ
o_load = 13

abbrev pub o_store : ℕ
o_store = 14

abbrev pub o_assign : ℕ
o_assign = 15

abbrev pub o_result : ℕ
o_result = 16

abbrev pub o_drop : ℕ
o_drop = 17

-- ininteger, outinteger
abbrev pub o_in : ℕ
o_in = 18

abbrev pub o_out : ℕ
o_out = 19

-- a step held; a new one and a variable added
abbrev pub o_hold : ℕ
o_hold = 20

abbrev pub o_sum : ℕ
o_sum = 21

-- the sign -, 'not' and iabs
abbrev pub o_minus : ℕ
o_minus = 22

abbrev pub o_not : ℕ
o_not = 23

abbrev pub o_iabs : ℕ
o_iabs = 24

-- + - * %
abbrev pub o_plus : ℕ
o_plus = 25

abbrev pub o_less : ℕ
o_less = 26

abbrev pub o_times : ℕ
o_times = 27

abbrev pub o_over : ℕ
o_over = 28

-- < <= = >= > #
abbrev pub o_below : ℕ
o_below = 29

abbrev pub o_at_most : ℕ
o_at_most = 30

abbrev pub o_equal : ℕ
o_equal = 31

abbrev pub o_at_least : ℕ
o_at_least = 32

abbrev pub o_above : ℕ
o_above = 33

abbrev pub o_unequal : ℕ
o_unequal = 34

-- 'and' 'or' 'impl' 'equiv'
abbrev pub o_and : ℕ
o_and = 35

abbrev pub o_or : ℕ
o_or = 36

abbrev pub o_impl : ℕ
o_impl = 37

abbrev pub o_equiv : ℕ
o_equiv = 38

-- formals called by name: the cell, an actual worked out for a read, for a store and for a store passed on, the cell found, no variable
abbrev pub o_name : ℕ
o_name = 39

abbrev pub o_work : ℕ
o_work = 40

abbrev pub o_seek : ℕ
o_seek = 41

abbrev pub o_pass : ℕ
o_pass = 42

abbrev pub o_lend : ℕ
o_lend = 43

abbrev pub o_refuse : ℕ
o_refuse = 44

-- the channel of an ininteger tested
abbrev pub o_channel : ℕ
o_channel = 45

-- the operator /; outreal; a logical value; the upper half of a real constant; a value becomes one of a type
abbrev pub o_divide : ℕ
o_divide = 46

abbrev pub o_outreal : ℕ
o_outreal = 47

abbrev pub o_logical : ℕ
o_logical = 48

abbrev pub o_high : ℕ
o_high = 49

abbrev pub o_as : ℕ
o_as = 50

-- no operation from here on
abbrev pub o_behind : ℕ
o_behind = 51
