-- The definition runs by computation: one table of hand-written code for each instruction and each answer, one computation over it, and one law.
-- A row's comment names operation @ place and operands.
use Prim.Native.Nat.{ℕ}
use native.Mathlib.Omega.{arith}
use mathlib.Core.Path.{◌≡◌, refl, ap}
use mathlib.Core.List.{List, [], ◌∷◌, map}
use lib.IntN.{ℤ, pos, negsuc}
use lib.Ieee.{add as addF, sub as subF, mul as mul_f, div as divF, lt as ltF, le as leF, eq as eq_f, neg as negF, of_int as ofIntF, to_bits as toBitsF, of_bits as ofBitsF, round as roundF}
use Rattle.answers.specs.Answers.{refusal}
use Rattle.answers.specs.declared.Stop.{Stop}
use Rattle.answers.specs.declared.Stop.TheVariants.{Ended, Limit, Fault}
use Rattle.reals.specs.declared.Value.TheVariants.{Whole, Truth, Real}
use Rattle.reals.specs.declared.Binary.TheVariants.{Over}
use Rattle.reals.specs.declared.Outcome.{Outcome}
use Rattle.reals.specs.declared.Outcome.TheVariants.{Is, Fault as Refused, Stray}
use Rattle.reals.specs.Values.{convert, whole_of, entier, whole, real, apply1, both_of, on_numbers, on_truths, cut, quotient, apply2, past, past_r, past_by, entry_r}
use Rattle.machine.specs.Run.{run}
use Rattle.machine.specs.Data.{work, test, picking, open_block, close_block, name_cell, enter, leave, given, new_cells, newest, on_value, back, look, put, reading, valued, along, outward, inward, heightened, written, on_channel, hold, unhold, held, found_in, find, seeking, input, space, rest, spend, taking, writing, lift, guard, check}
use Rattle.machine.specs.Instructions.{fetch, with_form, logical, decode, act_of, unary_of, binary_of}
use Rattle.machine.specs.Machine.{Finish, machine, finish, stray, step, obey, exec, work_out, activation_at, walk, target_in, afterwards}

-- a run: the words of its code, the input, the limit, the cells and the room lent; then how it stops, and what it has done, taken and written
data Row : Type 0 where
  tried : List ℕ → List ℤ → ℕ → ℕ → ℕ → Stop → ℕ → ℕ → List ℤ → Row

-- what the definition makes of it, and what is expected
abbrev comes : Row → Finish
comes (tried words input limit cells room stop done taken written) = machine words input limit cells room

abbrev expected : Row → Finish
expected (tried words input limit cells room stop done taken written) = record { stop = stop; done = done; taken = taken; written = written }

rows : List Row
rows =
    -- ended: ENTER@0 1; CONST@10 1; STORE@12 0 0; CONST@20 1; LOAD@22 0 0; OUT@15; LEAVE 1; END
    tried (3 ∷ 1 ∷ 652 ∷ 1 ∷ 782 ∷ 0 ∷ 1292 ∷ 1 ∷ 1421 ∷ 0 ∷ 979 ∷ 0 ∷ 4 ∷ 8192 ∷ 1 ∷ 0 ∷ []) [] 1000 6 9 Ended 8 0 (pos 0 ∷ pos 1 ∷ pos 0 ∷ []) ∷
    -- limit one short: ENTER@0 1; CONST@10 1; STORE@12 0 0; CONST@20 1; LOAD@22 0 0; OUT@15; LEAVE 1; END
    tried (3 ∷ 1 ∷ 652 ∷ 1 ∷ 782 ∷ 0 ∷ 1292 ∷ 1 ∷ 1421 ∷ 0 ∷ 979 ∷ 0 ∷ 4 ∷ 8192 ∷ 1 ∷ 0 ∷ []) [] 7 6 9 Limit 7 0 (pos 0 ∷ pos 1 ∷ pos 0 ∷ []) ∷
    -- limit just enough: ENTER@0 1; CONST@10 1; STORE@12 0 0; CONST@20 1; LOAD@22 0 0; OUT@15; LEAVE 1; END
    tried (3 ∷ 1 ∷ 652 ∷ 1 ∷ 782 ∷ 0 ∷ 1292 ∷ 1 ∷ 1421 ∷ 0 ∷ 979 ∷ 0 ∷ 4 ∷ 8192 ∷ 1 ∷ 0 ∷ []) [] 8 6 9 Ended 8 0 (pos 0 ∷ pos 1 ∷ pos 0 ∷ []) ∷
    -- limit 0: ENTER@0 1; CONST@10 1; STORE@12 0 0; CONST@20 1; LOAD@22 0 0; OUT@15; LEAVE 1; END
    tried (3 ∷ 1 ∷ 652 ∷ 1 ∷ 782 ∷ 0 ∷ 1292 ∷ 1 ∷ 1421 ∷ 0 ∷ 979 ∷ 0 ∷ 4 ∷ 8192 ∷ 1 ∷ 0 ∷ []) [] 0 6 9 Limit 0 0 [] ∷
    -- no code
    tried [] [] 1000 6 9 (stray 0) 1 0 [] ∷
    -- zero words: NONE; NONE
    tried (0 ∷ 0 ∷ 0 ∷ 0 ∷ []) [] 1000 6 9 (stray 0) 1 0 [] ∷
    -- jump out: JUMP 4000
    tried (2 ∷ 4000 ∷ []) [] 1000 6 9 (stray 4000) 2 0 [] ∷
    -- unknown operation: NONE
    tried (0 ∷ 0 ∷ []) [] 1000 6 9 (stray 0) 1 0 [] ∷
    -- arithmetic: CONST 1; CONST 7; CONST 2; PLUS; OUT; CONST 1; CONST 7; CONST 2; LESS; OUT; CONST 1; CONST 7; CONST 2; TIMES; OUT; CONST 1; CONST 7; CONST 2; OVER; OUT; END
    tried (12 ∷ 1 ∷ 12 ∷ 7 ∷ 12 ∷ 2 ∷ 25 ∷ 0 ∷ 19 ∷ 0 ∷ 12 ∷ 1 ∷ 12 ∷ 7 ∷ 12 ∷ 2 ∷ 26 ∷ 0 ∷ 19 ∷ 0 ∷ 12 ∷ 1 ∷ 12 ∷ 7 ∷ 12 ∷ 2 ∷ 27 ∷ 0 ∷ 19 ∷ 0 ∷ 12 ∷ 1 ∷ 12 ∷ 7 ∷ 12 ∷ 2 ∷ 28 ∷ 0 ∷ 19 ∷ 0 ∷ 1 ∷ 0 ∷ []) [] 1000 6 12 Ended 21 0 (pos 0 ∷ pos 9 ∷ pos 0 ∷ pos 0 ∷ pos 5 ∷ pos 0 ∷ pos 0 ∷ pos 14 ∷ pos 0 ∷ pos 0 ∷ pos 3 ∷ pos 0 ∷ []) ∷
    -- toward zero: CONST 1; CONST 7; CONST -2; OVER; OUT; CONST 1; CONST -7; CONST 2; OVER; OUT; END
    tried (12 ∷ 1 ∷ 12 ∷ 7 ∷ 12 ∷ 4294967294 ∷ 28 ∷ 0 ∷ 19 ∷ 0 ∷ 12 ∷ 1 ∷ 12 ∷ 4294967289 ∷ 12 ∷ 2 ∷ 28 ∷ 0 ∷ 19 ∷ 0 ∷ 1 ∷ 0 ∷ []) [] 1000 6 9 Ended 11 0 (pos 0 ∷ negsuc 2 ∷ pos 0 ∷ pos 0 ∷ negsuc 2 ∷ pos 0 ∷ []) ∷
    -- relation decides: CONST 7; CONST 2; GT; UNLESS 5; END; CONST 1; END
    tried (12 ∷ 7 ∷ 12 ∷ 2 ∷ 33 ∷ 0 ∷ 10 ∷ 5 ∷ 1 ∷ 0 ∷ 12 ∷ 1 ∷ 1 ∷ 0 ∷ []) [] 1000 6 9 Ended 5 0 [] ∷
    -- relation decides not: CONST 7; CONST 2; LT; UNLESS 5; END; CONST 1; END
    tried (12 ∷ 7 ∷ 12 ∷ 2 ∷ 29 ∷ 0 ∷ 10 ∷ 5 ∷ 1 ∷ 0 ∷ 12 ∷ 1 ∷ 1 ∷ 0 ∷ []) [] 1000 6 9 Ended 6 0 [] ∷
    -- logical operators: LOGICAL 1; LOGICAL 0; OR; LOGICAL 1; LOGICAL 0; AND; IMPL; NOT; LOGICAL 1; EQUIV; UNLESS 12; END; CONST 1; END
    tried (48 ∷ 1 ∷ 48 ∷ 0 ∷ 36 ∷ 0 ∷ 48 ∷ 1 ∷ 48 ∷ 0 ∷ 35 ∷ 0 ∷ 37 ∷ 0 ∷ 23 ∷ 0 ∷ 48 ∷ 1 ∷ 38 ∷ 0 ∷ 10 ∷ 12 ∷ 1 ∷ 0 ∷ 12 ∷ 1 ∷ 1 ∷ 0 ∷ []) [] 1000 6 9 Ended 12 0 [] ∷
    -- 21 sum: CONST 2147483647; CONST 1; PLUS@33; END
    tried (12 ∷ 2147483647 ∷ 12 ∷ 1 ∷ 2137 ∷ 0 ∷ 1 ∷ 0 ∷ []) [] 1000 6 9 (Fault (refusal 21 33)) 3 0 [] ∷
    -- 21 quotient: CONST -2147483648; CONST -1; OVER@44; END
    tried (12 ∷ 2147483648 ∷ 12 ∷ 4294967295 ∷ 2844 ∷ 0 ∷ 1 ∷ 0 ∷ []) [] 1000 6 9 (Fault (refusal 21 44)) 3 0 [] ∷
    -- 21 minus: CONST -2147483648; MINUS@5; END
    tried (12 ∷ 2147483648 ∷ 342 ∷ 0 ∷ 1 ∷ 0 ∷ []) [] 1000 6 9 (Fault (refusal 21 5)) 2 0 [] ∷
    -- 21 iabs: CONST -2147483648; IABS@6; END
    tried (12 ∷ 2147483648 ∷ 408 ∷ 0 ∷ 1 ∷ 0 ∷ []) [] 1000 6 9 (Fault (refusal 21 6)) 2 0 [] ∷
    -- 22: CONST 7; CONST 0; OVER@55; END
    tried (12 ∷ 7 ∷ 12 ∷ 0 ∷ 3548 ∷ 0 ∷ 1 ∷ 0 ∷ []) [] 1000 6 9 (Fault (refusal 22 55)) 3 0 [] ∷
    -- 22 real: CONST 7; CONST 0; DIVIDE@55; END
    tried (12 ∷ 7 ∷ 12 ∷ 0 ∷ 3566 ∷ 0 ∷ 1 ∷ 0 ∷ []) [] 1000 6 9 (Fault (refusal 22 55)) 3 0 [] ∷
    -- 23 variable: ENTER@0 2; LOAD@8 0 1; END
    tried (3 ∷ 2 ∷ 525 ∷ 8192 ∷ 1 ∷ 0 ∷ []) [] 1000 2 9 (Fault (refusal 23 8)) 2 0 [] ∷
    -- 23 result: RESULT@30 1; CALLN@30 3 0 1; END; RETURN
    tried (1936 ∷ 1 ∷ 1925 ∷ 8195 ∷ 1 ∷ 0 ∷ 7 ∷ 0 ∷ []) [] 1000 6 9 (Fault (refusal 23 30)) 3 0 [] ∷
    -- 24: ENTER@0 1; CONST@9 1; IN@3 0 0; CONST@9 1; IN@4 0 0; END
    tried (3 ∷ 1 ∷ 588 ∷ 1 ∷ 210 ∷ 0 ∷ 588 ∷ 1 ∷ 274 ∷ 0 ∷ 1 ∷ 0 ∷ []) (pos 42 ∷ []) 1000 6 9 (Fault (refusal 24 4)) 5 1 [] ∷
    -- 25: CONST 1; CONST 8; OUT@3; CONST 1; CONST 9; OUT@4; END
    tried (12 ∷ 1 ∷ 12 ∷ 8 ∷ 211 ∷ 0 ∷ 12 ∷ 1 ∷ 12 ∷ 9 ∷ 275 ∷ 0 ∷ 1 ∷ 0 ∷ []) [] 1000 6 5 (Fault (refusal 25 4)) 6 0 (pos 0 ∷ pos 8 ∷ pos 0 ∷ []) ∷
    -- 26 value: CONST@1 1; CONST@2 2; CONST@3 3; END
    tried (76 ∷ 1 ∷ 140 ∷ 2 ∷ 204 ∷ 3 ∷ 1 ∷ 0 ∷ []) [] 1000 2 9 (Fault (refusal 26 3)) 3 0 [] ∷
    -- 26 block: ENTER@77 1 1 1; END
    tried (4931 ∷ 1049601 ∷ 1 ∷ 0 ∷ []) [] 1000 2 9 (Fault (refusal 26 77)) 1 0 [] ∷
    -- 27: JUMP 1; CALL@12 1 0 0; END
    tried (2 ∷ 1 ∷ 774 ∷ 1 ∷ 1 ∷ 0 ∷ []) [] 2000 1 9 (Fault (refusal 27 12)) 258 0 [] ∷
    -- 28: ENTER@0 1; CONST 2; IN@3 0 0; END
    tried (3 ∷ 1 ∷ 12 ∷ 2 ∷ 210 ∷ 0 ∷ 1 ∷ 0 ∷ []) (pos 42 ∷ []) 1000 6 9 (Fault (refusal 28 3)) 3 0 [] ∷
    -- 28 out: CONST 2; CONST 8; OUT@5; END
    tried (12 ∷ 2 ∷ 12 ∷ 8 ∷ 339 ∷ 0 ∷ 1 ∷ 0 ∷ []) [] 1000 6 9 (Fault (refusal 28 5)) 3 0 [] ∷
    -- 29 before 28: CONST 2; LOGICAL 1; OUT@5; END
    tried (12 ∷ 2 ∷ 48 ∷ 1 ∷ 339 ∷ 0 ∷ 1 ∷ 0 ∷ []) [] 1000 6 9 (stray 2) 3 0 [] ∷
    -- 29 condition: CONST 1; UNLESS 0; END
    tried (12 ∷ 1 ∷ 10 ∷ 0 ∷ 1 ∷ 0 ∷ []) [] 1000 6 9 (stray 1) 2 0 [] ∷
    -- 29 mixed: CONST 1; LOGICAL 1; PLUS@3; END
    tried (12 ∷ 1 ∷ 48 ∷ 1 ∷ 217 ∷ 0 ∷ 1 ∷ 0 ∷ []) [] 1000 6 9 (stray 2) 3 0 [] ∷
    -- 29 channel: CONST@0 0; HIGH 1072693248; CONST 8; OUT@3; END
    tried (12 ∷ 0 ∷ 49 ∷ 1072693248 ∷ 12 ∷ 8 ∷ 211 ∷ 0 ∷ 1 ∷ 0 ∷ []) [] 1000 6 9 (stray 3) 4 0 [] ∷
    -- 29 cut of a real: CONST@0 0; HIGH 1075707904; CONST 2; OVER@3; END
    tried (12 ∷ 0 ∷ 49 ∷ 1075707904 ∷ 12 ∷ 2 ∷ 220 ∷ 0 ∷ 1 ∷ 0 ∷ []) [] 1000 6 9 (stray 3) 4 0 [] ∷
    -- 29 no form: RESULT 3; END
    tried (16 ∷ 3 ∷ 1 ∷ 0 ∷ []) [] 1000 6 9 (stray 0) 1 0 [] ∷
    -- 29 no truth: LOGICAL 2; END
    tried (48 ∷ 2 ∷ 1 ∷ 0 ∷ []) [] 1000 6 9 (stray 0) 1 0 [] ∷
    -- 29 no real: CONST 0; HIGH 2146435072; END
    tried (12 ∷ 0 ∷ 49 ∷ 2146435072 ∷ 1 ∷ 0 ∷ []) [] 1000 6 9 (stray 1) 2 0 [] ∷
    -- divide: CONST 1; CONST 1; CONST 3; DIVIDE; OUTREAL; END
    tried (12 ∷ 1 ∷ 12 ∷ 1 ∷ 12 ∷ 3 ∷ 46 ∷ 0 ∷ 47 ∷ 0 ∷ 1 ∷ 0 ∷ []) [] 1000 6 9 Ended 6 0 (pos 1 ∷ pos 1431655765 ∷ pos 1070945621 ∷ []) ∷
    -- sum of reals: CONST 1; CONST@0 -1717986918; HIGH 1069128089; CONST@0 -1717986918; HIGH 1070176665; PLUS; OUTREAL; END
    tried (12 ∷ 1 ∷ 12 ∷ 2576980378 ∷ 49 ∷ 1069128089 ∷ 12 ∷ 2576980378 ∷ 49 ∷ 1070176665 ∷ 25 ∷ 0 ∷ 47 ∷ 0 ∷ 1 ∷ 0 ∷ []) [] 1000 6 9 Ended 8 0 (pos 1 ∷ pos 858993460 ∷ pos 1070805811 ∷ []) ∷
    -- mixed sum: CONST 1; CONST 1; CONST@0 0; HIGH 1071644672; PLUS; OUTREAL; END
    tried (12 ∷ 1 ∷ 12 ∷ 1 ∷ 12 ∷ 0 ∷ 49 ∷ 1071644672 ∷ 25 ∷ 0 ∷ 47 ∷ 0 ∷ 1 ∷ 0 ∷ []) [] 1000 6 9 Ended 7 0 (pos 1 ∷ pos 0 ∷ pos 1073217536 ∷ []) ∷
    -- minus real: CONST 1; CONST@0 0; HIGH 0; MINUS; OUTREAL; END
    tried (12 ∷ 1 ∷ 12 ∷ 0 ∷ 49 ∷ 0 ∷ 22 ∷ 0 ∷ 47 ∷ 0 ∷ 1 ∷ 0 ∷ []) [] 1000 6 9 Ended 6 0 (pos 1 ∷ pos 0 ∷ negsuc 2147483647 ∷ []) ∷
    -- 21 real: CONST 1; CONST@0 -2048145248; HIGH 2145504499; CONST@0 0; HIGH 1076101120; TIMES@9; OUTREAL; END
    tried (12 ∷ 1 ∷ 12 ∷ 2246822048 ∷ 49 ∷ 2145504499 ∷ 12 ∷ 0 ∷ 49 ∷ 1076101120 ∷ 603 ∷ 0 ∷ 47 ∷ 0 ∷ 1 ∷ 0 ∷ []) [] 1000 6 9 (Fault (refusal 21 9)) 6 0 [] ∷
    -- stored in an integer: ENTER@0 1; CONST@0 0; HIGH 1074003968; STORE@4 0 0; CONST 1; LOAD 0 0; OUT; END
    tried (3 ∷ 1 ∷ 12 ∷ 0 ∷ 49 ∷ 1074003968 ∷ 270 ∷ 0 ∷ 12 ∷ 1 ∷ 13 ∷ 0 ∷ 19 ∷ 0 ∷ 1 ∷ 0 ∷ []) [] 1000 6 9 Ended 8 0 (pos 0 ∷ pos 3 ∷ pos 0 ∷ []) ∷
    -- stored below zero: ENTER@0 1; CONST@0 0; HIGH 3221487616; STORE@4 0 0; CONST 1; LOAD 0 0; OUT; END
    tried (3 ∷ 1 ∷ 12 ∷ 0 ∷ 49 ∷ 3221487616 ∷ 270 ∷ 0 ∷ 12 ∷ 1 ∷ 13 ∷ 0 ∷ 19 ∷ 0 ∷ 1 ∷ 0 ∷ []) [] 1000 6 9 Ended 8 0 (pos 0 ∷ negsuc 1 ∷ pos 0 ∷ []) ∷
    -- 21 stored: ENTER@0 1; CONST@0 -2097152; HIGH 1105199103; STORE@4 0 0; END
    tried (3 ∷ 1 ∷ 12 ∷ 4292870144 ∷ 49 ∷ 1105199103 ∷ 270 ∷ 0 ∷ 1 ∷ 0 ∷ []) [] 1000 6 9 (Fault (refusal 21 4)) 4 0 [] ∷
    -- stored in a real: ENTER@0 0 1; CONST 3; STORE@4 0 0; CONST 1; LOAD 0 0; OUTREAL; END
    tried (3 ∷ 1024 ∷ 12 ∷ 3 ∷ 270 ∷ 0 ∷ 12 ∷ 1 ∷ 13 ∷ 0 ∷ 47 ∷ 0 ∷ 1 ∷ 0 ∷ []) [] 1000 6 9 Ended 7 0 (pos 1 ∷ pos 0 ∷ pos 1074266112 ∷ []) ∷
    -- 29 stored: ENTER@0 0 0 1; CONST 3; STORE@4 0 0; END
    tried (3 ∷ 1048576 ∷ 12 ∷ 3 ∷ 270 ∷ 0 ∷ 1 ∷ 0 ∷ []) [] 1000 6 9 (stray 2) 3 0 [] ∷
    -- left parts: ENTER@0 1 1; CONST@0 0; HIGH 1073217536; ASSIGN@1 0 0; STORE@2 0 1; CONST 1; LOAD 0 0; OUT; CONST 1; LOAD 0 1; OUTREAL; END
    tried (3 ∷ 1025 ∷ 12 ∷ 0 ∷ 49 ∷ 1073217536 ∷ 79 ∷ 0 ∷ 142 ∷ 8192 ∷ 12 ∷ 1 ∷ 13 ∷ 0 ∷ 19 ∷ 0 ∷ 12 ∷ 1 ∷ 13 ∷ 8192 ∷ 47 ∷ 0 ∷ 1 ∷ 0 ∷ []) [] 1000 6 9 Ended 12 0 (pos 0 ∷ pos 2 ∷ pos 0 ∷ pos 1 ∷ pos 0 ∷ pos 1073217536 ∷ []) ∷
    -- turned: CONST 1; CONST@0 0; HIGH 1073217536; AS@3 0; OUT; CONST 1; CONST 4; AS@3 1; OUTREAL; END
    tried (12 ∷ 1 ∷ 12 ∷ 0 ∷ 49 ∷ 1073217536 ∷ 242 ∷ 0 ∷ 19 ∷ 0 ∷ 12 ∷ 1 ∷ 12 ∷ 4 ∷ 242 ∷ 1 ∷ 47 ∷ 0 ∷ 1 ∷ 0 ∷ []) [] 1000 6 9 Ended 10 0 (pos 0 ∷ pos 2 ∷ pos 0 ∷ pos 1 ∷ pos 0 ∷ pos 1074790400 ∷ []) ∷
    -- 29 as: LOGICAL 1; AS@3 0; END
    tried (48 ∷ 1 ∷ 242 ∷ 0 ∷ 1 ∷ 0 ∷ []) [] 1000 6 9 (stray 1) 2 0 [] ∷
    -- read in a real: ENTER@0 0 1; CONST 1; IN@3 0 0; CONST 1; LOAD 0 0; OUTREAL; END
    tried (3 ∷ 1024 ∷ 12 ∷ 1 ∷ 210 ∷ 0 ∷ 12 ∷ 1 ∷ 13 ∷ 0 ∷ 47 ∷ 0 ∷ 1 ∷ 0 ∷ []) (pos 42 ∷ []) 1000 6 9 Ended 7 1 (pos 1 ∷ pos 0 ∷ pos 1078263808 ∷ []) ∷
    -- real loop: ENTER@0 0 1; CONST 0; STORE 0 0; CONST@0 0; HIGH 1071644672; HOLD; CONST 1; TEST@9 0 0 16; CONST 1; LOAD 0 0; OUTREAL; CONST@0 0; HIGH 1071644672; SUM@9 0 0; STORE 0 0; JUMP 6; END
    tried (3 ∷ 1024 ∷ 12 ∷ 0 ∷ 14 ∷ 0 ∷ 12 ∷ 0 ∷ 49 ∷ 1071644672 ∷ 20 ∷ 0 ∷ 12 ∷ 1 ∷ 587 ∷ 16 ∷ 12 ∷ 1 ∷ 13 ∷ 0 ∷ 47 ∷ 0 ∷ 12 ∷ 0 ∷ 49 ∷ 1071644672 ∷ 597 ∷ 0 ∷ 14 ∷ 0 ∷ 2 ∷ 6 ∷ 1 ∷ 0 ∷ []) [] 1000 6 9 Ended 39 0 (pos 1 ∷ pos 0 ∷ pos 0 ∷ pos 1 ∷ pos 0 ∷ pos 1071644672 ∷ pos 1 ∷ pos 0 ∷ pos 1072693248 ∷ []) ∷
    -- 29 step: ENTER@0 1; CONST 0; STORE 0 0; LOGICAL 1; HOLD; CONST 1; TEST@9 0 0 8; END
    tried (3 ∷ 1 ∷ 12 ∷ 0 ∷ 14 ∷ 0 ∷ 48 ∷ 1 ∷ 20 ∷ 0 ∷ 12 ∷ 1 ∷ 587 ∷ 8 ∷ 1 ∷ 0 ∷ []) [] 1000 6 9 (stray 6) 7 0 [] ∷
    -- stored through a formal: ENTER@0 0 1; NAME@5 6; LEND 1 0; RETURN@5 0; LOAD@6 1 0; RETURN; CALL@7 8 0 1; END; CONST@0 0; HIGH 1074003968; SEEK@3 0 0; STORE@4 0 8191; CONST 1; WORK@9 0 0; OUTREAL; RETURN
    tried (3 ∷ 1024 ∷ 359 ∷ 6 ∷ 43 ∷ 67108864 ∷ 327 ∷ 0 ∷ 397 ∷ 67108864 ∷ 7 ∷ 0 ∷ 454 ∷ 8200 ∷ 1 ∷ 0 ∷ 12 ∷ 0 ∷ 49 ∷ 1074003968 ∷ 233 ∷ 0 ∷ 270 ∷ 67100672 ∷ 12 ∷ 1 ∷ 616 ∷ 0 ∷ 47 ∷ 0 ∷ 7 ∷ 0 ∷ []) [] 1000 6 9 Ended 16 0 (pos 1 ∷ pos 0 ∷ pos 1074266112 ∷ []) ∷
    -- name cell: NAME@3 2; END; LOAD@4 0 0; END
    tried (231 ∷ 2 ∷ 1 ∷ 0 ∷ 269 ∷ 0 ∷ 1 ∷ 0 ∷ []) [] 1000 6 9 (stray 2) 2 0 [] ∷
    -- refused: NAME@5 5; REFUSE; RETURN; CONST 1; RETURN; CALL@7 7 0 1; END; CONST 3; SEEK@8 0 0; STORE@9 0 8191; RETURN
    tried (359 ∷ 5 ∷ 44 ∷ 0 ∷ 7 ∷ 0 ∷ 12 ∷ 1 ∷ 7 ∷ 0 ∷ 454 ∷ 8199 ∷ 1 ∷ 0 ∷ 12 ∷ 3 ∷ 553 ∷ 0 ∷ 590 ∷ 67100672 ∷ 7 ∷ 0 ∷ []) [] 1000 6 9 (Fault (refusal 30 8)) 5 0 [] ∷
    -- stray pass: NAME@5 1; PASS@3 0 0; END
    tried (359 ∷ 1 ∷ 234 ∷ 0 ∷ 1 ∷ 0 ∷ []) [] 1000 6 9 (stray 1) 2 0 [] ∷
    -- no store: CONST@4 1; END
    tried (268 ∷ 1 ∷ 1 ∷ 0 ∷ []) [] 1000 0 0 (Fault (refusal 26 4)) 1 0 [] ∷
    []

abbrev All : List Row → Type 0
All [] = Unit {0}
All (r ∷ l) = (comes r ≡ expected r) × All l

each : (l : List Row) → map comes l ≡ map expected l → All l
each [] e = tt
each (r ∷ l) e = (cc, each l (cc))

computed : map comes rows ≡ map expected rows
unfolding rows machine finish run step obey exec work_out fetch with_form logical decode act_of unary_of binary_of work test picking open_block close_block name_cell enter leave given new_cells newest on_value back look put reading valued along outward inward heightened written on_channel hold unhold held found_in find seeking input space rest spend taking writing lift guard check activation_at walk target_in convert whole_of entier whole real apply1 both_of on_numbers on_truths cut quotient apply2 past past_r past_by entry_r addF subF mul_f divF ltF leF eq_f negF ofIntF toBitsF ofBitsF roundF
computed = refl

all_hold : All rows
all_hold = each rows computed

-- ---- three wrong machines, refuted: one that rounds a quotient down, one that touches the output behind the written part, one that leaves something in the
-- store

abbrev below : Outcome → ℕ
below (Is (Truth b)) = 0
below (Is (Whole (pos n))) = 0
below (Is (Whole (negsuc n))) = n
below (Is (Real r)) = 0
below (Refused a) = 0
below Stray = 0

rounded_down : ¬ (apply2 Over (Whole (negsuc 6)) (Whole (pos 2)) ≡ Is (Whole (negsuc 3)))
unfolding apply2 both_of on_numbers cut whole
rounded_down h = let z : ◌≡◌ {A = ℕ} 2 3 = ap below h in omega arith

abbrev fourth : List ℤ → ℕ
fourth [] = 0
fourth (x ∷ []) = 0
fourth (x ∷ y ∷ []) = 0
fourth (x ∷ y ∷ z ∷ []) = 0
fourth (x ∷ y ∷ z ∷ pos n ∷ l) = n
fourth (x ∷ y ∷ z ∷ negsuc n ∷ l) = 0

touched : ¬ ((afterwards (machine (12 ∷ 1 ∷ 12 ∷ 8 ∷ 19 ∷ 0 ∷ 1 ∷ 0 ∷ []) [] 1000 6 5) [] (pos 9 ∷ pos 9 ∷ pos 9 ∷ pos 9 ∷ pos 9 ∷ [])).output ≡ pos 0 ∷ pos 8 ∷ pos 0 ∷ pos 0 ∷ pos 9 ∷ [])
unfolding afterwards machine finish run step obey exec work_out fetch with_form logical decode act_of unary_of binary_of work test picking open_block close_block name_cell enter leave given new_cells newest on_value back look put reading valued along outward inward heightened written on_channel hold unhold held found_in find seeking input space rest spend taking writing lift guard check activation_at walk target_in convert whole_of entier whole real apply1 both_of on_numbers on_truths cut quotient apply2 past past_r past_by entry_r addF subF mul_f divF ltF leF eq_f negF ofIntF toBitsF ofBitsF roundF
touched h = let z : ◌≡◌ {A = ℕ} 9 0 = ap fourth h in omega arith

abbrev first : List ℤ → ℕ
first [] = 0
first (pos n ∷ l) = n
first (negsuc n ∷ l) = 0

left_dirty : ¬ ((afterwards (machine (1 ∷ 0 ∷ []) [] 1000 1 0) (pos 7 ∷ pos 7 ∷ []) []).store ≡ pos 7 ∷ pos 0 ∷ [])
unfolding afterwards
left_dirty h = let z : ◌≡◌ {A = ℕ} 0 7 = ap first h in omega arith
