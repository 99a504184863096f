-- A small run and its record, word by word: what `recorded` of specs/Replay makes of it is computed in proofs/Examples.
use Rattle.std.specs.Prelude.{ℕ, List, [], ◌∷◌, ℤ, pos}

-- code that takes a number, writes it, and writes its half: ENTER 1; CONST 1, IN; CONST 1, LOAD, OUT; CONST 1, LOAD, CONST 2, /, OUTREAL; LEAVE 1; END
abbrev pub code : List ℕ
code = 3 ∷ 1 ∷ 12 ∷ 1 ∷ 18 ∷ 0 ∷ 12 ∷ 1 ∷ 13 ∷ 0 ∷ 19 ∷ 0 ∷ 12 ∷ 1 ∷ 13 ∷ 0 ∷ 12 ∷ 2 ∷ 46 ∷ 0 ∷ 47 ∷ 0 ∷ 4 ∷ 8192 ∷ 1 ∷ 0 ∷ []

-- its run on 3, with limit 1,000, eight numbers of a store and six of an output
abbrev pub kept : List ℤ
kept =
    pos 1  -- input: one number,
    ∷ pos 3  -- 3
    ∷ pos 1  -- limit: one,
    ∷ pos 1000  -- its low half
    ∷ pos 0  -- and its high half
    ∷ pos 1  -- store length: one,
    ∷ pos 8  -- 8
    ∷ pos 1  -- output length: one,
    ∷ pos 6  -- 6
    ∷ pos 1  -- answer: one,
    ∷ pos 0  -- 0, it ended
    ∷ pos 2  -- outputs: two,
    ∷ pos 0 ∷ pos 3 ∷ pos 0  -- the whole number 3
    ∷ pos 1 ∷ pos 0 ∷ pos 1073217536  -- and the real 1.5, the low half of its bits first
    ∷ []
