-- Paper 01, "Marked for one proved table": M1 to M12, as rows.
use Rattle.std.specs.Prelude.{ℕ, zero, suc, List, [], ◌∷◌, ◌++◌, ℤ, pos, negsuc}
use Prim.Native.String.{String}
use Rattle.answers.specs.Answers.{refusal}
use Rattle.answers.specs.declared.Verdict.TheVariants.{Accepted, Refused}
use Rattle.answers.specs.declared.Stop.{Stop}
use Rattle.answers.specs.declared.Stop.TheVariants.{Ended, Fault}
use Rattle.symbols.specs.Text.{bytes}
use Rattle.marks.specs.Rows.{Row, reads, runs}

-- a run with no input, all cells and room for 64 entries
abbrev run : String → Stop → ℕ → ℕ → List ℤ → Row
run s q n d o = runs (bytes s) (record { input = []; cells = 8192; space = 192; stop = q; steps = n; done = d; written = o; taken = 0 })

-- so many levels of 'begin' and 'end', and nothing in them
unfoldable pub copies : ℕ → String → List ℕ
copies zero s = []
copies (suc n) s = bytes s ++ copies n s

abbrev nested : ℕ → List ℕ
nested n = copies n "'begin'" ++ copies n "'end'"

unfoldable pub marks : List Row
marks =
    -- M1 to M5
    run "'begin' outinteger(1, 7 % (-2)) 'end'" Ended 8 9 (pos 0 ∷ negsuc 2 ∷ pos 0 ∷ []) ∷
    run "'begin' outinteger(1, 8 % 3 % 2) 'end'" Ended 9 10 (pos 0 ∷ pos 1 ∷ pos 0 ∷ []) ∷
    run "'begin' outinteger(1, 7 - 2 - 1) 'end'" Ended 9 10 (pos 0 ∷ pos 4 ∷ pos 0 ∷ []) ∷
    run "'begin' outinteger(1, 'if' 'false' 'impl' 'false' 'impl' 'false' 'then' 1 'else' 0) 'end'" Ended 10 12 (pos 0 ∷ pos 0 ∷ pos 0 ∷ []) ∷
    run "'begin' outinteger(1, (-2147483647 - 1) % (-1)) 'end'" (Fault (refusal 21 40)) 9 9 [] ∷
    -- M6 and M7
    run "'begin' 'integer' i; 'for' i := 1 'step' 2 'until' 6 'do' outinteger(1, i); outinteger(1, i) 'end'" Ended 36 61 (pos 0 ∷ pos 1 ∷ pos 0 ∷ pos 0 ∷ pos 3 ∷ pos 0 ∷ pos 0 ∷ pos 5 ∷ pos 0 ∷ pos 0 ∷ pos 7 ∷ pos 0 ∷ []) ∷
    run "'begin' 'integer' i; 'for' i := 3 'step' -1 'until' 1 'do' outinteger(1, i) 'end'" Ended 36 60 (pos 0 ∷ pos 3 ∷ pos 0 ∷ pos 0 ∷ pos 2 ∷ pos 0 ∷ pos 0 ∷ pos 1 ∷ pos 0 ∷ []) ∷
    -- M8 and M9: S1 and S2
    reads (bytes "'begin' 'integer' a; a := 1 'end'") Accepted
    (1 ∷ 21 ∷ 1 ∷ 18 ∷
    1 ∷ 18 ∷ 1 ∷ 1 ∷ 1 ∷
    8 ∷ 1 ∷ 0 ∷ 0 ∷ 0 ∷ 4 ∷ 0 ∷ 1 ∷ 0 ∷ 5 ∷ 18 ∷ 0 ∷ 0 ∷ 2 ∷ 0 ∷ 0 ∷ 0 ∷ 23 ∷ 21 ∷ 2 ∷ 0 ∷ 28 ∷ 26 ∷ 0 ∷ 0 ∷ 24 ∷ 23 ∷ 0 ∷ 0 ∷ 3 ∷ 0 ∷ 0 ∷ 0 ∷ []) ∷
    reads (bytes "'begin' 'integer' a; 'begin' 'integer' a; a := 2 'end'; a := 1 'end'") Accepted
    (2 ∷ 42 ∷ 1 ∷ 39 ∷ 56 ∷ 1 ∷ 18 ∷
    2 ∷ 18 ∷ 1 ∷ 1 ∷ 1 ∷ 39 ∷ 1 ∷ 2 ∷ 1 ∷
    16 ∷ 1 ∷ 0 ∷ 0 ∷ 0 ∷ 4 ∷ 0 ∷ 1 ∷ 0 ∷ 5 ∷ 18 ∷ 0 ∷ 0 ∷ 2 ∷ 0 ∷ 0 ∷ 0 ∷
    1 ∷ 21 ∷ 0 ∷ 0 ∷ 4 ∷ 0 ∷ 1 ∷ 0 ∷ 5 ∷ 39 ∷ 0 ∷ 0 ∷ 2 ∷ 21 ∷ 0 ∷ 0 ∷ 23 ∷ 42 ∷ 3 ∷ 0 ∷ 28 ∷ 47 ∷ 0 ∷ 0 ∷ 24 ∷ 44 ∷ 0 ∷ 0 ∷ 3 ∷ 21 ∷ 0 ∷ 0 ∷
    23 ∷ 56 ∷ 2 ∷ 0 ∷ 28 ∷ 61 ∷ 0 ∷ 0 ∷ 24 ∷ 58 ∷ 0 ∷ 0 ∷ 3 ∷ 0 ∷ 0 ∷ 0 ∷ []) ∷
    -- M10: the empty source
    reads [] (Refused (refusal 5 0)) [] ∷
    -- M11: a dummy statement at depth 64, and at 65
    reads (nested 63) Accepted (0 ∷ 0 ∷ 0 ∷ []) ∷
    reads (nested 64) (Refused (refusal 6 448)) [] ∷
    -- M12
    run
    "'begin' 'integer' 'procedure' fact(n); 'value' n; 'integer' n; fact := 'if' n = 0 'then' 1 'else' n * fact(n - 1); outinteger(1, fact(5)) 'end'"
    Ended
    80
    90
    (pos 0 ∷ pos 120 ∷ pos 0 ∷ []) ∷
    []
