-- How the code compares. No part of the paper.
use Rattle.std.specs.Prelude.{ℕ, zero, suc, cond, List, [], ◌∷◌, ◌++◌, ℤ, get_or, take, drop}
use Rattle.checking.specs.Checking.{is_word}

-- how many words of a list are the ones that should stand there, before the first that is not
unfoldable pub agreed : List ℤ → List ℕ → ℕ
agreed [] ws = 0
agreed (x ∷ xs) [] = 0
agreed (x ∷ xs) (w ∷ ws) = cond (is_word x w) (suc (agreed xs ws)) 0

-- of so many rows of `wide` words, each row's first `width`
unfoldable pub narrow : ℕ → ℕ → ℕ → List ℕ → List ℕ
narrow width wide zero ws = []
narrow width wide (suc n) ws = take width ws ++ narrow width wide n (drop wide ws)

-- the count that stands first in a table, and its rows
unfoldable pub section : ℕ → ℕ → List ℕ → List ℕ
section width wide table = get_or table 0 0 ∷ narrow width wide (get_or table 0 0) (drop 1 table)
