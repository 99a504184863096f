-- Request 7: what the loops leave that bring a prelude and a scheme together. These serve contracts and are no part of the paper.
use Rattle.std.specs.Prelude.{ℕ, ◌+◌, ◌-◌, ◌*◌, ◌<◌, ◌≤◌, ◌≡◌, Bool, cond, List, [], ◌∷◌, ◌++◌, length, take, drop, get_or}
use Rattle.grammar.specs.NodeKinds.{n_block, n_statements, n_block_end}
use Rattle.grammar.specs.model.Parsing.{zeros}
use Rattle.names.specs.Nodes.{mark}
use Rattle.table.specs.Table.{has_none}
use Rattle.reading.specs.Judging as any
use Rattle.reading.specs.Two.{beyond, count_of, left, place_with}

-- words laid over others from a place on
abbrev pub laid : {A : Type 0} → List A → ℕ → List A → List A
laid old at words = take at old ++ (words ++ drop (at + length words) old)

-- n more, each
unfoldable pub raised : ℕ → List ℕ → List ℕ
raised n [] = []
raised n (x ∷ xs) = (x + n) ∷ raised n xs

-- the first i of them
abbrev pub first_raised : ℕ → ℕ → List ℕ → List ℕ
first_raised n i old = raised n (take i old) ++ drop i old

-- scheme and prelude on one page, the scheme at 0 and the prelude at 32,768, zeros behind each
abbrev pub page : List ℕ → List ℕ → List ℕ
page scheme prelude = scheme ++ (zeros (beyond - length scheme) ++ (prelude ++ zeros (beyond - length prelude)))

-- its kind has no symbol (docs/TABLE.md)
abbrev pub without : ℕ → Bool
without k = has_none (λ q. q) k

-- m added to the symbol of each node that has one
unfoldable pub shift : ℕ → List ℕ → List ℕ
shift m [] = []
shift m (k ∷ []) = []
shift m (k ∷ s ∷ []) = []
shift m (k ∷ s ∷ a ∷ []) = []
shift m (k ∷ s ∷ a ∷ b ∷ ws) = k ∷ cond (without k) s (s + m) ∷ a ∷ b ∷ shift m ws

-- of the first words of nodes
abbrev pub first_shifted : ℕ → ℕ → List ℕ → List ℕ
first_shifted m n old = shift m (take n old) ++ drop n old

-- no symbol of count nodes is above a bound
abbrev pub Symbols : ℕ → ℕ → List ℕ → Type 0
Symbols bound count ws = (i : ℕ) → i < count → get_or ws (4 * i + 1) 0 ≤ bound

-- the marks of a block around the nodes of a prelude and a scheme, with the symbol q; without a prelude the scheme's alone
abbrev pub marked : ℕ → List ℕ → List ℕ → List ℕ
marked q [] ws = ws
marked q (x ∷ ps) ws = mark n_block q ++ ((x ∷ ps) ++ (mark n_statements q ++ (ws ++ mark n_block_end q)))

-- the places of a prelude's symbols and of a scheme's stand in the array
pub record PlacedWith (prelude scheme places : List ℕ) (n : ℕ) : Type 0 where
  pub count : n ≡ count_of prelude + length (any.kinds_in (left prelude) scheme)
  pub placed : (k : ℕ) → k < n → get_or places k 0 ≡ place_with prelude scheme k
