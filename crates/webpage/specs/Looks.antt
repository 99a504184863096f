-- What is to be seen of the bytes of a page, a word for each. These are definitions of the tool and no part of the paper.
use Rattle.std.specs.Prelude.{ℕ, ◌<◌, ◌≤◌, ◌%◌, ◌≡◌, List, length, get_or}

-- the words from one place up to another are x, all others as they were
pub record Painted (from to x : ℕ) (row after : List ℕ) : Type 0 where
  pub inside : (i : ℕ) → from ≤ i → i < to → get_or after i 0 ≡ x
  pub outside : (i : ℕ) → (from ≤ i → to ≤ i) → get_or after i 0 ≡ get_or row i 0

-- the words from a place on are as they were
abbrev pub Behind : ℕ → List ℕ → List ℕ → Type 0
Behind n row after = (i : ℕ) → n ≤ i → get_or after i 0 ≡ get_or row i 0

-- of a look: it marks nothing as refused
abbrev pub Unmarked : ℕ → Type 0
Unmarked x = x % 8 < 7

-- the words from a place on are as they were, and none before it is marked that was not
pub record Unmarking (n : ℕ) (row after : List ℕ) : Type 0 where
  pub behind : Behind n row after
  pub kept : (i : ℕ) → Unmarked (get_or row i 0) → Unmarked (get_or after i 0)

-- of an accepted source of n bytes: nothing is marked, and what lies behind it is as it was
pub record Clean (n : ℕ) (row after : List ℕ) : Type 0 where
  pub behind : Behind n row after
  pub unmarked : (i : ℕ) → i < n → i < length row → Unmarked (get_or after i 0)

-- of a refused one: the place is marked, and what lies behind it, but for the place, is as it was
pub record Marked (n place : ℕ) (row after : List ℕ) : Type 0 where
  pub marked : place < length row → get_or after place 0 ≡ 7
  pub behind : (i : ℕ) → n ≤ i → (i ≡ place → ⊥) → get_or after i 0 ≡ get_or row i 0
