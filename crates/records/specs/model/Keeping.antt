-- How the code writes a record down, word after word. No part of the paper.
use Rattle.std.specs.Prelude.{ℕ, ◌+◌, ◌≤◌, ◌<◌, ◌≡◌, List, ◌++◌, ℤ, length, take, drop}

-- words stand from an index on, up to the next index, and nothing else has changed
pub record Puts (room : List ℤ) (at : ℕ) (xs : List ℤ) (room' : List ℤ) (to : ℕ) : Type 0 where
  pub to_is : to ≡ at + length xs
  pub front : take to room' ≡ take at room ++ xs
  pub behind : drop to room' ≡ drop to room
  pub long : length room' ≡ length room

-- every length is a word, and all words have room
pub record Room (n store output m room : ℕ) : Type 0 where
  pub few_inputs : n < 2147483648
  pub short_store : store < 2147483648
  pub short_output : output < 2147483648
  pub few_written : m < 2147483648
  pub enough : 11 + n + m ≤ room
