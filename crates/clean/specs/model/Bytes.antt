-- What the functions that write a page give back: bytes set down one behind the other, and how a symbol of a kind is spelled. No part of the paper.
use Rattle.std.specs.Prelude.{ℕ, ◌+◌, ◌<◌, ◌≤◌, ◌≡◌, Bool, true, false, List, [], ◌∷◌, length, drop}
use Rattle.symbols.specs.Names.{in_name, digit}
use Rattle.symbols.specs.Symbols.{words, signs}
use Rattle.symbols.specs.model.Kinds.{symbol_of}
use Rattle.table.specs.model.Writing.{Wrote}
use Rattle.symbols.specs.Spelling.{word_for, sign_for, spell, read_off}

-- so many bytes are counted at most
abbrev pub most : ℕ
most = 4294967296

-- bytes put on a page from `at` on: they are counted, and where the page reaches so far they stand there and all else is as it was
pub record Puts (old new : List ℕ) (at to : ℕ) (bytes : List ℕ) : Type 0 where
  pub behind : to ≡ at + length bytes
  pub size : length new ≡ length old
  pub wrote : to ≤ length old → Wrote old new at bytes

-- the bytes of a name, or of a number
abbrev pub sort_of : Bool → ℕ → Bool
sort_of true b = in_name b
sort_of false b = digit b

-- a symbol of a kind, at a place of the source
abbrev pub spelling_at : List ℕ → ℕ → ℕ → List ℕ
spelling_at source k p = spell (symbol_of k 0) (read_off (symbol_of k 0) (drop p source))

abbrev pub word_at : ℕ → List ℕ
word_at k = word_for words (symbol_of k 0) (sign_for signs (symbol_of k 0))

-- the numbers are kinds
abbrev pub AllKinds : List ℕ → Type 0
AllKinds [] = Unit {0}
AllKinds (k ∷ ks) = (k < 43) × AllKinds ks

-- the arrays in which the symbols of a source stand
pub record Lendable (source kinds : List ℕ) : Type 0 where
  pub short : length source ≤ 16384
  pub few : length kinds ≤ 2048
  pub all_kinds : AllKinds kinds
