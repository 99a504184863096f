-- The limits of a run, as paper 01 has them, and the machine's own memory, which is no cell. Assumes nothing: these are definitions.
use Rattle.std.specs.Prelude.{ℕ}

-- "A run reads at most the first 16,384 code words": two an instruction
abbrev pub most_words : ℕ
most_words = 16384

abbrev pub most_instructions : ℕ
most_instructions = 8192

-- "It uses the first 8,192 cells of the store, or fewer if lent fewer"
abbrev pub most_cells : ℕ
most_cells = 8192

-- "it takes two of the store's numbers, so 8,192 cells are 16,384 of them"
abbrev pub cell_numbers : ℕ
cell_numbers = 2

-- "an output entry becomes three numbers"
abbrev pub entry_numbers : ℕ
entry_numbers = 3

-- 27: "a 257th activation live". The program is none of them
abbrev pub most_live : ℕ
most_live = 256

-- return positions of one activation, as many as a nesting has numbers
abbrev pub most_positions : ℕ
most_positions = 64

-- words of one activation: six, and its return positions; and those of all, with the program's
abbrev pub activation_words : ℕ
activation_words = 70

abbrev pub memory_words : ℕ
memory_words = 17990

-- name formals on the way of one store: each was an activation that was live at once with the others
abbrev pub most_links : ℕ
most_links = 256
