-- Four words as a node or a row: the kind, a symbol's number, and two more.
use Rattle.std.specs.Prelude.{ℕ, List, get_or}
use Rattle.names.specs.declared.Node.{Node}
use Rattle.names.specs.declared.Row.{Row}

abbrev pub node_of_words : List ℕ → Node
node_of_words ws = record { kind = get_or ws 0 0; symbol = record { number = get_or ws 1 0 }; one = get_or ws 2 0; two = get_or ws 3 0 }

abbrev pub row_of_words : List ℕ → Row
row_of_words ws = record { kind = get_or ws 0 0; symbol = record { number = get_or ws 1 0 }; scope = get_or ws 2 0; sort = get_or ws 3 0 }
