-- The names of a scope, and what is so of each of a list.
-- Assumes nothing: these are definitions.
use Rattle.std.specs.Prelude.{List, [], ◌∷◌, ◌++◌}
use Rattle.names.specs.Program.{Name}
use Rattle.names.specs.Scopes.{name_of, formals_of, values_of, specifications_of, Scope, of_block, of_body}
use Rattle.names.specs.Uses.{all_names, names_in}

abbrev pub All : {A : Type 0} → (A → Type 0) → List A → Type 0
All P [] = Unit {0}
All P (x ∷ l) = P x × All P l

-- the names that a scope's own heading or head has: declared there, or formals and their procedure
abbrev pub own_names : Scope → List Name
own_names (of_block d) = names_in (of_block d)
own_names (of_body p) = name_of p ∷ formals_of p

abbrev pub entries : Scope → List Name
entries (of_block d) = []
entries (of_body p) = values_of p ++ all_names (specifications_of p)
