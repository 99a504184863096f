-- Where the cells of a program lie: the first pass over its nodes. For each declaration or formal, by its number, which is its place in source order:
-- the activations around its scope, and the offset of its cell in its activation; of a procedure whether it has a result. The variables of a block lie
-- by their types, which its rows tell. This is the model of the code and no part of the paper; crate translating has that these are the levels and
-- offsets of Translate.
use Rattle.std.specs.Prelude.{ℕ, ◌+◌, ◌*◌, ◌-◌, ◌%◌, Bool, cond, ◌&&◌, List, [], ◌∷◌, eqb, get_or, set, take, replicate}
use Rattle.grammar.specs.NodeKinds.{n_block, n_block_end, n_type, n_variable, n_procedure, n_formal, n_procedure_end}
use Rattle.names.specs.model.Rows.{fold_nodes}
-- an operand of three parts, each in its range
pub use Rattle.machine.specs.Instructions.{packed}

-- ---- the variables of a block, by their types: 1 integer, 2 Boolean, 3 real. A row is kind, symbol, scope, type

-- a row is a variable's of the scope q and the type t
unfoldable pub is_of : ℕ → ℕ → ℕ → ℕ → ℕ → Bool
is_of q t k a b = eqb k n_variable && (eqb a q && eqb b t)

unfoldable pub counting : ℕ → ℕ → ℕ → ℕ → ℕ → ℕ → ℕ → ℕ
counting q t k s a b n = cond (is_of q t k a b) (n + 1) n

-- how many of them some rows have
unfoldable pub count_of : ℕ → ℕ → List ℕ → ℕ
count_of q t rows = fold_nodes (counting q t) rows 0

-- how many cells of the block lie before the first one of a type: integers first, then reals, then Booleans
unfoldable pub first_for : ℕ → ℕ → List ℕ → ℕ
first_for q t rows = cond (eqb t 1) 0 (cond (eqb t 3) (count_of q 1 rows) (count_of q 1 rows + count_of q 3 rows))

-- the place of the variable d among the cells of its block
unfoldable pub among_for : List ℕ → ℕ → ℕ
among_for rows d =
    let q = get_or rows (4 * d + 2) 0 in
    let t = get_or rows (4 * d + 3) 0 in
    first_for q t rows + count_of q t (take (4 * d) rows)

-- the counts of the scope of the declaration d, as an instruction has them, of 10 bits each
unfoldable pub counts_for : List ℕ → ℕ → ℕ
counts_for rows d =
    let q = get_or rows (4 * d + 2) 0 in
    count_of q 1 rows % 1024 + 1024 * (count_of q 3 rows % 1024 + 1024 * (count_of q 2 rows % 1024))

-- ---- the pass

-- the type before; the activations around; the cells of the running activation's scopes; those outside each open scope, innermost first; how many
-- declarations and formals there were; what is known of them
pub record Laying : Type 0 where
  pub sort : ℕ
  pub level : ℕ
  pub reach : ℕ
  pub around : List ℕ
  pub declared : ℕ
  pub table : List ℕ

-- as many declarations and formals as there may be: no more than symbols
abbrev pub declaration_room : ℕ
declaration_room = 2048

abbrev pub unlaid : Laying
unlaid = record { sort = 0; level = 0; reach = 0; around = []; declared = 0; table = replicate declaration_room 0 }

unfoldable pub one_of : ℕ → ℕ
one_of t = cond (eqb t 0) 0 1

unfoldable pub outermost : List ℕ → ℕ
outermost [] = 0
outermost (n ∷ l) = n

unfoldable pub further : List ℕ → List ℕ
further [] = []
further (n ∷ l) = l

-- a variable or formal, whose cell is at an offset
unfoldable pub celled : ℕ → Laying → Laying
celled o st =
    record { sort = st.sort; level = st.level; reach = st.reach + 1; around = st.around; declared = st.declared + 1; table = set st.table st.declared (packed st.level o 0) }

unfoldable pub procedured : Laying → Laying
procedured st =
    record { sort = st.sort; level = st.level + 1; reach = one_of st.sort; around = st.reach ∷ st.around; declared = st.declared + 1; table = set st.table st.declared (packed st.level (one_of st.sort) 0) }

unfoldable pub blocked : Laying → Laying
blocked st = record { sort = st.sort; level = st.level; reach = st.reach; around = st.reach ∷ st.around; declared = st.declared; table = st.table }

-- back to n activations around
unfoldable pub closed : ℕ → Laying → Laying
closed n st = record { sort = st.sort; level = n; reach = outermost st.around; around = further st.around; declared = st.declared; table = st.table }

unfoldable pub typed : ℕ → Laying → Laying
typed t st = record { sort = t; level = st.level; reach = st.reach; around = st.around; declared = st.declared; table = st.table }

module _ (rows : List ℕ) where
  -- what a node adds. A block's first cell lies behind those outside of it; formals lie in their order
  unfoldable pub lay_node : ℕ → ℕ → ℕ → ℕ → Laying → Laying
  lay_node k s a b st =
      cond (eqb k n_type) (typed a st)
      (cond (eqb k n_variable) (celled (outermost st.around + among_for rows st.declared) st)
      (cond (eqb k n_formal) (celled st.reach st)
      (cond (eqb k n_procedure) (procedured st)
      (cond (eqb k n_procedure_end) (closed (st.level - 1) st)
      (cond (eqb k n_block) (blocked st)
      (cond (eqb k n_block_end) (closed st.level st)
      st))))))

  -- the table of all nodes
  unfoldable pub layout_of : List ℕ → List ℕ
  layout_of nodes = (fold_nodes lay_node nodes unlaid).table
