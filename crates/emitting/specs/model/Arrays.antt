-- How the arrays of the code hold what Layout and Emission speak of, and what the functions need of them. No part of the paper.
use Rattle.std.specs.Prelude.{ℕ, zero, suc, ◌+◌, ◌*◌, ◌≤◌, ◌<◌, ◌≡◌, cond, ◌||◌, List, [], ◌∷◌, eqb, length, get_or, drop}
use Rattle.grammar.specs.NodeKinds.{n_do, n_for_end, n_procedure, n_procedure_end}
use Rattle.names.specs.model.Rows.{opens_of, fold_nodes}
use Rattle.emitting.specs.model.Layout.{Laying}
use Rattle.emitting.specs.model.Emission.{Used, State, Opened, opened, mark_at, put, top, element_node, loop_node, choice_node, block_node, procedure_node, plain_node, is_element, is_choice, is_block, placed_node}
use Rattle.emitting.specs.declared.Laid.{Laid}
use Rattle.emitting.specs.declared.Writing.{Writing}
use Rattle.emitting.specs.declared.Thing.{Thing}

-- ---- where cells lie

abbrev pub lain : Laid → List ℕ → List ℕ → Laying
lain t around table = record { sort = t.sort; level = t.level; reach = t.reach; around = opens_of t.open around; declared = t.declared; table = table }

abbrev pub unlaid_in : List ℕ → Laying
unlaid_in table = record { sort = 0; level = 0; reach = 0; around = []; declared = 0; table = table }

unfoldable pub AllWithin : List ℕ → ℕ → Type 0
AllWithin [] i = Unit {0}
AllWithin (n ∷ l) i = (n ≤ i) × AllWithin l i

-- behind i nodes there are no more activations, cells, scopes and declarations
pub record Spread (i : ℕ) (st : Laying) : Type 0 where
  pub level : st.level ≤ i
  pub reach : st.reach ≤ i
  pub open_scopes : length st.around ≤ i
  pub declared : st.declared ≤ i
  pub outside : AllWithin st.around i

-- ---- the code

abbrev pub seen : Thing → Opened
seen f = opened f.first f.second f.third f.fourth

abbrev pub nothing : Thing
nothing = record { first = 0; second = 0; third = 0; fourth = 0 }

-- the first n of them, newest first
unfoldable pub things_of : ℕ → List Thing → List Opened
things_of zero things = []
things_of (suc n) things = seen (get_or things n nothing) ∷ things_of n things

abbrev pub see : Writing → List Used → List Thing → List ℕ → List ℕ → List ℕ → State
see t uses things code ahead entries =
    record { uses = drop t.uses uses; at = t.here.at; slots = t.slots; level = t.level; loops = t.loops; cells = t.cells; lefts = t.lefts; awaits = cond t.awaits 1 0; variable = t.variable; declared = t.declared; open_ones = things_of t.open things; code = code; ahead = ahead; entries = entries }

-- the counts that an instruction, or something opened or closed, leaves alone
pub record Alike (t r : Writing) : Type 0 where
  pub slots : r.slots ≡ t.slots
  pub level : r.level ≡ t.level
  pub loops : r.loops ≡ t.loops
  pub cells : r.cells ≡ t.cells
  pub lefts : r.lefts ≡ t.lefts
  pub declared : r.declared ≡ t.declared

-- something open: its second number is a word, or what a use means; the others are counts, places and kinds, up to b
pub record Slim (b : ℕ) (f : Opened) : Type 0 where
  pub first : f.first ≤ b
  pub second : f.second < 4294967296
  pub third : f.third ≤ b
  pub fourth : f.fourth ≤ b

unfoldable pub AllSlim : ℕ → List Opened → Type 0
AllSlim b [] = Unit {0}
AllSlim b (f ∷ l) = Slim b f × AllSlim b l

-- counts up to b, and no more than n things open
pub record Small (b n : ℕ) (st : State) : Type 0 where
  pub at : st.at + 2 * st.lefts ≤ b
  pub slots : st.slots ≤ b
  pub level : st.level ≤ b
  pub loops : st.loops ≤ b
  pub cells : st.cells ≤ b
  pub declared : st.declared ≤ b
  pub variable : st.variable < 4294967296
  pub many : length st.open_ones ≤ n
  pub things : AllSlim b st.open_ones

-- the same of a state's numbers alone
pub record Fit (t : Writing) : Type 0 where
  pub at : t.here.at + 2 * t.lefts < 262144
  pub slots : t.slots < 262144
  pub level : t.level < 262144
  pub loops : t.loops < 262144
  pub cells : t.cells < 262144
  pub declared : t.declared < 262144
  pub variable : t.variable < 4294967296
  pub open_ones : t.open < 8192

-- ---- the pass

-- what a node adds that is of no name and no call
unfoldable pub rest_node : List ℕ → List ℕ → List ℕ → List ℕ → List ℕ → List ℕ → ℕ → ℕ → ℕ → ℕ → State → State
rest_node values layout ahead entries rows marks k s p a st =
    cond (is_element values layout ahead entries k) (element_node values layout ahead entries k (top st.open_ones) p st)
    (cond (eqb k n_do || eqb k n_for_end) (loop_node values layout ahead entries k (top st.open_ones) st)
    (cond (is_choice values layout ahead entries k) (choice_node values layout ahead entries k (top st.open_ones) (mark_at marks s) st)
    (cond (is_block values layout ahead entries k) (block_node values layout ahead entries rows k (top st.open_ones) p st)
    (cond (eqb k n_procedure || eqb k n_procedure_end) (procedure_node values layout ahead entries k (top st.open_ones) st)
    (plain_node values layout ahead entries k s p a st)))))

-- nothing is known, in arrays that may hold anything
abbrev pub fresh_in : List Used → List ℕ → List ℕ → List ℕ → State
fresh_in uses code ahead entries =
    record { uses = uses; at = 0; slots = 0; level = 0; loops = 0; cells = 0; lefts = 0; awaits = 0; variable = 0; declared = 0; open_ones = []; code = code; ahead = ahead; entries = entries }

abbrev pub emitted_from : (ℕ → ℕ) → List ℕ → List ℕ → List ℕ → List ℕ → List ℕ → List ℕ → List ℕ → State → State
emitted_from place values layout ahead entries rows marks nodes st = put 1 0 0 (fold_nodes (placed_node values layout ahead entries rows marks place) nodes st)
