-- From what the front end fills to the code: what the passes make of it are the words of the program's translation, and zeros behind them. The laws of the passes,
-- with what acceptance says of the program.
use Prim.Native.Nat.{ℕ, ◌<◌, ◌≤◌}
use mathlib.Core.Path.{◌≡◌, refl, ap, ◌∙◌}
use mathlib.Core.List.{List, [], ◌∷◌}
use Rattle.machine.specs.model.Words.{words}
use Rattle.names.specs.Program.{Statement}
use Rattle.names.specs.Every.{AnyName, EveryS}
use Rattle.names.specs.Nodes.{nodes_s}
use Rattle.names.specs.Outline.{rows_s}
use Rattle.names.specs.model.Rows.{fold_nodes}
use Rattle.names.specs.Uses.{uses_s}
use Rattle.names.proofs.Resolved.{Matches}
use Rattle.table.proofs.SamePlaces.{SymbolsBelow}
use Rattle.emitting.specs.model.Layout.{layout_of}
use Rattle.emitting.specs.model.Emission.{Used, State, uses_in, place_at, fresh, put, placed_node, emitted, code_of}
use Rattle.translation.specs.model.Translate.{code}
use Rattle.translation.specs.model.Scoped.{Scoped}
use Rattle.translating.specs.Job.{filled}
use Rattle.translating.proofs.Sites.{number_of}
use Rattle.translating.proofs.Accepting.{Valued, Pointed}
use Rattle.translating.proofs.Counts.{HeadedS}
use Rattle.translating.proofs.Rising.{RowsRise}
use Rattle.translating.proofs.ToldUses.{told_uses}
use Rattle.translating.proofs.Written.{uses_as}
use Rattle.translating.proofs.LaidOut.{laid}
use Rattle.translating.proofs.Standing.{StandS}
use Rattle.translating.proofs.Emitted.{Marked, Roomy, emitted_code}

-- ---- places that agree on the nodes' symbols

module _ (n : ℕ) (f g : ℕ → ℕ) (agree : (k : ℕ) → k < n → f k ≡ g k) where
  same_fold : (vs ly ah es rs ms : List ℕ) (ws : List ℕ) (st : State) → SymbolsBelow n ws → fold_nodes (placed_node vs ly ah es rs ms f) ws st ≡ fold_nodes (placed_node vs ly ah es rs ms g) ws st
  unfolding fold_nodes
  same_fold vs ly ah es rs ms [] st h = refl
  same_fold vs ly ah es rs ms (k ∷ []) st h = refl
  same_fold vs ly ah es rs ms (k ∷ s ∷ []) st h = refl
  same_fold vs ly ah es rs ms (k ∷ s ∷ a ∷ []) st h = refl
  same_fold vs ly ah es rs ms (k ∷ s ∷ a ∷ b ∷ ws) st h = rw (agree s h.0) (same_fold vs ly ah es rs ms ws (placed_node vs ly ah es rs ms g k s a b st) h.1)

  same_emitted : (vs ly ah es rs ms : List ℕ) (r : ℕ) (ws : List ℕ) (us : List Used) → SymbolsBelow n ws → emitted vs ly ah es rs ms r f ws us ≡ emitted vs ly ah es rs ms r g ws us
  unfolding emitted
  same_emitted vs ly ah es rs ms r ws us h = ap (put 1 0 0) (same_fold vs ly ah es rs ms ws (fresh r us) h)

  same_code : (r : ℕ) (vs ly rs ms ws : List ℕ) (us : List Used) → SymbolsBelow n ws → code_of r f vs ly rs ms ws us ≡ code_of r g vs ly rs ms ws us
  unfolding code_of
  same_code r vs ly rs ms ws us h =
      ap (λ (st : State). (emitted vs ly st.ahead st.entries rs ms r f ws us).code) (same_emitted vs ly [] [] rs ms r ws us h)
      ∙ ap (λ (st : State). st.code) (same_emitted vs ly _ _ rs ms r ws us h)

-- ---- what the front end fills for a program of n symbols, whose nodes are at depth d

-- the nodes; the rows; the uses, each with the number of what it means; places, values and marks, by symbol; and what acceptance says of the program
pub record Lent (place : ℕ → ℕ) (n d : ℕ) (s : Statement) (nodes uses rows places values marks : List ℕ) : Type 0 where
  pub noded : nodes ≡ nodes_s d s
  pub rowed : rows ≡ rows_s 0 0 s
  pub used : Matches (rows_s 0 0 s) uses (uses_s [] s)
  pub placed : (k : ℕ) → k < n → place_at places k ≡ place k
  pub valued : EveryS AnyName (Valued values) (Pointed values) s
  pub marked : StandS (Marked marks) [] s
  pub few : n ≤ 2048
  pub small : (k : ℕ) → place k < 65536
  pub below : SymbolsBelow n (nodes_s d s)
  pub in_order : RowsRise 0 n (rows_s 0 0 s)
  pub headed : HeadedS s
  pub scoped : Scoped s
  pub roomy : Roomy place s

pub coded : {place : ℕ → ℕ} {n d : ℕ} {s : Statement} {nodes uses rows places values marks : List ℕ} → Lent place n d s nodes uses rows places values marks
    → code_of 16384 (place_at places) values (layout_of rows nodes) rows marks nodes (uses_in rows uses) ≡ filled (words (code place s))
coded {place} {n} {d} {s} {nodes} {uses} {rows} {places} {values} {marks} t =
    let rs = rows_s 0 0 s in
    let us = uses_as (number_of rs) (uses_s [] s) in
    ap (λ (l : List ℕ). code_of 16384 (place_at places) values (layout_of l nodes) l marks nodes (uses_in l uses)) t.rowed
    ∙ ap (λ (u : List Used). code_of 16384 (place_at places) values (layout_of rs nodes) rs marks nodes u) (told_uses n rs t.in_order uses (uses_s [] s) t.used)
    ∙ ap (λ (ws : List ℕ). code_of 16384 (place_at places) values (layout_of rs ws) rs marks ws us) t.noded
    ∙ same_code n (place_at places) place t.placed 16384 values (layout_of rs (nodes_s d s)) rs marks (nodes_s d s) us t.below
    ∙ emitted_code place t.small n values (layout_of rs (nodes_s d s)) marks d s t.few t.in_order t.scoped t.roomy t.headed t.valued t.marked
    (laid n t.few d s t.in_order t.roomy.symbols) uses t.used
