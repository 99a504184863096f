-- A program by itself stands for the passes: its nodes are at depth 1, its names have the letters at their symbols' places of the source, and there is room for its rows.
use Prim.Native.Nat.{ℕ, suc, ◌<◌, ◌≤◌}
use mathlib.Core.Path.{◌≡◌, sym, ap, subst, ◌∙◌}
use mathlib.Core.List.{List}
use native.Mathlib.Omega.{arith}
use lib.ListN.{length, get_or}
use Rattle.symbols.specs.Names.{letters_at}
use Rattle.symbols.specs.Scan.{scan, values_of}
use Rattle.grammar.specs.Trees.{yield}
use Rattle.names.specs.Program.{Statement}
use Rattle.names.specs.Nodes.{nodes_s}
use Rattle.names.specs.Outline.{rows_s}
use Rattle.names.proofs.AllNames.{AllS}
use Rattle.names.proofs.Weaken.{map_all}
use Rattle.names.proofs.Named.{named}
use Rattle.names.proofs.Bridge.{bridge}
use Rattle.names.proofs.Fours.{fours_weaken}
use Rattle.names.proofs.NearNodes.{SymbolsWithin, some_symbols, nodes_before_end}
use Rattle.types.proofs.TreeStatements.{deep}
use Rattle.table.proofs.Fits.{rows_room, nodes_room}
use Rattle.reading.specs.Judging.{its_program}
use Rattle.reading.specs.Reading.{symbols, place_in}
use Rattle.reading.specs.model.Stages.{Ready}
use Rattle.reading.proofs.Passed.{Stands}

module _ {source places nodes : List ℕ} {n : ℕ} (ready : Ready source places nodes n) where
  abbrev pub letters : ℕ → List ℕ
  letters k = letters_at source (place_in source k)

  abbrev pub worth : ℕ → ℕ
  worth k = get_or (values_of (scan symbols source).found) k 0

  abbrev pub program : Statement
  program = its_program ready.program

  pub length_is : length (yield ready.program.tree) ≡ n
  length_is = ap length ready.program.keeps.spelled ∙ sym ready.places_in.count

  pub few : length (yield ready.program.tree) ≤ 2048
  few = omega (arith, length_is, ready.places_in.few)

  -- every name has its symbol's letters and a symbol of the source
  all_good : AllS (λ x. (x.letters ≡ letters x.symbol) × (x.symbol < n)) program
  all_good = subst (λ m. AllS (λ x. (x.letters ≡ letters x.symbol) × (x.symbol < m)) program) length_is (named worth letters ready.program.tree)

  pub below : AllS (λ x. x.symbol < n) program
  below = map_all program (λ x g. g.1) all_good

  pub nodes_are : nodes ≡ nodes_s 1 program
  nodes_are = ready.words ∙ bridge worth letters ready.program.tree

  pub rows_fit : length (rows_s 0 0 program) ≤ 32768
  rows_fit = rows_room worth letters ready.program.tree few

  pub nodes_fit : length nodes ≤ 32760
  nodes_fit = subst (λ ws. length ws ≤ 32760) (sym nodes_are) (nodes_room worth letters ready.program.tree few)

  -- the symbols of the nodes: the last one, 'end', is none of them
  pub within : (m : ℕ) → length (yield ready.program.tree) ≡ suc m → SymbolsWithin m nodes
  within m e = subst (SymbolsWithin m) (sym ready.words) (nodes_before_end ready.program.tree m e)

  within_nodes : SymbolsWithin n nodes
  within_nodes =
      let m = some_symbols ready.program.tree in
      let l : m.0 ≤ n = omega (arith, m.1, length_is) in
      fours_weaken (λ s h. omega arith) (within m.0 m.1)

  pub stands : Stands source places nodes n program
  stands = record {
    depth = 1;
    there = deep 1 program (omega arith);
    noded = nodes_are;
    few = ready.places_in.few;
    named = map_all program (λ x g. (g.0 ∙ ap (letters_at source) (sym (ready.places_in.placed x.symbol g.1)), g.1)) all_good;
    within = within_nodes;
    room = rows_fit;
  }
