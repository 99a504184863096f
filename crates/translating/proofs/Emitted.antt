-- The words that the pass over a program's nodes writes are the words of its translation: done once, the pass finds what lies ahead and where procedures
-- begin; done again with these tables, it writes the code. Assumes nothing.
use Prim.Native.Nat.{ℕ, ◌-◌, ◌≤◌, ◌<◌}
use native.Mathlib.Omega.{arith}
use mathlib.Core.Path.{◌≡◌, refl, sym, ap, ◌∙◌}
use mathlib.Core.List.{List, [], ◌∷◌, ◌++◌, append-nil}
use lib.ListN.{length, get_or, replicate}
use Rattle.machine.specs.Instructions.{END}
use Rattle.names.specs.Program.{Statement}
use Rattle.names.specs.Nodes.{nodes_s}
use Rattle.names.specs.model.Rows.{fold_nodes}
use Rattle.names.specs.Uses.{uses_s}
use Rattle.names.specs.Outline.{rows_s}
use Rattle.names.proofs.Resolved.{Matches}
use Rattle.translation.specs.model.Translate.{Around, code_s, code, end_s}
use Rattle.machine.specs.model.Words.{words, CodeFits}
use Rattle.translation.specs.model.Scoped.{Scoped}
use Rattle.translation.specs.model.Sizes.{symbols_s}
use Rattle.emitting.specs.model.Emission.{Used, State, put, fresh, emitted, code_of}
use Rattle.names.specs.Every.{AnyName, EveryS}
use Rattle.translating.proofs.Accepting.{Valued, Pointed}
use Rattle.translating.proofs.Standing.{StandS}
use Rattle.translating.proofs.Counts.{HeadedS, CountsS}
use Rattle.translating.proofs.BlockRows.{counts}
use Rattle.translating.proofs.ToldCalls.{Asked, ToldS, told_s}
use Rattle.translating.proofs.ActualWords.{word_in}
use Rattle.translating.proofs.Rising.{RowsRise}
use Rattle.translating.proofs.Sites.{number_of, LaidS}
use Rattle.translating.proofs.Shown.{shown, shown_none, shown_whole}
use Rattle.translating.proofs.SlotLists.{more_slots, ahead_s, few_s}
use Rattle.translating.proofs.EntryTables.{entered_s, RightS, right_entries}
use Rattle.translating.proofs.Written.{Tables, Frame, Flow, uses_as, real, wrote, put_real, step, run, Passed}
use Rattle.translating.proofs.WrittenStatements.{emits_s}

-- the mark of an 'if'
abbrev pub Marked : List ℕ → ℕ → ℕ → Type 0
Marked marks q w = get_or marks q 0 ≡ w

-- nothing around, nothing behind
abbrev outermost : Frame
outermost = record { level = 0; loops = 0; cells = 0; lefts = 0; awaits = 0; opens = [] }

abbrev begun : Statement → Flow
begun s = record { uses = uses_s [] s; at = 0; variable = 0; code = []; slots = []; entries = []; long = refl }

fresh_is : (key : ℕ → ℕ) (s : Statement) → fresh 16384 (uses_as key (uses_s [] s)) ≡ real key outermost (begun s)
fresh_is key s = rw (shown_none 16384, shown_none 8192, shown_none 2048)

module _ (place key : ℕ → ℕ) (small : (q : ℕ) → place q < 65536) (values layout rows marks : List ℕ) (d : ℕ) (s : Statement) (ok : Scoped s)
    (calls : ToldS (Valued values) (Pointed values) (Marked marks) (Asked key rows) [] s) (laid : LaidS key layout 0 0 s) (counts : CountsS rows 0 s) where
  abbrev told : List ℕ → List ℕ → Tables
  told ahead entries = record { place = place; key = key; values = values; layout = layout; ahead = ahead; entries = entries; rows = rows; marks = marks; small = small }

  -- what lies ahead
  abbrev before : List Around → Statement → ℕ → List ℕ → List ℕ
  before g s b = ahead_s place (word_in key layout) g s b

  abbrev uses : List Used
  uses = uses_as key (uses_s [] s)

  -- a pass over all nodes
  whole : (R : Type 0) (ahead entries : List ℕ) → (R → RightS key entries [] s 0)
      → Passed (told ahead entries) R outermost outermost (nodes_s d s) [] (end_s [] s 0) (before [] s 0) (entered_s [] s 0) (code_s place [] 0 s 0) (begun s)
  whole R ahead entries right =
      (emits_s (told ahead entries) R [] 0 s d 0 0 (λ z. tt) right tt ok calls laid counts).pass [] outermost (begun s) (record { level = refl; loops = refl; lefts = refl; awaits = refl }) (sym (append-nil (uses_s [] s))) refl refl

  ran : (R : Type 0) (ahead entries : List ℕ) (right : R → RightS key entries [] s 0)
      → emitted values layout ahead entries rows marks 16384 place (nodes_s d s) uses ≡ real key outermost (wrote 1 0 0 (whole R ahead entries right).next)
  unfolding emitted step fold_nodes
  ran R ahead entries right =
      let tb = told ahead entries in
      let p = whole R ahead entries right in
      ap (put 1 0 0)
      (ap (run tb (nodes_s d s)) (fresh_is key s)
      ∙ ap (λ (l : List ℕ). run tb l (real key outermost (begun s))) (sym (append-nil (nodes_s d s)))
      ∙ p.goes.so [])
      ∙ put_real key 1 0 0 outermost p.next

  -- ---- the first run: its tables

  first : Passed (told [] []) ⊥ outermost outermost (nodes_s d s) [] (end_s [] s 0) (before [] s 0) (entered_s [] s 0) (code_s place [] 0 s 0) (begun s)
  first = whole ⊥ [] [] (λ z. absurd z)

  abbrev slots : List ℕ
  slots = first.next.slots

  abbrev entries : List ℕ
  entries = shown 2048 (entered_s [] s 0 [])

  -- ---- the second

  second : RightS key entries [] s 0
      → Passed (told (shown 8192 slots) entries) (Unit {0}) outermost outermost (nodes_s d s) [] (end_s [] s 0) (before [] s 0) (entered_s [] s 0) (code_s place [] 0 s 0) (begun s)
  second right = whole (Unit {0}) (shown 8192 slots) entries (λ z. right)

  twice : (right : RightS key entries [] s 0) → code_of 16384 place values layout rows marks (nodes_s d s) uses ≡ shown 16384 ((second right).next.code ++ (1 ∷ 0 ∷ []))
  unfolding code_of first second
  twice right =
      let nodes = nodes_s d s in
      ap (λ (st : State). (emitted values layout st.ahead st.entries rows marks 16384 place nodes uses).code) (ran ⊥ [] [] (λ z. absurd z))
      ∙ ap (λ (l : List ℕ). (emitted values layout (shown 8192 slots) (shown 2048 l) rows marks 16384 place nodes uses).code) first.enters
      ∙ ap (λ (st : State). st.code) (ran (Unit {0}) (shown 8192 slots) entries (λ z. right))

  -- the table of what lies ahead is right
  few_slots : end_s [] s 0 < 8191 → length slots ≤ 8192
  few_slots l = omega (arith, ap length (more_slots first.fills), few_s place (word_in key layout) [] s 0 [], l)

  ahead_right : end_s [] s 0 < 8191 → shown 8192 slots ≡ before [] s 0 (replicate (8192 - length slots) 0)
  ahead_right l = shown_whole 8192 slots (few_slots l) ∙ first.fills.so (replicate (8192 - length slots) 0)

  written : end_s [] s 0 < 8191 → CodeFits (code place s) → (right : RightS key entries [] s 0) → (second right).next.code ++ (1 ∷ 0 ∷ []) ≡ words (code place s)
  unfolding code words
  written l i right = ((second right).right tt (replicate (8192 - length slots) 0) (END ∷ []) (ahead_right l) i).0

-- what has room: no more symbols than may come, and the code in its words
pub record Roomy (place : ℕ → ℕ) (s : Statement) : Type 0 where
  pub symbols : symbols_s s ≤ 2048
  pub ended : end_s [] s 0 < 8191
  pub ranged : CodeFits (code place s)
  pub fits : length (words (code place s)) ≤ 16384

-- the words of the pass are the words of the translation, and zeros behind them; at any depth
pub emitted_code : (place : ℕ → ℕ) → ((q : ℕ) → place q < 65536) → (n : ℕ) (values layout marks : List ℕ) (d : ℕ) (s : Statement) → n ≤ 2048 → RowsRise 0 n (rows_s 0 0 s) → Scoped s → Roomy place s
    → HeadedS s → EveryS AnyName (Valued values) (Pointed values) s → StandS (Marked marks) [] s → LaidS (number_of (rows_s 0 0 s)) layout 0 0 s
    → (words_of : List ℕ) → Matches (rows_s 0 0 s) words_of (uses_s [] s)
    → code_of 16384 place values layout (rows_s 0 0 s) marks (nodes_s d s) (uses_as (number_of (rows_s 0 0 s)) (uses_s [] s)) ≡ words (code place s) ++ replicate (16384 - length (words (code place s))) 0
emitted_code place small n values layout marks d s few rising ok roomy headed numbers stand laid ws used =
    let rows = rows_s 0 0 s in
    let key = number_of rows in
    let right = right_entries n few s rising in
    let calls = told_s (Valued values) (Pointed values) (Marked marks) n rows rising [] s numbers stand (ws, used) in
    let counted = counts s headed roomy.symbols in
    twice place key small values layout rows marks d s ok calls laid counted right
    ∙ ap (shown 16384) (written place key small values layout rows marks d s ok calls laid counted roomy.ended roomy.ranged right)
    ∙ shown_whole 16384 (words (code place s)) roomy.fits
