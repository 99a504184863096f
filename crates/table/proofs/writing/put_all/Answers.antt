-- `table::writing::put_all` meets its contract. Six parts are written one after another; what is left to write behind each is the rest of the table,
-- and that is why there is room for it. Assumes nothing.
use mathlib.Core.Path.{◌≡◌, refl, sym}
use mathlib.Core.List.{List, [], ◌∷◌, ◌++◌, append-nil}
use Prim.Native.Nat.{ℕ, ◌+◌, ◌/◌, ◌≤◌}
use native.Mathlib.Omega.{arith}
use lib.ListN.{length}
use Rattle.table.specs.Table.{declaration_words, node_words}
use Rattle.table.specs.model.Writing.{Wrote, place_of, use_model, use_section, declaration_section, node_section, table_behind}
use Rattle.table.proofs.Written.{Writing, none_yet, some_more, as_before, room_next, all_written, fours_is}
use Rattle.table.proofs.writing.put_all.Goals as goal

module _ (place : ℕ → ℕ) (rows own nodes uses : List ℕ) where
  abbrev nodes-left : List ℕ
  nodes-left = (length nodes / 4 ∷ []) ++ node_words place nodes

  abbrev rows_left : List ℕ
  rows_left = (length own / 4 ∷ []) ++ (declaration_words place own ++ nodes-left)

  sections : table_behind place rows own nodes uses ≡ (length uses ∷ []) ++ (use_model place rows nodes uses ++ rows_left)
  unfolding table_behind use_section declaration_section node_section
  sections = rw (fours_is own, fours_is nodes)

  abbrev Left : List ℕ → List ℕ → ℕ → List ℕ → Type 0
  Left old new at left = Writing old new 0 at left (table_behind place rows own nodes uses)

  begun : (old : List ℕ) → Left old old 0 ((length uses ∷ []) ++ (use_model place rows nodes uses ++ rows_left))
  begun old = as_before (none_yet old 0 (table_behind place rows own nodes uses)) sections

  counted : {old new : List ℕ} → Wrote old new 0 (length uses ∷ []) → Left old new 1 (use_model place rows nodes uses ++ rows_left)
  counted {old} p = some_more (begun old) refl p refl

  used : {old mid new : List ℕ} {a : ℕ} → Left old mid 1 (use_model place rows nodes uses ++ rows_left)
      → Wrote mid new 1 (use_model place rows nodes uses) → a ≡ 1 + length (use_model place rows nodes uses) → Left old new a rows_left
  used w p e = some_more w refl p e

  rows-counted : {old mid new : List ℕ} {a : ℕ} → Left old mid a rows_left → Wrote mid new a (length own / 4 ∷ []) → Left old new (a + 1) (declaration_words place own ++ nodes-left)
  rows-counted w p = some_more w refl p refl

  declared : {old mid new : List ℕ} {a b : ℕ} → Left old mid a (declaration_words place own ++ nodes-left)
      → Wrote mid new a (declaration_words place own) → b ≡ a + length (declaration_words place own) → Left old new b nodes-left
  declared w p e = some_more w refl p e

  nodes-counted : {old mid new : List ℕ} {b : ℕ} → Left old mid b nodes-left → Wrote mid new b (length nodes / 4 ∷ []) → Left old new (b + 1) (node_words place nodes)
  nodes-counted w p = some_more w refl p refl

  whole : {old mid new : List ℕ} {b : ℕ} → Left old mid b (node_words place nodes) → Wrote mid new b (node_words place nodes) → Wrote old new 0 (table_behind place rows own nodes uses)
  whole w p = (all_written (some_more {rest = []} w (sym (append-nil (node_words place nodes))) p refl) refl).0

  -- there is room for the next word, and for the next words
  room_word : {old new : List ℕ} {at x : ℕ} {rest : List ℕ} → Left old new at (x ∷ rest) → length (table_behind place rows own nodes uses) ≤ length old → at + 1 ≤ length new
  room_word {x = x} {rest} w h = let r = room_next (x ∷ []) rest w refl (omega arith) in omega arith

  room : {old new : List ℕ} {at : ℕ} (u rest : List ℕ) → Left old new at (u ++ rest) → length (table_behind place rows own nodes uses) ≤ length old → at + length u ≤ length new
  room u rest w h = room_next u rest w refl (omega arith)

  room-nodes : {old new : List ℕ} {at : ℕ} → Left old new at (node_words place nodes) → length (table_behind place rows own nodes uses) ≤ length old → at + length (node_words place nodes) ≤ length new
  room-nodes w h = room_next (node_words place nodes) [] w (sym (append-nil (node_words place nodes))) (omega arith)

pub put-requires : goal.put-requires
put-requires c =
    let args = c.args in
    (omega arith, room_word (place_of args.places.now) args.rows.now args.own.now args.nodes.now args.uses.now (begun (place_of args.places.now) args.rows.now args.own.now args.nodes.now args.uses.now args.table.now) c.requires.0)

pub put_uses-a-requires : goal.put_uses-a-requires
put_uses-a-requires c =
    let args = c.args in
    room (place_of args.places.now) args.rows.now args.own.now args.nodes.now args.uses.now (use_model (place_of args.places.now) args.rows.now args.nodes.now args.uses.now) (rows_left (place_of args.places.now) args.rows.now args.own.now args.nodes.now args.uses.now) (counted (place_of args.places.now) args.rows.now args.own.now args.nodes.now args.uses.now c.put.ensures) c.requires.0

pub put-requires-2 : goal.put-requires-2
put-requires-2 c =
    let args = c.args in
    (omega arith, room_word (place_of args.places.now) args.rows.now args.own.now args.nodes.now args.uses.now (used (place_of args.places.now) args.rows.now args.own.now args.nodes.now args.uses.now (counted (place_of args.places.now) args.rows.now args.own.now args.nodes.now args.uses.now c.put.ensures) c.put_uses-a.ensures.wrote c.put_uses-a.ensures.value) c.requires.0)

pub overflow_add-a : goal.overflow_add-a
overflow_add-a c = let r = room_word (place_of c.args.places.now) c.args.rows.now c.args.own.now c.args.nodes.now c.args.uses.now (used (place_of c.args.places.now) c.args.rows.now c.args.own.now c.args.nodes.now c.args.uses.now (counted (place_of c.args.places.now) c.args.rows.now c.args.own.now c.args.nodes.now c.args.uses.now c.put.ensures) c.put_uses-a.ensures.wrote c.put_uses-a.ensures.value) c.requires.0 in omega (arith, c.put_uses-a.auto)

pub put_declarations-b-requires : goal.put_declarations-b-requires
put_declarations-b-requires c =
    let args = c.args in
    room (place_of args.places.now) args.rows.now args.own.now args.nodes.now args.uses.now (declaration_words (place_of args.places.now) args.own.now) (nodes-left (place_of args.places.now) args.rows.now args.own.now args.nodes.now args.uses.now) (rows-counted (place_of args.places.now) args.rows.now args.own.now args.nodes.now args.uses.now (used (place_of args.places.now) args.rows.now args.own.now args.nodes.now args.uses.now (counted (place_of args.places.now) args.rows.now args.own.now args.nodes.now args.uses.now c.put.ensures) c.put_uses-a.ensures.wrote c.put_uses-a.ensures.value) c.put-2.ensures) c.requires.0

pub put-requires-3 : goal.put-requires-3
put-requires-3 c =
    let args = c.args in
    (omega arith, room_word (place_of args.places.now) args.rows.now args.own.now args.nodes.now args.uses.now (declared (place_of args.places.now) args.rows.now args.own.now args.nodes.now args.uses.now (rows-counted (place_of args.places.now) args.rows.now args.own.now args.nodes.now args.uses.now (used (place_of args.places.now) args.rows.now args.own.now args.nodes.now args.uses.now (counted (place_of args.places.now) args.rows.now args.own.now args.nodes.now args.uses.now c.put.ensures) c.put_uses-a.ensures.wrote c.put_uses-a.ensures.value) c.put-2.ensures) c.put_declarations-b.ensures.wrote c.put_declarations-b.ensures.value) c.requires.0)

pub overflow_add-b : goal.overflow_add-b
overflow_add-b c = let r = room_word (place_of c.args.places.now) c.args.rows.now c.args.own.now c.args.nodes.now c.args.uses.now (declared (place_of c.args.places.now) c.args.rows.now c.args.own.now c.args.nodes.now c.args.uses.now (rows-counted (place_of c.args.places.now) c.args.rows.now c.args.own.now c.args.nodes.now c.args.uses.now (used (place_of c.args.places.now) c.args.rows.now c.args.own.now c.args.nodes.now c.args.uses.now (counted (place_of c.args.places.now) c.args.rows.now c.args.own.now c.args.nodes.now c.args.uses.now c.put.ensures) c.put_uses-a.ensures.wrote c.put_uses-a.ensures.value) c.put-2.ensures) c.put_declarations-b.ensures.wrote c.put_declarations-b.ensures.value) c.requires.0 in omega (arith, c.put_declarations-b.auto)

pub put_nodes-requires : goal.put_nodes-requires
put_nodes-requires c =
    let args = c.args in
    room-nodes (place_of args.places.now) args.rows.now args.own.now args.nodes.now args.uses.now (nodes-counted (place_of args.places.now) args.rows.now args.own.now args.nodes.now args.uses.now (declared (place_of args.places.now) args.rows.now args.own.now args.nodes.now args.uses.now (rows-counted (place_of args.places.now) args.rows.now args.own.now args.nodes.now args.uses.now (used (place_of args.places.now) args.rows.now args.own.now args.nodes.now args.uses.now (counted (place_of args.places.now) args.rows.now args.own.now args.nodes.now args.uses.now c.put.ensures) c.put_uses-a.ensures.wrote c.put_uses-a.ensures.value) c.put-2.ensures) c.put_declarations-b.ensures.wrote c.put_declarations-b.ensures.value) c.put-3.ensures) c.requires.0

pub returns : goal.returns
returns c =
    let args = c.args in
    whole (place_of args.places.now) args.rows.now args.own.now args.nodes.now args.uses.now (nodes-counted (place_of args.places.now) args.rows.now args.own.now args.nodes.now args.uses.now (declared (place_of args.places.now) args.rows.now args.own.now args.nodes.now args.uses.now (rows-counted (place_of args.places.now) args.rows.now args.own.now args.nodes.now args.uses.now (used (place_of args.places.now) args.rows.now args.own.now args.nodes.now args.uses.now (counted (place_of args.places.now) args.rows.now args.own.now args.nodes.now args.uses.now c.put.ensures) c.put_uses-a.ensures.wrote c.put_uses-a.ensures.value) c.put-2.ensures) c.put_declarations-b.ensures.wrote c.put_declarations-b.ensures.value) c.put-3.ensures) c.put_nodes.ensures.wrote
