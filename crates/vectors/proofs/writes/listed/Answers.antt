-- `vectors::writes::listed` meets its contract. The second line is a page's or not; a part of the room is as long as is listed.
-- Assumes nothing.
use mathlib.Core.Path.{◌≡◌, sym, ◌∙◌}
use mathlib.Core.Bool.{true, false}
use mathlib.Core.List.{List}
use Prim.Native.Nat.{ℕ, ◌+◌, ◌≤◌, ◌<◌, min}
use lib.ListN.{length, take}
use lib.Seq.{length-take-le}
use borrow.Author.Tests.{lt-ltb, le-ltb}
use Rattle.vectors.specs.declared.texts.Numeral.{Numeral}
use Rattle.vectors.specs.declared.tally.Tally.{Tally}
use Rattle.vectors.specs.Listed.{number_at, second_line, page_at, page_listed}
use Rattle.vectors.specs.Pages.{fresh_room, room_listed, LentTold, unlisted, listed}
use borrow.Author.Rules.{rules}
use Rattle.vectors.proofs.writes.listed.Goals as goal

module _ (text : List ℕ) (from : ℕ) (second : from ≡ second_line text) where
  none : length text ≤ from → page_listed text ≡ false
  unfolding page_listed
  none l = rw (sym second, le-ltb from (length text) l)

  module _ (there : from < length text) where
    no-page : page_at text from ≡ false → page_listed text ≡ false
    unfolding page_listed
    no-page e = rw (sym second, lt-ltb from (length text) there, e)

    page : page_at text from ≡ true → page_listed text ≡ true
    unfolding page_listed
    page e = rw (sym second, lt-ltb from (length text) there, e)

  room-listed : (source room : List ℕ) (size : Numeral) (n : ℕ) (t r : Tally) → size ≡ number_at text (from + 2) → n ≡ min size.value 16386 → room ≡ fresh_room
      → LentTold source (take n room) text size.next t r → LentTold source (take (min (room_listed text).value 16386) fresh_room) text (room_listed text).next t r
  room-listed source room size n t r e f g h = rw second at (rw e at (rw f at (rw g at h)))

pub slice_bounds-lent-end : goal.slice_bounds-lent-end
slice_bounds-lent-end c = sym (length-take-le _ _ (search rules))

pub returns-then-page_at : goal.returns-then-page_at
returns-then-page_at c =
    let a = c.args in
    listed (page a.text.now c.second_line-from.result c.second_line-from.ensures c.if-from-text.true (sym c.page_at.ensures ∙ c.if-page_at.true)) c.lent.result (room-listed a.text.now c.second_line-from.result c.second_line-from.ensures a.source.now c.fresh_room-room.result c.number_at-size.result c.clipped-n.result a.t c.lent.result c.number_at-size.ensures.value c.clipped-n.ensures c.fresh_room-room.ensures c.lent.ensures)

pub returns-else-page_at : goal.returns-else-page_at
returns-else-page_at c = unlisted (no-page c.args.text.now c.second_line-from.result c.second_line-from.ensures c.if-from-text.true (sym c.page_at.ensures ∙ c.if-page_at.false))

pub returns-else-from-text : goal.returns-else-from-text
returns-else-from-text c = unlisted (none c.args.text.now c.second_line-from.result c.second_line-from.ensures c.if-from-text.false)
