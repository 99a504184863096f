-- `vectors::writes::same_page` meets its contract. The page is inside the room or not; then its bytes are compared, then those behind it.
-- Assumes nothing.
use mathlib.Core.Path.{◌≡◌, sym, ◌∙◌}
use mathlib.Core.Bool.{Bool, true, false}
use mathlib.Core.List.{List}
use Prim.Native.Nat.{ℕ, ◌≤◌, ◌<◌}
use lib.ListN.{length, take, drop}
use lib.Seq.{length-take-le}
use borrow.Author.Tests.{le-leb, lt-leb}
use Rattle.symbols.specs.Names.{equal}
use Rattle.vectors.specs.Pages.{all, same_page}
use Rattle.vectors.proofs.writes.same_page.Goals as goal

module _ (room page : List ℕ) (n : ℕ) where
  outside : length room < n → false ≡ same_page room n page
  unfolding same_page
  outside h = rw (lt-leb n (length room) h)

  module _ (inside : n ≤ length room) where
    other-bytes : equal (take n room) page ≡ false → false ≡ same_page room n page
    unfolding same_page
    other-bytes e = rw (le-leb n (length room) inside, e)

    same_bytes : equal (take n room) page ≡ true → (r : Bool) → r ≡ all 7 (drop n room) → r ≡ same_page room n page
    unfolding same_page
    same_bytes e r f = rw (le-leb n (length room) inside, e) f

pub returns-then-room-n : goal.returns-then-room-n
returns-then-room-n c =
    let args = c.args in
    outside args.room.now args.page.now args.n c.if-room-n.true

pub slice_bounds-same_bytes-end : goal.slice_bounds-same_bytes-end
slice_bounds-same_bytes-end c = sym (length-take-le _ _ c.if-room-n.false)

pub returns-then-same_bytes : goal.returns-then-same_bytes
returns-then-same_bytes c =
    let args = c.args in
    same_bytes args.room.now args.page.now args.n c.if-room-n.false (sym c.same_bytes.ensures ∙ c.if-same_bytes.true) c.untouched.result c.untouched.ensures

pub returns-else-same_bytes : goal.returns-else-same_bytes
returns-else-same_bytes c =
    let args = c.args in
    c.if-same_bytes.false ∙ other-bytes args.room.now args.page.now args.n c.if-room-n.false (sym c.same_bytes.ensures ∙ c.if-same_bytes.false)
