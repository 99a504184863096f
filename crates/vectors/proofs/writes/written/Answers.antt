-- `vectors::writes::written` meets its contract. The answer and what is behind the page are compared; the page, which is inside the room, is read back and written again.
-- Assumes nothing.
use Rattle.std.proofs.Common.{Result}
use mathlib.Core.Path.{◌≡◌, sym, ◌∙◌}
use mathlib.Core.Bool.{Bool, true, false}
use mathlib.Core.List.{List}
use Prim.Native.Nat.{ℕ}
use native.Mathlib.Omega.{arith}
use lib.Dec.{eqb}
use lib.ListN.{take, drop}
use lib.Seq.{length-take-le}
use borrow.Author.Tests.{eq-eqb, ne_eqb}
use Rattle.answers.specs.declared.Refusal.{Refusal}
use Rattle.clean.specs.Numbers.{number_of, length_of}
use Rattle.clean.proofs.Inside.{text_inside}
use Rattle.vectors.specs.declared.tally.Tally.{Tally}
use Rattle.vectors.specs.Listed.{checked, one_page}
use Rattle.vectors.specs.Pages.{all, written_by, after_page, BackTold, AgainTold, Turned, unwritten, turned}
use Rattle.vectors.proofs.Laws.{into_fresh}
use Rattle.vectors.proofs.writes.written.Goals as goal

module _ (source text room : List ℕ) (w : Result ℕ Refusal) (n : ℕ) (size : n ≡ length_of w) (t s k : Tally) (a b : Bool) (answer : a ≡ written_by w text) (told : s ≡ checked a t) (behind : b ≡ all 7 (drop n room)) (kept : k ≡ checked b s) where
  so_far : k ≡ after_page w room text t
  so_far = cc

  no-page : eqb (number_of w) 0 ≡ false → Turned source w (take (length_of w) room) (after_page w room text t) k
  no-page h = rw so_far (unwritten h)

  a-page : eqb (number_of w) 0 ≡ true → (p u r : Tally) → p ≡ one_page k → BackTold source (take n room) p u → AgainTold (take n room) u r
      → Turned source w (take (length_of w) room) (after_page w room text t) r
  a-page h p u r e x y = turned h u r (rw so_far at (rw size at (rw e at x))) (rw size at y)

pub returns-then-answer-ne0 : goal.returns-then-answer-ne0
returns-then-answer-ne0 c =
    let a = c.args in
    let w = c.write-w.result in
    let room = c.write-w.new.room in
    record {
      answer = w;
      room = room;
      writes = into_fresh a.source.now w c.fresh_room-room.result room c.fresh_room-room.ensures c.write-w.ensures;
      told = no-page a.source.now a.text.now room w c.length-n.result c.length-n.ensures a.t c.check-told.result c.check-kept.result c.answered.result c.untouched.result c.answered.ensures c.check-told.ensures c.untouched.ensures c.check-kept.ensures (ne_eqb (number_of w) 0 (λ e. c.if-answer-ne0.true (c.answer.ensures ∙ e)));
    }

pub slice_bounds-room-end : goal.slice_bounds-room-end
slice_bounds-room-end c = omega (arith, text_inside c.write-w.ensures, c.length-n.ensures)

pub slice_bounds-back-end : goal.slice_bounds-back-end
slice_bounds-back-end c = sym (length-take-le _ _ (omega (arith, text_inside c.write-w.ensures, c.length-n.ensures)))

pub slice_bounds-room-end-2 : goal.slice_bounds-room-end-2
slice_bounds-room-end-2 c = omega (arith, text_inside c.write-w.ensures, c.length-n.ensures)

pub slice_bounds-again-end : goal.slice_bounds-again-end
slice_bounds-again-end c = sym (length-take-le _ _ (omega (arith, text_inside c.write-w.ensures, c.length-n.ensures)))

pub returns : goal.returns
returns c =
    let a = c.args in
    let w = c.write-w.result in
    let room = c.write-w.new.room in
    record {
      answer = w;
      room = room;
      writes = into_fresh a.source.now w c.fresh_room-room.result room c.fresh_room-room.ensures c.write-w.ensures;
      told = a-page a.source.now a.text.now room w c.length-n.result c.length-n.ensures a.t c.check-told.result c.check-kept.result c.answered.result c.untouched.result c.answered.ensures c.check-told.ensures c.untouched.ensures c.check-kept.ensures (eq-eqb (number_of w) 0 (sym c.answer.ensures ∙ c.if-answer-ne0.false)) c.page.result c.back-turned.result c.again.result c.page.ensures c.back-turned.ensures c.again.ensures;
    }
