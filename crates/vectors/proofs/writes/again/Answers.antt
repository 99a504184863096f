-- `vectors::writes::again` meets its contract. The page is written into fresh room, and the answer and the bytes are compared.
-- Assumes nothing.
use Rattle.std.proofs.Common.{Result}
use mathlib.Core.Path.{◌≡◌, sym, ◌∙◌}
use mathlib.Core.Bool.{Bool, true, false}
use mathlib.Core.List.{List}
use Prim.Native.Nat.{ℕ}
use lib.Dec.{eqb}
use borrow.Author.Tests.{eq-eqb, ne_eqb}
use Rattle.answers.specs.declared.Refusal.{Refusal}
use Rattle.clean.specs.Numbers.{number_of, length_of}
use Rattle.vectors.specs.Listed.{one_again, one_difference}
use Rattle.vectors.specs.Pages.{same_page}
use Rattle.vectors.proofs.Laws.{both_yes, first_no, second_no, into_fresh}
use Rattle.vectors.proofs.writes.again.Goals as goal
use Rattle.vectors.proofs.writes.again.Goals.{else-answer-eq0-via-then-answer-eq0+else-same_page, else-answer-eq0-via-else-answer-eq0}

bytes-told : (w : Result ℕ Refusal) (room page : List ℕ) (n : ℕ) (s b : Bool) → n ≡ length_of w → s ≡ same_page room n page → s ≡ b → same_page room (length_of w) page ≡ b
bytes-told w room page n s b size e f = cc

pub returns-then-same_page : goal.returns-then-same_page
returns-then-same_page c =
    let a = c.args in
    let w = c.write-w.result in
    let room = c.write-w.new.room in
    let yes = one_again a.t in
    let no = one_difference a.t in
    let x = eqb (number_of w) 0 in
    let y = same_page room (length_of w) a.page.now in
    record {
      answer = w;
      room = room;
      writes = into_fresh a.page.now w c.fresh_room-room.result room c.fresh_room-room.ensures c.write-w.ensures;
      told = c.again.ensures ∙ both_yes x y yes no (eq-eqb (number_of w) 0 (sym c.answer.ensures ∙ c.if-answer-eq0.true)) (bytes-told w room a.page.now c.length.result c.same_page.result true c.length.ensures c.same_page.ensures c.if-same_page.true);
    }

pub returns : goal.returns
returns c =
    let a = c.args in
    let w = c.write-w.result in
    let room = c.write-w.new.room in
    let yes = one_again a.t in
    let no = one_difference a.t in
    let x = eqb (number_of w) 0 in
    let y = same_page room (length_of w) a.page.now in
    record {
      answer = w;
      room = room;
      writes = into_fresh a.page.now w c.fresh_room-room.result room c.fresh_room-room.ensures c.write-w.ensures;
      told = c.check.ensures ∙ elim c.else-answer-eq0.branch [
        | else-answer-eq0-via-then-answer-eq0+else-same_page z ↦ second_no x y yes no (eq-eqb (number_of w) 0 (sym c.answer.ensures ∙ z.if-answer-eq0.true)) (bytes-told w room a.page.now z.length.result z.same_page.result false z.length.ensures z.same_page.ensures z.if-same_page.false)
        | else-answer-eq0-via-else-answer-eq0 z ↦ first_no x y yes no (ne_eqb (number_of w) 0 (λ e. z.if-answer-eq0.false (c.answer.ensures ∙ e)))
      ];
    }
