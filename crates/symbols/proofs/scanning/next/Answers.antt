-- `symbols::scanning::next` meets its contract. The turn at the byte, with the cursor behind it.
-- Assumes nothing.
use mathlib.Core.Path.{subst}
use mathlib.Core.Path.{sym, ◌∙◌}
use Prim.Native.Nat.{◌+◌}
use native.Mathlib.Omega.{arith}
use borrow.Author.Tests.{lt-ltb, le-ltb}
use lib.ListN.{length, get_or, drop}
use lib.ListN.{length-drop}
use Rattle.symbols.specs.model.Steps.{step_of, step_at}
use Rattle.symbols.proofs.Laws.{turn_here}
use Rattle.symbols.proofs.Within.{Stays, stays}
use Rattle.symbols.proofs.scanning.next.Goals as goal

pub returns-then-source-at : goal.returns-then-source-at
unfolding step_at
returns-then-source-at c = simp (le-ltb _ _ c.if-source-at.true)

pub overflow_add-result-in-Pass : goal.overflow_add-result-in-Pass
overflow_add-result-in-Pass c =
    let s = c.args.source.now in
    let p = c.args.cursor.at in
    let h = c.if-source-at.false in
    let e = sym c.turn.ensures ∙ c.in-Pass.is in
    let f = subst (Stays c.args.room (length (drop (p + 1) s))) (sym (turn_here c.args.room c.args.cursor.context s p h) ∙ e) (stays c.args.room c.args.cursor.context (get_or s p 0) (drop (p + 1) s)) in
    omega (arith, f, length-drop (p + 1) s, h)

pub overflow_add-result-in-Keep-2 : goal.overflow_add-result-in-Keep-2
overflow_add-result-in-Keep-2 c =
    let s = c.args.source.now in
    let p = c.args.cursor.at in
    let h = c.if-source-at.false in
    let e = sym c.turn.ensures ∙ c.in-Keep.is in
    let f = subst (Stays c.args.room (length (drop (p + 1) s))) (sym (turn_here c.args.room c.args.cursor.context s p h) ∙ e) (stays c.args.room c.args.cursor.context (get_or s p 0) (drop (p + 1) s)) in
    omega (arith, f.0, length-drop (p + 1) s, h)

pub returns-in-Pass : goal.returns-in-Pass
unfolding step_at step_of
returns-in-Pass c =
    let e = sym c.turn.ensures ∙ c.in-Pass.is in
    simp (lt-ltb _ _ c.if-source-at.false, e)

pub returns-in-Keep : goal.returns-in-Keep
unfolding step_at step_of
returns-in-Keep c =
    let e = sym c.turn.ensures ∙ c.in-Keep.is in
    simp (lt-ltb _ _ c.if-source-at.false, e)

pub returns-in-Refuse : goal.returns-in-Refuse
unfolding step_at step_of
returns-in-Refuse c =
    let e = sym c.turn.ensures ∙ c.in-Refuse.is in
    simp (lt-ltb _ _ c.if-source-at.false, e, c.new.ensures)
