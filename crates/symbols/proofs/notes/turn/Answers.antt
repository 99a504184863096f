-- `symbols::notes::turn` meets its contract. What begins at the byte is judged in its context.
-- Assumes nothing.
use mathlib.Core.Path.{subst}
use Rattle.symbols.specs.declared.Lexeme.{Lexeme}
use mathlib.Core.Path.{sym, ◌∙◌}
use Prim.Native.Nat.{◌+◌}
use native.Mathlib.Omega.{arith}
use borrow.Author.Tests.{lt-ltb, le-ltb}
use lib.ListN.{length, get_or, drop}
use lib.ListN.{length-drop}
use Rattle.symbols.specs.Scan.{turn}
use Rattle.symbols.specs.model.Steps.{turn_at}
use Rattle.symbols.proofs.Laws.{lexeme_here, judged_large, judged_nothing}
use Rattle.symbols.proofs.Within.{Fits, fits_lexeme}
use Rattle.symbols.proofs.notes.turn.Goals as goal

pub returns-then-source-at : goal.returns-then-source-at
unfolding turn_at
returns-then-source-at c = simp (le-ltb _ _ c.if-source-at.true)

pub returns-then-is_blank : goal.returns-then-is_blank
unfolding turn_at turn
returns-then-is_blank c = simp (lt-ltb _ _ c.if-source-at.false, sym c.is_blank.ensures ∙ c.if-is_blank.true)

pub judged-requires : goal.judged-requires
judged-requires c =
    let s = c.args.source.now in
    let e = sym (lexeme_here s c.args.at c.if-source-at.false) ∙ sym c.lexeme.ensures ∙ c.in-Is.is in
    let f = subst (λ (x : Lexeme). Fits x (length (drop (c.args.at + 1) s))) e (fits_lexeme (get_or s c.args.at 0) (drop (c.args.at + 1) s)) in
    omega (arith, f, length-drop (c.args.at + 1) s, c.if-source-at.false)

pub returns-in-Is : goal.returns-in-Is
unfolding turn_at turn
returns-in-Is c =
    let s = c.args.source.now in
    let e = sym (lexeme_here s c.args.at c.if-source-at.false) ∙ sym c.lexeme.ensures ∙ c.in-Is.is in
    simp (lt-ltb _ _ c.if-source-at.false, sym c.is_blank.ensures ∙ c.if-is_blank.false, e) c.judged.ensures

pub returns-in-Large : goal.returns-in-Large
unfolding turn_at turn
returns-in-Large c =
    let s = c.args.source.now in
    let e = sym (lexeme_here s c.args.at c.if-source-at.false) ∙ sym c.lexeme.ensures ∙ c.in-Large.is in
    simp (lt-ltb _ _ c.if-source-at.false, sym c.is_blank.ensures ∙ c.if-is_blank.false, e) (c.oversized.ensures ∙ sym (judged_large c.args.room c.args.c _ (drop (c.args.at + 1) s)))

pub returns-in-Nothing : goal.returns-in-Nothing
unfolding turn_at turn
returns-in-Nothing c =
    let s = c.args.source.now in
    let e = sym (lexeme_here s c.args.at c.if-source-at.false) ∙ sym c.lexeme.ensures ∙ c.in-Nothing.is in
    simp (lt-ltb _ _ c.if-source-at.false, sym c.is_blank.ensures ∙ c.if-is_blank.false, e) (sym (judged_nothing c.args.room c.args.c (drop (c.args.at + 1) s)))
