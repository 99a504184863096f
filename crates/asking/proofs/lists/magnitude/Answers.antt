-- `asking::lists::magnitude` meets its contract. Digits that 64 bits do not hold spell a number that is no word either.
-- Assumes nothing.
use Rattle.std.proofs.Common.{sym, ◌∙◌, arith, w64}
use mir.Facts.{to_z_pos}
use Rattle.asking.proofs.Sending.{counted_none, counted_large, counted_over, counted_word}
use Rattle.asking.proofs.lists.magnitude.Goals as goal

pub returns-then-not-is_spelled : goal.returns-then-not-is_spelled
returns-then-not-is_spelled c = sym (counted_none _ (sym c.is_spelled.ensures ∙ c.if-not-is_spelled.true))

pub returns-in-Some : goal.returns-in-Some
returns-in-Some c =
    let v = c.in-Some.v in
    let e = sym c.is_spelled.ensures ∙ c.if-not-is_spelled.false in
    let h = sym c.in-Some.is ∙ c.natural_in.ensures in
    rw (to_z_pos w64 {n = v} (omega arith)) (sym (counted_word c.args.text.now v e h c.if-v-le-MOST.true))

pub returns-in_default : goal.returns-in_default
returns-in_default c =
    let e = sym c.is_spelled.ensures ∙ c.if-not-is_spelled.false in
    let h = sym c.in-Some.is ∙ c.natural_in.ensures in
    sym (counted_over c.args.text.now _ e h (omega arith))

pub returns-in_default-2 : goal.returns-in_default-2
returns-in_default-2 c =
    let e = sym c.is_spelled.ensures ∙ c.if-not-is_spelled.false in
    let h = sym c.in_default.is ∙ c.natural_in.ensures in
    sym (counted_large c.args.text.now e h)
