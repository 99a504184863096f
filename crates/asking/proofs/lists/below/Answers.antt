-- `asking::lists::below` meets its contract. The negative of a number is a word only where that is 0.
-- Assumes nothing.
use Rattle.std.proofs.Common.{sym, ◌∙◌, arith}
use native.Mathlib.Nat.{pos_of_ne-zero}
use Rattle.asking.proofs.Sending.{negated_none, negated_large, negated_some, negated_zero}
use Rattle.asking.proofs.lists.below.Goals as goal

pub returns-then-not-is_spelled : goal.returns-then-not-is_spelled
returns-then-not-is_spelled c = sym (negated_none _ (sym c.is_spelled.ensures ∙ c.if-not-is_spelled.true))

pub returns-in-Some : goal.returns-in-Some
returns-in-Some c =
    let e = sym c.is_spelled.ensures ∙ c.if-not-is_spelled.false in
    let h = sym c.in-Some.is ∙ c.natural_in.ensures in
    sym (negated_zero c.args.text.now _ e h (omega arith))

pub returns-in_default : goal.returns-in_default
returns-in_default c =
    let e = sym c.is_spelled.ensures ∙ c.if-not-is_spelled.false in
    let h = sym c.in-Some.is ∙ c.natural_in.ensures in
    sym (negated_some c.args.text.now _ e h (pos_of_ne-zero c.if-v-eq0.false))

pub returns-in_default-2 : goal.returns-in_default-2
returns-in_default-2 c =
    let e = sym c.is_spelled.ensures ∙ c.if-not-is_spelled.false in
    let h = sym c.in_default.is ∙ c.natural_in.ensures in
    sym (negated_large c.args.text.now e h)
