-- The word is there and in its range, or not.
use Rattle.std.proofs.Common.{◌≡◌, false, length, nat_lt, rules, FitsSigned, w32, pos, refl, sym}
use borrow.Author.Tests.{ltb-true, ltb-false}
use Rattle.records.proofs.Scanned.{fits_not, word_good, word_bad}
use Rattle.records.proofs.scanning.word_at.Goals as goal

pub returns-in-Some : goal.returns-in-Some
returns-in-Some c =
    let w = c.args.words.now in
    let f : FitsSigned w32 c.in-Some.field-0.now = search rules in
    let g = c.in-Some.ensures in
    word_good w c.args.range c.args.at (ltb-true c.args.at (length w) (sym g.lookup.0)) (g.lookup.3.1 (pos 0)) f c.if-is_in.ensures

pub returns-in_default : goal.returns-in_default
returns-in_default c =
    let w = c.args.words.now in
    let f : FitsSigned w32 c.in-Some.field-0.now = search rules in
    let g = c.in-Some.ensures in
    (word_bad w c.args.range c.args.at (ltb-true c.args.at (length w) (sym g.lookup.0)) (g.lookup.3.1 (pos 0)) f c.if-is_in.ensures, refl)

pub returns-in_default-2 : goal.returns-in_default-2
returns-in_default-2 c =
    let w = c.args.words.now in
    let e : false ≡ nat_lt c.args.at (length w) = simp c.in_default.is at c.get.ensures.lookup.0 in
    (fits_not w c.args.range c.args.at (ltb-false c.args.at (length w) (sym e)), refl)
