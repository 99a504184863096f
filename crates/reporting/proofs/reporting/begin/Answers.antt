-- The first word, then the first bad word of the sets behind it.
use mathlib.Core.Path.{◌≡◌, sym, ap, ◌∙◌}
use mathlib.Core.Bool.{true, false}
use native.Mathlib.Omega.{arith}
use borrow.Author.Tests.{ltb-true, ltb-false}
use lib.IntN.{ℤ, pos}
use lib.Signed.{lt_z}
use lib.ListN.{length, get_or}
use mir.Facts.{to_z-of_z}
use Rattle.std.proofs.Common.{rules, nat_lt, FitsSigned, w32, to_z, of_z}
use Rattle.std.proofs.lemmas.Result.{err_from_is_err_and}
use Rattle.records.specs.Words.{amount}
use Rattle.reporting.proofs.Answered.{no_words, too_many_lem, below_none, bad_word, their_sets}
use Rattle.reporting.proofs.reporting.begin.Goals as goal

pub returns-in_default : goal.returns-in_default
returns-in_default c =
    let ws = c.args.sets.now in
    let e : false ≡ nat_lt 0 (length ws) = simp c.in_default.is at c.first.ensures.item.0 in
    no_words ws (omega (arith, ltb-false 0 (length ws) (sym e)))

pub returns-then-x-gt-MOST : goal.returns-then-x-gt-MOST
returns-then-x-gt-MOST c =
    let ws = c.args.sets.now in
    let f : FitsSigned w32 c.in-Some.field-0.now = search rules in
    let i = c.in-Some.ensures.item in
    let h = ltb-true 0 (length ws) (sym i.0) in
    let b : to_z w32 (of_z w32 c.in-Some.field-0.now) ≡ get_or ws 0 (pos 0) = to_z-of_z {w = w32} f ∙ i.3.1 (pos 0) in
    let e : lt_z (pos 65535) (get_or ws 0 (pos 0)) ≡ true = simp b at c.if-x-gt-MOST.true in
    too_many_lem ws h e

pub returns-then-x-lt0 : goal.returns-then-x-lt0
returns-then-x-lt0 c =
    let ws = c.args.sets.now in
    let f : FitsSigned w32 c.in-Some.field-0.now = search rules in
    let i = c.in-Some.ensures.item in
    let h = ltb-true 0 (length ws) (sym i.0) in
    let b : to_z w32 (of_z w32 c.in-Some.field-0.now) ≡ get_or ws 0 (pos 0) = to_z-of_z {w = w32} f ∙ i.3.1 (pos 0) in
    let e : lt_z (get_or ws 0 (pos 0)) (pos 0) ≡ true = simp b at c.if-x-lt0.true in
    below_none ws h e

pub returns-in_err-first_bad : goal.returns-in_err-first_bad
returns-in_err-first_bad c =
    let ws = c.args.sets.now in
    let f : FitsSigned w32 c.in-Some.field-0.now = search rules in
    let i = c.in-Some.ensures.item in
    let h = ltb-true 0 (length ws) (sym i.0) in
    let b : to_z w32 (of_z w32 c.in-Some.field-0.now) ≡ get_or ws 0 (pos 0) = to_z-of_z {w = w32} f ∙ i.3.1 (pos 0) in
    let j : lt_z (pos 65535) (get_or ws 0 (pos 0)) ≡ false = simp b at c.if-x-gt-MOST.false in
    let g : lt_z (get_or ws 0 (pos 0)) (pos 0) ≡ false = simp b at c.if-x-lt0.false in
    let n : c.count-n.result ≡ amount (get_or ws 0 (pos 0)) = c.count-n.ensures ∙ ap (λ (z : ℤ). amount z) b in
    let p = err_from_is_err_and c.from_residual.result c.from_residual.ensures.1 in
    rw (p.1, p.2) (bad_word ws h j g n c.first_bad.ensures c.in_err-first_bad.field-0.0 c.in_err-first_bad.was)

pub returns : goal.returns
returns c =
    let ws = c.args.sets.now in
    let f : FitsSigned w32 c.in-Some.field-0.now = search rules in
    let i = c.in-Some.ensures.item in
    let h = ltb-true 0 (length ws) (sym i.0) in
    let b : to_z w32 (of_z w32 c.in-Some.field-0.now) ≡ get_or ws 0 (pos 0) = to_z-of_z {w = w32} f ∙ i.3.1 (pos 0) in
    let j : lt_z (pos 65535) (get_or ws 0 (pos 0)) ≡ false = simp b at c.if-x-gt-MOST.false in
    let g : lt_z (get_or ws 0 (pos 0)) (pos 0) ≡ false = simp b at c.if-x-lt0.false in
    let n : c.count-n.result ≡ amount (get_or ws 0 (pos 0)) = c.count-n.ensures ∙ ap (λ (z : ℤ). amount z) b in
    their_sets ws h j g n c.first_bad.ensures c.in_ok-first_bad.field-0 c.in_ok-first_bad.was
