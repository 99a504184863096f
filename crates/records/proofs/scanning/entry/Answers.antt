-- The invariant: the other words that are left, from here on, decide.
use mathlib.Core.Path.{◌≡◌, sym, ap, ◌∙◌}
use mathlib.Core.Bool.{true, false}
use native.Mathlib.Omega.{arith}
use lib.IntN.{ℤ, pos}
use lib.ListN.{get_or}
use mir.Facts.{to_z-of_z}
use Rattle.std.proofs.Common.{rules, FitsSigned, w32, to_z, of_z}
use Rattle.std.proofs.lemmas.Result.{err_from_is_err_and}
use Rattle.records.specs.declared.Range.{Range}
use Rattle.records.specs.declared.Range.TheVariants.{Any}
use Rattle.records.specs.model.Scanning.{row_of, fits_at}
use Rattle.records.proofs.Scanned.{fits_inside, entry_bad, entry_on, others_on, others_bad, others_end, bad_is}
use Rattle.records.proofs.scanning.entry.Goals as goal

pub returns-in_err-x : goal.returns-in_err-x
returns-in_err-x c =
    let w = c.args.words.now in
    let p = err_from_is_err_and c.from_residual.result c.from_residual.ensures.1 in
    let f : fits_at (row_of c.args.s).first w c.args.at ≡ false = ap (λ (z : Range). fits_at z w c.args.at) (sym c.first_of.ensures) ∙ c.in_err-x.ensures.0 in
    rw (p.1, p.2) (bad_is c.in_err-x.ensures.1 ∙ sym (entry_bad w (row_of c.args.s) c.args.at f))

pub overflow_add-end : goal.overflow_add-end
overflow_add-end c = omega (arith, fits_inside c.args.words.now c.first_of.result c.args.at c.in_ok-x.ensures.0, c.well_formed.0)

pub loop-k-init : goal.loop-k-init
loop-k-init c =
    let w = c.args.words.now in
    let f : fits_at (row_of c.args.s).first w c.args.at ≡ true = ap (λ (z : Range). fits_at z w c.args.at) (sym c.first_of.ensures) ∙ c.in_ok-x.ensures.0 in
    (c.others_of-k-end.ensures _, entry_on w (row_of c.args.s) c.args.at f)

pub returns-in_err-word_at : goal.returns-in_err-word_at
returns-in_err-word_at c =
    let w = c.args.words.now in
    let rs = (row_of c.args.s).others (get_or w c.args.at (pos 0)) in
    let k : FitsSigned w32 c.in_ok-x.x = search rules in
    let q : to_z w32 (of_z w32 c.in_ok-x.x) ≡ c.in_ok-x.x = to_z-of_z {w = w32} k in
    let g : fits_at (get_or rs c.loop-k.k Any) w c.loop-k.end ≡ false =
    ap (λ (z : ℤ). fits_at (get_or ((row_of c.args.s).others z) c.loop-k.k Any) w c.loop-k.end) (sym (q ∙ c.in_ok-x.ensures.1)) ∙ ap (λ (z : Range). fits_at z w c.loop-k.end) (sym c.other_of.ensures) ∙ c.in_err-word_at.ensures.0 in
    let p = err_from_is_err_and c.from_residual-in_err-word_at.result c.from_residual-in_err-word_at.ensures.1 in
    rw (p.1, p.2) (bad_is c.in_err-word_at.ensures.1 ∙ sym (c.loop-k.invariant.1 ∙ others_bad w rs c.loop-k.k c.loop-k.end (omega (arith, c.loop-k-test.true, c.loop-k.invariant.0)) g))

pub overflow_add-end-in-loop-k : goal.overflow_add-end-in-loop-k
overflow_add-end-in-loop-k c = omega (arith, fits_inside c.args.words.now c.other_of.result c.loop-k.end c.in_ok-word_at.ensures.0, c.well_formed.0)

pub loop-k-preserved : goal.loop-k-preserved
loop-k-preserved c =
    let w = c.args.words.now in
    let rs = (row_of c.args.s).others (get_or w c.args.at (pos 0)) in
    let k : FitsSigned w32 c.in_ok-x.x = search rules in
    let q : to_z w32 (of_z w32 c.in_ok-x.x) ≡ c.in_ok-x.x = to_z-of_z {w = w32} k in
    let g : fits_at (get_or rs c.loop-k.k Any) w c.loop-k.end ≡ true =
    ap (λ (z : ℤ). fits_at (get_or ((row_of c.args.s).others z) c.loop-k.k Any) w c.loop-k.end) (sym (q ∙ c.in_ok-x.ensures.1)) ∙ ap (λ (z : Range). fits_at z w c.loop-k.end) (sym c.other_of.ensures) ∙ c.in_ok-word_at.ensures.0 in
    (c.loop-k.invariant.0, c.loop-k.invariant.1 ∙ others_on w rs c.loop-k.k c.loop-k.end (omega (arith, c.loop-k-test.true, c.loop-k.invariant.0)) g)

pub returns : goal.returns
returns c =
    let w = c.args.words.now in
    let rs = (row_of c.args.s).others (get_or w c.args.at (pos 0)) in
    sym (c.loop-k.invariant.1 ∙ others_end w rs c.loop-k.k c.loop-k.end (omega (arith, c.loop-k-test.false, c.loop-k.invariant.0)))
