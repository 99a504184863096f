-- Its count, and its entries.
use Prim.Native.Nat.{ℕ, ◌+◌}
use mathlib.Core.Path.{◌≡◌, sym, ap, ◌∙◌}
use mathlib.Core.Bool.{true, false}
use native.Mathlib.Omega.{arith}
use lib.IntN.{ℤ}
use mir.Facts.{to_z-of_z}
use Rattle.std.proofs.Common.{rules, FitsSigned, w32, to_z, of_z}
use Rattle.std.proofs.lemmas.Result.{err_from_is_err_and}
use Rattle.records.specs.declared.Range.{Range}
use Rattle.records.specs.Words.{count_in, amount}
use Rattle.records.specs.model.Scanning.{at, row_of, fits_at, entries_at}
use Rattle.records.proofs.Scanned.{fits_inside, section_bad, section_on, bad_is}
use Rattle.records.proofs.scanning.section.Goals as goal

pub returns-in_err-m : goal.returns-in_err-m
returns-in_err-m c =
    let w = c.args.words.now in
    let p = err_from_is_err_and c.from_residual.result c.from_residual.ensures.1 in
    let f : fits_at (count_in (row_of c.args.s).times) w c.args.at ≡ false = ap (λ (z : Range). fits_at z w c.args.at) (sym c.count_of.ensures) ∙ c.in_err-m.ensures.0 in
    rw (p.1, p.2) (bad_is c.in_err-m.ensures.1 ∙ sym (section_bad w (row_of c.args.s) c.args.at f))

pub overflow_add-at : goal.overflow_add-at
overflow_add-at c = omega (arith, fits_inside c.args.words.now c.count_of.result c.args.at c.in_ok-m.ensures.0, c.well_formed.0)

pub returns : goal.returns
returns c =
    let w = c.args.words.now in
    let f : fits_at (count_in (row_of c.args.s).times) w c.args.at ≡ true = ap (λ (z : Range). fits_at z w c.args.at) (sym c.count_of.ensures) ∙ c.in_ok-m.ensures.0 in
    let k : FitsSigned w32 c.in_ok-m.m = search rules in
    let q : to_z w32 (of_z w32 c.in_ok-m.m) ≡ c.in_ok-m.m = to_z-of_z {w = w32} k in
    let e : c.count.result ≡ amount (at w c.args.at) = c.count.ensures ∙ ap (λ (z : ℤ). amount z) (q ∙ c.in_ok-m.ensures.1) in
    c.entries.ensures ∙ ap (λ (m : ℕ). entries_at m (row_of c.args.s) w (c.args.at + 1)) e ∙ sym (section_on w (row_of c.args.s) c.args.at f)
