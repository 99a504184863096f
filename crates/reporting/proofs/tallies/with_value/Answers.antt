-- The first value, or one more.
use Prim.Native.Nat.{◌<◌}
use mathlib.Core.Path.{◌≡◌, ◌∙◌}
use native.Mathlib.Omega.{arith}
use lib.IntN.{◌+ℤ◌}
use lib.Signed.{mag}
use Rattle.std.proofs.Common.{rules, FitsSigned, w32, w64}
use Rattle.reals.proofs.Signed.{read_back}
use Rattle.reporting.specs.Report.{lesser, larger}
use Rattle.reporting.proofs.Gathered.{min_is, max_is, more_value, lesser_mag, larger_mag, sum_fits}
use Rattle.reporting.proofs.tallies.with_value.Goals as goal

pub returns-clause-value : goal.returns-clause-value
returns-clause-value c =
    let r = c.args.r in
    let x = c.args.x in
    let mx : mag x < 2147483648 = c.ranges.x.sfits in
    let fl : FitsSigned w32 c.args.r.least = search rules in
    let fg : FitsSigned w32 c.args.r.greatest = search rules in
    let fs : FitsSigned w64 c.args.r.sum = search rules in
    let l : c.min.result ≡ lesser x r.least = simp (read_back w32 x mx, read_back w32 r.least fl.sfits) at c.min.ensures.value ∙ min_is x r.least in
    let g : c.max.result ≡ larger x r.greatest = simp (read_back w32 x mx, read_back w32 r.greatest fg.sfits) at c.max.ensures.value ∙ max_is x r.greatest in
    let w : c.from-2.result ≡ x = simp (read_back w32 x mx) at c.from-2.ensures in
    rw (l, g, w, read_back w32 (lesser x r.least) (lesser_mag x r.least mx fl.sfits), read_back w32 (larger x r.greatest) (larger_mag x r.greatest mx fg.sfits), read_back w64 x (omega arith), read_back w64 r.sum fs.sfits, read_back w64 (x +ℤ r.sum) (sum_fits x r.sum mx c.requires.short))
    (more_value c.args.counts r x c.if-r.false)
