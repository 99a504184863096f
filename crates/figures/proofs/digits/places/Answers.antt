-- `figures::digits::places` meets its contract: the digits from t on are all 0.
-- Assumes nothing.
use mathlib.Core.Path.{◌≡◌, refl, sym, ap, ◌∙◌}
use Prim.Native.Nat.{◌-◌, suc}
use native.Mathlib.Omega.{arith}
use native.Mathlib.Numerals.{add-one}
use lib.ListN.{drop}
use Rattle.figures.specs.Digits.{value, places_to}
use Rattle.figures.proofs.Spelling.{none_left, places_found, places_less}
use Rattle.figures.proofs.digits.places.Goals as goal

pub loop-t-init : goal.loop-t-init
loop-t-init c = (refl, none_left c.args.a.now 772 c.requires.size)

pub returns-then-a-t-ne0 : goal.returns-then-a-t-ne0
returns-then-a-t-ne0 c =
    let l = c.loop-t in
    let e : suc (l.t - 1) ≡ l.t = omega arith in
    sym (l.invariant.0 ∙ ap (λ n. places_to n (value c.args.a.now)) (sym e) ∙ places_found (l.t - 1) c.args.a.now (omega (arith, c.requires.size)) c.if-a-t-ne0.true ∙ sym (add-one (l.t - 1)))

pub loop-t-preserved : goal.loop-t-preserved
loop-t-preserved c =
    let l = c.loop-t in
    let e : suc (l.t - 1) ≡ l.t = omega arith in
    let z = places_less (l.t - 1) c.args.a.now (omega (arith, c.requires.size)) c.requires.digits (ap (λ n. value (drop n c.args.a.now)) e ∙ l.invariant.1) c.if-a-t-ne0.false in
    (l.invariant.0 ∙ ap (λ n. places_to n (value c.args.a.now)) (sym e) ∙ z.1, z.0)

pub returns : goal.returns
unfolding places_to
returns c =
    let l = c.loop-t in
    let e : l.t ≡ 0 = omega arith in
    sym (l.invariant.0 ∙ ap (λ n. places_to n (value c.args.a.now)) e)
