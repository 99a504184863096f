-- So many formals have been passed.
use Prim.Native.Nat.{ℕ, ◌+◌}
use mathlib.Core.Path.{◌≡◌, sym, ap, ◌∙◌}
use native.Mathlib.Omega.{arith}
use Rattle.machine.specs.model.Holding.{out_t, links_of, turned}
use Rattle.machine.proofs.Turns.{out_none, out_more}
use Rattle.reals.specs.Values.{convert}
use Rattle.reals.specs.declared.Form.{Form}
use Rattle.machine.proofs.Exits.{out_err, err_exit}
use Rattle.machine.proofs.ways.outward.Goals as goal

pub loop-j-init : goal.loop-j-init
loop-j-init c = out_none _ _

pub loop-j-preserved : goal.loop-j-preserved
loop-j-preserved c = out_more c.args.own.now _ c.loop-j.j c.loop-j.invariant (c.convert.ensures ∙ ap (λ (f : Form). convert f c.loop-j.u) c.link_form.ensures) ∙ ap (λ (n : ℕ). turned n c.convert.result) (sym c.link_place.ensures) ∙ sym c.turned.ensures ∙ c.in_ok-u.was

pub returns-in_err-u : goal.returns-in_err-u
returns-in_err-u c =
    let args = c.args in
    rw (err_exit c.from_residual.ensures.1) (sym (out_err args.own.now _ args.k (c.loop-j.j + 1) (c.in_err-u.field-0.0) (omega (arith, c.loop-j-test.true)) (out_more args.own.now _ c.loop-j.j c.loop-j.invariant (c.convert.ensures ∙ ap (λ (f : Form). convert f c.loop-j.u) c.link_form.ensures) ∙ ap (λ (n : ℕ). turned n c.convert.result) (sym c.link_place.ensures) ∙ sym c.turned.ensures ∙ c.in_err-u.was)))

pub returns : goal.returns
returns c = let e : c.loop-j.j ≡ c.args.k = omega (arith, c.loop-j.auto.j-end, c.loop-j-test.false) in sym c.loop-j.invariant ∙ ap (λ (n : ℕ). out_t (links_of c.args.own.now n) c.args.v) e
