-- So many formals are left to pass.
use mathlib.Core.Path.{sym, ap, ◌∙◌}
use Rattle.machine.specs.model.Holding.{inwards, turned, in_t, links_of}
use Rattle.machine.proofs.Turns.{in_more, in_none}
use Rattle.reals.specs.Values.{convert}
use Rattle.reals.specs.declared.Form.{Form}
use Rattle.machine.proofs.Exits.{inwards_ok, inwards_err, err_exit}
use Prim.Native.Nat.{◌-◌}
use Rattle.machine.proofs.ways.inward.Goals as goal

pub loop-j-preserved : goal.loop-j-preserved
loop-j-preserved c =
    let args = c.args in
    sym (inwards_ok (in_t args.q args.form (links_of args.own.now (c.loop-j.j - 1))) args.q c.convert.result (sym c.turned.ensures ∙ c.in_ok-u.was)) ∙ ap (inwards _ args.q) (c.convert.ensures ∙ ap (λ (f : Form). convert f c.loop-j.u) c.link_form.ensures) ∙ sym (in_more args.own.now args.q args.form c.loop-j.u c.loop-j.j c.loop-j-test.true) ∙ c.loop-j.invariant

pub returns-in_err-u : goal.returns-in_err-u
returns-in_err-u c =
    let args = c.args in
    rw (err_exit c.from_residual.ensures.1) (sym (inwards_err (in_t args.q args.form (links_of args.own.now (c.loop-j.j - 1))) args.q c.convert.result (sym c.turned.ensures ∙ c.in_err-u.was)) ∙ ap (inwards _ args.q) (c.convert.ensures ∙ ap (λ (f : Form). convert f c.loop-j.u) c.link_form.ensures) ∙ sym (in_more args.own.now args.q args.form c.loop-j.u c.loop-j.j c.loop-j-test.true) ∙ c.loop-j.invariant)

pub returns : goal.returns
returns c =
    let args = c.args in
    c.turned-2.ensures ∙ ap (turned args.q) c.convert-2.ensures ∙ sym (in_none args.own.now args.q args.form c.loop-j.u c.loop-j.j c.loop-j-test.false) ∙ c.loop-j.invariant
