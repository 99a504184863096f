-- `names::outline::procedure` meets its contract: what it declares and opens is what `procedured` has.
-- Assumes nothing.
use mathlib.Core.Path.{ap}
use native.Mathlib.Omega.{arith}
use Rattle.names.specs.declared.Open.{Open}
use Rattle.names.proofs.OutlineLaws.{procedured_is}
use Rattle.names.proofs.outline.procedure.Goals as goal

pub enter-p-requires : goal.enter-p-requires
enter-p-requires c =
    let d = ap (λ (a : Open). a.depth) c.declare-p.ensures.around_value in
    let n = ap (λ (a : Open). a.scopes) c.declare-p.ensures.around_value in
    (omega (arith, d, c.requires.around.deep), omega (arith, n, c.requires.around.many))

pub returns : goal.returns
returns c = record {
  stack_after = procedured_is c.args.o c.args.rows.now c.args.stack.now c.declare-p.result c.args.ids.now _ _ _ c.enter-p.result c.declare-p.ensures.stack_after c.enter-p.ensures.stack_after c.enter-p.ensures.scopes_value.0;
  by_index = λ i w.
      let v = c.declare-p.ensures.by_index i w in
      let d = ap (λ (a : Open). a.depth) c.declare-p.ensures.around_value in
      let n = ap (λ (a : Open). a.scopes) c.declare-p.ensures.around_value in
      record {
        rows = v.rows;
        around = record {
          deep = omega (arith, d, c.enter-p.ensures.scopes_value.1, w.around.deep);
          many = omega (arith, n, c.enter-p.ensures.scopes_value.0, w.around.many);
        };
      };
}
