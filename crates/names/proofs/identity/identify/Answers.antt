-- `names::identity::identify` meets its contract. The identities of the symbols before i stand for their names.
use mathlib.Core.Path.{◌∙◌}
use native.Mathlib.Omega.{arith}
use lib.ListN.{length-set}
use Rattle.names.proofs.Identities.{identified, stands_on}
use Rattle.names.proofs.identity.identify.Goals as goal

pub loop-i-preserved : goal.loop-i-preserved
loop-i-preserved c =
    let a = c.args in
    let l = c.loop-i in (
      length-set l.ids l.i c.identity.result ∙ l.invariant.0,
      stands_on a.source.now a.places.now l.ids l.i c.identity.result (omega (arith, l.invariant.0)) l.invariant.1 c.identity.ensures,
    )

pub returns : goal.returns
returns c =
    let a = c.args in
    let l = c.loop-i in
    identified a.source.now a.places.now l.ids _ (omega arith) (λ k h. l.invariant.1 k (omega (arith, c.loop-i-test.false)))
