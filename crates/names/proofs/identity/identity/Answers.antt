-- `names::identity::identity` meets its contract. No symbol below j is the same name as the symbol.
use mathlib.Core.Path.{sym, ◌∙◌}
use native.Mathlib.Omega.{arith}
use Rattle.symbols.proofs.LetterCase.{same_folded}
use Rattle.names.specs.model.Rows.{identity_in}
use Rattle.names.proofs.Identities.{not_first, not_same, first_as}
use Rattle.names.proofs.identity.identity.Goals as goal
use Rattle.names.proofs.identity.identity.Goals.{else-ids-j-via-then-ids-j+else-same_name, else-ids-j-via-else-ids-j}

pub returns-then-same_name : goal.returns-then-same_name
returns-then-same_name c =
    let a = c.args in
    let l = c.loop-j in
    let none = rw c.in_default.is at c.given.ensures in
    first_as a.source.now a.places.now a.ids.now a.symbol.number l.j (omega (arith, none)) (omega arith) (same_folded _ _ (sym c.same_name.ensures ∙ c.if-same_name.true)) l.invariant

pub loop-j-preserved : goal.loop-j-preserved
unfolding identity_in
loop-j-preserved c =
    let a = c.args in
    let l = c.loop-j in
    let none = rw c.in_default.is at c.given.ensures in
    elim c.else-ids-j.branch [
      | else-ids-j-via-then-ids-j+else-same_name w ↦ not_same a.source.now a.places.now a.ids.now a.symbol.number l.j (sym w.same_name.ensures ∙ w.if-same_name.false) l.invariant
      | else-ids-j-via-else-ids-j w ↦ not_first a.source.now a.places.now a.ids.now a.symbol.number l.j c.requires.2 c.loop-j-test.true (omega (arith, none)) w.if-ids-j.false l.invariant
    ]
