-- `uses::meaning` searches the scopes that are open, from the innermost outward.
-- The invariant: what the name means in the scopes that are left is what it means in all of them.
use mathlib.Core.Path.{sym, ap, ◌∙◌}
use mathlib.Core.List.{List}
use Prim.Native.Nat.{ℕ}
use native.Mathlib.Omega.{arith}
use lib.ListN.{length}
use Rattle.std.specs.Slice.Iter.{iter_rest}
use Rattle.std.specs.Iterator.Adapters.{rev_source}
use Rattle.names.specs.model.Rows.{meant_in}
use Rattle.names.proofs.RowLaws.{opens_taken}
use Rattle.names.proofs.UseLaws.{meant_here, meant_outward, meant_outside}
use Rattle.names.proofs.uses.meaning.Goals as goal

pub loop-scope-init : goal.loop-scope-init
loop-scope-init c =
    let a = c.args in
    let e = ap (λ s. iter_rest (rev_source s)) c.into_iter-scope-iterator.ensures.into_iter_gives ∙ ap iter_rest c.rev-scope-items.ensures.source ∙ c.iter.ensures.rest in
    ap (λ (g : List ℕ). meant_in a.ids.now a.rows.now g a.id) (opens_taken a.depth a.stack.now _ (omega arith) e)

pub returns-in-Some-find : goal.returns-in-Some-find
returns-in-Some-find c =
    let a = c.args in
    meant_here a.ids.now a.rows.now (iter_rest (rev_source c.loop-scope.scope-iterator)) (iter_rest (rev_source c.next.new.self)) c.in-Some.field-0.now a.id c.in-Some.ensures.steps c.in-Some-find.d c.in-Some-find.ensures
    ∙ c.loop-scope.invariant

pub loop-scope-preserved : goal.loop-scope-preserved
loop-scope-preserved c =
    let a = c.args in
    sym (meant_outward a.ids.now a.rows.now (iter_rest (rev_source c.loop-scope.scope-iterator)) (iter_rest (rev_source c.next.new.self)) c.in-Some.field-0.now a.id c.in-Some.ensures.steps (sym c.in_default.is ∙ c.find.ensures))
    ∙ c.loop-scope.invariant

pub returns : goal.returns
returns c =
    let a = c.args in
    let left = iter_rest (rev_source c.loop-scope.scope-iterator) in
    c.outside.ensures ∙ meant_outside a.ids.now a.rows.now left (length left) a.id (omega (arith, c.in-None.ensures.steps.0)) ∙ c.loop-scope.invariant
