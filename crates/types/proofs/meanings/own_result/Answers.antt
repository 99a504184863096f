-- `meanings::own_result`: what the bodies that are left give is what all of them give.
use mathlib.Core.Path.{sym, ap, ◌∙◌}
use mathlib.Core.List.{List}
use Prim.Native.Nat.{ℕ}
use native.Mathlib.Omega.{arith}
use lib.Dec.{eqb}
use Rattle.std.specs.Slice.Iter.{iter_rest}
use Rattle.std.specs.Iterator.Adapters.{rev_source}
use Rattle.names.specs.Modes.{type_in}
use Rattle.names.specs.declared.Row.{Row}
use Rattle.names.proofs.RowLaws.{opens_taken}
use Rattle.types.specs.model.Passes.{sort_in, judgement, own_of}
use Rattle.types.proofs.RowWords.{own_here, own_further, own_none}
use Rattle.types.proofs.meanings.own_result.Goals as goal

pub loop-body-init : goal.loop-body-init
loop-body-init c =
    let a = c.args in
    let e = ap (λ s. iter_rest (rev_source s)) c.into_iter-body-iterator.ensures.into_iter_gives ∙ ap iter_rest c.rev-body-items.ensures.source ∙ c.iter.ensures.rest in
    ap (λ (g : List ℕ). own_of a.rows.now a.symbol.number g) (opens_taken a.count a.bodies.now _ (omega arith) e)

pub returns-then-r-symbol : goal.returns-then-r-symbol
unfolding sort_in
returns-then-r-symbol c =
    let a = c.args in
    let r = c.row-r.ensures in
    ap (λ (t : ℕ). judgement t (eqb t 0)) (c.sort-sort.ensures.value ∙ ap (λ (x : Row). type_in x.sort) r)
    ∙ sym (own_here a.rows.now a.symbol.number (iter_rest (rev_source c.loop-body.body-iterator)) (iter_rest (rev_source c.next.new.self)) c.in-Some.field-0.now c.in-Some.ensures.steps (sym (ap (λ (x : Row). x.symbol.number) r) ∙ c.if-r-symbol.true))
    ∙ c.loop-body.invariant

pub loop-body-preserved : goal.loop-body-preserved
loop-body-preserved c =
    let a = c.args in
    let r = c.row-r.ensures in
    sym (own_further a.rows.now a.symbol.number (iter_rest (rev_source c.loop-body.body-iterator)) (iter_rest (rev_source c.next.new.self)) c.in-Some.field-0.now c.in-Some.ensures.steps (λ e. c.if-r-symbol.false (ap (λ (x : Row). x.symbol.number) r ∙ e)))
    ∙ c.loop-body.invariant

pub returns : goal.returns
returns c =
    let a = c.args in
    sym (own_none a.rows.now a.symbol.number (iter_rest (rev_source c.loop-body.body-iterator)) c.in-None.ensures.steps.0) ∙ c.loop-body.invariant
