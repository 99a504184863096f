-- The newest cell is the last one in use.
use mathlib.Core.Path.{refl, sym, ◌∙◌}
use Rattle.machine.proofs.Kept.{newest_none, newest_unset, newest_named, newest_holds}
use Rattle.machine.proofs.Stacks.{held_fits}
use Rattle.machine.proofs.Exits.{none_left}
use mathlib.Core.Logic.{⊎_elim}
use Rattle.machine.proofs.operations.newest.Goals as goal

pub returns-in_err-last : goal.returns-in_err-last
returns-in_err-last c =
    let e = none_left c.args.n.cells c.in_err-last.ensures in
    rw c.from_residual.ensures (record { o_value = λ a i o. newest_none c.args.n a c.args.store.now i o e; used_in = tt })

pub returns-in-Holds : goal.returns-in-Holds
returns-in-Holds c = let h = c.in_ok-last.ensures.0 in let l = c.in_ok-last.ensures.1 in let e = rw l at (sym c.cell_at.ensures ∙ c.in-Holds.is) in rw l (record { o_value = λ a i o. newest_holds c.args.n a c.args.store.now i o h e; used_in = (h, refl, held_fits c.args.store.now _ e) })

pub returns-in-Unset : goal.returns-in-Unset
returns-in-Unset c =
    let h = c.in_ok-last.ensures.0 in
    let l = c.in_ok-last.ensures.1 in
    ⊎_elim
    (λ p. record { o_value = λ a i o. newest_unset c.args.n a c.args.store.now i o h (rw l at (sym c.cell_at.ensures ∙ p.1)); used_in = tt })
    (λ p. record { o_value = λ a i o. newest_named c.args.n a c.args.store.now i o h (rw l at (sym c.cell_at.ensures ∙ p.1)); used_in = tt })
    c.in-Unset.is
