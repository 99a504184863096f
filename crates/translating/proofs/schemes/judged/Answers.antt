-- `translating::schemes::judged` meets its contract: the code is made from what the front end found of both; a refusal is handed on, over zeros. Assumes nothing.
use mathlib.Core.Path.{refl}
use Rattle.reading.proofs.SchemeStands.{both_filled, both_none}
use Rattle.translating.proofs.LendingBoth.{scheme_read, lent}
use Rattle.translating.proofs.Handed.{as_refused_with, as_accepted_with}
use Rattle.translating.proofs.schemes.judged.Goals as goal

pub returns-in-Ok : goal.returns-in-Ok
returns-in-Ok c =
    let h = both_filled c.find_both.ensures _ c.in-Ok.is in
    as_accepted_with h.whole (scheme_read h) (lent h refl) h.joined.named h.joined.typed c.requires c.emit.ensures

pub returns-in-Err : goal.returns-in-Err
returns-in-Err c = as_refused_with _ _ (both_none c.find_both.ensures _ c.in-Err.is) c.clear.ensures c.requires
