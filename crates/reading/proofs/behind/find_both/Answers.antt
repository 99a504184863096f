-- `reading::behind::find_both` meets its contract: the prelude's refusal goes before the scheme's. Assumes nothing.
use Rattle.std.proofs.lemmas.Result.{err_from_is_err_and}
use Rattle.reading.proofs.SchemeStands.{prelude_fills, prelude_refused_both}
use Rattle.reading.proofs.behind.find_both.Goals as goal

pub behind-requires : goal.behind-requires
behind-requires c = prelude_fills c.find_prelude.ensures _ c.in_ok-p.was

pub returns-in_err-p : goal.returns-in_err-p
returns-in_err-p c =
    let p = err_from_is_err_and c.from_residual.result c.from_residual.ensures.1 in
    rw (p.1, p.2) (prelude_refused_both c.find_prelude.ensures _ c.in_err-p.was)
