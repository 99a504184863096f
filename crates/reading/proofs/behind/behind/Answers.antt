-- `reading::behind::behind` meets its contract: from what was found of the scheme to what was found of both. Assumes nothing.
use Rattle.std.proofs.lemmas.Result.{err_from_is_err_and}
use Rattle.reading.proofs.SchemeStands.{apart, both_found, scheme_refused_both, joined_refused_both}
use Rattle.reading.proofs.behind.behind.Goals as goal

pub joined-requires : goal.joined-requires
joined-requires c = apart c.requires (c.told.ensures _ c.requires.symbols_in.count) _ c.in_ok-s.was

pub returns-in_err-s : goal.returns-in_err-s
returns-in_err-s c =
    let p = err_from_is_err_and c.from_residual.result c.from_residual.ensures.1 in
    rw (p.1, p.2) (scheme_refused_both c.requires (c.told.ensures _ c.requires.symbols_in.count) _ c.in_err-s.was)

pub returns-in_err-all : goal.returns-in_err-all
returns-in_err-all c =
    let p = err_from_is_err_and c.from_residual-in_err-all.result c.from_residual-in_err-all.ensures.1 in
    rw (p.1, p.2) (joined_refused_both c.requires (c.told.ensures _ c.requires.symbols_in.count) _ c.in_ok-s.was c.joined.ensures _ c.in_err-all.was)

pub returns : goal.returns
returns c = both_found c.requires (c.told.ensures _ c.requires.symbols_in.count) _ c.in_ok-s.was c.joined.ensures _ c.in_ok-all.was
