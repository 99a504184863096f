-- `figures::digits::clean` meets its contract: the j lowest digits are all 0 exactly where what they spell is.
-- Assumes nothing.
use Rattle.std.proofs.Common.{rules, tests, sym, ap, ◌∙◌, arith, take, eqb}
use Rattle.std.proofs.lemmas.Iterator.{YieldsList-from_slice}
use Rattle.std.proofs.lemmas.Iterator.Search.{all_from_yields_List}
use Rattle.figures.proofs.Spelling.{all_zero, value_mod}
use Rattle.figures.proofs.digits.clean.Goals as goal

pub returns : goal.returns
returns c =
    let a = c.args.a.now in
    let low = take c.args.j a in
    all_from_yields_List (λ d. eqb d 0) _ _ c.all.result c.all.ensures.ran (YieldsList-from_slice low c.iter.ensures.rest) (λ x b q k. search (rules, tests)) ∙ all_zero low
    ∙ ap (λ n. eqb n 0) (sym (value_mod a c.args.j (omega (arith, c.requires.number.size, c.requires.j_bound)) c.requires.number.digits))
