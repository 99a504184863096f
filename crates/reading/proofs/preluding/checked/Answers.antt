-- `reading::preluding::checked` meets its contract: the prelude's block around nothing is a program, and what the passes find of it is the prelude's. Assumes nothing.
use native.Mathlib.Omega.{arith}
use lib.ListN.{length-take}
use Rattle.std.proofs.lemmas.Result.{err_from_is_err_and}
use Rattle.reading.proofs.PreludeStands.{nodes_few, refused_alone, program_alone}
use Rattle.reading.proofs.preluding.checked.Goals as goal

pub around-all-requires : goal.around-all-requires
around-all-requires c = omega (arith, nodes_few c.requires.1, length-take c.args.words c.args.nodes.now)

pub returns-in_err-z : goal.returns-in_err-z
returns-in_err-z c = λ values x.
    let p = err_from_is_err_and c.from_residual.result c.from_residual.ensures.1 in
    rw (p.1, p.2) (refused_alone x _ _ c.around-all.ensures.out_after c.passed.ensures _ c.in_err-z.was)

pub returns : goal.returns
returns c = λ values x. program_alone x _ _ c.around-all.ensures.out_after c.passed.ensures _ c.in_ok-z.was _ _ c.first_rows.ensures.result_value c.first_uses.ensures
