-- `symbols::lexemes::with_point` meets its contract. Digits behind the point are there where the count grew.
-- Assumes nothing.
use mathlib.Core.Path.{◌∙◌}
use native.Mathlib.Omega.{arith}
use Rattle.symbols.proofs.Decimals.{front_end, front_few, front_small, all_more, all_beyond, all_small, point_none, point_some}
use Rattle.symbols.proofs.lexemes.with_point.Goals as goal

pub overflow_add-dot : goal.overflow_add-dot
overflow_add-dot c =
    let x = c.args in
    omega (arith, front_end x.source.now x.at x.plain x.front c.requires.0, c.requires.1)

pub digits_from-all-requires : goal.digits_from-all-requires
digits_from-all-requires c =
    let x = c.args in
    let p = c.requires.0 in
    (omega (arith, front_end x.source.now x.at x.plain x.front p, c.requires.1), front_few x.source.now x.at x.plain x.front p, front_small x.source.now x.at x.plain x.front p)

pub returns-then-all-front : goal.returns-then-all-front
returns-then-all-front c = point_none c.args.source.now c.args.at c.args.plain c.args.front c.requires.0 c.digits_from-all.result c.digits_from-all.ensures c.if-all-front.true

pub overflow_sub-all : goal.overflow_sub-all
overflow_sub-all c = all_more c.args.source.now c.args.at c.args.plain c.args.front c.requires.0 c.digits_from-all.result c.digits_from-all.ensures

pub overflow_sub-all-2 : goal.overflow_sub-all-2
overflow_sub-all-2 c = omega (arith, all_beyond c.args.source.now c.args.at c.args.plain c.args.front c.requires.0 c.digits_from-all.result c.digits_from-all.ensures)

pub overflow_sub-all-3 : goal.overflow_sub-all-3
overflow_sub-all-3 c = omega (arith, all_beyond c.args.source.now c.args.at c.args.plain c.args.front c.requires.0 c.digits_from-all.result c.digits_from-all.ensures)

pub pointed-requires : goal.pointed-requires
pointed-requires c = (all_small c.args.source.now c.args.at c.args.plain c.args.front c.requires.0 c.digits_from-all.result c.digits_from-all.ensures, omega arith)

pub returns : goal.returns
returns c = c.pointed.ensures ∙ point_some c.args.source.now c.args.at c.args.plain c.args.front c.requires.0 c.digits_from-all.result c.digits_from-all.ensures c.if-all-front.false
