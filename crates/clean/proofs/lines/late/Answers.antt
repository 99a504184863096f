-- `clean::lines::late` meets its contract: each arm is the case of its kind. Assumes nothing.
use mathlib.Core.Path.{sym}
use native.Mathlib.Omega.{arith}
use mathlib.Core.Path.{subst}
use Rattle.clean.specs.model.Pen.{Low, stack_of}
use Rattle.clean.proofs.Turns.{small_passed, around_passed, late_begin, late_end, late_semicolon, late_if, late_then, late_else, late_do, late_procedure, late_other}
use Rattle.clean.proofs.lines.late.Goals as goal

pub overflow_add-s : goal.overflow_add-s
overflow_add-s c = let h = small_passed c.args.s0 c.args.kind c.passed-s.result c.passed-s.ensures c.requires.0 in omega (arith, h.level)

pub push-requires : goal.push-requires
push-requires c = omega (arith, around_passed c.args.s0 c.args.kind c.passed-s.result c.passed-s.ensures, c.requires.1)

pub opened-requires : goal.opened-requires
opened-requires c = let h = small_passed c.args.s0 c.args.kind c.passed-s.result c.passed-s.ensures c.requires.0 in (h.level, h.lines, h.around)

pub top-requires : goal.top-requires
top-requires c = omega (arith, around_passed c.args.s0 c.args.kind c.passed-s.result c.passed-s.ensures, c.requires.1)

pub separated-requires : goal.separated-requires
separated-requires c =
    let args = c.args in
    (small_passed args.s0 args.kind c.passed-s.result c.passed-s.ensures c.requires.0, omega (arith, around_passed args.s0 args.kind c.passed-s.result c.passed-s.ensures, c.requires.1), subst (λ n. Low 4096 (stack_of n args.held.now)) (sym (around_passed args.s0 args.kind c.passed-s.result c.passed-s.ensures)) c.requires.2)

pub waits-requires : goal.waits-requires
waits-requires c = small_passed c.args.s0 c.args.kind c.passed-s.result c.passed-s.ensures c.requires.0

pub parted-requires : goal.parted-requires
parted-requires c = small_passed c.args.s0 c.args.kind c.passed-s.result c.passed-s.ensures c.requires.0

pub parted-requires-in-4 : goal.parted-requires-in-4
parted-requires-in-4 c = small_passed c.args.s0 c.args.kind c.passed-s.result c.passed-s.ensures c.requires.0

pub inward-requires : goal.inward-requires
inward-requires c = let h = small_passed c.args.s0 c.args.kind c.passed-s.result c.passed-s.ensures c.requires.0 in (h.level, h.lines)

pub returns-in-0 : goal.returns-in-0
returns-in-0 c = late_begin _ _ _ _ _ _ _ c.in-0.is c.passed-s.ensures c.push.ensures c.opened.ensures

pub returns-in-1 : goal.returns-in-1
returns-in-1 c = late_end _ _ _ _ _ _ _ _ c.in-1.is c.passed-s.ensures c.top.ensures c.less.ensures c.closed.ensures

pub returns-in-35 : goal.returns-in-35
returns-in-35 c = late_semicolon _ _ _ _ _ _ _ c.in-35.is c.passed-s.ensures c.separated.ensures

pub returns-in-2 : goal.returns-in-2
returns-in-2 c = late_if _ _ _ _ _ _ c.in-2.is c.passed-s.ensures c.waits.ensures

pub returns-in-3 : goal.returns-in-3
returns-in-3 c = late_then _ _ _ _ _ _ c.in-3.is c.passed-s.ensures c.parted.ensures

pub returns-in-4 : goal.returns-in-4
returns-in-4 c = late_else _ _ _ _ _ _ c.in-4.is c.passed-s.ensures c.parted-in-4.ensures

pub returns-in-6 : goal.returns-in-6
returns-in-6 c = late_do _ _ _ _ _ _ c.in-6.is c.passed-s.ensures c.inward.ensures

pub returns-in-13 : goal.returns-in-13
returns-in-13 c = late_procedure _ _ _ _ _ c.in-13.is c.passed-s.ensures

pub returns-in_default : goal.returns-in_default
returns-in_default c = let r = c.in_default.in_default-own.rest in late_other _ _ _ _ _ r.0.0.0.0.0.0.0.1 r.0.0.0.0.0.0.1 r.0.0.0.0.0.1 r.0.0.0.0.1 r.0.0.0.1 r.0.0.1 r.0.1 r.1 c.passed-s.ensures
