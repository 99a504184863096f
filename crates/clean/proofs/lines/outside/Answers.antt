-- `clean::lines::outside` meets its contract: behind the body that ends stands the block around. Assumes nothing.
use Prim.Native.Nat.{◌-◌}
use mathlib.Core.Path.{ap, ◌∙◌}
use native.Mathlib.Omega.{arith}
use Rattle.clean.specs.model.Lines.{base}
use Rattle.clean.specs.model.Pen.{inward_of, level_of, top_of, stack_of}
use Rattle.clean.proofs.Stacks.{low_top, low_base}
use Rattle.clean.proofs.Turns.{out_around, out_lines, out_stack}
use Rattle.clean.proofs.lines.outside.Goals as goal

pub top-requires : goal.top-requires
top-requires c =
    let args = c.args in
    omega (arith, ap (λ o. o.around) c.out-o.ensures, out_around args.s (stack_of args.s.around args.held.now))

pub inward-requires : goal.inward-requires
inward-requires c =
    let s = c.args.s in
    let held = c.args.held.now in
    let st = stack_of s.around held in
    let t = c.top.ensures ∙ ap (λ o. top_of (stack_of o.around held)) c.out-o.ensures ∙ ap top_of (out_stack s held) in
    (omega (arith, c.less.ensures, t, low_top 4096 (base st) (low_base 4096 st c.requires.2)), omega (arith, ap (λ o. o.lines) c.out-o.ensures, out_lines s st, c.requires.0.lines))

pub returns : goal.returns
returns c =
    let s = c.args.s in
    let held = c.args.held.now in
    let t = c.top.ensures ∙ ap (λ o. top_of (stack_of o.around held)) c.out-o.ensures ∙ ap top_of (out_stack s held) in
    c.inward.ensures ∙ ap (λ v. inward_of (level_of c.out-o.result v)) (c.less.ensures ∙ ap (λ t. t - 1) t) ∙ ap (λ o. inward_of (level_of o (top_of (base (stack_of s.around held)) - 1))) c.out-o.ensures
