-- Three numbers behind those that are written.
use mathlib.Core.Path.{refl, ap, ◌∙◌}
use native.Mathlib.Omega.{arith}
use mathlib.Core.List.{List}
use Prim.Native.Nat.{◌+◌, ◌≤◌, ◌<◌}
use lib.IntN.{ℤ}
use lib.Signed.{mag}
use lib.ListN.{length, length-set}
use mir.Syntax.{w32}
use mir.Val.{to_z, of_z}
use Rattle.reals.proofs.Signed.{read_back}
use Rattle.machine.specs.Run.{say, wrote}
use Rattle.machine.specs.model.Holding.{trace_of}
use Rattle.machine.proofs.Works.{writing_full, writing_some}
use Rattle.machine.proofs.Told.{space_none, space_some, spend_data, wrote_trace, wrote_sound, three_rest, three_long, three_back}
use Rattle.machine.proofs.ports.put_out.Goals as goal

pub overflow_sub-output : goal.overflow_sub-output
overflow_sub-output c = c.requires

pub returns-then-output-w-lt-ENTRY_NUMBERS : goal.returns-then-output-w-lt-ENTRY_NUMBERS
returns-then-output-w-lt-ENTRY_NUMBERS c =
    let args = c.args in
    record { output_after = λ a s i. writing_full _ _ args.q _ (space_none args.n a s i args.output.now c.if-output-w-lt-ENTRY_NUMBERS.true); sound_o = λ s g. refl }

pub bounds-output-w : goal.bounds-output-w
bounds-output-w c = omega (arith, c.if-output-w-lt-ENTRY_NUMBERS.false, c.requires)

pub overflow_add-w : goal.overflow_add-w
overflow_add-w c = omega (arith, c.if-output-w-lt-ENTRY_NUMBERS.false, c.requires)

pub bounds-output-w-2 : goal.bounds-output-w-2
bounds-output-w-2 c = simp length-set (omega (arith, c.if-output-w-lt-ENTRY_NUMBERS.false, c.requires))

pub overflow_add-w-2 : goal.overflow_add-w-2
overflow_add-w-2 c = omega (arith, c.if-output-w-lt-ENTRY_NUMBERS.false, c.requires)

pub bounds-output-w-3 : goal.bounds-output-w-3
bounds-output-w-3 c = simp length-set (omega (arith, c.if-output-w-lt-ENTRY_NUMBERS.false, c.requires))

pub overflow_add-n : goal.overflow_add-n
overflow_add-n c = omega (arith, c.if-output-w-lt-ENTRY_NUMBERS.false, c.requires)

pub shape_of-output : goal.shape_of-output
shape_of-output c = simp length-set

pub returns : goal.returns
returns c = let h : c.args.n.written + 3 ≤ length c.args.output.now = omega (arith, c.if-output-w-lt-ENTRY_NUMBERS.false, c.requires) in record { output_after = λ a s i. writing_some _ _ c.args.q _ (space_some c.args.n a s i c.args.output.now c.if-output-w-lt-ENTRY_NUMBERS.false) (spend_data c.args.n a s i c.args.output.now (to_z w32 (of_z w32 c.args.e.first)) (to_z w32 (of_z w32 c.args.e.second)) (to_z w32 (of_z w32 c.args.e.third)) refl) (wrote_trace c.args.n a s i c.args.output.now (to_z w32 (of_z w32 c.args.e.first)) (to_z w32 (of_z w32 c.args.e.second)) (to_z w32 (of_z w32 c.args.e.third)) refl h ∙ ap (λ (l : List ℤ). say (trace_of c.args.n c.args.output.now) (wrote l)) (three_back (read_back w32 c.args.e.first (let h : mag c.args.e.first < 2147483648 = omega (arith, c.struct_told-1.given) in h)) (read_back w32 c.args.e.second (let h : mag c.args.e.second < 2147483648 = omega (arith, c.struct_told-1.given) in h)) (read_back w32 c.args.e.third (let h : mag c.args.e.third < 2147483648 = omega (arith, c.struct_told-1.given) in h)))); sound_o = λ s g. (wrote_sound c.args.n s g, three_long c.args.output.now c.args.n.written (to_z w32 (of_z w32 c.args.e.first)) (to_z w32 (of_z w32 c.args.e.second)) (to_z w32 (of_z w32 c.args.e.third)) h, three_rest c.args.output.now c.args.n.written (to_z w32 (of_z w32 c.args.e.first)) (to_z w32 (of_z w32 c.args.e.second)) (to_z w32 (of_z w32 c.args.e.third))) }
