-- `reading::schemes::listed` meets its contract: what stands enters, its words are written over zeros, and the uses of the prelude's names get kind 4. Assumes nothing.
use mathlib.Core.Path.{ap}
use mathlib.Core.List.{List}
use Prim.Native.Nat.{ℕ, ◌-◌}
use native.Mathlib.Omega.{arith}
use lib.ListN.{length}
use Rattle.table.proofs.Written.{entered}
use Rattle.reading.proofs.Answers.{length_zeros}
use Rattle.reading.proofs.HalfWords.{rows_order, uses_order, uses_inside, enters, half_words_lem}
use Rattle.reading.proofs.schemes.listed.Goals as goal

pub overflow_mul-r : goal.overflow_mul-r
overflow_mul-r c = omega (arith, rows_order c.requires.0.6, ap length c.first_rows-declared.ensures.result_value, c.first_rows-declared.ensures.result_len_bound)

pub part-requires : goal.part-requires
part-requires c = (omega (arith, uses_order c.requires.0.6, ap length c.front-used.ensures), omega arith)

pub part-requires-2 : goal.part-requires-2
part-requires-2 c = (omega (arith, rows_order c.requires.0.6, ap length c.first_rows-declared.ensures.result_value), omega arith)

pub overflow_sub-end : goal.overflow_sub-end
overflow_sub-end c = omega (arith, uses_order c.requires.0.6, ap length c.front-used.ensures)

pub slice_bounds-fourths-end : goal.slice_bounds-fourths-end
slice_bounds-fourths-end c = omega (arith, uses_inside c.requires.0.6, ap length c.front-used.ensures, c.write_behind.auto, ap length c.requires.1, length_zeros 16384)

pub returns : goal.returns
returns c = λ prelude scheme values nodes was marks h. half_words_lem h c.requires.1 (ap (λ (l : List ℕ). length l - c.args.b.before.uses) c.front-used.ensures) (entered (enters h c.requires.1 (omega (arith, ap length c.first_rows-declared.ensures.result_value, c.first_rows-declared.ensures.result_len_bound))) (rw (c.front.ensures, c.part.ensures, c.part-2.ensures, c.front-used.ensures, c.first_rows-declared.ensures.result_value) at c.write_behind.ensures)) c.fourths.ensures
