-- The programs with a prelude (request 7), translated and run in the prover: as it stops, with such outputs and so many numbers taken; and 16 instructions a step and
-- 16 more are enough.
use mathlib.Core.Bool.{true}
use mathlib.Core.Path.{◌≡◌, refl}
use mathlib.Core.List.{map}
use Rattle.symbols.specs.Names.{same_name, equal as equalBytes, folded}
use lib.Ieee.{add as addF, sub as subF, mul as mul_f, div as divF, lt as ltF, le as leF, eq as eq_f, neg as negF, of_int as ofIntF, to_bits as toBitsF, of_bits as ofBitsF, round as roundF}
use Rattle.reals.specs.Values.{convert, whole_of, entier, whole, real, apply1, apply2, both_of, on_numbers, on_truths, quotient, cut as cutZ, past, past_r, past_by, entry_r, decimal, reading as readingR}
use Rattle.machine.specs.Run.{run}
use Rattle.machine.specs.Data.{lift, guard, check, new_cells, newest, on_value, back, look, put, reading, valued, hold, unhold, held, input, space, rest, spend, taking, writing, work, test, open_block, close_block, enter, given, leave, find, found_in, seeking, name_cell, along, outward, inward, picking, written, on_channel, heightened}
use Rattle.machine.specs.Machine.{finish, activation_at, walk, target_in, work_out, exec, obey}
use Rattle.names.specs.Program.{count, first_symbol}
use Rattle.names.specs.Scopes.{has, modes, specified, variables_in, in_block, in_body, find_in, find_given, meaning}
use Rattle.types.specs.Types.{sort_e, widens, in_expression}
use Rattle.rules.specs.Entered.{total, variables_of, typed_before, before, declaring, body_of_this}
use Rattle.rules.specs.Calls.{primary, command, way}
use Rattle.translation.specs.model.Translate.{end_wide, code_wide, end_jump, code_jump, end_way, end_sum, end_take, code_way, code_test, code_sum, code_take, cut_g, levels, distance, loc, end_e, end_l, end_stores, end_s, entry, code_e, code_l, code_stores, code_s, code}
use Rattle.translation.specs.model.Listed.{instruction_at, step_in, machine_in}
use Rattle.names.specs.Prelude.{with_prelude}
use Rattle.rules.specs.samples.Samples.{entries}
use Rattle.rules.specs.samples.Preludes.{Behind, one, printed, hiding, each_other, of_three, divided, raising, raised, table}
use Rattle.translation.proofs.Examples.{Came, came}

abbrev comes : Behind → Came
comes b = let r = b.scheme in came r.steps (machine_in (code (λ q. q) (with_prelude b.count b.prelude r.text)) r.numbers 2000 r.cells_lent r.space)

abbrev says : Behind → Came
says b = let r = b.scheme in record { stop = r.stop; written = r.written; taken = r.taken; few = true }

holds : map comes table ≡ map says table
unfolding readingR end_wide code_wide end_jump code_jump sort_e widens in_expression addF subF mul_f divF ltF leF eq_f negF ofIntF toBitsF ofBitsF roundF convert whole_of entier real both_of on_numbers on_truths quotient cutZ past_r past_by entry_r decimal seeking along outward inward picking written on_channel heightened variables_of typed_before entries end_way end_sum end_take code_way code_test code_sum code_take run lift guard check new_cells newest on_value back look put reading valued hold unhold held input space rest spend taking writing work test open_block close_block enter given leave whole apply1 apply2 past finish activation_at walk target_in work_out find found_in name_cell exec obey first_symbol modes way declaring body_of_this total before count primary command meaning find_in find_given in_block in_body variables_in specified has same_name equalBytes cut_g levels distance loc end_e end_l end_stores end_s entry code_e code_l code_stores code_s code instruction_at step_in machine_in one printed hiding each_other of_three divided raising raised table folded
holds = refl
