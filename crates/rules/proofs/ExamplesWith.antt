-- The programs with a prelude (request 7), run by the source rules in the prover.
use mathlib.Core.Path.{◌≡◌, refl}
use mathlib.Core.List.{map}
use Rattle.symbols.specs.Names.{same_name, equal as equalBytes, folded}
use lib.Ieee.{add as addF, sub as subF, mul as mul_f, div as divF, lt as ltF, le as leF, eq as eq_f, neg as negF, of_int as ofIntF, to_bits as toBitsF, round as roundF}
use Rattle.reals.specs.Values.{convert, whole_of, entier, whole, real, apply1, apply2, both_of, on_numbers, on_truths, quotient, cut as cutZ, past, past_r, past_by, entry_r, decimal, reading as readingR}
use Rattle.machine.specs.Run.{End, done, run}
use Rattle.machine.specs.Data.{lift, guard, check, new_cells, newest, on_value, back, look, put, reading, valued, hold, unhold, held, input, space, rest, spend, taking, writing, work, test, open_block, close_block, enter, given, leave, find, found_in, seeking, name_cell, along, outward, inward, picking, written, on_channel}
use Rattle.names.specs.Program.{first_symbol}
use Rattle.names.specs.Scopes.{has, modes, specified, variables_in, in_block, in_body, find_in, find_given, meaning}
use Rattle.types.specs.Types.{sort_e, widens, in_expression}
use Rattle.rules.specs.Entered.{total, variables_of, typed_before, before, cut, declaring, body_of_this, cell_of, actual_of}
use Rattle.rules.specs.Calls.{primary, command, way}
use Rattle.rules.specs.Rules.{widened, State, reads, seeks, finds, storing, taking_in, passing, adding, evaluates, perform, calling, rule, source_in}
use Rattle.rules.specs.Entered.{preluded}
use Rattle.rules.specs.samples.Samples.{entries}
use Rattle.rules.specs.samples.Preludes.{Behind, one, printed, hiding, each_other, of_three, divided, raising, raised, table}

abbrev comes : Behind → End State
comes b = let r = b.scheme in source_in (λ q. q) (preluded b.prelude) r.text r.numbers r.cells_lent r.space 5000

abbrev says : Behind → End State
says b = let r = b.scheme in done r.stop r.steps (record { written = r.written; taken = r.taken })

-- as it stops, after so many steps, with such outputs and so many numbers taken
holds : map comes table ≡ map says table
unfolding readingR sort_e widens in_expression widened addF subF mul_f divF ltF leF eq_f negF ofIntF toBitsF roundF convert whole_of entier real both_of on_numbers on_truths quotient cutZ past_r past_by entry_r decimal seeking along outward inward picking written on_channel variables_of typed_before entries run rule lift guard check new_cells newest on_value back look put reading valued hold unhold held input space rest spend taking writing work test open_block close_block enter given leave whole apply1 apply2 past cut cell_of declaring way storing taking_in passing adding reads seeks finds modes actual_of find found_in name_cell body_of_this total before evaluates perform calling primary command meaning find_in find_given in_block in_body variables_in specified has same_name equalBytes first_symbol one printed hiding each_other of_three divided raising raised table folded
holds = refl
