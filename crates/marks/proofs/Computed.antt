-- The table of marks, computed in the prover: each source is scanned, parsed and judged, and its program run by the source rules and, translated,
-- by the machine on its words. Each row comes to what it says.
use mathlib.Core.Path.{◌≡◌, refl}
use mathlib.Core.List.{map}
use Rattle.symbols.specs.Names.{blank, letter, digit, in_name, these, reach, value_from, equal as equalBytes, folded, same_name, decimals}
use Rattle.symbols.specs.Scan.{before as beforeByte, closed, spelled, named, word, gap, followed, sign, sized, name, valued as valuedLexeme, number as numberLexeme, lexeme, behind, ends_remark, note, counted, judged, turn, scan_from, scan, pointed, with_point, point}
use Rattle.grammar.specs.Trees.{yield}
use Rattle.grammar.specs.model.Text.{kind_at}
use Rattle.reals.specs.Values.{whole, apply1, apply2, past, convert, both_of, on_numbers, on_truths, cut as cut-values, past_by}
use Rattle.machine.specs.Run.{run}
use Rattle.machine.specs.Data.{lift, guard, check, new_cells, newest, on_value, back, look, put, reading, valued, hold, unhold, held, input, space, rest, spend, taking, writing, work, test, open_block, close_block, enter, given, leave, find, along, outward, inward, found_in, seeking, written, on_channel, picking, name_cell}
use Rattle.machine.specs.Instructions.{unary_of, binary_of, act_of, decode, fetch, with_form, logical}
use Rattle.machine.specs.Machine.{finish, activation_at, walk, exec, obey, step, target_in, work_out}
use Rattle.names.specs.Program.{count, first_symbol}
use Rattle.names.specs.ReadOff.{build, read, program_of}
use Rattle.names.specs.Scopes.{has, modes, specified, variables_in, in_block, in_body, find_in, find_given, meaning}
use Rattle.names.specs.Uses.{uses_e, uses_l, uses_s, scopes_s, each, twice_in, all_names, missing, heading_in, joined, name_faults, least, use_rows}
use Rattle.names.specs.Nodes.{nodes_e, nodes_n, nodes_left, nodes_s}
use Rattle.names.specs.Outline.{size_s, rows_n, rows_s, declarations}
use Rattle.types.specs.Types.{in_expression, wants, wanted_by, is_variable, is_name, own_sort, misfit, misfits, miscalled, as_left, faults_e, faults_left, faults_l, sort_e, faults_s, type_faults, type_fault, widens}
use Rattle.table.specs.Table.{fours, use_words, declaration_words, has_none, node_words, table_of}
use Rattle.rules.specs.Entered.{total, before, cut, declaring, body_of_this, cell_of, variables_of, typed_before, actual_of}
use Rattle.rules.specs.Calls.{primary, command, way}
use Rattle.rules.specs.Rules.{storing, taking_in, passing, adding, evaluates, perform, calling, rule, widened, reads, seeks, finds}
use Rattle.translation.specs.model.Translate.{end_way, end_sum, end_take, code_way, code_test, code_sum, code_take, cut_g, levels, distance, loc, end_e, end_l, end_stores, end_s, entry, code_e, code_l, code_stores, code_s, code, end_wide, end_jump, code_wide, code_jump}
use Rattle.machine.specs.model.Words.{words}
use Rattle.marks.specs.model.Parsing.{among, parse}
use Rattle.marks.specs.model.Judging.{judged_of}
use Rattle.marks.specs.model.Computed.{comes, says}
use Rattle.marks.specs.Marks.{copies, marks}

pub computed : map comes marks ≡ map says marks
unfolding blank letter digit in_name these reach value_from equalBytes folded same_name beforeByte closed spelled named word gap followed sign sized name valuedLexeme numberLexeme lexeme behind ends_remark note counted judged turn scan_from scan yield kind_at whole apply1 apply2 past run lift guard check new_cells newest on_value back look put reading valued hold unhold held input space rest spend taking writing work test open_block close_block enter given leave find unary_of binary_of act_of decode fetch finish activation_at walk exec obey step count first_symbol build read program_of has modes specified variables_in in_block in_body find_in find_given meaning uses_e uses_l uses_s scopes_s each twice_in all_names missing heading_in joined name_faults least use_rows nodes_e nodes_n nodes_left nodes_s size_s rows_n rows_s declarations in_expression wants wanted_by is_variable is_name own_sort misfit misfits miscalled as_left faults_e faults_left faults_l sort_e faults_s type_faults type_fault fours use_words declaration_words has_none node_words table_of total before cut declaring body_of_this cell_of primary command way storing taking_in passing adding evaluates perform calling rule end_way end_sum end_take code_way code_test code_sum code_take cut_g levels distance loc end_e end_l end_stores end_s entry code_e code_l code_stores code_s code words among parse judged_of copies marks decimals pointed with_point point convert both_of on_numbers on_truths cut-values past_by along outward inward found_in seeking written on_channel picking name_cell with_form logical target_in work_out widens variables_of typed_before actual_of widened reads seeks finds end_wide end_jump code_wide code_jump
computed = refl
