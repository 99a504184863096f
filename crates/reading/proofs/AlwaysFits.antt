-- "An accepted program always fits": the table of any program of a source is no longer than the first 32,768 words. So `filled` cuts nothing off, and no
-- answer changes the length of what is lent.
use Prim.Native.Nat.{ℕ, ◌-◌, ◌≤◌}
use mathlib.Core.Path.{◌≡◌, refl, ap}
use mathlib.Core.List.{List}
use native.Mathlib.Omega.{arith}
use lib.ListN.{length, get_or, drop, length-append, length-drop, length-map}
use Rattle.answers.specs.declared.Verdict.{Verdict}
use Rattle.symbols.specs.Names.{letters_at}
use Rattle.symbols.specs.Symbols.{kind}
use Rattle.symbols.specs.Scan.{scan, values_of}
use Rattle.grammar.specs.model.Parsing.{zeros}
use Rattle.table.specs.Table.{table_of}
use Rattle.reading.specs.Judging.{its_program, too_long, unreadable, ungrammatical, too_deep, misnamed, mistyped, accepted}
use Rattle.reading.specs.Reading.{symbols, place_in, table_words, filled, Grammatical, Judged, Reads, too_short, enough}
use Rattle.reading.proofs.Places.{few_symbols}
use Rattle.table.proofs.Fits.{table_room}
use Rattle.reading.proofs.Answers.{length_zeros}

-- whatever the faults of its names and types
pub always_fits : {source : List ℕ} (p : Grammatical source) → length (table_of (place_in source) (its_program p)) ≤ table_words
always_fits {source} p =
    let found = (scan symbols source).found in
    table_room (λ k. get_or (values_of found) k 0) (λ k. letters_at source (place_in source k)) p.tree (place_in source)
    (omega (arith, ap length p.keeps.spelled, length-map found (λ f. kind f.symbol), few_symbols symbols source))

-- so the words and the zeros behind them are 32,768 together
pub filled_room : {source : List ℕ} (p : Grammatical source) → length (filled (table_of (place_in source) (its_program p))) ≡ table_words
filled_room {source} p =
    let words = table_of (place_in source) (its_program p) in
    omega (arith, length-append words (zeros (table_words - length words)), length_zeros (table_words - length words), always_fits p)

room_filled : {source words : List ℕ} {v : Verdict} → Judged source v words → length words ≡ table_words
room_filled (too_long h) = length_zeros table_words
room_filled (unreadable h r e) = length_zeros table_words
room_filled (ungrammatical s k w) = length_zeros table_words
room_filled (too_deep s k d) = length_zeros table_words
room_filled (misnamed p f e) = length_zeros table_words
room_filled (mistyped p f e t) = length_zeros table_words
room_filled (accepted p e t) = filled_room p

-- and the table that is lent keeps its length
pub same_length : {source table new : List ℕ} {v : Verdict} → Reads source table v new → length new ≡ length table
same_length (too_short l) = refl
same_length {table = table} (enough l v words j) = omega (arith, length-append words (drop table_words table), room_filled j, length-drop table_words table)
