-- The record of a small run word by word, what is answered to it and to others like it, computed, and replays that this rules out.
use Prim.Native.Nat.{ℕ}
use native.Mathlib.Omega.{arith}
use mathlib.Core.Path.{◌≡◌, refl}
use mathlib.Core.Bool.{cond}
use mathlib.Core.List.{List, [], ◌∷◌, ◌++◌, map}
use mathlib.Core.Option.{Option, none, some}
use lib.IntN.{ℤ, pos, negsuc}
use lib.ListN.{take, replicate}
use lib.Ieee.{add as addF, sub as subF, mul as mul_f, div as divF, lt as ltF, le as leF, eq as eq_f, neg as negF, of_int as ofIntF, to_bits as toBitsF, of_bits as ofBitsF, round as roundF}
use Rattle.reals.specs.Values.{convert, whole_of, entier, whole, real, apply1, both_of, on_numbers, on_truths, cut, quotient, apply2, past, past_r, past_by, entry_r}
use Rattle.machine.specs.Run.{run}
use Rattle.machine.specs.Data.{work, test, picking, open_block, close_block, name_cell, enter, leave, given, new_cells, newest, on_value, back, look, put, reading, valued, along, outward, inward, heightened, written, on_channel, hold, unhold, held, found_in, find, seeking, input, space, rest, spend, taking, writing, lift, guard, check}
use Rattle.machine.specs.Instructions.{fetch, with_form, logical, decode, act_of, unary_of, binary_of}
use Rattle.machine.specs.Machine.{Exit, machine, finish, step, obey, exec, work_out, activation_at, walk, target_in, afterwards, job}
use Rattle.records.specs.declared.Replayed.{Replayed}
use Rattle.records.specs.declared.Replayed.TheVariants.{Agrees, Differs, Bad, Short}
use Rattle.records.specs.Words.{Reading, fine, bad, read, holds, in_turn, one_entry, entries, sections, joined, section_words, singles, first_apart, next}
use Rattle.records.specs.Record.{Recorded, sheet, made, record_layout, record_words}
use Rattle.records.specs.samples.Month.{code, kept}
use Rattle.records.specs.Replay.{Told, wrote, same_told, in_threes, of_record, of_run, verdict, compared, on_record, replay, record_of, recorded}

-- words of a run on 3 with limit 1,000: store length, output length, answer, and what stands behind it
abbrev after : ℕ → ℕ → ℕ → List ℤ → List ℤ
after s o a l = pos 1 ∷ pos 3 ∷ pos 1 ∷ pos 1000 ∷ pos 0 ∷ pos 1 ∷ pos s ∷ pos 1 ∷ pos o ∷ pos 1 ∷ pos a ∷ l

-- a record, and what is answered with 12 numbers of store and 8 of output lent
pub record Row : Type 0 where
  pub words : List ℤ
  pub says : Replayed

abbrev sent : List ℤ → Replayed → Row
sent l a = record { words = l; says = a }

abbrev store : List ℤ
store = replicate 12 (pos 7)

abbrev output : List ℤ
output = replicate 8 (pos 9)

-- the entry of the whole number 3, of the real 1.5, and words behind it
abbrev three : List ℤ → List ℤ
three l = pos 0 ∷ pos 3 ∷ pos 0 ∷ l

abbrev half : List ℤ → List ℤ
half l = pos 1 ∷ pos 0 ∷ pos 1073217536 ∷ l

rows : List Row
rows =
    sent kept Agrees
    -- the answer changed; a value; its type; one entry less; one more
    ∷ sent (after 8 6 20 (pos 2 ∷ three (half []))) (Differs 0)
    ∷ sent (after 8 6 0 (pos 2 ∷ three (pos 1 ∷ pos 1 ∷ pos 1073217536 ∷ []))) (Differs 2)
    ∷ sent (after 8 6 0 (pos 2 ∷ pos 1 ∷ pos 3 ∷ pos 0 ∷ half [])) (Differs 1)
    ∷ sent (after 8 6 0 (pos 1 ∷ three [])) (Differs 2)
    ∷ sent (after 8 6 0 (pos 3 ∷ three (half (half [])))) (Differs 3)
    -- three cells; room for one entry; limit 0; no input
    ∷ sent (after 6 6 26 (pos 1 ∷ three [])) Agrees
    ∷ sent (after 8 5 25 (pos 1 ∷ three [])) Agrees
    ∷ sent (pos 1 ∷ pos 3 ∷ pos 1 ∷ pos 0 ∷ pos 0 ∷ pos 1 ∷ pos 8 ∷ pos 1 ∷ pos 6 ∷ pos 1 ∷ pos 20 ∷ pos 0 ∷ []) Agrees
    ∷ sent (pos 0 ∷ pos 1 ∷ pos 1000 ∷ pos 0 ∷ pos 1 ∷ pos 8 ∷ pos 1 ∷ pos 6 ∷ pos 1 ∷ pos 24 ∷ pos 0 ∷ []) Agrees
    -- shorter lent
    ∷ sent (after 13 6 0 (pos 0 ∷ [])) Short
    ∷ sent (after 8 9 0 (pos 0 ∷ [])) Short
    -- bad words
    ∷ sent [] (Bad 0)
    ∷ sent (negsuc 0 ∷ []) (Bad 0)
    ∷ sent (pos 3 ∷ pos 5 ∷ []) (Bad 2)
    ∷ sent (pos 0 ∷ pos 2 ∷ []) (Bad 1)
    ∷ sent (after 8 6 19 []) (Bad 10)
    ∷ sent (after 8 6 0 []) (Bad 11)
    ∷ sent (after 8 6 0 (pos 1 ∷ pos 2 ∷ pos 3 ∷ pos 0 ∷ [])) (Bad 12)
    ∷ sent (after 8 6 0 (pos 1 ∷ pos 0 ∷ pos 3 ∷ pos 1 ∷ [])) (Bad 14)
    ∷ sent (after 8 6 0 (pos 1 ∷ pos 0 ∷ pos 3 ∷ [])) (Bad 14)
    ∷ sent (after 8 6 0 (pos 1 ∷ three (pos 0 ∷ []))) (Bad 15)
    -- malformed before too short
    ∷ sent (after 13 6 0 []) (Bad 11)
    ∷ []

comes : Row → Replayed
comes r = (replay code r.words store output).answer

expected : Row → Replayed
expected r = r.says

-- ---- three wrong replays: one that compares outputs alone, one that stops at the shorter list, one that runs on the whole store

abbrev outputs_alone : Recorded → Exit → Replayed
outputs_alone r e = verdict (first_apart same_told (map wrote r.outputs) (map wrote (in_threes (take e.ran.written e.output))))

unfoldable common : List Told → List Told → Option ℕ
common [] ys = none
common (x ∷ xs) [] = none
common (x ∷ xs) (y ∷ ys) = cond (same_told x y) (next (common xs ys)) (some 0)

abbrev at_the_shorter : Recorded → Exit → Replayed
at_the_shorter r e = verdict (common (of_record r) (of_run e))

abbrev on_reading : (Recorded → Replayed) → Reading Recorded → Replayed
on_reading f (fine r) = f r
on_reading f (bad i) = Bad i

wrong1 : List ℤ → Replayed
wrong1 ws = on_reading (λ r. outputs_alone r (job code r.input r.limit (take r.store_length store) (take r.output_length output))) (read record_layout ws)

wrong2 : List ℤ → Replayed
wrong2 ws = on_reading (λ r. at_the_shorter r (job code r.input r.limit (take r.store_length store) (take r.output_length output))) (read record_layout ws)

wrong3 : List ℤ → Replayed
wrong3 ws = on_reading (λ r. verdict (first_apart same_told (of_record r) (of_run (job code r.input r.limit store (take r.output_length output))))) (read record_layout ws)

-- all of it computed: the rows; the record that the definition makes; the three on records that they get wrong; and what is lent afterwards
computed : (map comes rows ≡ map expected rows) × (record_words (recorded code (pos 3 ∷ []) 1000 8 6) ≡ kept)
    × (wrong1 (after 8 6 20 (pos 2 ∷ three (half []))) ≡ Agrees)
    × (wrong2 (after 8 6 0 (pos 1 ∷ three [])) ≡ Agrees)
    × (wrong3 (after 6 6 26 (pos 1 ∷ three [])) ≡ Differs 0)
    × ((replay code kept store output).store ≡ replicate 8 (pos 0) ++ replicate 4 (pos 7))
    × ((replay code kept store output).output ≡ three (half (pos 9 ∷ pos 9 ∷ [])))
unfolding rows comes expected wrong1 wrong2 wrong3 common replay on_record compared read holds in_turn one_entry entries sections joined section_words singles first_apart next sheet made record_layout record_words same_told in_threes record_of afterwards machine finish run step obey exec work_out fetch with_form logical decode act_of unary_of binary_of work test picking open_block close_block name_cell enter leave given new_cells newest on_value back look put reading valued along outward inward heightened written on_channel hold unhold held found_in find seeking input space rest spend taking writing lift guard check activation_at walk target_in convert whole_of entier whole real apply1 both_of on_numbers on_truths cut quotient apply2 past past_r past_by entry_r addF subF mul_f divF ltF leF eq_f negF ofIntF toBitsF ofBitsF roundF
computed = (refl, refl, refl, refl, refl, refl, refl)

refuted1 : ¬ ((ws : List ℤ) → wrong1 ws ≡ (replay code ws store output).answer)
unfolding rows comes expected
refuted1 h =
    let p = h (after 8 6 20 (pos 2 ∷ three (half []))) in
    let q : (replay code (after 8 6 20 (pos 2 ∷ three (half []))) store output).answer ≡ Differs 0 = second computed.0 in
    let r = computed.2 in
    let z : ◌≡◌ {A = ℕ} 0 1 = cc in omega arith
  where
    second : {a b c d : Replayed} {l m : List Replayed} → a ∷ b ∷ l ≡ c ∷ d ∷ m → b ≡ d
    second e = cc

refuted2 : ¬ ((ws : List ℤ) → wrong2 ws ≡ (replay code ws store output).answer)
unfolding rows comes expected
refuted2 h =
    let p = h (after 8 6 0 (pos 1 ∷ three [])) in
    let q : (replay code (after 8 6 0 (pos 1 ∷ three [])) store output).answer ≡ Differs 2 = fifth computed.0 in
    let r = computed.3 in
    let z : ◌≡◌ {A = ℕ} 0 1 = cc in omega arith
  where
    fifth : {a b c d e a' b' c' d' e' : Replayed} {l m : List Replayed} → a ∷ b ∷ c ∷ d ∷ e ∷ l ≡ a' ∷ b' ∷ c' ∷ d' ∷ e' ∷ m → e ≡ e'
    fifth p = cc

refuted3 : ¬ ((ws : List ℤ) → wrong3 ws ≡ (replay code ws store output).answer)
unfolding rows comes expected
refuted3 h =
    let p = h (after 6 6 26 (pos 1 ∷ three [])) in
    let q : (replay code (after 6 6 26 (pos 1 ∷ three [])) store output).answer ≡ Agrees = seventh computed.0 in
    let r = computed.4 in
    let z : ◌≡◌ {A = ℕ} 0 1 = cc in omega arith
  where
    seventh : {a b c d e f g a' b' c' d' e' f' g' : Replayed} {l m : List Replayed} → a ∷ b ∷ c ∷ d ∷ e ∷ f ∷ g ∷ l ≡ a' ∷ b' ∷ c' ∷ d' ∷ e' ∷ f' ∷ g' ∷ m → g ≡ g'
    seventh p = cc
