-- Paper 01, "Numbered answers", row by row: read answers a number at a place exactly when the row of that number says so. The numbers are those that
-- `number_of` gives to the cases of an answer, and the places those of `place_of`.
use Prim.Native.Nat.{ℕ, zero, suc, ◌+◌, ◌-◌, ◌<◌, ◌≤◌}
use mathlib.Core.Path.{◌≡◌, refl, sym, ap, subst, ◌∙◌}
use mathlib.Core.Logic.{◌↔◌, ◌⊎◌, inl, inr}
use mathlib.Core.List.{List, [], ◌∷◌, ◌++◌}
use mathlib.Core.Option.{none, some}
use native.Mathlib.Omega.{arith}
use lib.ListN.{length, get_or, take, drop}
use Rattle.answers.specs.Numbers.{accepted as zeroth, short, long, no_symbol, too_large, grammar, depth, twice, undeclared, heading, types}
use Rattle.answers.specs.Answers.{refusal, number_of, place_of}
use Rattle.answers.specs.declared.Refusal.{Refusal}
use Rattle.answers.specs.declared.Verdict.{Verdict}
use Rattle.answers.specs.declared.Verdict.TheVariants.{Accepted, Refused}
use Rattle.symbols.specs.Scan.{lexeme, Scan, scan}
use Rattle.symbols.specs.declared.Lexeme.TheVariants.{Large}
use Rattle.symbols.proofs.FirstFault.{Why, no_symbol_lem, open-note, over, one_too_many, FirstFault, first_fault, three_or_four}
use Rattle.grammar.specs.Program.{GrammarFault, DepthFault}
use Rattle.names.specs.Uses.{Fault, name_faults, least}
use Rattle.types.specs.Types.{type_fault}
use Rattle.table.specs.Table.{table_of}
use Rattle.reading.specs.Judging.{its_program, too_long, unreadable, ungrammatical, too_deep, misnamed, mistyped, accepted}
use Rattle.reading.specs.Reading.{symbols, kinds_in, place_in, table_words, filled, cleared, Scanned, Grammatical, Judged, Reads, too_short, enough, Answered}
use Rattle.reading.proofs.Only.{only}
use Rattle.reading.proofs.Places.{few_symbols}
use Rattle.reading.proofs.FaultNumbers.{SevenToNine, seven_to_nine, least_among, ten_only}

module _ (source table : List ℕ) where
  -- ---- "No. | Given exactly when | Place"

  -- 0: "accepted"; 0
  abbrev pub Taken : ℕ → Type 0
  Taken q = (table_words ≤ length table) × (p : Grammatical source) × (least (name_faults (its_program p)) ≡ none) × (type_fault (its_program p) ≡ none) × (q ≡ 0)

  -- 1: "read's table under 32,768 words"; 0
  abbrev pub Short : ℕ → Type 0
  Short q = (length table < table_words) × (q ≡ 0)

  -- 2: "source over 16,384 bytes"; 16,384
  abbrev pub Long : ℕ → Type 0
  Long q = (table_words ≤ length table) × (16384 < length source) × (q ≡ 16384)

  -- 3 and 4; "its first byte"
  abbrev pub Unread : ℕ → ℕ → Type 0
  Unread n q = (table_words ≤ length table) × (length source ≤ 16384) × ((scan symbols source).refused ≡ some (refusal n q))

  -- 5: "grammar: the first symbol that no program can have there, or the source's end where none can end"; "there; for the end, the source's length"
  abbrev pub Ungrammatical : ℕ → Type 0
  Ungrammatical q = (table_words ≤ length table) × Scanned source × (k : ℕ) × GrammarFault (kinds_in source) k × (q ≡ place_in source k)

  -- 6: "depth 65"; "where it would begin; for a dummy statement, the next symbol"
  abbrev pub Deep : ℕ → Type 0
  Deep q = (table_words ≤ length table) × Scanned source × (k : ℕ) × DepthFault (kinds_in source) k × (q ≡ place_in source k)

  -- 7, 8 and 9: the least fault of names; at its name
  abbrev pub Misnamed : ℕ → ℕ → Type 0
  Misnamed n q =
      (table_words ≤ length table)
      × (p : Grammatical source) × (k : ℕ) × (least (name_faults (its_program p)) ≡ some (record { symbol = k; answer = n })) × (q ≡ place_in source k)

  -- 10: "type fault above"; "as above"
  abbrev pub Mistyped : ℕ → Type 0
  Mistyped q =
      (table_words ≤ length table)
      × (p : Grammatical source) × (k : ℕ)
      × (least (name_faults (its_program p)) ≡ none) × (type_fault (its_program p) ≡ some (record { symbol = k; answer = types })) × (q ≡ place_in source k)

  -- the rows 0 to 10
  abbrev pub answer_table : List (ℕ → Type 0)
  answer_table =
      Taken ∷
      Short ∷
      Long ∷
      Unread no_symbol ∷
      Unread too_large ∷
      Ungrammatical ∷
      Deep ∷
      Misnamed twice ∷
      Misnamed undeclared ∷
      Misnamed heading ∷
      Mistyped ∷
      []

  -- the row of n; no other number is given
  abbrev pub Given : ℕ → ℕ → Type 0
  Given n q = get_or answer_table n (λ i. ⊥) q

  -- ---- an answer is in its row

  unread : (r : Refusal) → table_words ≤ length table → length source ≤ 16384 → (scan symbols source).refused ≡ some r → Given r.answer.number r.place.at
  unread r l h e = go (three_or_four symbols source r e)
    where
      here : (n : ℕ) → r.answer.number ≡ n → Unread n r.place.at
      here n q = (l, h, e ∙ ap (λ k. some (refusal k r.place.at)) q)

      go : (r.answer.number ≡ no_symbol) ⊎ (r.answer.number ≡ too_large) → Given r.answer.number r.place.at
      go (inl q) = subst (λ n. Given n r.place.at) (sym q) (here no_symbol q)
      go (inr q) = subst (λ n. Given n r.place.at) (sym q) (here too_large q)

  named : (p : Grammatical source) (f : Fault) → table_words ≤ length table → least (name_faults (its_program p)) ≡ some f → Given f.answer (place_in source f.symbol)
  named p f l e = go (seven_to_nine (its_program p) f (least_among (name_faults (its_program p)) f e))
    where
      here : (n : ℕ) → f.answer ≡ n → Misnamed n (place_in source f.symbol)
      here n q = (l, p, f.symbol, e ∙ ap (λ k. some (record { symbol = f.symbol; answer = k })) q, refl)

      go : SevenToNine f.answer → Given f.answer (place_in source f.symbol)
      go (inl q) = subst (λ n. Given n (place_in source f.symbol)) (sym q) (here twice q)
      go (inr (inl q)) = subst (λ n. Given n (place_in source f.symbol)) (sym q) (here undeclared q)
      go (inr (inr q)) = subst (λ n. Given n (place_in source f.symbol)) (sym q) (here heading q)

  typed : (p : Grammatical source) (f : Fault) → table_words ≤ length table → least (name_faults (its_program p)) ≡ none → type_fault (its_program p) ≡ some f
      → Given f.answer (place_in source f.symbol)
  typed p f l e t =
      let q = ten_only (its_program p) f t in
      subst (λ n. Given n (place_in source f.symbol)) (sym q) (l, p, f.symbol, e, t ∙ ap (λ k. some (record { symbol = f.symbol; answer = k })) q, refl)

  judged : {v : Verdict} {words : List ℕ} → table_words ≤ length table → Judged source v words → Given (number_of v) (place_of v)
  judged l (too_long h) = (l, h, refl)
  judged l (unreadable h r e) = unread r l h e
  judged l (ungrammatical s k w) = (l, s, k, w, refl)
  judged l (too_deep s k d) = (l, s, k, d, refl)
  judged l (misnamed p f e) = named p f l e
  judged l (mistyped p f e t) = typed p f l e t
  judged l (accepted p e t) = (l, p, e, t, refl)

  in_row : {v : Verdict} {new : List ℕ} → Reads source table v new → Given (number_of v) (place_of v)
  in_row (too_short l) = (l, refl)
  in_row (enough l v words j) = judged l j

  -- ---- and a row has its answer

  infixr 20 ◌also◌
  data Rows : ℕ → List (ℕ → Type 0) → Type 1 where
    that_is_all : {i : ℕ} → Rows i []
    ◌also◌ : {i : ℕ} {C : ℕ → Type 0} {l : List (ℕ → Type 0)} → ((q : ℕ) → C q → Answered source table i q) → Rows (i + 1) l → Rows i (C ∷ l)

  answered : (v : Verdict) (words : List ℕ) → table_words ≤ length table → Judged source v words → (q : ℕ) → q ≡ place_of v → Answered source table (number_of v) q
  answered v words l j q e = (v, words ++ drop table_words table, enough l v words j, refl, sym e)

  taken : (q : ℕ) → Taken q → Answered source table zeroth q
  taken q h = answered Accepted (filled (table_of (place_in source) (its_program h.1))) h.0 (accepted h.1 h.2 h.3) q h.4

  not_enough : (q : ℕ) → Short q → Answered source table short q
  not_enough q h = (Refused (refusal short 0), table, too_short h.0, refl, sym h.1)

  too_much : (q : ℕ) → Long q → Answered source table long q
  too_much q h = answered (Refused (refusal long 16384)) cleared h.0 (too_long h.1) q h.2

  not_read : (n q : ℕ) → Unread n q → Answered source table n q
  not_read n q h = answered (Refused (refusal n q)) cleared h.0 (unreadable h.1 (refusal n q) h.2) q refl

  not_parsed : (q : ℕ) → Ungrammatical q → Answered source table grammar q
  not_parsed q h = answered (Refused (refusal grammar (place_in source h.2))) cleared h.0 (ungrammatical h.1 h.2 h.3) q h.4

  not_shallow : (q : ℕ) → Deep q → Answered source table depth q
  not_shallow q h = answered (Refused (refusal depth (place_in source h.2))) cleared h.0 (too_deep h.1 h.2 h.3) q h.4

  not_named : (n q : ℕ) → Misnamed n q → Answered source table n q
  not_named n q h =
      answered (Refused (refusal n (place_in source h.2))) cleared h.0 (misnamed h.1 (record { symbol = h.2; answer = n }) h.3) q h.4

  not_typed : (q : ℕ) → Mistyped q → Answered source table types q
  not_typed q h =
      answered (Refused (refusal types (place_in source h.2))) cleared h.0 (mistyped h.1 (record { symbol = h.2; answer = types }) h.3 h.4) q h.5

  all_rows : Rows 0 answer_table
  all_rows =
      taken
      also not_enough
      also too_much
      also not_read no_symbol
      also not_read too_large
      also not_parsed
      also not_shallow
      also not_named twice
      also not_named undeclared
      also not_named heading
      also not_typed
      also that_is_all

  look_up : (i n : ℕ) (l : List (ℕ → Type 0)) → Rows i l → (q : ℕ) → get_or l n (λ k. ⊥) q → Answered source table (i + n) q
  look_up i n [] r q h = absurd h
  look_up i zero (C ∷ l) (a also r) q h = let e : i ≡ i + 0 = omega arith in subst (λ k. Answered source table k q) e (a q h)
  look_up i (suc n) (C ∷ l) (a also r) q h = let e : i + 1 + n ≡ i + suc n = omega arith in subst (λ k. Answered source table k q) e (look_up (i + 1) n l r q h)

  -- read answers n at q exactly when the row of n says so
  pub numbered : (n q : ℕ) → Answered source table n q ↔ Given n q
  numbered n q = (
    λ a. subst (λ k. Given k q) a.3 (subst (Given (number_of a.0)) a.4 (in_row a.2)),
    λ g. let e : 0 + n ≡ n = omega arith in subst (λ k. Answered source table k q) e (look_up 0 n answer_table all_rows q g),
  )

  -- and there is no other number
  in_list : (l : List (ℕ → Type 0)) (n q : ℕ) → get_or l n (λ k. ⊥) q → n < length l
  in_list [] n q h = absurd h
  in_list (C ∷ l) zero q h = omega arith
  in_list (C ∷ l) (suc n) q h = omega (arith, in_list l n q h)

  pub to_ten : {v : Verdict} {new : List ℕ} → Reads source table v new → number_of v ≤ 10
  to_ten {v} r = omega (arith, in_list answer_table (number_of v) (place_of v) (in_row r))

  -- 0 is acceptance
  pub zero_is_accepted : {v : Verdict} {new : List ℕ} → Reads source table v new → (number_of v ≡ zeroth) ↔ (v ≡ Accepted)
  zero_is_accepted {v} r = (
    λ e. let g : Given 0 (place_of v) = subst (λ k. Given k (place_of v)) e (in_row r) in (only r (enough g.0 Accepted _ (accepted g.1 g.2 g.3))).0,
    λ e. ap number_of e,
  )

  -- ---- 3 and 4: nothing before the place is at fault

  pub smallest_place : {v : Verdict} {new : List ℕ} → Reads source table v new → (number_of v ≡ no_symbol) ⊎ (number_of v ≡ too_large)
      → FirstFault symbols source (refusal (number_of v) (place_of v))
  smallest_place {v} r h = first_fault symbols source (refusal (number_of v) (place_of v)) (go h)
    where
      go : (number_of v ≡ no_symbol) ⊎ (number_of v ≡ too_large) → (scan symbols source).refused ≡ some (refusal (number_of v) (place_of v))
      go (inl e) = let g : Unread no_symbol (place_of v) = subst (λ k. Given k (place_of v)) e (in_row r) in g.2 ∙ ap (λ k. some (refusal k (place_of v))) (sym e)
      go (inr e) = let g : Unread too_large (place_of v) = subst (λ k. Given k (place_of v)) e (in_row r) in g.2 ∙ ap (λ k. some (refusal k (place_of v))) (sym e)

  -- a 4 at what is not over its own limit is at symbol 2,049: 2,048 stand before it
  pub at_the_limit : {v : Verdict} {new : List ℕ} → Reads source table v new → number_of v ≡ too_large
      → ((k : ℕ) × (lexeme (get_or source (place_of v) 0) (drop (place_of v + 1) source) ≡ Large k)) ⊎ (length (scan symbols (take (place_of v) source)).found ≡ symbols)
  at_the_limit {v} r e = go first.why e
    where
      first : FirstFault symbols source (refusal (number_of v) (place_of v))
      first = smallest_place r (inr e)

      full : symbols - length (scan symbols source).found ≡ 0 → length (scan symbols (take (place_of v) source)).found ≡ symbols
      full z = omega (arith, ap (λ (x : Scan). length x.found) first.read_before, few_symbols symbols source)

      go : {m : ℕ} → Why (symbols - length (scan symbols source).found) (get_or source (place_of v) 0) (drop (place_of v + 1) source) m → m ≡ too_large
          → ((k : ℕ) × (lexeme (get_or source (place_of v) 0) (drop (place_of v + 1) source) ≡ Large k)) ⊎ (length (scan symbols (take (place_of v) source)).found ≡ symbols)
      go (no_symbol_lem x) q = absurd (omega arith)
      go (open-note s k x w o) q = absurd (omega arith)
      go (over k x) q = inl (k, x)
      go (one_too_many s k x z) q = inr (full z)
