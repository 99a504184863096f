-- What the contract of `check_list` promises, said plainly. Each is about `ChecksRows`, which the code meets for every source, every list and every
-- width of row, and which has one answer (`one_answer`).
use Prim.Native.Nat.{ℕ, zero, suc, ◌+◌, ◌*◌, ◌≤◌, ◌<◌}
use mathlib.Core.Path.{◌≡◌, refl, sym, ap, subst, ◌∙◌}
use mathlib.Core.Logic.{◌↔◌}
use mathlib.Core.Bool.{Bool, true, false, cond}
use mathlib.Core.List.{List, [], ◌∷◌, ◌++◌, map}
use mathlib.Core.Option.{Option, none, some}
use native.Mathlib.Omega.{arith}
use lib.IntN.{ℤ, pos, negsuc}
use lib.ListN.{length, get_or, take, set, get_elem?, length-map, get_or-map}
use lib.Seq.{take_at}
use borrow.Author.Tests.{eqb-true, eq-eqb}
use Rattle.answers.specs.declared.Refusal.{Refusal}
use Rattle.answers.specs.declared.Verdict.{Verdict}
use Rattle.answers.specs.declared.Verdict.TheVariants.{Accepted, Refused as Refuses}
use Rattle.names.specs.Program.{Statement}
use Rattle.names.specs.Uses.{Row, joined, use_rows}
use Rattle.table.specs.Table.{use_words}
use Rattle.table.proofs.Fits.{three_words_lem}
use Rattle.reading.specs.Judging.{its_program, accepted as judged-accepted}
use Rattle.reading.specs.Reading.{place_in, table_words, cleared, Judged, Reads, enough}
use Rattle.reading.proofs.Only.{one_program, one_judgement, only}
use Rattle.checking.specs.Checking.{three, use_list, is_word, next, first_wrong, answer_of, ChecksRows, Checks, refused, accepted}
use Rattle.checking.specs.declared.Checked.{Checked}
use Rattle.checking.specs.declared.Checked.TheVariants.{Yes, Refused, Wrong}
use Rattle.checking.proofs.FromTables.{Accepts, read_accepts, begins}

-- ---- 1. lists: no word is wrong exactly if the list is the words, and the first wrong one is where the two part

is_word_lem : (x : ℤ) (w : ℕ) → is_word x w ≡ true → x ≡ pos w
unfolding is_word
is_word_lem (pos n) w e = ap pos (eqb-true n w e)
is_word_lem (negsuc n) w e = absurd (let z : ◌≡◌ {A = Bool} false true = e in let y : ◌≡◌ {A = ℕ} 0 1 = cc in omega arith)

word_is : (w : ℕ) → is_word (pos w) w ≡ true
unfolding is_word
word_is w = eq-eqb w w refl

some_none : {A : Type 0} {a : A} → some a ≡ none → ⊥
some_none e = let z : ◌≡◌ {A = ℕ} 0 1 = cc in omega arith

cons_nil : {A : Type 0} {a : A} {l : List A} → a ∷ l ≡ [] → ⊥
cons_nil e = let z : ◌≡◌ {A = ℕ} 0 1 = cc in omega arith

-- words that agree go on
pub goes_on : (w : ℕ) (xs : List ℤ) (ws : List ℕ) → first_wrong (pos w ∷ xs) (w ∷ ws) ≡ next (first_wrong xs ws)
unfolding first_wrong
goes_on w xs ws = ap (λ b. cond b (next (first_wrong xs ws)) (some 0)) (word_is w)

pub right_list : (ws : List ℕ) → first_wrong (map pos ws) ws ≡ none
unfolding first_wrong next
right_list [] = refl
right_list (w ∷ ws) = goes_on w (map pos ws) ws ∙ ap next (right_list ws)

pub list_right : (l : List ℤ) (ws : List ℕ) → first_wrong l ws ≡ none → l ≡ map pos ws
unfolding first_wrong next
list_right [] [] e = refl
list_right [] (w ∷ ws) e = absurd (some_none e)
list_right (x ∷ xs) [] e = absurd (some_none e)
list_right (x ∷ xs) (w ∷ ws) e = by (is_word x w) refl (first_wrong xs ws) (list_right xs ws) e
  where
    by : (b : Bool) → is_word x w ≡ b → (o : Option ℕ) → (o ≡ none → xs ≡ map pos ws) → cond b (next o) (some 0) ≡ none → x ∷ xs ≡ pos w ∷ map pos ws
    by true q none rest e = ap (λ y. y ∷ xs) (is_word_lem x w q) ∙ ap (λ l. pos w ∷ l) (rest refl)
    by true q (some i) rest e = absurd (some_none e)
    by false q o rest e = absurd (some_none e)

-- "the index, from 0, of the first wrong word": the words before it are right, and there the list has another word than it should, or one of the two
-- has ended
pub record WrongAt (list : List ℤ) (words : List ℕ) (i : ℕ) : Type 0 where
  pub right_before : take i list ≡ take i (map pos words)
  pub wrong_there : get_elem? list i ≡ get_elem? (map pos words) i → ⊥

pub wrong_at : (l : List ℤ) (ws : List ℕ) (i : ℕ) → first_wrong l ws ≡ some i → WrongAt l ws i
unfolding first_wrong next
wrong_at [] [] i e = absurd (some_none (sym e))
wrong_at [] (w ∷ ws) zero e = record { right_before = refl; wrong_there = λ q. some_none (sym q) }
wrong_at [] (w ∷ ws) (suc i) e = absurd (let z : ◌≡◌ {A = ℕ} 0 (suc i) = cc in omega arith)
wrong_at (x ∷ xs) [] zero e = record { right_before = refl; wrong_there = some_none }
wrong_at (x ∷ xs) [] (suc i) e = absurd (let z : ◌≡◌ {A = ℕ} 0 (suc i) = cc in omega arith)
wrong_at (x ∷ xs) (w ∷ ws) i e = by (is_word x w) refl (first_wrong xs ws) (wrong_at xs ws) i e
  where
    by : (b : Bool) → is_word x w ≡ b → (o : Option ℕ) → ((j : ℕ) → o ≡ some j → WrongAt xs ws j) → (i : ℕ) → cond b (next o) (some 0) ≡ some i → WrongAt (x ∷ xs) (w ∷ ws) i
    by true q none rest i e = absurd (some_none (sym e))
    by true q (some j) rest zero e = absurd (let z : ◌≡◌ {A = ℕ} (suc j) 0 = cc in omega arith)
    by true q (some j) rest (suc i) e =
        let h = rest i (let z : suc j ≡ suc i = cc in ap some (omega arith)) in
        record { right_before = ap (λ y. y ∷ take i xs) (is_word_lem x w q) ∙ ap (λ l. pos w ∷ l) h.right_before; wrong_there = h.wrong_there }
    by false q o rest zero e =
        record { right_before = refl; wrong_there = λ r. absurd (let y : x ≡ pos w = cc in let z : ◌≡◌ {A = Bool} false true = sym q ∙ ap (λ z. is_word z w) y ∙ word_is w in let v : ◌≡◌ {A = ℕ} 0 1 = cc in omega arith) }
    by false q o rest (suc i) e = absurd (let z : ◌≡◌ {A = ℕ} 0 (suc i) = cc in omega arith)

pub at_wrong : (l : List ℤ) (ws : List ℕ) (i : ℕ) → WrongAt l ws i → first_wrong l ws ≡ some i
unfolding first_wrong next
at_wrong [] [] i h = absurd (h.wrong_there refl)
at_wrong [] (w ∷ ws) zero h = refl
at_wrong [] (w ∷ ws) (suc i) h = absurd (cons_nil (sym h.right_before))
at_wrong (x ∷ xs) [] zero h = refl
at_wrong (x ∷ xs) [] (suc i) h = absurd (cons_nil h.right_before)
at_wrong (x ∷ xs) (w ∷ ws) zero h = by (is_word x w) refl
  where
    by : (b : Bool) → is_word x w ≡ b → cond b (next (first_wrong xs ws)) (some 0) ≡ some 0
    by true q = absurd (h.wrong_there (ap some (is_word_lem x w q)))
    by false q = refl
at_wrong (x ∷ xs) (w ∷ ws) (suc i) h =
    let b = h.right_before in
    let e : x ≡ pos w = cc in
    let t : take i xs ≡ take i (map pos ws) = cc in
    ap (λ y. first_wrong (y ∷ xs) (w ∷ ws)) e ∙ goes_on w xs ws ∙ ap next (at_wrong xs ws i (record { right_before = t; wrong_there = h.wrong_there }))

-- it is in the list or at its end, and in the words or at theirs
pub inside : (l : List ℤ) (ws : List ℕ) (i : ℕ) → first_wrong l ws ≡ some i → (i ≤ length l) × (i ≤ length ws)
unfolding first_wrong next
inside [] [] i e = absurd (some_none (sym e))
inside [] (w ∷ ws) i e = let z : ◌≡◌ {A = ℕ} 0 i = cc in (omega arith, omega arith)
inside (x ∷ xs) [] i e = let z : ◌≡◌ {A = ℕ} 0 i = cc in (omega arith, omega arith)
inside (x ∷ xs) (w ∷ ws) i e = by (is_word x w) (first_wrong xs ws) (inside xs ws) e
  where
    by : (b : Bool) (o : Option ℕ) → ((j : ℕ) → o ≡ some j → (j ≤ length xs) × (j ≤ length ws)) → cond b (next o) (some 0) ≡ some i → (i ≤ suc (length xs)) × (i ≤ suc (length ws))
    by true none rest e = absurd (some_none (sym e))
    by true (some j) rest e =
        let z : suc j ≡ i = cc in
        let h = rest j refl in
        (omega arith, omega arith)
    by false o rest e = let z : ◌≡◌ {A = ℕ} 0 i = cc in (omega arith, omega arith)

-- one word changed; a list cut short; words behind its end
pub changed : (ws : List ℕ) (i : ℕ) (x : ℤ) → i < length ws → (x ≡ pos (get_or ws i 0) → ⊥) → first_wrong (set (map pos ws) i x) ws ≡ some i
unfolding first_wrong next
changed [] i x h d = absurd (omega arith)
changed (w ∷ ws) zero x h d = by (is_word x w) refl
  where
    by : (b : Bool) → is_word x w ≡ b → cond b (next (first_wrong (map pos ws) ws)) (some 0) ≡ some 0
    by true q = absurd (d (is_word_lem x w q))
    by false q = refl
changed (w ∷ ws) (suc i) x h d = goes_on w (set (map pos ws) i x) ws ∙ ap next (changed ws i x (omega arith) d)

pub cut : (ws : List ℕ) (i : ℕ) → i < length ws → first_wrong (take i (map pos ws)) ws ≡ some i
unfolding first_wrong next
cut [] i h = absurd (omega arith)
cut (w ∷ ws) zero h = refl
cut (w ∷ ws) (suc i) h = goes_on w (take i (map pos ws)) ws ∙ ap next (cut ws i (omega arith))

pub extra : (ws : List ℕ) (x : ℤ) (xs : List ℤ) → first_wrong (map pos ws ++ (x ∷ xs)) ws ≡ some (length ws)
unfolding first_wrong next
extra [] x xs = refl
extra (w ∷ ws) x xs = goes_on w (map pos ws ++ (x ∷ xs)) ws ∙ ap next (extra ws x xs)

-- ---- 2. one answer for each source and list, exactly these three

abbrev pub uses_in : ℕ → {source : List ℕ} → Accepts source → List ℕ
uses_in width {source} a = use_list width (place_in source) (its_program a.program)

-- the uses of a source are one list
pub one_list : (width : ℕ) {source : List ℕ} (a a₂ : Accepts source) → uses_in width a ≡ uses_in width a₂
one_list width {source} a a₂ = ap (use_list width (place_in source)) (one_program a.program a₂.program)

-- an accepted source is not refused
not_both : {source : List ℕ} {r : Refusal} → Judged source (Refuses r) cleared → Accepts source → ⊥
not_both j a =
    let e = (one_judgement j (judged-accepted a.program a.named a.typed)).0 in
    let z : ◌≡◌ {A = ℕ} 0 1 = cc in
    omega arith

one_refusal : {source : List ℕ} {r s : Refusal} → Judged source (Refuses r) cleared → Judged source (Refuses s) cleared → Refused r ≡ Refused s
one_refusal j k = let e = (one_judgement j k).0 in cc

module _ {width : ℕ} {source : List ℕ} {list : List ℤ} where
  pub one_answer : {c c₂ : Checked} → ChecksRows width source list c → ChecksRows width source list c₂ → c ≡ c₂
  one_answer (refused r j) (refused s k) = one_refusal j k
  one_answer (refused r j) (accepted p n t) = absurd (not_both j (record { program = p; named = n; typed = t }))
  one_answer (accepted p n t) (refused r j) = absurd (not_both j (record { program = p; named = n; typed = t }))
  one_answer (accepted p n t) (accepted p₂ n₂ t₂) = ap (λ s. answer_of (first_wrong list (use_list width (place_in source) s))) (one_program p p₂)

  -- of an accepted source it is the comparison's
  pub compares : (a : Accepts source) → ChecksRows width source list (answer_of (first_wrong list (uses_in width a)))
  compares a = accepted a.program a.named a.typed

  -- "yes exactly if the source is accepted and the list is its uses"
  pub yes_exactly : ChecksRows width source list Yes ↔ ((a : Accepts source) × (list ≡ map pos (uses_in width a)))
  yes_exactly = (λ c. go c refl, λ h. subst (ChecksRows width source list) (ap answer_of (ap (λ l. first_wrong l (uses_in width h.0)) h.1 ∙ right_list (uses_in width h.0))) (compares h.0))
    where
      none_is : (o : Option ℕ) → answer_of o ≡ Yes → o ≡ none
      none_is none e = refl
      none_is (some i) e = absurd (let z : ◌≡◌ {A = ℕ} 0 1 = cc in omega arith)

      go : {c : Checked} → ChecksRows width source list c → c ≡ Yes → (a : Accepts source) × (list ≡ map pos (uses_in width a))
      go (refused r j) e = absurd (let z : ◌≡◌ {A = ℕ} 0 1 = cc in omega arith)
      go (accepted p n t) e =
          let a : Accepts source = record { program = p; named = n; typed = t } in
          (a, list_right list (uses_in width a) (none_is (first_wrong list (uses_in width a)) e))

  -- "Otherwise .. the source's refusal"
  pub refused_exactly : (r : Refusal) → ChecksRows width source list (Refused r) ↔ Judged source (Refuses r) cleared
  refused_exactly r = (λ c. go c refl, refused r)
    where
      not_refused : (o : Option ℕ) → answer_of o ≡ Refused r → ⊥
      not_refused none e = let z : ◌≡◌ {A = ℕ} 0 1 = cc in omega arith
      not_refused (some i) e = let z : ◌≡◌ {A = ℕ} 0 1 = cc in omega arith

      go : {c : Checked} → ChecksRows width source list c → c ≡ Refused r → Judged source (Refuses r) cleared
      go (refused s j) e = let q : s ≡ r = cc in subst (λ x. Judged source (Refuses x) cleared) q j
      go (accepted p n t) e = absurd (not_refused (first_wrong list (use_list width (place_in source) (its_program p))) e)

  -- "or the index, from 0, of the first wrong word"
  pub wrong_exactly : (i : ℕ) → ChecksRows width source list (Wrong i) ↔ ((a : Accepts source) × WrongAt list (uses_in width a) i)
  wrong_exactly i = (λ c. go c refl, λ h. subst (ChecksRows width source list) (ap answer_of (at_wrong list (uses_in width h.0) i h.1)) (compares h.0))
    where
      some_is : (o : Option ℕ) → answer_of o ≡ Wrong i → o ≡ some i
      some_is none e = absurd (let z : ◌≡◌ {A = ℕ} 0 1 = cc in omega arith)
      some_is (some j) e = cc

      go : {c : Checked} → ChecksRows width source list c → c ≡ Wrong i → (a : Accepts source) × WrongAt list (uses_in width a) i
      go (refused r j) e = absurd (let z : ◌≡◌ {A = ℕ} 0 1 = cc in omega arith)
      go (accepted p n t) e =
          let a : Accepts source = record { program = p; named = n; typed = t } in
          (a, wrong_at list (uses_in width a) i (some_is (first_wrong list (uses_in width a)) e))

-- ---- 3. lists that pass

-- two that pass for one source are the same words
pub same_words : {width : ℕ} {source : List ℕ} {list list₂ : List ℤ} → ChecksRows width source list Yes → ChecksRows width source list₂ Yes → list ≡ list₂
same_words {width} c c₂ =
    let h = yes_exactly.0 c in
    let k = yes_exactly.0 c₂ in
    h.1 ∙ ap (map pos) (one_list width h.0 k.0) ∙ sym k.1

module _ {width : ℕ} {source : List ℕ} {list : List ℤ} (passes : ChecksRows width source list Yes) where
  abbrev a : Accepts source
  a = (yes_exactly.0 passes).0

  abbrev is : list ≡ map pos (uses_in width a)
  is = (yes_exactly.0 passes).1

  long : length list ≡ length (uses_in width a)
  long = ap length is ∙ length-map (uses_in width a) pos

  said : (l : List ℤ) (i : ℕ) → first_wrong l (uses_in width a) ≡ some i → ChecksRows width source l (Wrong i)
  said l i e = subst (ChecksRows width source l) (ap answer_of e) (compares a)

  -- "a list that differs in one word is wrong at that word"
  pub one_word : (i : ℕ) (x : ℤ) → i < length list → (x ≡ get_or list i (pos 0) → ⊥) → ChecksRows width source (set list i x) (Wrong i)
  one_word i x h d =
      let g : get_or list i (pos 0) ≡ pos (get_or (uses_in width a) i 0) = ap (λ l. get_or l i (pos 0)) is ∙ get_or-map pos (uses_in width a) i 0 in
      said (set list i x) i (ap (λ l. first_wrong (set l i x) (uses_in width a)) is ∙ changed (uses_in width a) i x (omega (arith, long)) (λ e. d (e ∙ sym g)))

  -- "a short list is wrong at its end"
  pub short_list : (i : ℕ) → i < length list → ChecksRows width source (take i list) (Wrong i)
  short_list i h = said (take i list) i (ap (λ l. first_wrong (take i l) (uses_in width a)) is ∙ cut (uses_in width a) i (omega (arith, long)))

  -- "and an overlong one at its first extra word"
  pub long_list : (x : ℤ) (xs : List ℤ) → ChecksRows width source (list ++ (x ∷ xs)) (Wrong (length list))
  long_list x xs =
      said (list ++ (x ∷ xs)) (length list) (ap (λ l. first_wrong (l ++ (x ∷ xs)) (uses_in width a)) is ∙ extra (uses_in width a) x xs ∙ ap some (sym long))

-- ---- 4. the list that `read` leaves

all_words : (place : ℕ → ℕ) (l : List Row) → joined (λ r. take three (use_words place r)) l ≡ joined (use_words place) l
unfolding joined use_words
all_words place [] = refl
all_words place (r ∷ l) = ap (λ ws. use_words place r ++ ws) (all_words place l)

-- in the use section's form: 1 + 3 n words
pub section_words_lem : (place : ℕ → ℕ) (s : Statement) → use_list three place s ≡ length (use_rows s) ∷ joined (use_words place) (use_rows s)
unfolding use_list
section_words_lem place s = ap (λ ws. length (use_rows s) ∷ ws) (all_words place (use_rows s))

pub section_length : (place : ℕ → ℕ) (s : Statement) → length (use_list three place s) ≡ 1 + 3 * length (use_rows s)
section_length place s = ap length (section_words_lem place s) ∙ omega (arith, three_words_lem place (use_rows s))

-- so an index is at most 1 + 3 n
pub index_bound : {source : List ℕ} {list : List ℤ} {i : ℕ} → Checks source list (Wrong i) → (a : Accepts source) → i ≤ 1 + 3 * length (use_rows (its_program a.program))
index_bound {source} {list} {i} c a =
    let h = (wrong_exactly i).0 c in
    let e = (inside list (uses_in three h.0) i (at_wrong list (uses_in three h.0) i h.1)).1 in
    omega (arith, ap length (one_list three h.0 a), section_length (place_in source) (its_program a.program))

-- "An honest list must always pass": the count that `read` leaves, and its rows
pub honest : {source table new : List ℕ} → Reads source table Accepted new → Checks source (map pos (take (1 + 3 * get_or new 0 0) new)) Yes
honest {source} {table} {new} r =
    let a = read_accepts r refl in
    let s = its_program a.program in
    let b = begins r refl a in
    let u : List ℕ = length (use_rows s) ∷ joined (use_words (place_in source)) (use_rows s) in
    let n : get_or new 0 0 ≡ length (use_rows s) = ap (λ t. get_or t 0 0) b.1 in
    let l : length u ≡ 1 + 3 * get_or new 0 0 = omega (arith, n, three_words_lem (place_in source) (use_rows s)) in
    let t : take (1 + 3 * get_or new 0 0) new ≡ u = ap (take (1 + 3 * get_or new 0 0)) b.1 ∙ take_at u b.0 (1 + 3 * get_or new 0 0) l in
    yes_exactly.1 (a, ap (map pos) (t ∙ sym (section_words_lem (place_in source) s)))

-- and that is so of every accepted source, whatever the table held that was lent
pub always_honest : {source table new : List ℕ} {v : Verdict} → Accepts source → table_words ≤ length table → Reads source table v new
    → Checks source (map pos (take (1 + 3 * get_or new 0 0) new)) Yes
always_honest {source} {table} {new} a l r =
    honest (subst (λ v. Reads source table v new) (only r (enough l Accepted _ (judged-accepted a.program a.named a.typed))).0 r)
