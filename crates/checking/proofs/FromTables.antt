-- What `read` leaves of an accepted source begins with the list of its uses: so the list is compared with the table's first words. A refusal is `read`'s.
use Prim.Native.Nat.{ℕ, ◌+◌, ◌*◌, ◌≤◌, min}
use mathlib.Core.Path.{◌≡◌, refl, sym, ap, subst, ◌∙◌}
use mathlib.Core.Bool.{Bool, true, false}
use mathlib.Core.List.{List, [], ◌∷◌, ◌++◌, append_assoc}
use mathlib.Core.Option.{none}
use native.Mathlib.Omega.{arith}
use lib.Dec.{leb}
use lib.IntN.{ℤ}
use lib.ListN.{length, get_or, take, drop, length-append}
use lib.Seq.{take_all, take-append-le, drop_at}
use borrow.Author.Tests.{leb-true, leb-false}
use Rattle.answers.specs.Answers.{number_of}
use Rattle.answers.specs.declared.Refusal.{Refusal}
use Rattle.answers.specs.declared.Verdict.{Verdict}
use Rattle.answers.specs.declared.Verdict.TheVariants.{Accepted, Refused as Refuses}
use Rattle.names.specs.Program.{Statement}
use Rattle.names.specs.Uses.{Row, name_faults, least, joined, use_rows}
use Rattle.types.specs.Types.{type_fault}
use Rattle.table.specs.Table.{use_words}
use Rattle.table.proofs.Fits.{three_words_lem}
use Rattle.reading.specs.Judging.{its_program, too_long, unreadable, ungrammatical, too_deep, misnamed, mistyped, accepted}
use Rattle.reading.specs.Reading.{place_in, table_words, cleared, Grammatical, Judged, Reads, too_short, enough}
use Rattle.reading.proofs.Promises.{rows_first}
use Rattle.checking.specs.Checking.{three, use_list, first_wrong, answer_of, ChecksRows, accepted as judged-list}
use Rattle.checking.specs.model.Comparing.{narrow, section}
use Rattle.checking.specs.declared.Checked.{Checked}

-- ---- the two answers of `read` to a table that is long enough

-- a refusal is the source's
refuses : {source words : List ℕ} {v : Verdict} (r : Refusal) → Judged source v words → v ≡ Refuses r → Judged source (Refuses r) cleared
refuses {source} r (too_long h) e = subst (λ v. Judged source v cleared) e (too_long h)
refuses {source} r (unreadable h q k) e = subst (λ v. Judged source v cleared) e (unreadable h q k)
refuses {source} r (ungrammatical s k w) e = subst (λ v. Judged source v cleared) e (ungrammatical s k w)
refuses {source} r (too_deep s k d) e = subst (λ v. Judged source v cleared) e (too_deep s k d)
refuses {source} r (misnamed p f q) e = subst (λ v. Judged source v cleared) e (misnamed p f q)
refuses {source} r (mistyped p f q t) e = subst (λ v. Judged source v cleared) e (mistyped p f q t)
refuses {source} r (accepted p q t) e = absurd (let z : ◌≡◌ {A = ℕ} 0 1 = cc in omega arith)

pub read_refuses : {source table new : List ℕ} {v : Verdict} (r : Refusal) → table_words ≤ length table → Reads source table v new → v ≡ Refuses r → Judged source (Refuses r) cleared
read_refuses r l (too_short h) e = absurd (omega arith)
read_refuses r l (enough h v w j) e = refuses r j e

-- an accepted source has its program
pub record Accepts (source : List ℕ) : Type 0 where
  pub program : Grammatical source
  pub named : least (name_faults (its_program program)) ≡ none
  pub typed : type_fault (its_program program) ≡ none

accepts : {source words : List ℕ} {v : Verdict} → Judged source v words → v ≡ Accepted → Accepts source
accepts (too_long h) e = absurd (let z : ◌≡◌ {A = ℕ} 0 1 = cc in omega arith)
accepts (unreadable h q k) e = absurd (let z : ◌≡◌ {A = ℕ} 0 1 = cc in omega arith)
accepts (ungrammatical s k w) e = absurd (let z : ◌≡◌ {A = ℕ} 0 1 = cc in omega arith)
accepts (too_deep s k d) e = absurd (let z : ◌≡◌ {A = ℕ} 0 1 = cc in omega arith)
accepts (misnamed p f q) e = absurd (let z : ◌≡◌ {A = ℕ} 0 1 = cc in omega arith)
accepts (mistyped p f q t) e = absurd (let z : ◌≡◌ {A = ℕ} 0 1 = cc in omega arith)
accepts (accepted p q t) e = record { program = p; named = q; typed = t }

pub read_accepts : {source table new : List ℕ} {v : Verdict} → Reads source table v new → v ≡ Accepted → Accepts source
read_accepts (too_short h) e = absurd (let z : ◌≡◌ {A = ℕ} 0 1 = cc in omega arith)
read_accepts (enough h v w j) e = accepts j e

-- ---- rows of one width, one behind the other

module _ {A : Type 0} (f : A → List ℕ) (wide width : ℕ) (each : (a : A) → length (f a) ≡ wide) where
  -- of each row its first words
  narrowed : width ≤ wide → (l : List A) (rest : List ℕ) → narrow width wide (length l) (joined f l ++ rest) ≡ joined (λ a. take width (f a)) l
  unfolding narrow joined
  narrowed h [] rest = refl
  narrowed h (a ∷ l) rest =
      let s : joined f (a ∷ l) ++ rest ≡ f a ++ (joined f l ++ rest) = append_assoc (f a) (joined f l) rest in
      let k : width ≤ length (f a) = omega (arith, each a) in
      ap (λ ws. take width ws ++ narrow width wide (length l) (drop wide ws)) s
      ∙ ap (λ ws. ws ++ narrow width wide (length l) (drop wide (f a ++ (joined f l ++ rest)))) (take-append-le width (f a) (joined f l ++ rest) k)
      ∙ ap (λ ws. take width (f a) ++ narrow width wide (length l) ws) (drop_at (f a) (joined f l ++ rest) wide (each a))
      ∙ ap (λ ws. take width (f a) ++ ws) (narrowed h l rest)

no_more : (n m : ℕ) (l : List ℕ) → length l ≤ m → take (min n m) l ≡ take n l
no_more n m l h = by (leb n m) refl
  where
    by : (b : Bool) → leb n m ≡ b → take (min n m) l ≡ take n l
    by true e =
        let k : min n m ≡ n = omega (arith, leb-true n m e) in
        ap (λ i. take i l) k
    by false e = take_all (min n m) l (omega (arith, leb-false n m e)) ∙ sym (take_all n l (omega (arith, leb-false n m e)))

module _ (place : ℕ → ℕ) where
  use_long : (r : Row) → length (use_words place r) ≡ three
  unfolding use_words
  use_long r = refl

  -- a row has no more than its words
  at_most : (width : ℕ) (l : List Row) → joined (λ r. take (min width three) (use_words place r)) l ≡ joined (λ r. take width (use_words place r)) l
  unfolding joined
  at_most width [] = refl
  at_most width (r ∷ l) =
      ap (λ ws. ws ++ joined (λ r. take (min width three) (use_words place r)) l) (no_more width three (use_words place r) (omega (arith, use_long r)))
      ∙ ap (λ ws. take width (use_words place r) ++ ws) (at_most width l)

  -- the first words of a table
  pub section_is : (width : ℕ) (s : Statement) (rest : List ℕ)
      → section (min width three) three ((length (use_rows s) ∷ joined (use_words place) (use_rows s)) ++ rest) ≡ use_list width place s
  unfolding section use_list
  section_is width s rest =
      ap (λ ws. length (use_rows s) ∷ ws) (narrowed (use_words place) three (min width three) use_long (omega arith) (use_rows s) rest ∙ at_most width (use_rows s))

  pub section_long : (s : Statement) (rest : List ℕ)
      → 1 + get_or ((length (use_rows s) ∷ joined (use_words place) (use_rows s)) ++ rest) 0 0 * three ≤ length ((length (use_rows s) ∷ joined (use_words place) (use_rows s)) ++ rest)
  section_long s rest = omega (arith, length-append (joined (use_words place) (use_rows s)) rest, three_words_lem place (use_rows s))

-- ---- of what `read` leaves

module _ {source table new : List ℕ} {v : Verdict} (r : Reads source table v new) (e : v ≡ Accepted) where
  -- the program of the source, and the list of its uses in front
  pub begins : (a : Accepts source) → (rest : List ℕ) × (new ≡ (length (use_rows (its_program a.program)) ∷ joined (use_words (place_in source)) (use_rows (its_program a.program))) ++ rest)
  begins a = rows_first r (ap number_of e) a.program

  pub table_long : 1 + get_or new 0 0 * three ≤ length new
  table_long =
      let b = begins (read_accepts r e) in
      subst (λ (t : List ℕ). 1 + get_or t 0 0 * three ≤ length t) (sym b.1) (section_long (place_in source) (its_program (read_accepts r e).program) b.0)

  pub table_section : (width : ℕ) (a : Accepts source) → section (min width three) three new ≡ use_list width (place_in source) (its_program a.program)
  table_section width a =
      let b = begins a in
      ap (section (min width three) three) b.1 ∙ section_is (place_in source) width (its_program a.program) b.0

  -- so the answer to the list is that of the comparison
  pub answers : (width : ℕ) (list : List ℤ) {c : Checked} → c ≡ answer_of (first_wrong list (section (min width three) three new)) → ChecksRows width source list c
  answers width list q =
      let a = read_accepts r e in
      subst (ChecksRows width source list) (sym (q ∙ ap (λ (ws : List ℕ). answer_of (first_wrong list ws)) (table_section width a))) (judged-list a.program a.named a.typed)
