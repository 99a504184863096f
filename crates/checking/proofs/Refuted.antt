-- S1, `'begin' 'integer' a; a := 1 'end'`, whose uses are 1, 21, 1, 18: what is answered to lists for it, computed, and checkers that this rules out.
use Prim.Native.Nat.{ℕ}
use mathlib.Core.Path.{◌≡◌, refl, sym, subst, ◌∙◌}
use mathlib.Core.List.{List, [], ◌∷◌, ◌++◌, map}
use native.Mathlib.Omega.{arith}
use lib.IntN.{ℤ, pos, negsuc}
use lib.ListN.{drop, replicate, length-replicate}
use Rattle.answers.specs.declared.Verdict.TheVariants.{Accepted}
use Rattle.symbols.specs.Text.{bytes}
use Rattle.reading.specs.Judging.{its_program}
use Rattle.reading.specs.Reading.{place_in, table_words, Reads, enough}
use Rattle.reading.proofs.Examples.{s1}
use Rattle.checking.specs.Checking.{three, use_list, is_word, next, first_wrong, answer_of, Checks}
use Rattle.checking.specs.model.Comparing.{narrow, section}
use Rattle.checking.specs.declared.Checked.{Checked}
use Rattle.checking.specs.declared.Checked.TheVariants.{Yes, Wrong}
use Rattle.checking.proofs.FromTables.{Accepts, read_accepts, table_section}
use Rattle.checking.proofs.Promises.{one_answer, compares}

abbrev pub S1 : List ℕ
S1 = bytes "'begin' 'integer' a; a := 1 'end'"

abbrev pub uses : List ℕ
uses = 1 ∷ 21 ∷ 1 ∷ 18 ∷ []

-- what `read` leaves of it, over zeros
abbrev reads : (new : List ℕ) × Reads S1 (replicate table_words 0) Accepted new
reads = (_, enough (omega (arith, length-replicate {A = ℕ} table_words 0)) Accepted _ s1)

abbrev taken : Accepts S1
taken = read_accepts reads.1 refl

words : use_list three (place_in S1) (its_program taken.program) ≡ uses
unfolding section narrow
words = sym (table_section reads.1 refl three taken)

pub answered : {list : List ℤ} {c : Checked} → Checks S1 list c → c ≡ answer_of (first_wrong list uses)
answered {list} k = one_answer k (subst (λ ws. Checks S1 list (answer_of (first_wrong list ws))) words (compares taken))

-- and so is answered
pub answers : (list : List ℤ) → Checks S1 list (answer_of (first_wrong list uses))
answers list = subst (λ ws. Checks S1 list (answer_of (first_wrong list ws))) words (compares taken)

-- ---- lists for S1

-- the list, and what is said of it
pub record Said : Type 0 where
  pub list : List ℤ
  pub answer : Checked

abbrev sent : List ℕ → Checked → Said
sent l c = record { list = map pos l; answer = c }

abbrev pub samples : List Said
samples =
    sent (1 ∷ 21 ∷ 1 ∷ 18 ∷ []) Yes
    ∷ sent (1 ∷ 21 ∷ 1 ∷ 19 ∷ []) (Wrong 3)
    ∷ sent [] (Wrong 0)
    ∷ sent (1 ∷ 21 ∷ 1 ∷ []) (Wrong 3)
    ∷ sent (1 ∷ 21 ∷ 1 ∷ 18 ∷ 0 ∷ []) (Wrong 4)
    ∷ sent (2 ∷ 21 ∷ 1 ∷ 18 ∷ []) (Wrong 0)
    ∷ sent (21 ∷ 1 ∷ 18 ∷ []) (Wrong 0)
    ∷ sent (1 ∷ 65557 ∷ 1 ∷ 18 ∷ []) (Wrong 1)
    ∷ record { list = pos 1 ∷ negsuc 65514 ∷ pos 1 ∷ pos 18 ∷ []; answer = Wrong 1 }
    ∷ []

-- each is answered so
pub data AllSaid : List Said → Type 0 where
  all : AllSaid []
  one : {s : Said} {l : List Said} → Checks S1 s.list s.answer → AllSaid l → AllSaid (s ∷ l)

row : (s : Said) → answer_of (first_wrong s.list uses) ≡ s.answer → Checks S1 s.list s.answer
row s e = subst (Checks S1 s.list) e (answers s.list)

pub holds : AllSaid samples
unfolding first_wrong next is_word
holds =
    one (row _ refl) (one (row _ refl) (one (row _ refl) (one (row _ refl) (one (row _ refl) (one (row _ refl) (one (row _ refl) (one (row _ refl) (one (row _ refl) all))))))))

-- ---- checkers that are refuted

-- a checker, for every source and list
abbrev pub Meets : (List ℕ → List ℤ → Checked) → Type 0
Meets check = (source : List ℕ) (list : List ℤ) → Checks source list (check source list)

wrong_yes : {i : ℕ} → Wrong i ≡ Yes → ⊥
wrong_yes e = let z : ◌≡◌ {A = ℕ} 0 1 = cc in omega arith

-- one that says yes to everything
pub yes_to_all : (check : List ℕ → List ℤ → Checked) → Meets check → ((source : List ℕ) (list : List ℤ) → check source list ≡ Yes) → ⊥
unfolding first_wrong
yes_to_all check meets all_yes = wrong_yes {i = 0} (sym (answered (meets S1 [])) ∙ all_yes S1 [])

-- the kinds in a list: the middle word of each row behind the count
unfoldable pub middles : List ℤ → List ℤ
middles [] = []
middles (p ∷ []) = []
middles (p ∷ k ∷ []) = k ∷ []
middles (p ∷ k ∷ d ∷ l) = k ∷ middles l

abbrev pub kinds : List ℤ → List ℤ
kinds l = middles (drop 1 l)

-- one that compares kinds alone
pub kinds_alone : (check : List ℕ → List ℤ → Checked) → Meets check
    → ((source : List ℕ) (list list₂ : List ℤ) → kinds list ≡ kinds list₂ → check source list ≡ check source list₂) → ⊥
unfolding first_wrong next is_word middles
kinds_alone check meets alike =
    let other : List ℤ = pos 1 ∷ pos 21 ∷ pos 1 ∷ pos 19 ∷ [] in
    wrong_yes {i = 3} (sym (answered (meets S1 other)) ∙ alike S1 other (map pos uses) refl ∙ answered (meets S1 (map pos uses)))

-- one that stops at the list's end: what passes, passes cut short
pub stops_early : (check : List ℕ → List ℤ → Checked) → Meets check
    → ((source : List ℕ) (list rest : List ℤ) → check source (list ++ rest) ≡ Yes → check source list ≡ Yes) → ⊥
unfolding first_wrong next is_word
stops_early check meets cut =
    let part : List ℤ = pos 1 ∷ pos 21 ∷ pos 1 ∷ [] in
    wrong_yes {i = 3} (sym (answered (meets S1 part)) ∙ cut S1 part (pos 18 ∷ []) (answered (meets S1 (map pos uses))))
