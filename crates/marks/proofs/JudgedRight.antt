-- What the model answers to a text for any judge, where its fuel reaches, is what that judge says of it (`judged_right`): each stage of the model with the paper's
-- definition of that stage. The parser's answer is the relation's (Parses), and what the relation says of a list of symbols is in proofs/Final of crate `grammar`.
use Prim.Native.Nat.{ℕ, ◌-◌, ◌<◌}
use mathlib.Core.Path.{◌≡◌, refl, ap, subst, ◌∙◌}
use mathlib.Core.Bool.{Bool, true, false}
use mathlib.Core.List.{List, [], ◌∷◌}
use mathlib.Core.Option.{Option, none, some}
use native.Mathlib.Omega.{arith}
use native.Mathlib.Decide.{ℕ_discrete}
use lib.Dec.{eqb, leb}
use lib.ListN.{length}
use borrow.Author.Tests.{eqb-true, eqb-false, leb-true, leb-false}
use Rattle.answers.specs.Answers.{refusal}
use Rattle.answers.specs.declared.Refusal.{Refusal}
use Rattle.answers.specs.declared.Verdict.{Verdict}
use Rattle.answers.specs.declared.Verdict.TheVariants.{Accepted, Refused}
use Rattle.symbols.specs.Scan.{scan}
use Rattle.grammar.specs.Program.{greatest}
use Rattle.grammar.specs.Trees.{Syn}
use Rattle.grammar.specs.model.Parsing.{zeros}
use Rattle.grammar.specs.model.Text.{kind_at}
use Rattle.grammar.specs.model.Run.{Res, got, bad, Run}
use Rattle.grammar.proofs.Final.{Start, got_all_in, got_over_in, j_within_in, bad_wrong_in, bad_deep_in, bad_number_in}
use Rattle.names.specs.Uses.{Fault}
use Rattle.reading.specs.Judging.{kinds_in, filled}
use Rattle.reading.specs.Judges.{Judge, ScannedBy, GrammaticalBy, JudgedBy, too_long, unreadable, ungrammatical, too_deep, misnamed, mistyped, accepted as judged-accepted}
use Rattle.marks.specs.model.Parsing.{parse}
use Rattle.marks.specs.model.Judging.{Came, refused, accepted, by_types, by_names, by_end, by_tree, by_symbols, by_length, judged_of, leaves, worded}
use Rattle.marks.proofs.Parses.{Right, runs}

-- a text whose tree is t, without a fault
pub record Clean (j : Judge) (text : List ℕ) (t : Syn j.start) : Type 0 where
  pub read : GrammaticalBy j text
  pub same : read.tree ≡ t
  pub named : j.name_fault text read.tree ≡ none
  pub typed : j.type_fault text read.tree ≡ none

module _ (j : Judge) (ok : Start j.start) (text : List ℕ) where
  -- what an answer says; one that was not reached says nothing
  abbrev pub Said : Came j.start → Type 0
  Said (refused r) = JudgedBy j text (Refused r) (zeros j.room)
  Said (accepted t) = Clean j text t

  abbrev pub Told : Option (Came j.start) → Type 0
  Told none = Unit {0}
  Told (some c) = Said c

  -- ---- 7 to 10

  by_types_lem : (p : GrammaticalBy j text) → j.name_fault text p.tree ≡ none → (o : Option Fault) → j.type_fault text p.tree ≡ o → Said (by_types j text p.tree o)
  by_types_lem p n none e = record { read = p; same = refl; named = n; typed = e }
  by_types_lem p n (some f) e = mistyped p f n e

  by_names_lem : (p : GrammaticalBy j text) (o : Option Fault) → j.name_fault text p.tree ≡ o → Said (by_names j text p.tree o)
  by_names_lem p none e = by_types_lem p e (j.type_fault text p.tree) refl
  by_names_lem p (some f) e = misnamed p f e

  -- ---- 5 and 6

  module _ (s : ScannedBy j text) where
    abbrev ks : List ℕ
    ks = kinds_in j.symbols text

    by_end_lem : (t : Syn j.start) (i : ℕ) → Run (kind_at ks) (greatest - j.own) (33 ∷ []) j.start 0 (got t i) → (b : Bool) → eqb i (length ks) ≡ b → Said (by_end j text t i b)
    by_end_lem t i v true e =
        let p : GrammaticalBy j text = record { scanned = s; tree = t; keeps = got_all_in j.start j.own ok ks t i v (eqb-true i (length ks) e) } in
        by_names_lem p (j.name_fault text p.tree) refl
    by_end_lem t i v false e =
        let h = eqb-false i (length ks) e in
        let l : i < length ks = omega (arith, j_within_in j.start j.own ok ks t i v) in
        ungrammatical s i (got_over_in j.start j.own ok ks t i v l)

    by_refusal : (n k : ℕ) → Run (kind_at ks) (greatest - j.own) (33 ∷ []) j.start 0 (bad n k) → Said (refused (refusal n (j.place text k)))
    by_refusal n k v = go (ℕ_discrete n 5)
      where
        go : Dec (n ≡ 5) → Said (refused (refusal n (j.place text k)))
        go (yes q) = rw q (ungrammatical s k (bad_wrong_in j.start j.own ok ks n k v q))
        go (no h) =
            let q : n ≡ 6 = bad_number_in j.start j.own ok ks n k v h in
            rw q (too_deep s k (bad_deep_in j.start j.own ok ks n k v q))

    by_tree_lem : (o : Option (Res (Syn j.start))) → Right (kind_at ks) (greatest - j.own) (33 ∷ []) j.start 0 o → Told (by_tree j text o)
    by_tree_lem none h = tt
    by_tree_lem (some (got t i)) h = by_end_lem t i h (eqb i (length ks)) refl
    by_tree_lem (some (bad n k)) h = by_refusal n k h

  -- ---- 2 to 4

  by_symbols_lem : (fuel : ℕ) → leb (length text) 16384 ≡ true → (o : Option Refusal) → (scan j.symbols text).refused ≡ o → Told (by_symbols j text fuel o)
  by_symbols_lem fuel l none e =
      by_tree_lem (record { short = leb-true (length text) 16384 l; whole = e }) (parse (kind_at (kinds_in j.symbols text)) fuel (greatest - j.own) (33 ∷ []) j.start 0)
      (runs (kind_at (kinds_in j.symbols text)) fuel (greatest - j.own) (33 ∷ []) j.start 0)
  by_symbols_lem fuel l (some r) e = unreadable (leb-true (length text) 16384 l) r e

  by_length_lem : (fuel : ℕ) (b : Bool) → leb (length text) 16384 ≡ b → Told (by_length j text fuel b)
  by_length_lem fuel true e = by_symbols_lem fuel e (scan j.symbols text).refused refl
  by_length_lem fuel false e = too_long (leb-false (length text) 16384 e)

  pub judged_right : (fuel : ℕ) → Told (judged_of j text fuel)
  unfolding judged_of
  judged_right fuel = by_length_lem fuel (leb (length text) 16384) refl

-- ---- with the words
pub worded_right : (j : Judge) (ok : Start j.start) (text : List ℕ) {v : Verdict} {w : List ℕ} (o : Option (Came j.start)) → Told j ok text o → worded j text o ≡ leaves v w → JudgedBy j text v (filled j.room w)
worded_right j ok text none h e = absurd (let z : ◌≡◌ {A = ℕ} 0 1 = cc in omega arith)
worded_right j ok text {v} {w} (some (refused r)) h e =
    let a : Refused r ≡ v = cc in
    let b : [] ≡ w = cc in
    let z : j.room ≡ j.room - 0 = omega arith in
    subst (λ (x : Verdict). JudgedBy j text x (filled j.room w)) a
    (subst (λ (x : List ℕ). JudgedBy j text (Refused r) (filled j.room x)) b (subst (λ (n : ℕ). JudgedBy j text (Refused r) (zeros n)) z h))
worded_right j ok text {v} {w} (some (accepted t)) h e =
    let a : Accepted ≡ v = cc in
    let b : j.words text t ≡ w = cc in
    subst (λ (x : Verdict). JudgedBy j text x (filled j.room w)) a
    (subst (λ (x : List ℕ). JudgedBy j text Accepted (filled j.room x)) (ap (j.words text) h.same ∙ b) (judged-accepted h.read h.named h.typed))
