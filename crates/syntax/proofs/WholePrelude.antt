-- From the reader of preludes to the verdict on all symbols, and the lent words afterwards.
use mathlib.Core.Path.{◌≡◌, refl, sym, ap, ◌∙◌, subst}
use mathlib.Core.List.{List, [], ◌∷◌, ◌++◌}
use Prim.Native.Nat.{ℕ, ◌-◌}
use native.Mathlib.Omega.{arith}
use native.Mathlib.Decide.{ℕ_discrete}
use lib.ListN.{length, take}
use Rattle.answers.specs.Answers.{answer}
use Rattle.answers.specs.declared.Answer.{Answer}
use Rattle.grammar.specs.Grammar.{preludes}
use Rattle.grammar.specs.Program.{Finding, accepted, wrong_at, deep_at, FindsIn, PreludeFault, PreludeDeep}
use Rattle.grammar.specs.model.Marked.{unmarked, prelude_nodes}
use Rattle.grammar.specs.model.Parsing.{zeros, node_words_lem, Parsed, read_to, fault_at}
use Rattle.grammar.specs.model.Text.{kind_at}
use Rattle.grammar.specs.model.Run.{Run, bad}
use Rattle.grammar.proofs.Outcomes.{read_fault, same_next, same_used, same_answer, same_at}
use Rattle.grammar.proofs.Final.{bad_wrong_in, bad_deep_in, bad_number_in, got_all_in, got_over_in}
use Rattle.grammar.proofs.Preludes.{a_prelude, one_prelude}
use Rattle.syntax.specs.model.Says.{left, Clear, Got, Says, Settles, Refuses}
use Rattle.syntax.proofs.Lemmas.{got_of}
use Rattle.std.specs.Prelude.{Ok, Err}
use Rattle.std.specs.Result.{MatchResult}
use Rattle.syntax.specs.model.Preludes.{WholePrelude, PreludeSays}
use Rattle.syntax.proofs.Whole.{cleared}

five_six : answer 5 ≡ answer 6 → ⊥
five_six q = let z : ◌≡◌ {A = ℕ} 5 6 = ap (λ (a : Answer). a.number) q in omega arith

accepted_wrong : {k : ℕ} → accepted ≡ wrong_at k → ⊥
accepted_wrong q = let z : ◌≡◌ {A = ℕ} 0 1 = cc in omega arith

accepted_deep : {k : ℕ} → accepted ≡ deep_at k → ⊥
accepted_deep q = let z : ◌≡◌ {A = ℕ} 0 1 = cc in omega arith

wrong_deep : {j k : ℕ} → wrong_at j ≡ deep_at k → ⊥
wrong_deep q = let z : ◌≡◌ {A = ℕ} 0 1 = cc in omega arith

wrong_place : {j k : ℕ} → wrong_at j ≡ wrong_at k → j ≡ k
wrong_place q = cc

deep_place : {j k : ℕ} → deep_at j ≡ deep_at k → j ≡ k
deep_place q = cc

module _ (ks : List ℕ) where
  -- symbols are found to be one thing
  one : (x y : Finding) → FindsIn preludes 0 ks x → FindsIn preludes 0 ks y → x ≡ y
  one x y p q = let o = one_prelude ks in o.2 x p ∙ sym (o.2 y q)

  module _ {new : List ℕ} where
    v_read : {j b : ℕ} → WholePrelude ks new j b → PreludeSays ks new (read_to j b)
    v_read {j} {b} w =
        let a : FindsIn preludes 0 ks accepted = record { tree = w.tree; keeps = w.keeps } in
        record {
          accepted = λ i c q. let x : j ≡ i = same_next q in let y : b ≡ c = same_used q in rw (x, y) at w;
          accepts = λ x. (j, b, refl);
          wrong = λ k q. absurd (read_fault q);
          wrongs = λ k z. absurd (accepted_wrong (one accepted (wrong_at k) a z));
          deep = λ k q. absurd (read_fault q);
          deeps = λ k h. absurd (accepted_deep (one accepted (deep_at k) a h));
          numbers = λ n k q h. absurd (read_fault q);
          cleared = λ n k q. absurd (read_fault q);
        }

    v_wrong : {k : ℕ} → new ≡ zeros node_words_lem → PreludeFault ks k → PreludeSays ks new (fault_at (answer 5) k)
    v_wrong {k} z w = record {
      accepted = λ i b q. absurd (read_fault (sym q));
      accepts = λ a. absurd (accepted_wrong (one accepted (wrong_at k) a w));
      wrong = λ k₂ q. subst (λ (x : ℕ). PreludeFault ks x) (same_at q) w;
      wrongs = λ k₂ u. ap (fault_at (answer 5)) (wrong_place (one (wrong_at k) (wrong_at k₂) w u));
      deep = λ k₂ q. absurd (five_six (same_answer q));
      deeps = λ k₂ h. absurd (wrong_deep (one (wrong_at k) (deep_at k₂) w h));
      numbers = λ n k₂ q h. absurd (h (sym (same_answer q)));
      cleared = λ n k₂ q. z;
    }

    v_deep : {k : ℕ} → new ≡ zeros node_words_lem → PreludeDeep ks k → PreludeSays ks new (fault_at (answer 6) k)
    v_deep {k} z h = record {
      accepted = λ i b q. absurd (read_fault (sym q));
      accepts = λ a. absurd (accepted_deep (one accepted (deep_at k) a h));
      wrong = λ k₂ q. absurd (five_six (sym (same_answer q)));
      wrongs = λ k₂ w. absurd (wrong_deep (one (wrong_at k₂) (deep_at k) w h));
      deep = λ k₂ q. subst (λ (x : ℕ). PreludeDeep ks x) (same_at q) h;
      deeps = λ k₂ u. ap (fault_at (answer 6)) (deep_place (one (deep_at k) (deep_at k₂) h u));
      numbers = λ n k₂ q y. sym (same_answer q);
      cleared = λ n k₂ q. z;
    }

module _ {ks old mid new : List ℕ} {j b : ℕ} (g : Got ks old mid 0 0 (33 ∷ []) (unmarked preludes) 0 0 j b) (size : length mid ≡ node_words_lem) where
  pub all_read : j ≡ length ks → Clear mid new b → PreludeSays ks new (read_to j b)
  unfolding prelude_nodes
  all_read l w =
      let t = g.tree in
      let n : b ≡ length (prelude_nodes t) = omega (arith, g.num) in
      let q : take b mid ≡ prelude_nodes t = g.wrote in
      v_read ks (record { tree = t; keeps = got_all_in preludes 0 a_prelude ks t j g.run l; all = l; words = n; wrote = w.words ∙ ap (λ (x : List ℕ). x ++ zeros (length mid - b)) q ∙ ap (λ (n : ℕ). prelude_nodes t ++ zeros (n - b)) size })

  pub more_left : (j ≡ length ks → ⊥) → Clear mid new 0 → PreludeSays ks new (fault_at (answer 5) j)
  more_left l w = v_wrong ks (cleared w size) (got_over_in preludes 0 a_prelude ks g.tree j g.run (omega (arith, g.within)))

pub refused : {ks mid new : List ℕ} {a : Answer} {k : ℕ} → Clear mid new 0 → length mid ≡ node_words_lem → Run (kind_at ks) (left 0) (33 ∷ []) preludes 0 (bad a.number k) → PreludeSays ks new (fault_at a k)
refused {ks} {new = new} {a = a} {k = k} w size v =
    let y = cleared w size in
    elim (ℕ_discrete a.number 5) [
      | yes h ↦ subst (λ (x : ℕ). PreludeSays ks new (fault_at (answer x) k)) (sym h) (v_wrong ks y (bad_wrong_in preludes 0 a_prelude ks a.number k v h))
      | no h ↦ let z = bad_number_in preludes 0 a_prelude ks a.number k v h in subst (λ (x : ℕ). PreludeSays ks new (fault_at (answer x) k)) (sym z) (v_deep ks y (bad_deep_in preludes 0 a_prelude ks a.number k v z))
    ]

-- all symbols, from a reader's answer to the first ones
pub settled : {ks old mid new : List ℕ} {n : ℕ} {r : Parsed} (one : Parsed) → ((F : List ℕ) → Says ks old mid 0 0 F preludes 0 0 one) → length mid ≡ node_words_lem → n ≡ length ks
    → MatchResult one (λ g. Settles g n mid new r) (λ f. Refuses f mid new r) → PreludeSays ks new r
settled {ks} {new = new} {n} {r} (Ok g) s size e o = go (ℕ_discrete g.next n)
  where
    go : Dec (g.next ≡ n) → PreludeSays ks new r
    go (yes q) = let a = o.all q in subst (λ (x : Parsed). PreludeSays ks new x) (sym a.0) (all_read (got_of (s (33 ∷ []))) size (q ∙ e) a.1)
    go (no q) = let a = o.more q in subst (λ (x : Parsed). PreludeSays ks new x) (sym a.0) (more_left (got_of (s (33 ∷ []))) size (λ h. q (h ∙ sym e)) a.1)
settled {ks} {new = new} (Err f) s size e o = subst (λ (x : Parsed). PreludeSays ks new x) (sym o.same) (refused o.none size ((s (33 ∷ [])).refused _ _ refl))
