-- From the reader of blocks to the verdict on all symbols, and the lent words afterwards.
use mathlib.Core.Path.{◌≡◌, refl, sym, ap, ◌∙◌, subst}
use mathlib.Core.List.{List, [], ◌∷◌, ◌++◌, append-nil}
use Prim.Native.Nat.{ℕ, ◌-◌}
use native.Mathlib.Omega.{arith}
use native.Mathlib.Decide.{ℕ_discrete}
use mathlib.Core.Bool.{false}
use lib.ListN.{length, take}
use Rattle.answers.specs.Answers.{answer}
use Rattle.answers.specs.declared.Answer.{Answer}
use Rattle.grammar.specs.Grammar.{block, rd, begin_end, program}
use Rattle.grammar.specs.Trees.{Syn}
use Rattle.grammar.specs.model.Marked.{unmarked, nodes, nodes_of}
use Rattle.grammar.specs.model.Parsing.{zeros, node_words_lem, ParseSays, Parsed, read_to, fault_at}
use Rattle.grammar.specs.model.Text.{kind_at}
use Rattle.grammar.specs.model.Run.{levels, Run, got, bad, end, rd_got, level}
use Rattle.syntax.specs.model.Says.{left, Clear, Got, Says, Settles, Refuses}
use Rattle.syntax.proofs.Lemmas.{got_of}
use Rattle.std.specs.Prelude.{Ok, Err}
use Rattle.std.specs.Result.{MatchResult}
use Rattle.grammar.proofs.Final.{read_keeps, read_verdict, over_verdict, bad_verdict}

-- the program that was read
record Program (ks mid : List ℕ) (F : List ℕ) (j b : ℕ) : Type 0 where
  tree : Syn program
  run : Run (kind_at ks) levels F program 0 (got tree j)
  words : b ≡ length (nodes_of tree)
  wrote : take b mid ≡ nodes_of tree

taken : {ks mid : List ℕ} {F : List ℕ} (B : ℕ) {e j b : ℕ} {s : Syn (rd false block ∷ [])} → Run (kind_at ks) e F (rd false block ∷ []) 0 (got s j) → e ≡ levels → b ≡ length (nodes s (unmarked (rd false block ∷ [])) 1 B 0) → take b mid ≡ nodes s (unmarked (rd false block ∷ [])) 1 B 0 → Program ks mid F j b
unfolding nodes nodes_of
taken {ks} {F = F} B {j = j} (rd_got {p = begin_end} {t = t} level h v end) q n w =
    record { tree = t; run = subst (λ (x : ℕ). Run (kind_at ks) x F program 0 (got t j)) q v; words = simp append-nil at n; wrote = simp append-nil at w }

the_program : {ks old mid : List ℕ} {B : ℕ} {F : List ℕ} {j b : ℕ} → Got ks old mid 1 B F (unmarked (rd false block ∷ [])) 0 0 j b → Program ks mid F j b
the_program {B = B} g = taken B g.run refl (omega (arith, g.num)) g.wrote

pub cleared : {mid new : List ℕ} → Clear mid new 0 → length mid ≡ node_words_lem → new ≡ zeros node_words_lem
cleared {mid} c size = c.words ∙ ap (λ (n : ℕ). zeros n) none
  where
    none : length mid - 0 ≡ node_words_lem
    none = omega arith

module _ {ks old mid new : List ℕ} {B j b : ℕ} (g : Got ks old mid 1 B (33 ∷ []) (unmarked (rd false block ∷ [])) 0 0 j b) (size : length mid ≡ node_words_lem) where
  pub all_read : j ≡ length ks → Clear mid new b → ParseSays ks new (read_to j b)
  all_read l w =
      let p = the_program g in
      read_verdict ks (record { tree = p.tree; keeps = read_keeps ks p.tree j p.run l; all = l; words = p.words; wrote = w.words ∙ ap (λ (x : List ℕ). x ++ zeros (length mid - b)) p.wrote ∙ ap (λ (n : ℕ). nodes_of p.tree ++ zeros (n - b)) size })

  pub more_left : (j ≡ length ks → ⊥) → Clear mid new 0 → ParseSays ks new (fault_at (answer 5) j)
  more_left l w = over_verdict ks (cleared w size) (the_program g).run l

pub refused : {ks mid new : List ℕ} {a : Answer} {k : ℕ} → Clear mid new 0 → length mid ≡ node_words_lem → Run (kind_at ks) (left 1) (33 ∷ []) (rd false block ∷ []) 0 (bad a.number k) → ParseSays ks new (fault_at a k)
refused {ks} {a = a} {k = k} w size v = bad_verdict ks a k (cleared w size) v

-- all symbols, from a reader's answer to the first ones
pub settled : {ks old mid new : List ℕ} {n : ℕ} {r : Parsed} (one : Parsed) → ((F : List ℕ) → Says ks old mid 1 0 F (rd false block ∷ []) 0 0 one) → length mid ≡ node_words_lem → n ≡ length ks
    → MatchResult one (λ g. Settles g n mid new r) (λ f. Refuses f mid new r) → ParseSays ks new r
settled {ks} {new = new} {n} {r} (Ok g) s size e o = go (ℕ_discrete g.next n)
  where
    go : Dec (g.next ≡ n) → ParseSays ks new r
    go (yes q) = let a = o.all q in subst (λ (x : Parsed). ParseSays ks new x) (sym a.0) (all_read (got_of (s (33 ∷ []))) size (q ∙ e) a.1)
    go (no q) = let a = o.more q in subst (λ (x : Parsed). ParseSays ks new x) (sym a.0) (more_left (got_of (s (33 ∷ []))) size (λ h. q (h ∙ sym e)) a.1)
settled {ks} {new = new} (Err f) s size e o = subst (λ (x : Parsed). ParseSays ks new x) (sym o.same) (refused o.none size ((s (33 ∷ [])).refused _ _ refl))
