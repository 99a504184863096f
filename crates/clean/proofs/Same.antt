-- The program of a page is the program of its source: the same tree, and the same letters and values where they are looked at.
use mathlib.Core.Path.{◌≡◌, sym, ap, ◌∙◌}
use mathlib.Core.List.{List, [], ◌∷◌, map}
use Prim.Native.Nat.{ℕ, zero, suc}
use native.Mathlib.Omega.{arith}
use lib.ListN.{length, get_or}
use Rattle.symbols.specs.Names.{letters_at}
use Rattle.symbols.specs.Symbols.{kind}
use Rattle.symbols.specs.Scan.{Found, scan, kinds_of, values_of, places_of}
use Rattle.symbols.specs.Spelling.{Token, read_off, token_at, tokens}
use Rattle.symbols.proofs.WrittenAgain.{tokens_kinds, tokens_values}
use Rattle.grammar.specs.Grammar.{program}
use Rattle.grammar.specs.Trees.{Syn, yield}
use Rattle.grammar.specs.model.Text.{kind_at}
use Rattle.grammar.proofs.Final.{own}
use Rattle.names.proofs.ReadAlike.{program_agree}
use Rattle.reading.specs.Judging.{program_in}
use Rattle.clean.specs.House.{page}
use Rattle.clean.proofs.Clean.{page_tokens}

-- ---- a name's letters, by its token

unfoldable pub letters_of : Token → List ℕ
letters_of t = t.letters

pub letters_at_lem : (S : List ℕ) (d : ℕ) (l : List Found) (j : ℕ) → get_or (kinds_of l) j 33 ≡ 38 → letters_at S (get_or (places_of l) j d) ≡ get_or (map letters_of (map (token_at S) l)) j []
unfolding letters_of read_off
letters_at_lem S d [] j h = absurd (omega arith)
letters_at_lem S d (f ∷ l) zero h = let q : kind f.symbol ≡ 38 = h in rw q
letters_at_lem S d (f ∷ l) (suc j) h = letters_at_lem S d l j h

-- two sources with the same symbols and letters are the same program: the same statements, expressions and declarations, with the same symbols' numbers,
-- values and letters
pub tokens_program : (n : ℕ) (old new : List ℕ) (t : Syn program) → tokens n new ≡ tokens n old → yield t ≡ kinds_of (scan n old).found → program_in n new t ≡ program_in n old t
unfolding kind_at
tokens_program n old new t k h =
    let F = (scan n old).found in
    let F' = (scan n new).found in
    program_agree (λ k. get_or (values_of F') k 0) (λ k. get_or (values_of F) k 0) (λ k. letters_at new (get_or (places_of F') k (length new))) (λ k. letters_at old (get_or (places_of F) k (length old)))
    (kind_at (yield t))
    (λ j e. ap (λ (v : List ℕ). get_or v j 0) (tokens_values n old new k))
    (λ j e. ap (λ (v : List ℕ). get_or v j 0) (tokens_values n old new k))
    (λ j e.
    let q : get_or (kinds_of F) j 33 ≡ 38 = ap (λ (v : List ℕ). get_or v j 33) (sym h) ∙ e in
    let q' : get_or (kinds_of F') j 33 ≡ 38 = ap (λ (v : List ℕ). get_or v j 33) (tokens_kinds n old new k) ∙ q in
    letters_at_lem new (length new) F' j q' ∙ ap (λ (l : List Token). get_or (map letters_of l) j []) k ∙ sym (letters_at_lem old (length old) F j q))
    t (own (yield t))

-- "Reading that text back must give the same program, with uses and declarations paired alike though places move"
pub page_program : (n : ℕ) (source : List ℕ) (t : Syn program) → yield t ≡ kinds_of (scan n source).found → program_in n (page n source t) t ≡ program_in n source t
page_program n source t h = tokens_program n source (page n source t) t (page_tokens n source t) h
