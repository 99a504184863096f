-- The symbols of any source, written with any blanks between them, read back as the same symbols with the same letters.
use mathlib.Core.Path.{◌≡◌, refl, sym, ap, ◌∙◌}
use mathlib.Core.List.{List, [], ◌∷◌, map}
use mathlib.Core.Option.{none}
use Prim.Native.Nat.{ℕ, ◌≤◌}
use native.Mathlib.Omega.{arith}
use lib.ListN.{length, length-map}
use Rattle.symbols.specs.Names.{blank}
use Rattle.symbols.specs.Symbols.{kind}
use Rattle.symbols.specs.Symbols.{value_of}
use Rattle.symbols.specs.Scan.{Found, Scan, scan}
use Rattle.symbols.specs.model.Steps.{kinds_of, values_of}
use Rattle.symbols.specs.Spelling.{Token, All, tokens_of, Blanks, text, placed, token_at, tokens, dress, AllBlank}
use Rattle.symbols.proofs.Written.{scan_text, tokens_text}
use Rattle.symbols.proofs.OwnSymbols.{source_proper, source_sound, source_few}

pub dress_tokens : (gs : List (List ℕ)) (l : List Token) → tokens_of (dress gs l) ≡ l
unfolding dress
dress_tokens gs [] = refl
dress_tokens [] (t ∷ l) = ap (λ (m : List Token). t ∷ m) (dress_tokens [] l)
dress_tokens (g ∷ gs) (t ∷ l) = ap (λ (m : List Token). t ∷ m) (dress_tokens gs l)

dress_blank : (gs : List (List ℕ)) (l : List Token) → AllBlank gs → Blanks (dress gs l)
unfolding dress
dress_blank gs [] h = tt
dress_blank [] (t ∷ l) h = (tt, dress_blank [] l tt)
dress_blank (g ∷ gs) (t ∷ l) h = (h.0, dress_blank gs l h.1)

-- sources with the same symbols and letters have the same kinds and values
pub tokens_kinds : (n : ℕ) (old new : List ℕ) → tokens n new ≡ tokens n old → kinds_of (scan n new).found ≡ kinds_of (scan n old).found
tokens_kinds n old new h = sym (map_map new (scan n new).found) ∙ ap (map (λ t. kind t.symbol)) h ∙ map_map old (scan n old).found
  where
    map_map : (S : List ℕ) (l : List Found) → map (λ (t : Token). kind t.symbol) (map (token_at S) l) ≡ kinds_of l
    map_map S [] = refl
    map_map S (f ∷ l) = ap (λ (m : List ℕ). kind f.symbol ∷ m) (map_map S l)

pub tokens_values : (n : ℕ) (old new : List ℕ) → tokens n new ≡ tokens n old → values_of (scan n new).found ≡ values_of (scan n old).found
tokens_values n old new h = sym (map_map new (scan n new).found) ∙ ap (map (λ t. value_of t.symbol)) h ∙ map_map old (scan n old).found
  where
    map_map : (S : List ℕ) (l : List Found) → map (λ (t : Token). value_of t.symbol) (map (token_at S) l) ≡ values_of l
    map_map S [] = refl
    map_map S (f ∷ l) = ap (λ (m : List ℕ). value_of f.symbol ∷ m) (map_map S l)

module _ (n : ℕ) (source : List ℕ) (gs : List (List ℕ)) (h : AllBlank gs) (e : List ℕ) (eb : All blank e) where
  abbrev pub again : List ℕ
  again = text (dress gs (tokens n source)) e

  few : length (dress gs (tokens n source)) ≤ n
  few =
      let a = length-map (dress gs (tokens n source)) (λ x. x.token) in
      let b = ap length (dress_tokens gs (tokens n source)) in
      let c = length-map (scan n source).found (token_at source) in
      omega (arith, a, b, c, source_few n source)

  -- the same symbols, at the running sum of the lengths, and nothing is refused
  pub scan_again : scan n again ≡ record { found = placed 0 (dress gs (tokens n source)); refused = none }
  scan_again =
      scan_text n (dress gs (tokens n source)) e (dress_blank gs (tokens n source) h) eb
      (rw (dress_tokens gs (tokens n source)) (source_proper n source)) (rw (dress_tokens gs (tokens n source)) (source_sound n source)) few

  pub refused_again : (scan n again).refused ≡ none
  refused_again = ap (λ (r : Scan). r.refused) scan_again

  -- with the same letters
  pub tokens_again : tokens n again ≡ tokens n source
  tokens_again =
      tokens_text n (dress gs (tokens n source)) e (dress_blank gs (tokens n source) h) eb
      (rw (dress_tokens gs (tokens n source)) (source_proper n source)) (rw (dress_tokens gs (tokens n source)) (source_sound n source)) few
      ∙ dress_tokens gs (tokens n source)

  -- so the same kinds and values
  pub kinds_again : kinds_of (scan n again).found ≡ kinds_of (scan n source).found
  kinds_again = tokens_kinds n source again tokens_again

  pub values_again : values_of (scan n again).found ≡ values_of (scan n source).found
  values_again = tokens_values n source again tokens_again
