-- Pages: a page reads back as the same symbols with the same letters; its page is itself.
use mathlib.Core.Path.{◌≡◌, refl, sym, ap, subst, ◌∙◌}
use mathlib.Core.Bool.{Bool, true, false, cond}
use mathlib.Core.List.{List, [], ◌∷◌}
use mathlib.Core.Option.{none}
use Prim.Native.Nat.{ℕ, zero, suc}
use Rattle.symbols.specs.Names.{blank}
use Rattle.symbols.specs.Scan.{scan}
use Rattle.symbols.specs.Scan.{kinds_of, values_of}
use Rattle.grammar.specs.Grammar.{program}
use Rattle.grammar.specs.Trees.{Syn, yield}
use Rattle.grammar.specs.Program.{Keeps}
use Rattle.grammar.proofs.Unique.{unique}
use Rattle.symbols.specs.Spelling.{Token, All, AllBlank, text, dress, tokens, placed}
use Rattle.symbols.proofs.Decimals.{all_both}
use Rattle.symbols.proofs.WrittenAgain.{scan_again, refused_again, tokens_again, kinds_again, values_again}
use Rattle.clean.specs.House.{Mark, line, symbol, laid, spaces, tight, gaps, house, page}

-- ---- the gaps are blanks

pub spaces_blank : (v : ℕ) → All blank (spaces v)
unfolding blank
spaces_blank zero = tt
spaces_blank (suc v) = (refl, (refl, spaces_blank v))

gaps_blank : (a b : ℕ) (ls : List ℕ) (v : ℕ) (l : List Mark) → All blank ls → AllBlank (gaps a b ls v l)
unfolding gaps blank
gaps_blank a b ls v [] h = tt
gaps_blank a b ls v (line w ∷ l) h = gaps_blank a b (10 ∷ ls) w l (refl, h)
gaps_blank a b [] v (symbol k ∷ l) h = (space (tight a b k), gaps_blank b k [] v l tt)
  where
    space : (t : Bool) → All blank (cond t [] (32 ∷ []))
    space true = tt
    space false = (refl, tt)
gaps_blank a b (x ∷ ls) v (symbol k ∷ l) h = (all_both blank (x ∷ ls) (spaces v) h (spaces_blank v), gaps_blank b k [] v l tt)

house_blank : (t : Syn program) → AllBlank (house t)
unfolding house
house_blank t = gaps_blank 36 36 [] 0 (laid 0 t) tt

end_blank : All blank (10 ∷ [])
unfolding blank
end_blank = (refl, tt)

-- ---- what a page reads as

module _ (n : ℕ) (source : List ℕ) (t : Syn program) where
  pub page_refused : (scan n (page n source t)).refused ≡ none
  unfolding page
  page_refused = refused_again n source (house t) (house_blank t) (10 ∷ []) end_blank

  -- the places are the running sum of the lengths
  pub page_scan : scan n (page n source t) ≡ record { found = placed 0 (dress (house t) (tokens n source)); refused = none }
  unfolding page
  page_scan = scan_again n source (house t) (house_blank t) (10 ∷ []) end_blank

  pub page_tokens : tokens n (page n source t) ≡ tokens n source
  unfolding page
  page_tokens = tokens_again n source (house t) (house_blank t) (10 ∷ []) end_blank

  pub page_kinds : kinds_of (scan n (page n source t)).found ≡ kinds_of (scan n source).found
  unfolding page
  page_kinds = kinds_again n source (house t) (house_blank t) (10 ∷ []) end_blank

  pub page_values : values_of (scan n (page n source t)).found ≡ values_of (scan n source).found
  unfolding page
  page_values = values_again n source (house t) (house_blank t) (10 ∷ []) end_blank

-- the tree of a source is that of its page
pub page_tree : (n : ℕ) (source : List ℕ) (t t' : Syn program) → yield t ≡ kinds_of (scan n source).found → yield t' ≡ kinds_of (scan n (page n source t)).found → t' ≡ t
page_tree n source t t' h h' = unique t' t (h' ∙ page_kinds n source t ∙ sym h)

-- it keeps the grammar and the depth
pub page_keeps : (n : ℕ) (source : List ℕ) (t : Syn program) → Keeps (kinds_of (scan n source).found) t → Keeps (kinds_of (scan n (page n source t)).found) t
page_keeps n source t k = subst (λ (ks : List ℕ). Keeps ks t) (sym (page_kinds n source t)) k

-- "Writing what was written gives the same bytes."
pub page_again : (n : ℕ) (source : List ℕ) (t t' : Syn program) → yield t ≡ kinds_of (scan n source).found → yield t' ≡ kinds_of (scan n (page n source t)).found
    → page n (page n source t) t' ≡ page n source t
unfolding page
page_again n source t t' h h' =
    ap (λ (u : Syn program). page n (page n source t) u) (page_tree n source t t' h h')
    ∙ ap (λ (l : List Token). text (dress (house t) l) (10 ∷ [])) (page_tokens n source t)
