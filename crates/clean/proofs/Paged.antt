-- What the writer sets down of an accepted source is its page: the lines that the tree gives are those that the pass finds, and the arrays hold the source's symbols.
use Rattle.std.proofs.Common.{Result, Ok, Err}
use Prim.Native.Nat.{ℕ, ◌+◌, ◌≤◌, ◌<◌}
use mathlib.Core.Path.{◌≡◌, refl, sym, ap, subst, ◌∙◌}
use mathlib.Core.Bool.{true, false}
use mathlib.Core.List.{List, [], ◌∷◌, ◌++◌}
use native.Mathlib.Omega.{arith}
use lib.ListN.{length, get_or, take, drop, length-map, length-take, take-append-drop}
use Rattle.answers.specs.Numbers.{short, long}
use Rattle.answers.specs.Answers.{refusal}
use Rattle.answers.specs.declared.Refusal.{Refusal}
use Rattle.symbols.specs.Symbols.{kind}
use Rattle.symbols.specs.Scan.{scan, kinds_of, places_of}
use Rattle.grammar.specs.Grammar.{program}
use Rattle.grammar.specs.Trees.{Syn, yield}
use Rattle.table.proofs.Written.{inside}
use Rattle.reading.specs.Reading.{symbols, Grammatical}
use Rattle.reading.specs.model.Stages.{Holds}
use Rattle.reading.specs.declared.Sizes.{Sizes}
use Rattle.symbols.specs.Spelling.{text, dress, tokens}
use Rattle.clean.specs.House.{page, gaps}
use Rattle.clean.specs.model.Lines.{lines}
use Rattle.clean.specs.model.Bytes.{Puts, Lendable}
use Rattle.clean.specs.model.Pen.{first_of, written_from, written_of}
use Rattle.clean.specs.Job.{page_of, Fits, too_long, too_short, written, Writes, accepted}
use Rattle.clean.proofs.LinesLaid.{house_lines}
use Rattle.clean.proofs.Penned.{penned}
use Rattle.clean.proofs.Spelled.{all_kinds}

-- the page of a tree, by a pass over the kinds of the symbols
page_passed : (n : ℕ) (source : List ℕ) (t : Syn program) → yield t ≡ kinds_of (scan n source).found → (place : ℕ → ℕ)
    → ((j : ℕ) → j < length (scan n source).found → place j ≡ get_or (places_of (scan n source).found) j 0)
    → page n source t ≡ written_from source place first_of [] 0 (kinds_of (scan n source).found)
unfolding page
page_passed n source t e place h =
    let F = (scan n source).found in
    ap (λ g. text (dress g (tokens n source)) (10 ∷ [])) (house_lines t ∙ ap (λ ks. gaps 36 36 [] 0 (lines 0 [] 0 false true ks)) e)
    ∙ penned source F first_of [] 0 place (λ j l. ap place (omega arith) ∙ h j l)

module _ {source kinds places values nodes rows uses was marks : List ℕ} {s : Sizes} (h : Holds source kinds places values nodes rows uses was marks s) where
  abbrev pub program_of : Grammatical source
  program_of = h.declared.ready.program

  count : length (scan symbols source).found ≡ s.symbols
  count = sym (h.declared.ready.places_in.count ∙ length-map (scan symbols source).found (λ f. kind f.symbol))

  kinds_long : length (take s.symbols kinds) ≡ s.symbols
  kinds_long = ap length h.kinded ∙ length-map (scan symbols source).found (λ f. kind f.symbol) ∙ count

  -- the kinds stand at the front of their array
  pub in_front_lem : s.symbols ≤ length kinds
  in_front_lem = let e = length-take s.symbols kinds in let k = kinds_long in omega arith

  pub front_long : s.symbols ≡ length (take s.symbols kinds)
  front_long = sym kinds_long

  pub page_is : written_of source places (take s.symbols kinds) ≡ page_of program_of
  page_is =
      let F = (scan symbols source).found in
      ap (written_from source (λ j. get_or places j 0) first_of [] 0) h.kinded
      ∙ sym (page_passed symbols source program_of.tree program_of.keeps.spelled (λ j. get_or places j 0)
      (λ j l.
      h.declared.ready.places_in.placed j (omega (arith, count))
      ∙ inside (places_of F) j (length source) 0 (omega (arith, length-map F (λ f. f.place)))))

  pub lendable : Lendable source (take s.symbols kinds)
  lendable = record {
    short = program_of.scanned.short;
    few = omega (arith, ap length h.kinded, length-map (scan symbols source).found (λ f. kind f.symbol), count, h.declared.ready.places_in.few);
    all_kinds = subst Rattle.clean.specs.model.Bytes.AllKinds (sym h.kinded) (all_kinds (scan symbols source).found);
  }

  pub writes : {room room' : List ℕ} {w : Result ℕ Refusal} → Fits (written_of source places (take s.symbols kinds)) room w room' → Writes source room w room'
  writes {room} {room'} {w} f =
      accepted program_of h.declared.faultless h.declared.typed w room' (subst (λ t. Fits t room w room') page_is f)

-- ---- the room

-- a page put on no room at all is counted
pub counted : {old new : List ℕ} {r : ℕ} {page : List ℕ} → Puts old new 0 r page → r ≡ length page
counted p = p.behind ∙ omega arith

pub wrote_all_lem : {old new page : List ℕ} {r : ℕ} → Puts old new 0 r page → length page ≤ length old → new ≡ page ++ drop (length page) old
wrote_all_lem {old} {new} {page} {r} p l =
    let w = p.wrote (omega (arith, counted p)) in
    let z : 0 + length page ≡ length page = omega arith in
    sym (take-append-drop (length page) new) ∙ ap (λ x. x ++ drop (length page) new) (rw z at w.put) ∙ ap (λ x. page ++ x) (rw z at w.kept)

none_left : (x : List ℕ) → length x ≡ 0 → x ≡ []
none_left [] e = refl
none_left (b ∷ x) e = absurd (omega arith)

-- x is what stands on no room at all after the bytes were counted
module _ {text room old x : List ℕ} {r : ℕ} (nothing : length old ≡ 0) (p : Puts old x 0 r text) where
  pub as_it_was : x ++ room ≡ room
  as_it_was = ap (λ z. z ++ room) (none_left x (p.size ∙ nothing))

  pub fits_long : {w : Refusal} → 16384 < r → w ≡ refusal long 16384 → Fits text room (Err w) (x ++ room)
  fits_long {w} h e = subst (Fits text room (Err w)) (sym as_it_was) (subst (λ v. Fits text room (Err v) room) (sym e) (too_long (omega (arith, counted p))))

  pub fits_short : {w : Refusal} → r ≤ 16384 → length (x ++ room) < r → w ≡ refusal short 0 → Fits text room (Err w) (x ++ room)
  fits_short {w} h l e =
      subst (Fits text room (Err w)) (sym as_it_was)
      (subst (λ v. Fits text room (Err v) room) (sym e) (too_short (omega (arith, counted p)) (omega (arith, counted p, ap length as_it_was))))

  pub fits_all : {new : List ℕ} {r' : ℕ} → r ≤ 16384 → r ≤ length (x ++ room) → Puts (x ++ room) new 0 r' text → Fits text room (Ok r) new
  fits_all {new} {r'} h l q =
      let e : new ≡ text ++ drop (length text) room = wrote_all_lem q (omega (arith, counted p)) ∙ ap (λ z. text ++ drop (length text) z) as_it_was in
      subst (Fits text room (Ok r)) (sym e)
      (subst (λ n. Fits text room (Ok n) (text ++ drop (length text) room)) (sym (counted p)) (written (omega (arith, counted p)) (omega (arith, counted p, ap length as_it_was))))
