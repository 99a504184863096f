-- Laws of Options: what a line asks from a place on, by its next word and what it asks behind that.
use mathlib.Core.Path.{◌≡◌, refl, sym, ap, ◌∙◌}
use mathlib.Core.Bool.{Bool, true, false, cond, ◌||◌, and-false, or-true, or-false, false≢true}
use mathlib.Core.List.{List, [], ◌∷◌}
use Rattle.std.specs.Prelude.{Some, None}
use Prim.Native.Nat.{ℕ, ◌-◌, ◌≤◌, ◌<◌}
use native.Mathlib.Omega.{arith}
use lib.Dec.{eqb, leb}
use lib.ListN.{length, drop, drop_of_length-le}
use borrow.Author.Tests.{eq-eqb, ne_eqb, le-leb, lt-leb, leb-true, leb-false}
use Rattle.symbols.specs.Names.{equal}
use Rattle.asking.specs.Numerals.{natural_of}
use Rattle.asking.specs.Words.{ended, cut, words_of, part, is_part, First}
use Rattle.asking.specs.Sorts.{is_option, those, asked_from}
use Rattle.asking.specs.Options.{first_number, option_of, together, others, operands_in, operands_from}
use Rattle.asking.specs.Table.{rows, table_text, first_row, row_in, row_of, matched}
use Rattle.asking.specs.declared.sorts.Sort.TheVariants.{Named}
use Rattle.asking.specs.declared.words.Word.{Word}
use Rattle.asking.proofs.Spelling.{natural_none}
use Rattle.asking.proofs.Lines.{part_here}

-- ---- nothing is asked behind the end, and no byte stands between a place and one before it

pub asked_nothing : (line : List ℕ) (at : ℕ) → length line ≤ at → asked_from line at ≡ []
unfolding those cut ended
asked_nothing line at h = rw (drop_of_length-le line h)

pub part_empty : (line : List ℕ) (from to : ℕ) → to ≤ from → part line from to ≡ []
part_empty line from to h = let z : to - from ≡ 0 = omega arith in rw z

-- ---- the number of an option

module _ (line : List ℕ) (at : ℕ) (w : Word) (h : First (asked_from line) line at w) where
  pub number_first : natural_of (part line w.from w.to) ≡ first_number (asked_from line at)
  unfolding first_number
  number_first = go (leb w.to w.from) refl
    where
      go : (t : Bool) → leb w.to w.from ≡ t → natural_of (part line w.from w.to) ≡ first_number (asked_from line at)
      go true e =
          let l = leb-true w.to w.from e in
          let k : w.from ≡ w.to = omega (arith, h.ordered) in
          rw (part_empty line w.from w.to l, h.none k) (natural_none [] refl)
      go false e = rw (h.first (leb-false w.to w.from e))

  module _ (name : List ℕ) (usual : ℕ) where
    pub option_none : w.from ≡ w.to → option_of name usual (asked_from line at) ≡ Some usual
    unfolding option_of
    option_none e = rw (h.none e)

    pub option_here : w.from < w.to → is_part line w.from w.to name ≡ true → option_of name usual (asked_from line at) ≡ first_number (asked_from line w.to)
    unfolding option_of
    option_here l e = rw (h.first l, sym (part_here line w.from w.to name h.ordered h.inside) ∙ e)

    pub option_later : w.from < w.to → is_part line w.from w.to name ≡ false → option_of name usual (asked_from line at) ≡ option_of name usual (asked_from line w.to)
    unfolding option_of
    option_later l e = rw (h.first l, sym (part_here line w.from w.to name h.ordered h.inside) ∙ e)

pub option_nothing : (line : List ℕ) (at : ℕ) (name : List ℕ) (usual : ℕ) → length line ≤ at → option_of name usual (asked_from line at) ≡ Some usual
unfolding option_of
option_nothing line at name usual h = rw (asked_nothing line at h)

-- ---- the three sizes

pub sizes_cells : (l c o : ℕ) → 8192 < c → together (Some l) (Some c) (Some o) ≡ None
unfolding together
sizes_cells l c o h = rw (lt-leb c 8192 h)

pub sizes_room : (l c o : ℕ) → 196608 < o → together (Some l) (Some c) (Some o) ≡ None
unfolding together
sizes_room l c o h = rw (lt-leb o 196608 h, and-false (leb c 8192))

pub sizes_are : (l c o : ℕ) → c ≤ 8192 → o ≤ 196608 → together (Some l) (Some c) (Some o) ≡ Some (record { limit = l; cells = c; room = o })
unfolding together
sizes_are l c o h k = rw (le-leb c 8192 h, le-leb o 196608 k)

-- ---- words that are no option

-- behind an option its number is passed
operands_skip : (ws : List (List ℕ)) → operands_in true ws ≡ operands_in false (others ws)
unfolding operands_in others
operands_skip [] = refl
operands_skip (w ∷ ws) = refl

pub operands_passed : (w : List ℕ) (ws us : List (List ℕ)) → is_option w ≡ true → us ≡ cond (is_option w) (others ws) ws → operands_in false (w ∷ ws) ≡ operands_in false us
unfolding operands_in
operands_passed w ws us a e =
    let k : us ≡ others ws = e ∙ ap (λ (t : Bool). cond t (others ws) ws) a in
    ap (λ (t : Bool). cond t (operands_in true ws) (w ∷ operands_in false ws)) a ∙ operands_skip ws ∙ ap (operands_in false) (sym k)

operands_one : (w : List ℕ) (ws : List (List ℕ)) → is_option w ≡ false → operands_in false (w ∷ ws) ≡ w ∷ operands_in false ws
unfolding operands_in
operands_one w ws a = rw a

no_option : is_option [] ≡ false
unfolding is_option equal
no_option = refl

module _ (line : List ℕ) (at : ℕ) (w : Word) (h : First (asked_from line) line at w) where
  -- behind the next word the others are asked
  pub asked_others : asked_from line w.to ≡ others (asked_from line at)
  unfolding others
  asked_others = go (leb w.to w.from) refl
    where
      go : (t : Bool) → leb w.to w.from ≡ t → asked_from line w.to ≡ others (asked_from line at)
      go true e =
          let l = leb-true w.to w.from e in
          let k : w.from ≡ w.to = omega (arith, h.ordered) in
          rw (h.none k) (asked_nothing line w.to (omega (arith, h.end k)))
      go false e = rw (h.first (leb-false w.to w.from e))

  -- an option is no empty word
  pub option_long : is_option (part line w.from w.to) ≡ true → w.from < w.to
  option_long e = go (leb w.to w.from) refl
    where
      go : (t : Bool) → leb w.to w.from ≡ t → w.from < w.to
      go true f = absurd (false≢true (sym no_option ∙ ap is_option (sym (part_empty line w.from w.to (leb-true w.to w.from f))) ∙ e))
      go false f = leb-false w.to w.from f

  pub operands_none : w.from ≡ w.to → operands_from line at ≡ []
  unfolding operands_in
  operands_none e = rw (h.none e)

  pub operands_first : is_option (part line w.from w.to) ≡ false → w.from < w.to → operands_from line at ≡ part line w.from w.to ∷ operands_from line w.to
  operands_first a l = ap (operands_in false) (h.first l) ∙ operands_one (part line w.from w.to) (asked_from line w.to) a

-- ---- words for names

-- no name is left: no word is, or more are welcome
pub matched_end : (free : Bool) (us : List (List ℕ)) (line : List ℕ) (at : ℕ) (w : Word) → First (operands_from line) line at w → us ≡ []
    → matched us free (operands_from line at) ≡ (free || eqb w.from w.to)
unfolding matched
matched_end free us line at w h e = go (leb w.to w.from) refl
  where
    go : (t : Bool) → leb w.to w.from ≡ t → matched us free (operands_from line at) ≡ (free || eqb w.from w.to)
    go true b =
        let l = leb-true w.to w.from b in
        let k : w.from ≡ w.to = omega (arith, h.ordered) in
        rw (e, h.none k, eq-eqb w.from w.to k, or-true free)
    go false b =
        let l = leb-false w.to w.from b in
        let n : w.from ≡ w.to → ⊥ = λ k. omega (arith, k, l) in
        rw (e, h.first l, ne_eqb w.from w.to n, or-false free)

pub matched_short : (n : List ℕ) (ns us ws : List (List ℕ)) (free : Bool) → us ≡ n ∷ ns → ws ≡ [] → matched us free ws ≡ false
unfolding matched
matched_short n ns us ws free e k = rw (e, k)

pub matched_on : (n w : List ℕ) (ns us ws vs : List (List ℕ)) (free : Bool) → us ≡ n ∷ ns → vs ≡ w ∷ ws → matched us free vs ≡ matched ns free ws
unfolding matched
matched_on n w ns us ws vs free e k = rw (e, k)

-- ---- the row of a word

pub row_found : (table w : List ℕ) (x : Word) → First (λ (p : ℕ). those Named w (words_of (drop p table))) table 0 x → part table x.from x.to ≡ row_in (words_of table) w
unfolding row_in first_row
row_found table w x h = go (leb x.to x.from) refl
  where
    go : (t : Bool) → leb x.to x.from ≡ t → part table x.from x.to ≡ first_row (those Named w (words_of table))
    go true b =
        let l = leb-true x.to x.from b in
        let k : x.from ≡ x.to = omega (arith, h.ordered) in
        part_empty table x.from x.to l ∙ sym (ap first_row (h.none k))
    go false b = let l = leb-false x.to x.from b in sym (ap first_row (h.first l))

-- the rows are the words of the table
table_rows : words_of table_text ≡ rows
unfolding cut ended
table_rows = refl

pub row_of_table : (w : List ℕ) → row_of w ≡ row_in (words_of table_text) w
unfolding row_of
row_of_table w = ap (λ (rs : List (List ℕ)). row_in rs w) (sym table_rows)
