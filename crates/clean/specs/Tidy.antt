-- Change request 2, "notes and remarks dropped" and "Every line ends with LF, the last too": what a page has none of, read off its bytes alone.
-- proofs/Tidy has the law that every page is tidy.
use Rattle.std.specs.Prelude.{ℕ, ◌≡◌, false, not, List, [], ◌∷◌, ◌++◌, eqb}
use Rattle.symbols.specs.Names.{blank}
use Rattle.symbols.specs.Spelling.{All, Piece, Blanks, tokens_of, text, tokens}

-- "no note, no remark": the bytes are those of the symbols that are read in it, with blanks between them, and no others
pub record Bare (n : ℕ) (page : List ℕ) : Type 0 where
  pub pieces : List Piece
  pub blanks : Blanks pieces
  pub spelled : page ≡ text pieces (10 ∷ [])
  pub read : tokens n page ≡ tokens_of pieces

abbrev pub HasNo : ℕ → List ℕ → Type 0
HasNo c = All (λ b. not (eqb b c))

pub record Tidy (n : ℕ) (page : List ℕ) : Type 0 where
  pub bare : Bare n page
  -- "no tab"
  pub no_tab : HasNo 9 page
  -- "no CR"
  pub no_return : HasNo 13 page
  -- "no blank at a line's end": no space stands before an LF
  pub trimmed : (before after : List ℕ) → page ≡ before ++ (32 ∷ 10 ∷ after) → ⊥
  -- "ends with one LF": it stands behind a byte that is no blank
  pub ended : (before : List ℕ) × (b : ℕ) × (page ≡ before ++ (b ∷ 10 ∷ [])) × (blank b ≡ false)
