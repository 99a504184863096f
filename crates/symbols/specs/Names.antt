-- Paper 01, "Bytes to symbols": the bytes of names and numbers, and when two names are the same.
use Rattle.std.specs.Prelude.{ℕ, suc, ◌+◌, ◌-◌, ◌*◌, Bool, true, false, cond, ◌&&◌, ◌||◌, List, [], ◌∷◌, map, drop, eqb, leb}
use Prim.Native.Char.{code}

-- "Space, tab, CR and LF mean nothing outside apostrophes (Report 2.3)"
unfoldable pub blank : ℕ → Bool
blank b = eqb b 32 || eqb b 9 || eqb b 13 || eqb b 10

-- "a letter, then letters and digits"
unfoldable pub letter : ℕ → Bool
letter b = (leb (code "a") b && leb b (code "z")) || (leb (code "A") b && leb b (code "Z"))

unfoldable pub digit : ℕ → Bool
digit b = leb (code "0") b && leb b (code "9")

unfoldable pub in_name : ℕ → Bool
in_name b = letter b || digit b

-- the bytes of one sort from here on, blanks between them passed over: "`pay rate` is `payrate`"; and how far they reach
unfoldable pub these : (ℕ → Bool) → List ℕ → List ℕ
these sort [] = []
these sort (b ∷ bs) = cond (sort b) (b ∷ these sort bs) (cond (blank b) (these sort bs) [])

unfoldable pub reach : (ℕ → Bool) → List ℕ → ℕ
reach sort [] = 0
reach sort (b ∷ bs) = cond (sort b || blank b) (suc (reach sort bs)) 0

-- the letters and digits of the name that begins the bytes, and of the one at a place of the source
abbrev pub letters : List ℕ → List ℕ
letters bs = these in_name bs

abbrev pub letters_at : List ℕ → ℕ → List ℕ
letters_at source p = letters (drop p source)

-- "A number is a run of digits, leading zeros allowed": what stands for v and the digits behind it
unfoldable pub value_from : ℕ → List ℕ → ℕ
value_from v [] = v
value_from v (d ∷ ds) = value_from (10 * v + (d - code "0")) ds

abbrev pub value : List ℕ → ℕ
value bs = value_from 0 (these digit bs)

-- request 6, "decimal numbers with a point": the digits behind a point that stands first here; none where there is no point, or no digit behind it
unfoldable pub decimals : List ℕ → List ℕ
decimals [] = []
decimals (b ∷ bs) = cond (eqb b (code ".")) (these digit bs) []

-- two lists of bytes are equal
unfoldable pub equal : List ℕ → List ℕ → Bool
equal [] [] = true
equal [] (c ∷ cs) = false
equal (b ∷ bs) [] = false
equal (b ∷ bs) (c ∷ cs) = eqb b c && equal bs cs

-- request 8, letter case: a capital as its small letter; every other byte as it is
unfoldable pub folded : ℕ → ℕ
folded b = cond (leb (code "A") b && leb b (code "Z")) (b + 32) b

-- request 8: "Two names are to be the same when they differ only in letter case."
unfoldable pub same_name : List ℕ → List ℕ → Bool
same_name a b = equal (map folded a) (map folded b)
