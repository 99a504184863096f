-- Characters of UTF-8 that are shown as they are. Any other byte from 128 on is no text: one that is part of no character, a control character
-- (U+0080 to U+009F), one that shows nothing, or one that turns the writing round.
use Rattle.std.specs.Prelude.{ℕ, ◌+◌, ◌-◌, Bool, false, cond, not, ◌&&◌, ◌||◌, List, eqb, leb, ltb, get_or}

abbrev pub between : ℕ → ℕ → ℕ → Bool
between low high b = leb low b && leb b high

-- two bytes: from U+00A0 to U+07FF, but for the Arabic letter mark
unfoldable pub two : ℕ → ℕ → Bool
two a b = cond (eqb a 194) (between 160 191 b) (cond (eqb a 216 && eqb b 156) false (between 195 223 a && between 128 191 b))

-- the first two bytes of three: no character that has two, and none of U+D800 to U+DFFF
unfoldable pub starts_three : ℕ → ℕ → Bool
starts_three a b =
    cond (eqb a 224) (between 160 191 b)
    (cond (eqb a 237) (between 128 159 b)
    (between 225 239 a && between 128 191 b))

-- three bytes: U+200B to U+200F, U+2028 to U+202E, U+2060 to U+206F and U+FEFF
unfoldable pub hidden : ℕ → ℕ → ℕ → Bool
hidden a b c =
    cond (eqb a 226 && eqb b 128) (between 139 143 c || between 168 174 c)
    (cond (eqb a 226 && eqb b 129) (between 160 175 c)
    (eqb a 239 && eqb b 187 && eqb c 191))

unfoldable pub three : ℕ → ℕ → ℕ → Bool
three a b c = starts_three a b && not (hidden a b c) && between 128 191 c

-- the first two bytes of four: no character that has three, and none past U+10FFFF
unfoldable pub starts_four : ℕ → ℕ → Bool
starts_four a b =
    cond (eqb a 240) (between 144 191 b)
    (cond (eqb a 244) (between 128 143 b)
    (between 241 243 a && between 128 191 b))

unfoldable pub four : ℕ → ℕ → ℕ → ℕ → Bool
four a b c d = starts_four a b && between 128 191 c && between 128 191 d

-- how many bytes are shown together: of these four the first ones, which are a character, or one
unfoldable pub width_of : ℕ → ℕ → ℕ → ℕ → ℕ
width_of a b c d = cond (two a b) 2 (cond (three a b c) 3 (cond (four a b c d) 4 1))

-- from a place on
unfoldable pub width_at : List ℕ → ℕ → ℕ
width_at s p = width_of (get_or s (p + 0) 0) (get_or s (p + 1) 0) (get_or s (p + 2) 0) (get_or s (p + 3) 0)

-- a character that begins k bytes before a place goes on there
unfoldable pub begun_before : List ℕ → ℕ → ℕ → Bool
begun_before s p k = leb k p && ltb k (width_at s (p - k))

-- a place is inside a character, behind its first byte
unfoldable pub inside : List ℕ → ℕ → Bool
inside s p = begun_before s p 1 || begun_before s p 2 || begun_before s p 3
