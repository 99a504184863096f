-- The values of any source's numbers keep their limits, and a number with a point has its digits and their count behind the point back from
-- its word: both stand in what the letters of a symbol can be.
use mathlib.Core.Path.{◌≡◌, sym, ap, ◌∙◌}
use mathlib.Core.List.{List, [], ◌∷◌, ◌++◌, map}
use Prim.Native.Nat.{ℕ, zero, suc, ◌≤◌, ◌<◌}
use native.Mathlib.Omega.{arith}
use lib.ListN.{length, get_or, length-append}
use borrow.Author.Tests.{eqb-false}
use Rattle.symbols.specs.Names.{digit, value_from}
use Rattle.symbols.specs.Symbols.{kind, value_of}
use Rattle.symbols.specs.Scan.{Found, scan, kinds_of, values_of}
use Rattle.symbols.specs.model.Kinds.{unpacked}
use Rattle.symbols.specs.Spelling as S
use Rattle.symbols.specs.Spelling.{Proper, AllProper, token_at}
use Rattle.symbols.specs.declared.Symbol.{Symbol}
use Rattle.symbols.specs.declared.Symbol.TheVariants.{Number, Decimal}
use Rattle.symbols.proofs.Stored.{unpack_packed}
use Rattle.symbols.proofs.Decimals.{all_both, value_small}
use Rattle.symbols.proofs.OwnSymbols.{source_proper}

-- "at most 15 digits", of which one at least stands behind the point
pub record Pointed (w : ℕ) : Type 0 where
  pub digits : (unpacked w).digits < 1000000000000000
  pub some : 0 < (unpacked w).behind
  pub few : (unpacked w).behind ≤ 15

number_proper : (s : Symbol) (l : List ℕ) → Proper s l → kind s ≡ kind (Number 0) → value_of s ≤ 2147483647
number_proper s l (S.name h f k) e = absurd (omega (arith, e))
number_proper s l (S.number h f v k) e = k
number_proper s l (S.decimal ds es q a c o n v) e = absurd (omega (arith, e))
number_proper s l (S.other h k j) e = absurd (eqb-false (kind s) (kind (Number 0)) k e)

decimal_proper : (s : Symbol) (l : List ℕ) → Proper s l → kind s ≡ kind (Decimal 0) → Pointed (value_of s)
decimal_proper s l (S.name h f k) e = absurd (omega (arith, e))
decimal_proper s l (S.number h f v k) e = absurd (omega (arith, e))
decimal_proper s l (S.decimal ds es q a c o n v) e =
    let m : length es < 16 = omega (arith, n, length-append ds es) in
    let u = ap unpacked (sym v) ∙ unpack_packed (value_from 0 (ds ++ es)) (length es) m in
    let b = value_small (ds ++ es) (all_both digit ds es a c) n in
    record { digits = rw u b; some = rw u o; few = rw u (omega (arith, m)) }
decimal_proper s l (S.other h k j) e = absurd (eqb-false (kind s) (kind (Decimal 0)) j e)

module _ (source : List ℕ) where
  number_in_lem : (l : List Found) → AllProper (map (token_at source) l) → (k : ℕ) → get_or (kinds_of l) k 0 ≡ kind (Number 0) → get_or (values_of l) k 0 ≤ 2147483647
  number_in_lem [] p zero e = absurd (omega (arith, e))
  number_in_lem [] p (suc k) e = absurd (omega (arith, e))
  number_in_lem (f ∷ l) p zero e = number_proper f.symbol _ p.0 e
  number_in_lem (f ∷ l) p (suc k) e = number_in_lem l p.1 k e

  decimal_in : (l : List Found) → AllProper (map (token_at source) l) → (k : ℕ) → get_or (kinds_of l) k 0 ≡ kind (Decimal 0) → Pointed (get_or (values_of l) k 0)
  decimal_in [] p zero e = absurd (omega (arith, e))
  decimal_in [] p (suc k) e = absurd (omega (arith, e))
  decimal_in (f ∷ l) p zero e = decimal_proper f.symbol _ p.0 e
  decimal_in (f ∷ l) p (suc k) e = decimal_in l p.1 k e

-- of any source, by the kind at a place of the list
pub number_small : (n : ℕ) (source : List ℕ) (k : ℕ) → get_or (kinds_of (scan n source).found) k 0 ≡ kind (Number 0) → get_or (values_of (scan n source).found) k 0 ≤ 2147483647
number_small n source k e = number_in_lem source (scan n source).found (source_proper n source) k e

pub decimal_small : (n : ℕ) (source : List ℕ) (k : ℕ) → get_or (kinds_of (scan n source).found) k 0 ≡ kind (Decimal 0) → Pointed (get_or (values_of (scan n source).found) k 0)
decimal_small n source k e = decimal_in source (scan n source).found (source_proper n source) k e
