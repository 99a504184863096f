-- What the last arm of a match on a symbol tells: its kind is none of those that the other arms have.
use mathlib.Core.Path.{◌≡◌, refl, sym, ap, ◌∙◌}
use mathlib.Core.Bool.{Bool, true, false, cond, ◌||◌}
use Prim.Native.Nat.{ℕ}
use borrow.Author.Tests.{eqb-true}
use denote.Enum.Declared.{tag_of}
use Rattle.symbols.specs.Symbols.{kind, is, value_of}
use Rattle.symbols.specs.model.Kinds.{symbol_of}
use Rattle.symbols.proofs.Stored.{given_back}
use Rattle.symbols.specs.Scan.{behind, ends_remark}
use Rattle.symbols.specs.declared.Context.TheVariants.{Opens, Plain, Remark}
use Rattle.symbols.specs.contracts.Symbol.{the_type}
use Rattle.symbols.specs.declared.Symbol.{Symbol}
use Rattle.symbols.specs.declared.Symbol.TheVariants.{Begin, End, If, Then, Else, For, Do, Step, Until, While, Comment, Integer, Boolean, Procedure, Value, True, False, And, Or, Not, Impl, Equiv, Plus, Minus, Times, Divide, Less, LessEqual, Equal, GreaterEqual, Greater, NotEqual, Comma, Colon, Becomes, Semicolon, Open, Close, Name, Number, Real, Slash, Decimal}

-- the compiler's numbers are the kinds
pub tag_kind : (s : Symbol) → tag_of the_type s ≡ kind s
tag_kind Begin = refl
tag_kind End = refl
tag_kind If = refl
tag_kind Then = refl
tag_kind Else = refl
tag_kind For = refl
tag_kind Do = refl
tag_kind Step = refl
tag_kind Until = refl
tag_kind While = refl
tag_kind Comment = refl
tag_kind Integer = refl
tag_kind Boolean = refl
tag_kind Procedure = refl
tag_kind Value = refl
tag_kind True = refl
tag_kind False = refl
tag_kind And = refl
tag_kind Or = refl
tag_kind Not = refl
tag_kind Impl = refl
tag_kind Equiv = refl
tag_kind Plus = refl
tag_kind Minus = refl
tag_kind Times = refl
tag_kind Divide = refl
tag_kind Less = refl
tag_kind LessEqual = refl
tag_kind Equal = refl
tag_kind GreaterEqual = refl
tag_kind Greater = refl
tag_kind NotEqual = refl
tag_kind Comma = refl
tag_kind Colon = refl
tag_kind Becomes = refl
tag_kind Semicolon = refl
tag_kind Open = refl
tag_kind Close = refl
tag_kind Name = refl
tag_kind (Number v) = refl
tag_kind Real = refl
tag_kind Slash = refl
tag_kind (Decimal w) = refl

-- a symbol that is not this one, which has no value, is of another kind
apart : (s t : Symbol) → ((v : ℕ) → symbol_of (kind t) v ≡ t) → (s ≡ t → ⊥) → is s t ≡ false
apart s t h n = go (is s t) refl
  where
    go : (u : Bool) → is s t ≡ u → u ≡ false
    go true e = absurd (n (sym (given_back s) ∙ ap (λ (k : ℕ). symbol_of k (value_of s)) (eqb-true (kind s) (kind t) e) ∙ h (value_of s)))
    go false e = refl

-- the two functions that match on a symbol
neither : {A : Type 0} (x y z : Bool) (a b d : A) → x ≡ false → y ≡ false → z ≡ false → cond (x || y) a (cond z b d) ≡ d
neither x y z a b d p q r = rw (p, q, r)

nor : (x y z : Bool) → x ≡ false → y ≡ false → z ≡ false → (x || y || z) ≡ false
nor x y z p q r = rw (p, q, r)

pub behind_other : (s : Symbol) → (s ≡ Semicolon → ⊥) → (s ≡ Begin → ⊥) → (s ≡ End → ⊥) → behind s ≡ Plain
unfolding behind symbol_of
behind_other s a b d = neither (is s Semicolon) (is s Begin) (is s End) Opens Remark Plain (apart s Semicolon (λ v. refl) a) (apart s Begin (λ v. refl) b) (apart s End (λ v. refl) d)

pub remark_other : (s : Symbol) → (s ≡ End → ⊥) → (s ≡ Else → ⊥) → (s ≡ Semicolon → ⊥) → ends_remark s ≡ false
unfolding ends_remark symbol_of
remark_other s a b d = nor (is s End) (is s Else) (is s Semicolon) (apart s End (λ v. refl) a) (apart s Else (λ v. refl) b) (apart s Semicolon (λ v. refl) d)
