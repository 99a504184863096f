-- The lines of the house layout found from left to right, by the kinds of the symbols alone: what a loop does. proofs/LinesLaid has the law that these are the
-- lines that the tree gives.
use Rattle.std.specs.Prelude.{ℕ, zero, suc, pred, ◌+◌, ◌-◌, Bool, true, false, cond, ◌||◌, List, [], ◌∷◌, eqb}
use Rattle.symbols.specs.Symbols.{kind}
use Rattle.symbols.specs.declared.Symbol.TheVariants.{Begin, End, If, Then, Else, Do, Integer, Boolean, Procedure, Value, Colon, Semicolon, Real}
use Rattle.clean.specs.House.{Mark, line, symbol}

-- what is open: a block whose 'begin' is at the level u, as suc u; a procedure body, as 0
abbrev pub top_level : List ℕ → ℕ
top_level [] = 0
top_level (zero ∷ st) = 0
top_level (suc u ∷ st) = u

abbrev pub below : List ℕ → List ℕ
below [] = []
below (x ∷ st) = st

-- behind the body of a procedure that `;` ends
abbrev pub base : List ℕ → List ℕ
base [] = []
base (zero ∷ st) = st
base (suc u ∷ st) = suc u ∷ st

abbrev pub peek : List ℕ → ℕ
peek [] = kind Colon
peek (k ∷ ks) = k

-- 'value', 'integer', 'Boolean' or 'real' goes on with a heading
abbrev pub headed : ℕ → Bool
headed k = eqb k (kind Value) || eqb k (kind Integer) || eqb k (kind Boolean) || eqb k (kind Real)

-- v: the level of the statement or declaration; st: what is open; x: how many conditional expressions wait for their 'else'; h: inside a heading;
-- f: a statement or declaration begins here
unfoldable pub lines : ℕ → List ℕ → ℕ → Bool → Bool → List ℕ → List Mark
lines v st x h f [] = []
lines v st x h f (k ∷ ks) =
    -- 'begin'; 'end'; `;`
    cond (eqb k (kind Begin)) (symbol k ∷ line (v + 1) ∷ lines (v + 1) (suc v ∷ st) x h true ks)
    (cond (eqb k (kind End)) (line (top_level st) ∷ symbol k ∷ lines (top_level st) (below st) x h false ks)
    (cond (eqb k (kind Semicolon))
    (symbol k
    ∷ cond h (line (v + 1) ∷ cond (headed (peek ks)) (lines v st x true false ks) (lines (v + 1) (0 ∷ st) x false true ks))
    (line (top_level (base st) + 1) ∷ lines (top_level (base st) + 1) (base st) x false true ks))
    -- 'if', 'then' and 'else', of a statement or of an expression; 'do'; 'procedure'
    (cond (eqb k (kind If)) (symbol k ∷ lines v st (cond f x (suc x)) h false ks)
    (cond (eqb k (kind Then)) (cond (eqb x 0) (symbol k ∷ line (v + 1) ∷ lines (v + 1) st x h true ks) (symbol k ∷ lines v st x h false ks))
    (cond (eqb k (kind Else)) (cond (eqb x 0) (line (v - 1) ∷ symbol k ∷ line v ∷ lines v st x h true ks) (symbol k ∷ lines v st (pred x) h false ks))
    (cond (eqb k (kind Do)) (symbol k ∷ line (v + 1) ∷ lines (v + 1) st x h true ks)
    (cond (eqb k (kind Procedure)) (symbol k ∷ lines v st x true false ks)
    (symbol k ∷ lines v st x h false ks))))))))
