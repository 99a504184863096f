-- The words that the first pass writes, of each part of a program and in source order, each for the symbol of a declaring name. They are one for each
-- row, of the same symbol, and symbols rise: so each is found by the number of its declaration.
use Prim.Native.Nat.{ℕ, suc, ◌+◌, ◌<◌, ◌≤◌}
use native.Mathlib.Omega.{arith}
use mathlib.Core.Path.{◌≡◌, refl, sym, ◌∙◌}
use mathlib.Core.List.{List, [], ◌∷◌, ◌++◌, append_assoc, append-nil}
use mathlib.Core.Option.{some}
use lib.ListN.{length, get_or}
use borrow.Author.Tests.{eq-eqb, ne_eqb}
use Rattle.grammar.specs.NodeKinds.{n_variable, n_formal}
use Rattle.names.specs.Program.{Name, Statement, dummy, assignment, procedure, when, either, repeat, compound, block, Statements, last, first, Declarations, none as no_more, variables, declare, Procedure, heading}
use Rattle.names.specs.Scopes.{of_block, of_body}
use Rattle.names.specs.Nodes.{sort_number}
use Rattle.names.specs.Outline.{size_s, size_d, size_p, formal_in, rows_n, rows_s, rows_ss, rows_d, rows_p}
use Rattle.rules.specs.Entered.{cells_in, one_if}
use Rattle.emitting.specs.model.Layout.{packed, among_for}
use Rattle.translating.proofs.Shown.{shown, shown_get}
use Rattle.names.proofs.Rising.{Rising, no_more, next}
use Rattle.translating.proofs.Rising.{seconds, RowsRise}
use Rattle.translating.proofs.Sites.{number_of}
use Rattle.translating.proofs.Counts.{many_s, many_ds, many_p}

-- a word, and the symbol of the declaring name that it tells of
pub record Written : Type 0 where
  pub symbol : ℕ
  pub word : ℕ

abbrev pub written : ℕ → ℕ → Written
written k w = record { symbol = k; word = w }

-- ---- those of a part: u activations are around, o cells of the running one's scopes, n declarations and formals before

-- formals, whose cells lie in their order
unfoldable pub written_n : ℕ → ℕ → List Name → List Written
written_n u o [] = []
written_n u o (x ∷ xs) = written x.symbol (packed u o 0) ∷ written_n u (o + 1) xs

-- rows: of the program, which tell where a variable lies among the cells of its block
module _ (rows : List ℕ) where
  -- variables of a block whose first cell is at o
  unfoldable pub written_v : ℕ → ℕ → ℕ → List Name → List Written
  written_v u o n [] = []
  written_v u o n (x ∷ xs) = written x.symbol (packed u (o + among_for rows n) 0) ∷ written_v u o (n + 1) xs

  unfoldable mutual
    pub written_s : ℕ → ℕ → ℕ → Statement → List Written
    written_s u o n dummy = []
    written_s u o n (assignment x xs q e) = []
    written_s u o n (procedure x es) = []
    written_s u o n (when q c s) = written_s u o n s
    written_s u o n (either q c s t) = written_s u o n s ++ written_s u o (n + many_s s) t
    written_s u o n (repeat x l ls s) = written_s u o n s
    written_s u o n (compound ss) = written_ss u o n ss
    written_s u o n (block q ds ss) = written_d u o n ds ++ written_ss u (o + cells_in (of_block ds)) (n + many_ds ds) ss

    pub written_ss : ℕ → ℕ → ℕ → Statements → List Written
    written_ss u o n (last s) = written_s u o n s
    written_ss u o n (first s ss) = written_s u o n s ++ written_ss u o (n + many_s s) ss

    pub written_d : ℕ → ℕ → ℕ → Declarations → List Written
    written_d u o n no_more = []
    written_d u o n (variables t xs ds) = written_v u o n xs ++ written_d u o (n + length xs) ds
    written_d u o n (declare p ds) = written_p u n p ++ written_d u o (n + many_p p) ds

    pub written_p : ℕ → ℕ → Procedure → List Written
    written_p u n (heading t f xs vs ss s) =
        written f.symbol (packed u (one_if t) 0)
        ∷ (written_n (suc u) (one_if t) xs ++ written_s (suc u) (cells_in (of_body (heading t f xs vs ss s))) (n + 1 + length xs) s)

-- ---- one word for each row, of the same symbol

pub data Alike : List ℕ → List Written → Type 0 where
  no_word : Alike [] []
  a_word : {k s q t w : ℕ} {rs : List ℕ} {ws : List Written} → Alike rs ws → Alike (k ∷ s ∷ q ∷ t ∷ rs) (written s w ∷ ws)

pub alike_append : {rs rs' : List ℕ} {ws ws' : List Written} → Alike rs ws → Alike rs' ws' → Alike (rs ++ rs') (ws ++ ws')
alike_append no_word b = b
alike_append (a_word a) b = a_word (alike_append a b)

alike_n : (k q : ℕ) (t : Name → ℕ) (u o : ℕ) (xs : List Name) → Alike (rows_n k q t xs) (written_n u o xs)
unfolding rows_n written_n
alike_n k q t u o [] = no_word
alike_n k q t u o (x ∷ xs) = a_word (alike_n k q t u (o + 1) xs)

module _ (rows : List ℕ) where
  alike_v : (k q : ℕ) (t : Name → ℕ) (u o n : ℕ) (xs : List Name) → Alike (rows_n k q t xs) (written_v rows u o n xs)
  unfolding rows_n written_v
  alike_v k q t u o n [] = no_word
  alike_v k q t u o n (x ∷ xs) = a_word (alike_v k q t u o (n + 1) xs)

  mutual
    unfolding rows_s written_s

    alike_s : (c q u o n : ℕ) (s : Statement) → Alike (rows_s c q s) (written_s rows u o n s)
    alike_s c q u o n dummy = no_word
    alike_s c q u o n (assignment x xs p e) = no_word
    alike_s c q u o n (procedure x es) = no_word
    alike_s c q u o n (when p e s) = alike_s c q u o n s
    alike_s c q u o n (either p e s t) = alike_append (alike_s c q u o n s) (alike_s (c + size_s s) q u o (n + many_s s) t)
    alike_s c q u o n (repeat x l ls s) = alike_s c q u o n s
    alike_s c q u o n (compound ss) = alike_ss c q u o n ss
    alike_s c q u o n (block p ds ss) =
        alike_append (alike_d (c + 1) (c + 1) u o n ds) (alike_ss (c + 1 + size_d ds) (c + 1) u (o + cells_in (of_block ds)) (n + many_ds ds) ss)

    alike_ss : (c q u o n : ℕ) (ss : Statements) → Alike (rows_ss c q ss) (written_ss rows u o n ss)
    alike_ss c q u o n (last s) = alike_s c q u o n s
    alike_ss c q u o n (first s ss) = alike_append (alike_s c q u o n s) (alike_ss (c + size_s s) q u o (n + many_s s) ss)

    alike_d : (c q u o n : ℕ) (ds : Declarations) → Alike (rows_d c q ds) (written_d rows u o n ds)
    alike_d c q u o n no_more = no_word
    alike_d c q u o n (variables t xs ds) = alike_append (alike_v n_variable q (λ x. sort_number (some t)) u o n xs) (alike_d c q u o (n + length xs) ds)
    alike_d c q u o n (declare p ds) = alike_append (alike_p c q u n p) (alike_d (c + size_p p) q u o (n + many_p p) ds)

    alike_p : (c q u n : ℕ) (p : Procedure) → Alike (rows_p c q p) (written_p rows u n p)
    alike_p c q u n (heading t f xs vs ss s) =
        a_word (alike_append (alike_n n_formal (c + 1) (formal_in vs ss) (suc u) (one_if t) xs) (alike_s (c + 1) (c + 1) (suc u) (cells_in (of_body (heading t f xs vs ss s))) (n + 1 + length xs) s))

-- ---- the words one after the other

unfoldable pub writes : List ℕ → List Written → List ℕ
writes l [] = l
writes l (w ∷ ws) = writes (l ++ (w.word ∷ [])) ws

pub writes_append : (l : List ℕ) (ws ws' : List Written) → writes l (ws ++ ws') ≡ writes (writes l ws) ws'
unfolding writes
writes_append l [] ws' = refl
writes_append l (w ∷ ws) ws' = writes_append (l ++ (w.word ∷ [])) ws ws'

abbrev pub words_of : List Written → List ℕ
words_of [] = []
words_of (w ∷ ws) = w.word ∷ words_of ws

pub writes_are : (l : List ℕ) (ws : List Written) → writes l ws ≡ l ++ words_of ws
unfolding writes
writes_are l [] = sym (append-nil l)
writes_are l (w ∷ ws) = writes_are (l ++ (w.word ∷ [])) ws ∙ append_assoc l (w.word ∷ []) (words_of ws)

-- ---- each is found in the table L, by its number

abbrev pub Found : (ℕ → ℕ) → List ℕ → List Written → Type 0
Found key L [] = Unit {0}
Found key L (w ∷ ws) = (get_or L (key w.symbol) 0 ≡ w.word) × Found key L ws

pub found_split : (key : ℕ → ℕ) (L : List ℕ) (ws ws' : List Written) → Found key L (ws ++ ws') → Found key L ws × Found key L ws'
found_split key L [] ws' h = (tt, h)
found_split key L (w ∷ ws) ws' h = let r = found_split key L ws ws' h.1 in ((h.0, r.0), r.1)

found_as : (key : ℕ → ℕ) (L L' : List ℕ) → ((i : ℕ) → get_or L' i 0 ≡ get_or L i 0) → (ws : List Written) → Found key L ws → Found key L' ws
found_as key L L' e [] h = tt
found_as key L L' e (w ∷ ws) h = (e (key w.symbol) ∙ h.0, found_as key L L' e ws h.1)

-- behind one row more, of another symbol
later : (k x q t v : ℕ) (rs L : List ℕ) {rs' : List ℕ} {ws : List Written} {a b : ℕ} → Alike rs' ws → Rising a b (seconds rs') → x < a → Found (number_of rs) L ws
    → Found (number_of (k ∷ x ∷ q ∷ t ∷ rs)) (v ∷ L) ws
unfolding number_of
later k x q t v rs L no_word (no_more l) h f = tt
later k x q t v rs L (a_word {s = s} a) (next l r) h f = (rw (ne_eqb x s (λ e. omega arith)) f.0, later k x q t v rs L a r (omega arith) f.1)

all_found : {rs : List ℕ} {ws : List Written} {a b : ℕ} → Alike rs ws → Rising a b (seconds rs) → Found (number_of rs) (words_of ws) ws
unfolding number_of
all_found no_word (no_more l) = tt
all_found (a_word {k = k} {s = s} {q = q} {t = t} {w = w} {rs = rs} {ws = ws} a) (next l r) =
    (rw (eq-eqb s s refl) refl, later k s q t w rs (words_of ws) a r (omega arith) (all_found a r))

few : {rs : List ℕ} {ws : List Written} {a b : ℕ} → Alike rs ws → Rising a b (seconds rs) → a + length (words_of ws) ≤ b
few no_word (no_more l) = omega arith
few (a_word a) (next l r) = let z = few a r in omega arith

-- in an array with room for all
pub found_in_lem : (n N : ℕ) → n ≤ N → {rs : List ℕ} {ws : List Written} → Alike rs ws → RowsRise 0 n rs → Found (number_of rs) (shown N (words_of ws)) ws
found_in_lem n N h {rs} {ws} a r =
    let z = few a r.1 in
    found_as (number_of rs) (words_of ws) (shown N (words_of ws)) (λ i. shown_get N (words_of ws) i (omega arith)) ws (all_found a r.1)

-- of a program
pub found : (n : ℕ) → n ≤ 2048 → (s : Statement) → RowsRise 0 n (rows_s 0 0 s)
    → let ws : List Written = written_s (rows_s 0 0 s) 0 0 0 s in
    Found (number_of (rows_s 0 0 s)) (shown 2048 (words_of ws)) ws
found n h s r = found_in_lem n 2048 h (alike_s (rows_s 0 0 s) 0 0 0 0 0 s) r
