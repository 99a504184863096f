-- The rows of a block's variables among the rows of a program: no other scope has its number, so counted in all rows are its own variables alone. So the
-- rows tell how many variables of each type a block has, and how many of its type stand before a variable. Assumes nothing.
use Prim.Native.Nat.{ℕ, ◌+◌, ◌*◌, ◌≤◌, ◌<◌}
use native.Mathlib.Omega.{arith}
use native.Mathlib.Nat.{mod-eq_of_lt}
use mathlib.Core.Path.{◌≡◌, refl, sym, ap, ◌∙◌}
use mathlib.Core.Bool.{Bool, true, false, cond, ◌&&◌}
use mathlib.Core.List.{List, [], ◌∷◌, ◌++◌, append_assoc, append-nil}
use mathlib.Core.Option.{some}
use lib.Dec.{eqb}
use lib.ListN.{length, get_or, take, drop, length-append}
use lib.Seq.{take-append_seam, drop-append_seam, get_or-drop}
use borrow.Author.Tests.{eq-eqb, ne_eqb}
use Rattle.machine.specs.Instructions.{pack_counted}
use Rattle.grammar.specs.NodeKinds.{n_variable, n_procedure, n_formal}
use Rattle.names.specs.Program.{Name, Sort, integer, boolean, real, Statement, dummy, assignment, procedure, when, either, repeat, compound, block, Statements, last, first, Declarations, none as no_more, variables, declare, Procedure, heading}
use Rattle.names.specs.Scopes.{Declared, in_block, variables_in}
use Rattle.names.specs.Nodes.{node, sort_number}
use Rattle.names.specs.Outline.{size_s, size_ss, size_d, size_p, formal_in, rows_n, rows_s, rows_ss, rows_d, rows_p}
use Rattle.names.specs.model.Rows.{fold_nodes}
use Rattle.names.proofs.TreeLaws.{Rows, empty, row, rows_append, rows_so, rows_names}
use Rattle.names.proofs.RowBounds.{rows_s_in, rows_ss_in, rows_d_in, rows_p_in}
use Rattle.rules.specs.Entered.{one_type, variables_of, counted, first_of}
use Rattle.emitting.specs.model.Layout.{is_of, counting, count_of, first_for, among_for, counts_for}
use Rattle.translation.specs.model.Sizes.{symbols_s, symbols_ss, symbols_ds, symbols_p}
use Rattle.rules.proofs.Declarations.{first_most}
use Rattle.translation.proofs.Ranges.{block_cells}
use Rattle.translating.proofs.Counts.{many_s, many_ss, many_ds, many_p, Declares, HeadedS, HeadedSs, HeadedDs, HeadedP, CountsS, CountsSs, CountsDs, CountsP}

-- ---- rows, counted

abbrev one_where : Bool → ℕ
one_where b = cond b 1 0

one_more : (b : Bool) (n : ℕ) → cond b (n + 1) n ≡ n + one_where b
one_more true n = refl
one_more false n = omega arith

count_from : {R : ℕ → Type 0} (q t n : ℕ) {a : List ℕ} → Rows R a → fold_nodes (counting q t) a n ≡ n + count_of q t a
unfolding fold_nodes counting count_of
count_from q t n empty = omega arith
count_from q t n (row {k} {s} {q = p} {t = u} r h) =
    let b = is_of q t k p u in
    omega (arith, count_from q t (cond b (n + 1) n) h, count_from q t (cond b (0 + 1) 0) h, one_more b n, one_more b 0)

count_row : {R : ℕ → Type 0} (q t k s p u : ℕ) {a : List ℕ} → Rows R a → count_of q t (k ∷ s ∷ p ∷ u ∷ a) ≡ one_where (is_of q t k p u) + count_of q t a
unfolding fold_nodes counting count_of
count_row q t k s p u h = count_from q t (cond (is_of q t k p u) (0 + 1) 0) h

fold_append : {R : ℕ → Type 0} (q t n : ℕ) {a : List ℕ} (b : List ℕ) → Rows R a → fold_nodes (counting q t) (a ++ b) n ≡ fold_nodes (counting q t) b (fold_nodes (counting q t) a n)
unfolding fold_nodes
fold_append q t n b empty = refl
fold_append q t n b (row {k} {s} {q = p} {t = u} r h) = fold_append q t (counting q t k s p u n) b h

count_append : {R S : ℕ → Type 0} (q t : ℕ) {a b : List ℕ} → Rows R a → Rows S b → count_of q t (a ++ b) ≡ count_of q t a + count_of q t b
unfolding count_of
count_append q t {a} {b} h i = fold_append q t 0 b h ∙ count_from q t (count_of q t a) i

-- of another scope there is none
no_scope : (a c : Bool) → one_where (a && (false && c)) ≡ 0
no_scope true c = refl
no_scope false c = refl

other_row : (q t k p u : ℕ) → (p ≡ q → ⊥) → one_where (is_of q t k p u) ≡ 0
unfolding is_of
other_row q t k p u h = rw (ne_eqb p q h) (no_scope (eqb k n_variable) (eqb u t))

abbrev Not : ℕ → ℕ → Type 0
Not q r = r ≡ q → ⊥

count_others : (q t : ℕ) {a : List ℕ} → Rows (Not q) a → count_of q t a ≡ 0
unfolding fold_nodes count_of
count_others q t empty = refl
count_others q t (row {k} {s} {q = p} {t = u} r h) = omega (arith, other_row q t k p u r, count_row q t k s p u h, count_others q t h)

-- ---- the rows of a block's declarations have its variables, and no others of its scope

abbrev Any : ℕ → Type 0
Any r = Unit {0}

any : {R : ℕ → Type 0} {a : List ℕ} → Rows R a → Rows Any a
any h = rows_so (λ q r. tt) h

abbrev type_number : Sort → ℕ
type_number t = sort_number (some t)

same_type : (t r : Sort) → one_where (eqb (type_number r) (type_number t)) ≡ one_type t r
same_type integer integer = refl
same_type integer boolean = refl
same_type integer real = refl
same_type boolean integer = refl
same_type boolean boolean = refl
same_type boolean real = refl
same_type real integer = refl
same_type real boolean = refl
same_type real real = refl

variable_row : (q : ℕ) (t r : Sort) → one_where (is_of q (type_number t) n_variable q (type_number r)) ≡ one_type t r
unfolding is_of
variable_row q t r = rw (eq-eqb q q refl) (same_type t r)

count_variables : (q : ℕ) (t r : Sort) (xs : List Name) → count_of q (type_number t) (rows_n n_variable q (λ x. type_number r) xs) ≡ variables_of t (variables_in r xs)
unfolding rows_n variables_in variables_of count_of fold_nodes
count_variables q t r [] = refl
count_variables q t r (x ∷ xs) =
    omega (arith, count_row q (type_number t) n_variable x.symbol q (type_number r) (rows_names Any n_variable q (λ x. type_number r) xs tt), variable_row q t r, count_variables q t r xs)

pub variables_append : (t : Sort) (l m : List Declared) → variables_of t (l ++ m) ≡ variables_of t l + variables_of t m
unfolding variables_of
variables_append t [] m = omega arith
variables_append t (d ∷ l) m = omega (arith, variables_append t l m)

procedure_row : (q t u : ℕ) → one_where (is_of q t n_procedure q u) ≡ 0
unfolding is_of
procedure_row q t u = refl

count_procedure : (q t c : ℕ) (p : Procedure) → q ≤ c → count_of q t (rows_p c q p) ≡ 0
unfolding rows_s
count_procedure q t c (heading r f xs vs ss s) h =
    let apart : Rows (Not q) (rows_n n_formal (c + 1) (formal_in vs ss) xs ++ rows_s (c + 1) (c + 1) s) =
    rows_append (rows_names (Not q) n_formal (c + 1) (formal_in vs ss) xs (λ e. omega arith)) (rows_so (λ r b e. omega arith) (rows_s_in c (c + 1 + size_s s) (c + 1) (c + 1) s (omega arith) (omega arith))) in
    omega (arith, count_row q t n_procedure f.symbol q (sort_number r) apart, procedure_row q t (sort_number r), count_others q t apart)

any_rows : (c q : ℕ) (ds : Declarations) → 0 < q → q ≤ c → Rows Any (rows_d c q ds)
any_rows c q ds h i = any (rows_d_in 0 (c + size_d ds) c q ds h (omega arith) (omega arith) (omega arith))

any_procedure : (c q : ℕ) (p : Procedure) → 0 < q → q ≤ c → Rows Any (rows_p c q p)
any_procedure c q p h i = any (rows_p_in 0 (c + size_p p) c q p h (omega arith) (omega arith) (omega arith))

count_block : (t : Sort) (c q : ℕ) (ds : Declarations) → 0 < q → q ≤ c → count_of q (type_number t) (rows_d c q ds) ≡ variables_of t (in_block ds)
unfolding rows_s in_block variables_of count_of fold_nodes
count_block t c q no_more h i = refl
count_block t c q (variables r xs ds) h i =
    omega
    (arith, count_append q (type_number t) (rows_names Any n_variable q (λ x. type_number r) xs tt) (any_rows c q ds h i), count_variables q t r xs, variables_append t (variables_in r xs) (in_block ds), count_block t c q ds h i)
count_block t c q (declare p ds) h i =
    let j : q ≤ c + size_p p = omega arith in
    omega
    (arith, count_append q (type_number t) (any_procedure c q p h i) (any_rows (c + size_p p) q ds h j), count_procedure q (type_number t) c p i, count_block t (c + size_p p) q ds h j)

-- ---- as many rows as declarations and formals

long_names : (k q : ℕ) (t : Name → ℕ) (xs : List Name) → length (rows_n k q t xs) ≡ 4 * length xs
unfolding rows_n
long_names k q t [] = refl
long_names k q t (x ∷ xs) = omega (arith, long_names k q t xs)

mutual
  unfolding rows_s many_s

  long_s : (c q : ℕ) (s : Statement) → length (rows_s c q s) ≡ 4 * many_s s
  long_s c q dummy = refl
  long_s c q (assignment x xs p e) = refl
  long_s c q (procedure x es) = refl
  long_s c q (when p e s) = long_s c q s
  long_s c q (either p e s t) = omega (arith, length-append (rows_s c q s) (rows_s (c + size_s s) q t), long_s c q s, long_s (c + size_s s) q t)
  long_s c q (repeat x l ls s) = long_s c q s
  long_s c q (compound ss) = long_ss c q ss
  long_s c q (block p ds ss) =
      let i = c + 1 + size_d ds in
      omega (arith, length-append (rows_d (c + 1) (c + 1) ds) (rows_ss i (c + 1) ss), long_d (c + 1) (c + 1) ds, long_ss i (c + 1) ss)

  long_ss : (c q : ℕ) (ss : Statements) → length (rows_ss c q ss) ≡ 4 * many_ss ss
  long_ss c q (last s) = long_s c q s
  long_ss c q (first s ss) = omega (arith, length-append (rows_s c q s) (rows_ss (c + size_s s) q ss), long_s c q s, long_ss (c + size_s s) q ss)

  long_d : (c q : ℕ) (ds : Declarations) → length (rows_d c q ds) ≡ 4 * many_ds ds
  long_d c q no_more = refl
  long_d c q (variables t xs ds) =
      omega (arith, length-append (rows_n n_variable q (λ x. type_number t) xs) (rows_d c q ds), long_names n_variable q (λ x. type_number t) xs, long_d c q ds)
  long_d c q (declare p ds) = omega (arith, length-append (rows_p c q p) (rows_d (c + size_p p) q ds), long_p c q p, long_d (c + size_p p) q ds)

  long_p : (c q : ℕ) (p : Procedure) → length (rows_p c q p) ≡ 4 * many_p p
  long_p c q (heading t f xs vs ss s) =
      omega (arith, length-append (rows_n n_formal (c + 1) (formal_in vs ss) xs) (rows_s (c + 1) (c + 1) s), long_names n_formal (c + 1) (formal_in vs ss) xs, long_s (c + 1) (c + 1) s)

-- ---- in a block of the scope q, which declares `all`: the rows w stand from the number n on, and before them k variables of each type

pub record Among (rows : List ℕ) (q : ℕ) (all : List Declared) (k : Sort → ℕ) (n : ℕ) (w : List ℕ) : Type 0 where
  before : List ℕ
  behind : List ℕ
  so : rows ≡ before ++ (w ++ behind)
  long : length before ≡ 4 * n
  whole : Rows Any before
  earlier : (t : Sort) → count_of q (type_number t) before ≡ k t
  counts : (t : Sort) → count_of q (type_number t) rows ≡ variables_of t all

-- a word of the next row
next_word : (rows u v : List ℕ) (n i : ℕ) → rows ≡ u ++ v → length u ≡ 4 * n → get_or rows (4 * n + i) 0 ≡ get_or v i 0
next_word rows u v n i e h =
    rw (← h) (sym (get_or-drop (length u) rows i 0) ∙ ap (λ (l : List ℕ). get_or (drop (length u) l) i 0) e ∙ ap (λ (l : List ℕ). get_or l i 0) (drop-append_seam u v))

first_for_lem : (rows : List ℕ) (q : ℕ) (all : List Declared) (t : Sort) → ((t : Sort) → count_of q (type_number t) rows ≡ variables_of t all) → first_for q (type_number t) rows ≡ first_of t all
unfolding first_for
first_for_lem rows q all integer h = refl
first_for_lem rows q all real h = h integer
first_for_lem rows q all boolean h = omega (arith, h integer, h real)

-- the place of a variable among the cells of its block
pub among_is : {rows : List ℕ} {q : ℕ} {all : List Declared} {k : Sort → ℕ} {n : ℕ} {w : List ℕ} (x : ℕ) (t : Sort) → Among rows q all k n (node n_variable x q (type_number t) ++ w)
    → among_for rows n ≡ first_of t all + k t
unfolding among_for
among_is {rows} {q} {all} {k} {n} {w} x t a =
    let v : List ℕ = n_variable ∷ x ∷ q ∷ type_number t ∷ (w ++ a.behind) in
    let e : take (4 * n) rows ≡ a.before = ap (λ (l : List ℕ). take (4 * n) l) a.so ∙ ap (λ (i : ℕ). take i (a.before ++ v)) (sym a.long) ∙ take-append_seam a.before v in
    rw (next_word rows a.before v n 2 a.so a.long, next_word rows a.before v n 3 a.so a.long, e, first_for_lem rows q all t a.counts, a.earlier t)

-- behind some rows, which have i variables of each type and are as many as m declarations and formals
further : {rows : List ℕ} {q : ℕ} {all : List Declared} {k : Sort → ℕ} {n : ℕ} {v w : List ℕ} (i : Sort → ℕ) (m : ℕ) → Rows Any v → ((t : Sort) → count_of q (type_number t) v ≡ i t) → length v ≡ 4 * m
    → Among rows q all k n (v ++ w) → Among rows q all (λ t. k t + i t) (n + m) w
further {q = q} {v = v} {w = w} i m h c l a =
    record {
      before = a.before ++ v;
      behind = a.behind;
      so = a.so ∙ ap (λ (z : List ℕ). a.before ++ z) (append_assoc v w a.behind) ∙ sym (append_assoc a.before v (w ++ a.behind));
      long = omega (arith, length-append a.before v, a.long);
      whole = rows_append a.whole h;
      earlier = λ t. omega (arith, count_append q (type_number t) a.whole h, a.earlier t, c t);
      counts = a.counts;
    }

pub next_variable : {rows : List ℕ} {q : ℕ} {all : List Declared} {k : Sort → ℕ} {n : ℕ} {w : List ℕ} (x : ℕ) (t : Sort) → Among rows q all k n (node n_variable x q (type_number t) ++ w)
    → Among rows q all (λ r. k r + one_type r t) (n + 1) w
unfolding count_of fold_nodes
next_variable {q = q} x t a =
    let z : Rows Any [] = empty in
    further (λ r. one_type r t) 1 (row tt z) (λ r. omega (arith, count_row q (type_number r) n_variable x q (type_number t) z, variable_row q r t)) refl a

pub past_variables : {rows : List ℕ} {q : ℕ} {all : List Declared} {k : Sort → ℕ} {n : ℕ} {w : List ℕ} (t : Sort) (xs : List Name) → Among rows q all k n (rows_n n_variable q (λ x. type_number t) xs ++ w)
    → Among rows q all (λ r. k r + variables_of r (variables_in t xs)) (n + length xs) w
past_variables {q = q} t xs a =
    further (λ r. variables_of r (variables_in t xs)) (length xs) (rows_names Any n_variable q (λ x. type_number t) xs tt) (λ r. count_variables q r t xs) (long_names n_variable q (λ x. type_number t) xs) a

pub next_procedure : {rows : List ℕ} {q : ℕ} {all : List Declared} {k : Sort → ℕ} {n : ℕ} {w : List ℕ} (c : ℕ) (p : Procedure) → 0 < q → q ≤ c → Among rows q all k n (rows_p c q p ++ w)
    → Among rows q all (λ r. k r + 0) (n + many_p p) w
next_procedure {q = q} c p h i a = further (λ r. 0) (many_p p) (any_procedure c q p h i) (λ r. count_procedure q (type_number r) c p i) (long_p c q p) a

-- the declarations of a block stand from the number n on
pub record BlockAt (rows : List ℕ) (n : ℕ) (ds : Declarations) : Type 0 where
  pub scope : ℕ
  pub scopes : ℕ
  pub some : 0 < scope
  pub known : scope ≤ scopes
  pub stands : Among rows scope (in_block ds) (λ t. 0) n (rows_d scopes scope ds)

-- ---- where the parts of a program stand: the rows w from the number n on; scopes before them have numbers up to c, and those behind none above c up to e

abbrev Outside : ℕ → ℕ → ℕ → Type 0
Outside c e r = c < r → e < r

record Within (rows : List ℕ) (c e n : ℕ) (w : List ℕ) : Type 0 where
  before : List ℕ
  behind : List ℕ
  so : rows ≡ before ++ (w ++ behind)
  long : length before ≡ 4 * n
  earlier : Rows (λ r. r ≤ c) before
  others : Rows (Outside c e) behind

in_first : {rows : List ℕ} {c e n : ℕ} {u v : List ℕ} (c' e' : ℕ) → c ≤ c' → e' ≤ e → Rows (Outside c' e') v → Within rows c e n (u ++ v) → Within rows c' e' n u
in_first {u = u} {v = v} c' e' h i o a =
    record {
      before = a.before;
      behind = v ++ a.behind;
      so = a.so ∙ ap (λ (z : List ℕ). a.before ++ z) (append_assoc u v a.behind);
      long = a.long;
      earlier = rows_so (λ r b. omega arith) a.earlier;
      others = rows_append o (rows_so (λ r f b. let g = f (omega arith) in omega arith) a.others);
    }

in_second : {rows : List ℕ} {c e n : ℕ} {u v : List ℕ} (c' e' m : ℕ) → c ≤ c' → e' ≤ e → length u ≡ 4 * m → Rows (λ r. r ≤ c') u → Within rows c e n (u ++ v) → Within rows c' e' (n + m) v
in_second {u = u} {v = v} c' e' m h i l o a =
    record {
      before = a.before ++ u;
      behind = a.behind;
      so = a.so ∙ ap (λ (z : List ℕ). a.before ++ z) (append_assoc u v a.behind) ∙ sym (append_assoc a.before u (v ++ a.behind));
      long = omega (arith, length-append a.before u, a.long);
      earlier = rows_append (rows_so (λ r b. omega arith) a.earlier) o;
      others = rows_so (λ r f b. let g = f (omega arith) in omega arith) a.others;
    }

-- declarations have their block's scope and those that they open
rows_d_outside : (d c q : ℕ) (ds : Declarations) → q ≤ d → Rows (Outside d c) (rows_d c q ds)
unfolding rows_s size_s
rows_d_outside d c q no_more h = empty
rows_d_outside d c q (variables t xs ds) h = rows_append (rows_names (Outside d c) n_variable q (λ x. type_number t) xs (λ i. omega arith)) (rows_d_outside d c q ds h)
rows_d_outside d c q (declare (heading t f xs vs ss s) ds) h =
    rows_append
    (row (λ i. omega arith)
    (rows_append (rows_names (Outside d c) n_formal (c + 1) (formal_in vs ss) xs (λ i. omega arith)) (rows_so (λ r b i. omega arith) (rows_s_in c (c + 1 + size_s s) (c + 1) (c + 1) s (omega arith) (omega arith)))))
    (rows_so (λ r f i. let g = f i in omega arith) (rows_d_outside d (c + (1 + size_s s)) q ds h))

-- so no other scope has a block's number
block_at : {rows : List ℕ} {c e n : ℕ} (ds : Declarations) (w : List ℕ) → c < e → Rows (Not (c + 1)) w → Within rows c e n (rows_d (c + 1) (c + 1) ds ++ w) → BlockAt rows n ds
block_at {rows} {c} {e} {n} ds w h o a =
    let v : List ℕ = rows_d (c + 1) (c + 1) ds in
    let rest : Rows (Not (c + 1)) (w ++ a.behind) = rows_append o (rows_so (λ r f i. let g = f (omega arith) in omega arith) a.others) in
    let before : Rows (Not (c + 1)) a.before = rows_so (λ r b i. omega arith) a.earlier in
    let whole : Rows Any v = any_rows (c + 1) (c + 1) ds (omega arith) (omega arith) in
    let so : rows ≡ a.before ++ (v ++ (w ++ a.behind)) = a.so ∙ ap (λ (z : List ℕ). a.before ++ z) (append_assoc v w a.behind) in
    record {
      scope = c + 1;
      scopes = c + 1;
      some = omega arith;
      known = omega arith;
      stands =
          record {
            before = a.before;
            behind = w ++ a.behind;
            so = so;
            long = a.long;
            whole = any before;
            earlier = λ t. count_others (c + 1) (type_number t) before;
            counts = λ t.
                ap (count_of (c + 1) (type_number t)) so
                ∙ omega
                (arith, count_append (c + 1) (type_number t) before (rows_append whole (any rest)), count_append (c + 1) (type_number t) whole rest, count_others (c + 1) (type_number t) before, count_others (c + 1) (type_number t) rest, count_block t (c + 1) (c + 1) ds (omega arith) (omega arith));
          };
    }

-- ---- every block of a tree stands in the rows, n declarations and formals being before the tree

module _ (rows : List ℕ) where
  abbrev mutual
    pub AtS : ℕ → Statement → Type 0
    AtS n dummy = Unit {0}
    AtS n (assignment x xs q e) = Unit {0}
    AtS n (procedure x es) = Unit {0}
    AtS n (when q c s) = AtS n s
    AtS n (either q c s t) = AtS n s × AtS (n + many_s s) t
    AtS n (repeat x l ls s) = AtS n s
    AtS n (compound ss) = AtSs n ss
    AtS n (block q ds ss) = BlockAt rows n ds × AtDs n ds × AtSs (n + many_ds ds) ss

    pub AtSs : ℕ → Statements → Type 0
    AtSs n (last s) = AtS n s
    AtSs n (first s ss) = AtS n s × AtSs (n + many_s s) ss

    pub AtDs : ℕ → Declarations → Type 0
    AtDs n no_more = Unit {0}
    AtDs n (variables t xs ds) = AtDs (n + length xs) ds
    AtDs n (declare p ds) = AtP n p × AtDs (n + many_p p) ds

    pub AtP : ℕ → Procedure → Type 0
    AtP n (heading t f xs vs ss s) = AtS (n + 1 + length xs) s

  mutual
    unfolding rows_s size_s

    at_s : (c q n : ℕ) (s : Statement) → Within rows c (c + size_s s) n (rows_s c q s) → AtS n s
    at_s c q n dummy a = tt
    at_s c q n (assignment x xs p e) a = tt
    at_s c q n (procedure x es) a = tt
    at_s c q n (when p e s) a = at_s c q n s a
    at_s c q n (either p e s t) a =
        let i = c + size_s s in (
          at_s c q n s (in_first c i (omega arith) (omega arith) (rows_so (λ r b h. b.0) (rows_s_in i (i + size_s t) i q t (omega arith) (omega arith))) a),
          at_s i q (n + many_s s) t (in_second i (i + size_s t) (many_s s) (omega arith) (omega arith) (long_s c q s) (rows_so (λ r b. b.1) (rows_s_in c i c q s (omega arith) (omega arith))) a),
        )
    at_s c q n (repeat x l ls s) a = at_s c q n s a
    at_s c q n (compound ss) a = at_ss c q n ss a
    at_s c q n (block p ds ss) a =
        let j = c + 1 in
        let i = j + size_d ds in
        let m : Rows (λ r. (i < r) × (r ≤ i + size_ss ss)) (rows_ss i j ss) = rows_ss_in i (i + size_ss ss) i j ss (omega arith) (omega arith) in (
          block_at ds (rows_ss i j ss) (omega arith) (rows_so (λ r b e. omega arith) m) a,
          at_d j j n ds (omega arith) (omega arith) (in_first j i (omega arith) (omega arith) (rows_so (λ r b h. b.0) m) a),
          at_ss i j (n + many_ds ds) ss (in_second i (i + size_ss ss) (many_ds ds) (omega arith) (omega arith) (long_d j j ds) (rows_so (λ r b. b.1) (rows_d_in c i j j ds (omega arith) (omega arith) (omega arith) (omega arith))) a),
        )

    at_ss : (c q n : ℕ) (ss : Statements) → Within rows c (c + size_ss ss) n (rows_ss c q ss) → AtSs n ss
    at_ss c q n (last s) a = at_s c q n s a
    at_ss c q n (first s ss) a =
        let i = c + size_s s in (
          at_s c q n s (in_first c i (omega arith) (omega arith) (rows_so (λ r b h. b.0) (rows_ss_in i (i + size_ss ss) i q ss (omega arith) (omega arith))) a),
          at_ss i q (n + many_s s) ss (in_second i (i + size_ss ss) (many_s s) (omega arith) (omega arith) (long_s c q s) (rows_so (λ r b. b.1) (rows_s_in c i c q s (omega arith) (omega arith))) a),
        )

    at_d : (c q n : ℕ) (ds : Declarations) → 0 < q → q ≤ c → Within rows c (c + size_d ds) n (rows_d c q ds) → AtDs n ds
    at_d c q n no_more h k a = tt
    at_d c q n (variables t xs ds) h k a =
        at_d c q (n + length xs) ds h k
        (in_second c (c + size_d ds) (length xs) (omega arith) (omega arith) (long_names n_variable q (λ x. type_number t) xs) (rows_names (λ r. r ≤ c) n_variable q (λ x. type_number t) xs k) a)
    at_d c q n (declare p ds) h k a =
        let i = c + size_p p in (
          at_p c q n p k (in_first c i (omega arith) (omega arith) (rows_d_outside c i q ds k) a),
          at_d i q (n + many_p p) ds h (omega arith)
              (in_second i (i + size_d ds) (many_p p) (omega arith) (omega arith) (long_p c q p) (rows_so (λ r b. b.1) (rows_p_in 0 i c q p h (omega arith) (omega arith) (omega arith))) a),
        )

    at_p : (c q n : ℕ) (p : Procedure) → q ≤ c → Within rows c (c + size_p p) n (rows_p c q p) → AtP n p
    at_p c q n (heading t f xs vs ss s) k a =
        let j = c + 1 in
        let low : q ≤ j = omega arith in
        let own : Rows (λ r. r ≤ j) (node n_procedure f.symbol q (sort_number t)) = row low empty in
        at_s j j (n + 1 + length xs) s
        (in_second j (j + size_s s) (length xs) (omega arith) (omega arith) (long_names n_formal j (formal_in vs ss) xs) (rows_names (λ r. r ≤ j) n_formal j (formal_in vs ss) xs (omega arith))
        (in_second j (j + size_s s) 1 (omega arith) (omega arith) refl own a))

-- of a program
pub at : (s : Statement) → AtS (rows_s 0 0 s) 0 s
at s = at_s (rows_s 0 0 s) 0 0 0 s (record { before = []; behind = []; so = sym (append-nil (rows_s 0 0 s)); long = refl; earlier = empty; others = empty })

-- ---- how many variables of each type a block has, which declares something

scope_first : {rows : List ℕ} {q : ℕ} {all : List Declared} {k : Sort → ℕ} {n : ℕ} (i x u : ℕ) (w : List ℕ) → Among rows q all k n (i ∷ x ∷ q ∷ u ∷ w) → get_or rows (4 * n + 2) 0 ≡ q
scope_first {rows} {q} {n = n} i x u w a = next_word rows a.before (i ∷ x ∷ q ∷ u ∷ (w ++ a.behind)) n 2 a.so a.long

scope_is : {rows : List ℕ} {n : ℕ} (ds : Declarations) (b : BlockAt rows n ds) → Declares ds → get_or rows (4 * n + 2) 0 ≡ b.scope
unfolding rows_s rows_n
scope_is no_more b d = absurd d
scope_is (variables t [] ds) b d = absurd (omega arith)
scope_is (variables t (x ∷ xs) ds) b d = scope_first n_variable x.symbol (type_number t) _ b.stands
scope_is (declare (heading t f xs vs ss s) ds) b d = scope_first n_procedure f.symbol (sort_number t) _ b.stands

counts_are : {rows : List ℕ} {n : ℕ} (ds : Declarations) → BlockAt rows n ds → Declares ds → symbols_ds ds < 2048 → counts_for rows n ≡ pack_counted (counted (in_block ds))
unfolding counts_for
counts_are ds b d h =
    let l = in_block ds in
    let c = b.stands.counts in
    let few : (t : Sort) → variables_of t l < 1024 = λ t. omega (arith, block_cells ds, first_most t l) in
    rw (scope_is ds b d, c integer, c real, c boolean, mod-eq_of_lt (few integer), mod-eq_of_lt (few real), mod-eq_of_lt (few boolean))

module _ (rows : List ℕ) where
  mutual
    unfolding symbols_s

    counts_s : (n : ℕ) (s : Statement) → AtS rows n s → HeadedS s → symbols_s s ≤ 2048 → CountsS rows n s
    counts_s n dummy a h l = tt
    counts_s n (assignment x xs q e) a h l = tt
    counts_s n (procedure x es) a h l = tt
    counts_s n (when q c s) a h l = counts_s n s a h (omega arith)
    counts_s n (either q c s t) a h l = (counts_s n s a.0 h.0 (omega arith), counts_s (n + many_s s) t a.1 h.1 (omega arith))
    counts_s n (repeat x y ys s) a h l = counts_s n s a h (omega arith)
    counts_s n (compound ss) a h l = counts_ss n ss a h (omega arith)
    counts_s n (block q ds ss) a h l =
        (counts_are ds a.0 h.0 (omega arith), counts_ds n ds a.1 h.1 (omega arith), counts_ss (n + many_ds ds) ss a.2 h.2 (omega arith))

    counts_ss : (n : ℕ) (ss : Statements) → AtSs rows n ss → HeadedSs ss → symbols_ss ss ≤ 2048 → CountsSs rows n ss
    counts_ss n (last s) a h l = counts_s n s a h (omega arith)
    counts_ss n (first s ss) a h l = (counts_s n s a.0 h.0 (omega arith), counts_ss (n + many_s s) ss a.1 h.1 (omega arith))

    counts_ds : (n : ℕ) (ds : Declarations) → AtDs rows n ds → HeadedDs ds → symbols_ds ds ≤ 2048 → CountsDs rows n ds
    counts_ds n no_more a h l = tt
    counts_ds n (variables t xs ds) a h l = counts_ds (n + length xs) ds a h (omega arith)
    counts_ds n (declare p ds) a h l = (counts_p n p a.0 h.0 (omega arith), counts_ds (n + many_p p) ds a.1 h.1 (omega arith))

    counts_p : (n : ℕ) (p : Procedure) → AtP rows n p → HeadedP p → symbols_p p ≤ 2048 → CountsP rows n p
    counts_p n (heading t f xs vs ss s) a h l = counts_s (n + 1 + length xs) s a h (omega arith)

-- of a program
pub counts : (s : Statement) → HeadedS s → symbols_s s ≤ 2048 → CountsS (rows_s 0 0 s) 0 s
counts s h l = counts_s (rows_s 0 0 s) 0 s (at s) h l
