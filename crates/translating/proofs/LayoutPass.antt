-- The first pass over the nodes of a program, part by part: what stands side by side is passed one after the other. A part writes the
-- words of its declaring names and leaves the activations and cells around as they were; only the type before may be another.
use Prim.Native.Nat.{ℕ, suc, ◌+◌, ◌-◌}
use native.Mathlib.Omega.{arith}
use mathlib.Core.Path.{◌≡◌, refl, sym, ap, ◌∙◌}
use mathlib.Core.List.{List, [], ◌∷◌, ◌++◌, append_assoc, append-nil}
use mathlib.Core.Option.{Option, none, some}
use lib.ListN.{length, set, length-append}
use Rattle.grammar.specs.NodeKinds.{n_block, n_block_end, n_type, n_variable, n_procedure, n_formal, n_value, n_specified, n_procedure_end}
use Rattle.names.specs.Program.{Name, Sort, integer, boolean, real, Expression, number, decimal, logical, name, call, signed, operated, chosen, nested, Expressions, done, then, Element, value, while, step, Specification, Statement, dummy, assignment, procedure, when, either, repeat, compound, block, Statements, last, first, Declarations, none as no_more, variables, declare, Procedure, heading}
use Rattle.names.specs.Scopes.{of_block, of_body, in_block}
use Rattle.names.specs.Nodes.{node, mark, sort_number, nodes_e, nodes_es, amount_nodes, nodes_l, nodes_ls, nodes_n, nodes_sp, nodes_left, nodes_call, nodes_s, nodes_ss, nodes_d, nodes_p}
use Rattle.names.specs.model.Rows.{fold_nodes}
use Rattle.rules.specs.Entered.{total, cells_in, one_if}
use Rattle.emitting.specs.model.Layout.{packed, among_for, Laying, one_of, outermost, further, celled, procedured, blocked, closed, typed, lay_node, layout_of}
use Rattle.translation.proofs.Ranges.{total_variables, body_cells}
use Rattle.translating.proofs.Shown.{shown, shown_none, shown_next}
use Rattle.translating.proofs.Counts.{many_s, many_ss, many_ds, many_p}
use Rattle.translating.proofs.LaidWords.{Written, written, written_n, written_v, written_s, written_ss, written_d, written_p, writes, writes_append, words_of, writes_are}

-- the type before a procedure tells whether it has a result
one_of_lem : (t : Option Sort) → one_of (sort_number t) ≡ one_if t
unfolding one_of
one_of_lem none = refl
one_of_lem (some integer) = refl
one_of_lem (some boolean) = refl
one_of_lem (some real) = refl

-- l: the words so far
abbrev state : ℕ → ℕ → ℕ → List ℕ → List ℕ → Laying
state t u o qs l = record { sort = t; level = u; reach = o; around = qs; declared = length l; table = shown 2048 l }

-- one word more
worded : (t u o : ℕ) (qs l : List ℕ) (w : ℕ)
    → record { sort = t; level = u; reach = o; around = qs; declared = length l + 1; table = set (shown 2048 l) (length l) w } ≡ state t u o qs (l ++ (w ∷ []))
worded t u o qs l w = rw (shown_next 2048 l w, length-append l (w ∷ []))

module _ (rows : List ℕ) where
  -- ---- nodes that add nothing

  abbrev Still : ℕ → Type 0
  Still k = (p a b : ℕ) (st : Laying) → lay_node rows k p a b st ≡ st

  data Quiet : List ℕ → Type 0 where
    no_node : Quiet []
    a_node : {k s a b : ℕ} {ws : List ℕ} → Still k → Quiet ws → Quiet (k ∷ s ∷ a ∷ b ∷ ws)

  single : {k s a b : ℕ} → Still k → Quiet (node k s a b)
  single h = a_node h no_node

  quiet_append : {u v : List ℕ} → Quiet u → Quiet v → Quiet (u ++ v)
  quiet_append no_node k = k
  quiet_append (a_node i h) k = a_node i (quiet_append h k)

  mutual
    unfolding nodes_e lay_node

    quiet_e : (d : ℕ) (e : Expression) → Quiet (nodes_e d e)
    quiet_e d (number q v) = single (λ p a b st. refl)
    quiet_e d (decimal q v i) = single (λ p a b st. refl)
    quiet_e d (logical q b) = single (λ p a b st. refl)
    quiet_e d (name x) = single (λ p a b st. refl)
    quiet_e d (call x e es) =
        a_node (λ p a b st. refl)
        (quiet_append (quiet_append (quiet_e (d + 1) e) (a_node (λ p a b st. refl) (quiet_es (d + 1) es))) (single (λ p a b st. refl)))
    quiet_e d (signed q o e) = quiet_append (quiet_e d e) (single (λ p a b st. refl))
    quiet_e d (operated q o e f) = quiet_append (quiet_e d e) (quiet_append (quiet_e d f) (single (λ p a b st. refl)))
    quiet_e d (chosen q r c e f) =
        quiet_append (quiet_e (d + 1) c)
        (a_node (λ p a b st. refl)
        (quiet_append (quiet_e (d + 1) e) (a_node (λ p a b st. refl) (quiet_append (quiet_e (d + 1) f) (single (λ p a b st. refl))))))
    quiet_e d (nested q e) = quiet_e (d + 1) e

    quiet_es : (d : ℕ) (es : Expressions) → Quiet (nodes_es d es)
    quiet_es d done = no_node
    quiet_es d (then e es) = quiet_append (quiet_e d e) (a_node (λ p a b st. refl) (quiet_es d es))

  quiet_amount : (d : ℕ) (e : Expression) → Quiet (amount_nodes d e)
  unfolding lay_node
  quiet_amount d e = quiet_append (quiet_e d e) (single (λ p a b st. refl))

  quiet_l : (d : ℕ) (l : Element) → Quiet (nodes_l d l)
  unfolding nodes_l lay_node
  quiet_l d (value e) = quiet_append (quiet_e d e) (a_node (λ p a b st. refl) (single (λ p a b st. refl)))
  quiet_l d (while q e c) = quiet_append (quiet_e d e) (a_node (λ p a b st. refl) (quiet_append (quiet_e d c) (single (λ p a b st. refl))))
  quiet_l d (step q e f h) =
      quiet_append (quiet_e d e) (a_node (λ p a b st. refl) (a_node (λ p a b st. refl) (quiet_append (quiet_amount d f) (quiet_amount d h))))

  quiet_ls : (d : ℕ) (ls : List Element) → Quiet (nodes_ls d ls)
  unfolding nodes_ls
  quiet_ls d [] = no_node
  quiet_ls d (l ∷ ls) = quiet_append (quiet_l d l) (quiet_ls d ls)

  quiet_n : (k : ℕ) (xs : List Name) → Still k → Quiet (nodes_n k xs)
  unfolding nodes_n
  quiet_n k [] i = no_node
  quiet_n k (x ∷ xs) i = a_node i (quiet_n k xs i)

  quiet_left : (d : ℕ) (xs : List Name) → Quiet (nodes_left d xs)
  unfolding nodes_left lay_node
  quiet_left d [] = no_node
  quiet_left d (x ∷ xs) = a_node (λ p a b st. refl) (quiet_left d xs)

  quiet_call : (d : ℕ) (x : Name) (es : Expressions) → Quiet (nodes_call d x es)
  unfolding nodes_call lay_node
  quiet_call d x done = single (λ p a b st. refl)
  quiet_call d x (then e es) =
      a_node (λ p a b st. refl)
      (quiet_append (quiet_append (quiet_e (d + 1) e) (a_node (λ p a b st. refl) (quiet_es (d + 1) es))) (single (λ p a b st. refl)))

  -- ---- parts

  abbrev run : List ℕ → Laying → Laying
  run = fold_nodes (lay_node rows)

  -- the nodes ws, met behind n words with u activations around, o cells and qs outside, leave n', u', o' and qs', and write the words vs
  record Lays (ws : List ℕ) (vs : List Written) (n u o : ℕ) (qs : List ℕ) (n' u' o' : ℕ) (qs' : List ℕ) : Type 0 where
    sort : ℕ → ℕ
    goes : (t : ℕ) (T rest : List ℕ) → length T ≡ n → run (ws ++ rest) (state t u o qs T) ≡ run rest (state (sort t) u' o' qs' (writes T vs))
    many : (T : List ℕ) → length T ≡ n → length (writes T vs) ≡ n'

  no_part : (n u o : ℕ) (qs : List ℕ) → Lays [] [] n u o qs n u o qs
  unfolding writes
  no_part n u o qs = record { sort = λ t. t; goes = λ t T rest h. refl; many = λ T h. h }

  infixr 20 ◌then_part◌
  ◌then_part◌ : {ws ws' : List ℕ} {vs vs' : List Written} {n u o n' u' o' n'' u'' o'' : ℕ} {qs qs' qs'' : List ℕ} → Lays ws vs n u o qs n' u' o' qs' → Lays ws' vs' n' u' o' qs' n'' u'' o'' qs''
      → Lays (ws ++ ws') (vs ++ vs') n u o qs n'' u'' o'' qs''
  ◌then_part◌ {ws} {ws'} {vs} {vs'} {u'' = u''} {o'' = o''} {qs'' = qs''} x y =
      record {
        sort = λ t. y.sort (x.sort t);
        goes =
            λ t T rest h.
            rw (append_assoc ws ws' rest)
            (x.goes t T (ws' ++ rest) h
            ∙ y.goes (x.sort t) (writes T vs) rest (x.many T h)
            ∙ ap (λ (l : List ℕ). run rest (state (y.sort (x.sort t)) u'' o'' qs'' l)) (sym (writes_append T vs vs')));
        many = λ T h. ap length (writes_append T vs vs') ∙ y.many (writes T vs) (x.many T h);
      }

  -- a last part that writes nothing
  infixr 20 ◌then_silent◌
  ◌then_silent◌ : {ws ws' : List ℕ} {vs : List Written} {n u o n' u' o' n'' u'' o'' : ℕ} {qs qs' qs'' : List ℕ} → Lays ws vs n u o qs n' u' o' qs' → Lays ws' [] n' u' o' qs' n'' u'' o'' qs''
      → Lays (ws ++ ws') vs n u o qs n'' u'' o'' qs''
  ◌then_silent◌ {vs = vs} x y = rw (append-nil vs) at (x then_part y)

  -- as many words and cells
  lays_to : {ws : List ℕ} {vs : List Written} {n u o n' u' o' : ℕ} {qs qs' : List ℕ} (m i : ℕ) → n' ≡ m → o' ≡ i → Lays ws vs n u o qs n' u' o' qs' → Lays ws vs n u o qs m u' i qs'
  lays_to m i e e' x = rw (e, e') at x

  -- as many words
  lays_on : {ws : List ℕ} {vs : List Written} {n u o n' u' o' : ℕ} {qs qs' : List ℕ} (m : ℕ) → n' ≡ m → Lays ws vs n u o qs n' u' o' qs' → Lays ws vs n u o qs m u' o' qs'
  lays_on m e x = rw e at x

  quiet : {ws : List ℕ} (n u o : ℕ) (qs : List ℕ) → Quiet ws → Lays ws [] n u o qs n u o qs
  unfolding writes fold_nodes
  quiet n u o qs no_node = no_part n u o qs
  quiet n u o qs (a_node {k = k} {s = s} {a = a} {b = b} {ws = ws} i h) =
      let y = quiet n u o qs h in
      record {
        sort = y.sort;
        goes = λ t T rest l. ap (run (ws ++ rest)) (i s a b (state t u o qs T)) ∙ y.goes t T rest l;
        many = λ T l. l;
      }

  -- ---- single nodes

  a_type : (a n u o : ℕ) (qs : List ℕ) → Lays (node n_type 0 a 0) [] n u o qs n u o qs
  unfolding fold_nodes lay_node typed writes
  a_type a n u o qs = record { sort = λ t. a; goes = λ t T rest h. refl; many = λ T h. h }

  a_block : (q n u o : ℕ) (qs : List ℕ) → Lays (mark n_block q) [] n u o qs n u o (o ∷ qs)
  unfolding fold_nodes lay_node blocked writes
  a_block q n u o qs = record { sort = λ t. t; goes = λ t T rest h. refl; many = λ T h. h }

  block_end : (q n u o o' : ℕ) (qs : List ℕ) → Lays (mark n_block_end q) [] n u o' (o ∷ qs) n u o qs
  unfolding fold_nodes lay_node closed outermost further writes
  block_end q n u o o' qs = record { sort = λ t. t; goes = λ t T rest h. refl; many = λ T h. h }

  -- a word is one more
  one_word : (n s w : ℕ) (T : List ℕ) → length T ≡ n → length (writes T (written s w ∷ [])) ≡ n + 1
  unfolding writes
  one_word n s w T h = omega (arith, length-append T (w ∷ []))

  a_procedure : (t : Option Sort) (s n u o : ℕ) (qs : List ℕ)
      → Lays (node n_type 0 (sort_number t) 0 ++ mark n_procedure s) (written s (packed u (one_if t) 0) ∷ []) n u o qs (n + 1) (suc u) (one_if t) (o ∷ qs)
  unfolding fold_nodes lay_node typed procedured writes
  a_procedure t s n u o qs =
      let e : u + 1 ≡ suc u = omega arith in
      record {
        sort = λ z. sort_number t;
        goes = λ z T rest h. rw (one_of_lem t, e) (ap (run rest) (worded (sort_number t) (suc u) (one_if t) (o ∷ qs) T (packed u (one_if t) 0)));
        many = one_word n s (packed u (one_if t) 0);
      }

  procedure_end : (s n u o o' : ℕ) (qs : List ℕ) → Lays (mark n_procedure_end s) [] n (suc u) o' (o ∷ qs) n u o qs
  unfolding fold_nodes lay_node closed outermost further writes
  procedure_end s n u o o' qs =
      let e : suc u - 1 ≡ u = omega arith in
      record { sort = λ t. t; goes = λ t T rest h. rw e; many = λ T h. h }

  -- ---- names

  -- a variable of a block whose first cell is at b
  a_variable : (s n u o b : ℕ) (qs : List ℕ) → Lays (mark n_variable s) (written s (packed u (b + among_for rows n) 0) ∷ []) n u o (b ∷ qs) (n + 1) u (o + 1) (b ∷ qs)
  unfolding fold_nodes lay_node celled outermost writes
  a_variable s n u o b qs =
      record {
        sort = λ t. t;
        goes =
            λ t T rest h.
            ap (run rest) (worded t u (o + 1) (b ∷ qs) T (packed u (b + among_for rows (length T)) 0))
            ∙ ap (λ (i : ℕ). run rest (state t u (o + 1) (b ∷ qs) (T ++ (packed u (b + among_for rows i) 0 ∷ [])))) h;
        many = one_word n s (packed u (b + among_for rows n) 0);
      }

  a_formal : (s n u o : ℕ) (qs : List ℕ) → Lays (mark n_formal s) (written s (packed u o 0) ∷ []) n u o qs (n + 1) u (o + 1) qs
  unfolding fold_nodes lay_node celled writes
  a_formal s n u o qs =
      record { sort = λ t. t; goes = λ t T rest h. ap (run rest) (worded t u (o + 1) qs T (packed u o 0)); many = one_word n s (packed u o 0) }

  formals : (n u o : ℕ) (qs : List ℕ) (xs : List Name) → Lays (nodes_n n_formal xs) (written_n u o xs) n u o qs (n + length xs) u (o + length xs) qs
  unfolding nodes_n written_n
  formals n u o qs [] = lays_to (n + 0) (o + 0) (omega arith) (omega arith) (no_part n u o qs)
  formals n u o qs (x ∷ xs) =
      lays_to (n + suc (length xs)) (o + suc (length xs)) (omega arith) (omega arith) (a_formal x.symbol n u o qs then_part formals (n + 1) u (o + 1) qs xs)

  block_variables : (n u o b : ℕ) (qs : List ℕ) (xs : List Name) → Lays (nodes_n n_variable xs) (written_v rows u b n xs) n u o (b ∷ qs) (n + length xs) u (o + length xs) (b ∷ qs)
  unfolding nodes_n written_v
  block_variables n u o b qs [] = lays_to (n + 0) (o + 0) (omega arith) (omega arith) (no_part n u o (b ∷ qs))
  block_variables n u o b qs (x ∷ xs) =
      lays_to (n + suc (length xs)) (o + suc (length xs)) (omega arith) (omega arith) (a_variable x.symbol n u o b qs then_part block_variables (n + 1) u (o + 1) b qs xs)

  specifications : (n u o : ℕ) (qs : List ℕ) (ss : List Specification) → Lays (nodes_sp ss) [] n u o qs n u o qs
  unfolding nodes_sp lay_node
  specifications n u o qs [] = no_part n u o qs
  specifications n u o qs (s ∷ ss) =
      a_type (sort_number (some s.sort)) n u o qs then_part quiet n u o qs (quiet_n n_specified s.names (λ p a b st. refl)) then_part specifications n u o qs ss

  -- ---- statements and declarations: one line a construct

  mutual
    unfolding nodes_s written_s lay_node in_block total many_s

    lays_s : (d : ℕ) (s : Statement) (n u o : ℕ) (qs : List ℕ) → Lays (nodes_s d s) (written_s rows u o n s) n u o qs (n + many_s s) u o qs
    lays_s d dummy n u o qs = lays_on (n + 0) (omega arith) (no_part n u o qs)
    lays_s d (assignment x xs q e) n u o qs =
        lays_on (n + 0) (omega arith) (quiet n u o qs (quiet_append (quiet_left d (x ∷ xs)) (quiet_append (quiet_e d e) (single (λ p a b st. refl)))))
    lays_s d (procedure x es) n u o qs = lays_on (n + 0) (omega arith) (quiet n u o qs (quiet_call d x es))
    lays_s d (when q c s) n u o qs =
        quiet n u o qs (quiet_e d c)
        then_part quiet n u o qs (single (λ p a b st. refl))
        then_part lays_s (d + 1) s n u o qs
        then_silent quiet (n + many_s s) u o qs (single (λ p a b st. refl))
    lays_s d (either q c s t) n u o qs =
        lays_on (n + (many_s s + many_s t)) (omega arith)
        (quiet n u o qs (quiet_e d c)
        then_part quiet n u o qs (single (λ p a b st. refl))
        then_part lays_s (d + 1) s n u o qs
        then_part quiet (n + many_s s) u o qs (single (λ p a b st. refl))
        then_part lays_s (d + 1) t (n + many_s s) u o qs
        then_silent quiet (n + many_s s + many_s t) u o qs (single (λ p a b st. refl)))
    lays_s d (repeat x l ls s) n u o qs =
        quiet n u o qs (single (λ p a b st. refl))
        then_part quiet n u o qs (quiet_l d l)
        then_part quiet n u o qs (quiet_ls d ls)
        then_part quiet n u o qs (single (λ p a b st. refl))
        then_part lays_s (d + 1) s n u o qs
        then_silent quiet (n + many_s s) u o qs (single (λ p a b st. refl))
    lays_s d (compound ss) n u o qs = lays_ss (d + 1) ss n u o qs
    lays_s d (block q ds ss) n u o qs =
        let m = n + many_ds ds in
        let i = o + cells_in (of_block ds) in
        lays_on (n + (many_ds ds + many_ss ss)) (omega arith)
        (a_block q n u o qs
        then_part lays_d d ds n u o o qs
        then_part quiet m u i (o ∷ qs) (single (λ p a b st. refl))
        then_part lays_ss (d + 1) ss m u i (o ∷ qs)
        then_silent block_end q (m + many_ss ss) u o i qs)

    lays_ss : (d : ℕ) (ss : Statements) (n u o : ℕ) (qs : List ℕ) → Lays (nodes_ss d ss) (written_ss rows u o n ss) n u o qs (n + many_ss ss) u o qs
    lays_ss d (last s) n u o qs = lays_s d s n u o qs
    lays_ss d (first s ss) n u o qs = lays_on (n + (many_s s + many_ss ss)) (omega arith) (lays_s d s n u o qs then_part lays_ss d ss (n + many_s s) u o qs)

    lays_d : (d : ℕ) (ds : Declarations) (n u o b : ℕ) (qs : List ℕ) → Lays (nodes_d d ds) (written_d rows u b n ds) n u o (b ∷ qs) (n + many_ds ds) u (o + cells_in (of_block ds)) (b ∷ qs)
    lays_d d no_more n u o b qs = lays_to (n + 0) (o + 0) (omega arith) (omega arith) (no_part n u o (b ∷ qs))
    lays_d d (variables t xs ds) n u o b qs =
        lays_to (n + (length xs + many_ds ds)) (o + cells_in (of_block (variables t xs ds))) (omega arith) (omega (arith, total_variables t xs (in_block ds)))
        (a_type (sort_number (some t)) n u o (b ∷ qs) then_part block_variables n u o b qs xs then_part lays_d d ds (n + length xs) u (o + length xs) b qs)
    lays_d d (declare p ds) n u o b qs =
        lays_to (n + (many_p p + many_ds ds)) (o + cells_in (of_block (declare p ds))) (omega arith) (omega arith) (lays_p d p n u o (b ∷ qs) then_part lays_d d ds (n + many_p p) u o b qs)

    lays_p : (d : ℕ) (p : Procedure) (n u o : ℕ) (qs : List ℕ) → Lays (nodes_p d p) (written_p rows u n p) n u o qs (n + many_p p) u o qs
    lays_p d (heading t f xs vs ss s) n u o qs =
        let i = cells_in (of_body (heading t f xs vs ss s)) in
        let m = n + 1 + length xs in
        lays_on (n + (1 + length xs + many_s s)) (omega arith)
        (a_procedure t f.symbol n u o qs
        then_part lays_to m i refl (omega (arith, body_cells (heading t f xs vs ss s))) (formals (n + 1) (suc u) (one_if t) (o ∷ qs) xs)
        then_part quiet m (suc u) i (o ∷ qs) (quiet_n n_value vs (λ p a b st. refl))
        then_part specifications m (suc u) i (o ∷ qs) ss
        then_part quiet m (suc u) i (o ∷ qs) (single (λ p a b st. refl))
        then_part lays_s (d + 1) s m (suc u) i (o ∷ qs)
        then_silent procedure_end f.symbol (m + many_s s) u o i qs)

  -- ---- a whole program

  pub layout_writes : (d : ℕ) (s : Statement) → layout_of rows (nodes_s d s) ≡ shown 2048 (words_of (written_s rows 0 0 0 s))
  unfolding layout_of fold_nodes
  layout_writes d s =
      ap (λ (st : Laying). st.table)
      (ap (λ (T : List ℕ). run (nodes_s d s) (record { sort = 0; level = 0; reach = 0; around = []; declared = 0; table = T })) (sym (shown_none 2048))
      ∙ ap (λ (ws : List ℕ). run ws (state 0 0 0 [] [])) (sym (append-nil (nodes_s d s)))
      ∙ (lays_s d s 0 0 0 []).goes 0 [] [] refl)
      ∙ ap (shown 2048) (writes_are [] (written_s rows 0 0 0 s))
