-- The word of an actual, which tells its store part: of a name alone where its cell lies, and 0 of anything else. What the pass keeps behind an actual's
-- nodes is this word, since only their last one matters.
use Prim.Native.Nat.{ℕ, ◌+◌, ◌-◌, ◌<◌}
use native.Mathlib.Omega.{arith}
use mathlib.Core.Path.{◌≡◌, refl, ap, ◌∙◌}
use mathlib.Core.Bool.{Bool, true, false, cond, ◌||◌}
use mathlib.Core.List.{List, ◌∷◌, ◌++◌}
use lib.Dec.{eqb}
use lib.ListN.{get_or}
use borrow.Author.Tests.{eq-eqb, ne_eqb}
use Rattle.machine.specs.Instructions.{high, mid}
use Rattle.grammar.specs.NodeKinds.{n_unary, n_binary, n_number, n_decimal, n_logical, n_use, n_call, n_call_end, n_actual, n_then, n_else, n_condition_end}
use Rattle.names.specs.Program.{Name, Sign, Expression, number, decimal, logical, name, call, signed, operated, chosen, nested, Expressions, first_symbol}
use Rattle.names.specs.Scopes.{meaning}
use Rattle.names.specs.Nodes.{node, mark, sign_kind, operator_kind, nodes_e, nodes_es}
use Rattle.names.specs.model.Rows.{fold_nodes, is_use}
use Rattle.names.specs.Uses.{Use, used, uses_e}
use Rattle.names.proofs.Fours.{Whole, none as no_words, one, fours_append, a_node, fours_e, fours_es}
use Rattle.translation.specs.model.Translate.{Around, scopes}
use Rattle.translation.proofs.Ranges.{owns}
use Rattle.emitting.specs.model.Layout.{packed}
use Rattle.emitting.specs.model.Emission.{State, form_at, kind_next, top, with_uses, with_variable, nameless, cell_of, word_of, named_or, call_ended, use_node, joined, choice_node, plain_node, code_node}
use Rattle.translating.proofs.Written.{Tables, Frame, Flow, kind_of, means_of, taken, step, run, state, use_step}

-- ---- the word

unfoldable pub name_word : List ℕ → ℕ → ℕ → ℕ → ℕ
name_word layout level k m =
    cond (eqb k 0 || eqb k 2) 0 (packed (level - high (get_or layout m 0)) (mid (get_or layout m 0)) (cond (eqb k 4) 2 1))

-- of an actual; g: the scopes around, the actual's own mark among them
abbrev pub word_in : (ℕ → ℕ) → List ℕ → List Around → Expression → ℕ
word_in key layout g (number q v) = 0
word_in key layout g (decimal q v i) = 0
word_in key layout g (logical q t) = 0
word_in key layout g (name x) = name_word layout (owns g) (kind_of (meaning (scopes g) x)) (means_of key (meaning (scopes g) x))
word_in key layout g (call x e es) = 0
word_in key layout g (signed q o e) = 0
word_in key layout g (operated q o e f) = 0
word_in key layout g (chosen q r c e f) = 0
word_in key layout g (nested q e) = 0

-- it is the word of the name, where that is no procedure and not of the environment
pub name_word_lem : (values layout ahead entries : List ℕ) (level k m : ℕ) → eqb k 0 ≡ false → eqb k 2 ≡ false → name_word layout level k m ≡ cell_of values layout ahead entries level k m
unfolding name_word cell_of
name_word_lem values layout ahead entries level k m e f = rw (e, f)

pub routine_word : (layout : List ℕ) (level m : ℕ) → name_word layout level 2 m ≡ 0
unfolding name_word
routine_word layout level m = refl

pub given_word : (layout : List ℕ) (level m : ℕ) → name_word layout level 0 m ≡ 0
unfolding name_word
given_word layout level m = refl

-- ---- what is kept behind some nodes

module _ (tb : Tables) where
  run_append : {ws : List ℕ} (rest : List ℕ) (st : State) → Whole ws → run tb (ws ++ rest) st ≡ run tb rest (run tb ws st)
  unfolding fold_nodes
  run_append rest st no_words = refl
  run_append rest st (one {k} {s} {a} {b} w f) = run_append rest (step tb k s a b st) f

  -- nothing
  abbrev Clears : List ℕ → Type 0
  Clears ws = (st : State) → (run tb ws st).variable ≡ 0

  after : {ws : List ℕ} (rest : List ℕ) → Whole ws → Clears rest → Clears (ws ++ rest)
  after {ws} rest f c st = ap (λ (s : State). s.variable) (run_append rest st f) ∙ c (run tb ws st)

  after_node : (k s a b : ℕ) (rest : List ℕ) → Clears rest → Clears (node k s a b ++ rest)
  unfolding fold_nodes
  after_node k s a b rest c st = c (step tb k s a b st)

  number_clears : (q : ℕ) → Clears (mark n_number q)
  unfolding fold_nodes step code_node is_use plain_node nameless with_variable
  number_clears q st = refl

  decimal_clears : (q : ℕ) → Clears (mark n_decimal q)
  unfolding fold_nodes step code_node is_use plain_node nameless with_variable
  decimal_clears q st = refl

  logical_clears : (q a : ℕ) → Clears (node n_logical q a 0)
  unfolding fold_nodes step code_node is_use plain_node nameless with_variable
  logical_clears q a st = refl

  unary_clears : (q a : ℕ) → Clears (node n_unary q a 0)
  unfolding fold_nodes step code_node is_use plain_node nameless with_variable
  unary_clears q a st = refl

  binary_clears : (q a : ℕ) → Clears (node n_binary q a 0)
  unfolding fold_nodes step code_node is_use plain_node nameless with_variable
  binary_clears q a st = refl

  call_clears : (q u : ℕ) → Clears (node n_call_end q 0 u)
  unfolding fold_nodes step code_node is_use call_ended nameless with_variable
  call_clears q u st = refl

  choice_clears : (q : ℕ) → Clears (mark n_condition_end q)
  unfolding fold_nodes step code_node is_use choice_node joined nameless with_variable
  choice_clears q st = refl

  call_part : (d u : ℕ) (x : Name) (e : Expression) (es : Expressions) → Clears (node n_call x.symbol d u ++ ((nodes_e (d + 1) e ++ (mark n_actual (first_symbol e) ++ nodes_es (d + 1) es)) ++ node n_call_end x.symbol 0 u))
  call_part d u x e es =
      after_node n_call x.symbol d u _ (after (node n_call_end x.symbol 0 u) (fours_append (fours_e (d + 1) e) (a_node (fours_es (d + 1) es))) (call_clears x.symbol u))

  signed_part : (d q : ℕ) (o : Sign) (e : Expression) → Clears (nodes_e d e ++ node n_unary q (sign_kind o) 0)
  signed_part d q o e = after (node n_unary q (sign_kind o) 0) (fours_e d e) (unary_clears q (sign_kind o))

  operated_part : (d q a : ℕ) (e f : Expression) → Clears (nodes_e d e ++ (nodes_e d f ++ node n_binary q a 0))
  operated_part d q a e f = after _ (fours_e d e) (after (node n_binary q a 0) (fours_e d f) (binary_clears q a))

  chosen_part : (d q r : ℕ) (c e f : Expression) → Clears (nodes_e d c ++ (mark n_then q ++ (nodes_e d e ++ (mark n_else 0 ++ (nodes_e d f ++ mark n_condition_end r)))))
  chosen_part d q r c e f =
      after _ (fours_e d c) (after_node n_then q 0 0 _ (after _ (fours_e d e) (after_node n_else 0 0 0 _ (after (mark n_condition_end r) (fours_e d f) (choice_clears r)))))

  -- a name that stands deeper than the actuals of the call that is open
  deep_name : (s d D : ℕ) (st : State) → D < d → (top st.open_ones).fourth ≡ D → st.awaits ≡ 0 → (run tb (node n_use s d 0) st).variable ≡ 0
  unfolding fold_nodes step code_node is_use use_node with_uses named_or with_variable word_of
  deep_name s d D st h i j = rw (j, i, ne_eqb d D (λ e. omega arith)) (both (eqb (kind_next st.uses) 0 || eqb (kind_next st.uses) 2))
    where
      both : (b : Bool) → cond {A = ℕ} b 0 0 ≡ 0
      both true = refl
      both false = refl

  deeper : (e : Expression) (d D : ℕ) (st : State) → D < d → (top st.open_ones).fourth ≡ D → st.awaits ≡ 0 → (run tb (nodes_e d e) st).variable ≡ 0
  unfolding nodes_e
  deeper (number q v) d D st h i j = number_clears q st
  deeper (decimal q v k) d D st h i j = decimal_clears q st
  deeper (logical q true) d D st h i j = logical_clears q 1 st
  deeper (logical q false) d D st h i j = logical_clears q 0 st
  deeper (name x) d D st h i j = deep_name x.symbol d D st h i j
  deeper (call x e es) d D st h i j = call_part d 0 x e es st
  deeper (signed q o e) d D st h i j = signed_part d q o e st
  deeper (operated q o e f) d D st h i j = operated_part d q (operator_kind o) e f st
  deeper (chosen q r c e f) d D st h i j = chosen_part (d + 1) q r c e f st
  deeper (nested q e) d D st h i j = deeper e (d + 1) D st (omega arith) i j

  kept_word : (k m d : ℕ) (st : State) → (top st.open_ones).fourth ≡ d → word_of tb.values tb.layout tb.ahead tb.entries k m d st ≡ name_word tb.layout st.level k m
  unfolding word_of cell_of name_word
  kept_word k m d st i = rw (i, eq-eqb d d refl) (go (eqb k 0) (eqb k 2) (packed (st.level - (high (get_or tb.layout m 0) + 1)) 0 1) (packed (st.level - high (get_or tb.layout m 0)) (mid (get_or tb.layout m 0)) (cond (eqb k 4) 2 1)))
    where
      go : (a b : Bool) (u v : ℕ) → cond (a || b) 0 (cond b u v) ≡ cond (a || b) 0 v
      go true b u v = refl
      go false true u v = refl
      go false false u v = refl

  kept_name : (k m u p d f : ℕ) (st : State) → st.awaits ≡ 0
      → (named_or tb.values tb.layout tb.ahead tb.entries k m u p d f st).variable ≡ word_of tb.values tb.layout tb.ahead tb.entries k m d st
  unfolding named_or with_variable
  kept_name k m u p d f st j = rw j

  alone_word : (x : Name) (D : ℕ) (g : List Around) (us : List Use) (fr : Frame) (fl : Flow) → fl.uses ≡ used (scopes g) x ∷ us → (top fr.opens).fourth ≡ D → fr.awaits ≡ 0 → fr.level ≡ owns g
      → (run tb (node n_use x.symbol D 0) (state tb fr fl)).variable ≡ word_in tb.key tb.layout g (name x)
  unfolding fold_nodes use_node is_use
  alone_word x D g us fr fl u i j l =
      let M = meaning (scopes g) x in
      ap (λ (s : State). s.variable) (use_step tb n_use x.symbol D 0 fr fl (scopes g) x us (kind_of M) (means_of tb.key M) refl u refl refl)
      ∙ kept_name (kind_of M) (means_of tb.key M) 0 (tb.place x.symbol) D (form_at tb.rows (means_of tb.key M)) (state tb fr (taken us fl)) j
      ∙ kept_word (kind_of M) (means_of tb.key M) D (state tb fr (taken us fl)) i
      ∙ ap (λ (n : ℕ). name_word tb.layout n (kind_of M) (means_of tb.key M)) l

  -- behind an actual, D deep as the open call says
  pub last_word : (e : Expression) (D : ℕ) (g : List Around) (us : List Use) (fr : Frame) (fl : Flow) → fl.uses ≡ uses_e (scopes g) e ++ us → (top fr.opens).fourth ≡ D → fr.awaits ≡ 0 → fr.level ≡ owns g
      → (run tb (nodes_e D e) (state tb fr fl)).variable ≡ word_in tb.key tb.layout g e
  unfolding nodes_e uses_e
  last_word (number q v) D g us fr fl u i j l = number_clears q (state tb fr fl)
  last_word (decimal q v k) D g us fr fl u i j l = decimal_clears q (state tb fr fl)
  last_word (logical q true) D g us fr fl u i j l = logical_clears q 1 (state tb fr fl)
  last_word (logical q false) D g us fr fl u i j l = logical_clears q 0 (state tb fr fl)
  last_word (name x) D g us fr fl u i j l = alone_word x D g us fr fl u i j l
  last_word (call x e es) D g us fr fl u i j l = call_part D 0 x e es (state tb fr fl)
  last_word (signed q o e) D g us fr fl u i j l = signed_part D q o e (state tb fr fl)
  last_word (operated q o e f) D g us fr fl u i j l = operated_part D q (operator_kind o) e f (state tb fr fl)
  last_word (chosen q r c e f) D g us fr fl u i j l = chosen_part (D + 1) q r c e f (state tb fr fl)
  last_word (nested q e) D g us fr fl u i j l = deeper e (D + 1) D (state tb fr fl) (omega arith) i j
