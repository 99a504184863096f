-- Which production is taken where a symbol is none of some: what the readers' arms know.
use mathlib.Core.Path.{◌≡◌, refl, sym, ap, ◌∙◌}
use mathlib.Core.List.{List, [], ◌∷◌}
use Prim.Native.Nat.{ℕ, ◌<◌}
use mathlib.Core.Bool.{true}
use native.Mathlib.Omega.{arith}
use native.Mathlib.Decide.{ℕ_discrete}
use lib.Dec.{eqb}
use borrow.Author.Tests.{ne_eqb, eq-eqb}
use Rattle.symbols.specs.Symbols.{kind}
use Rattle.grammar.specs.Grammar.{Op, times, over, divide, plus, minus, and, or, implies, equals, op_symbol, Relation, less, less_equal, equal, greater_equal, greater, not_equal, relation_symbol}
use Rattle.grammar.specs.Grammar.{operand, prelude, no_procedure}
use Rattle.grammar.specs.Grammar.{inner, declarations, declaration, declared, type, formals, values, specifications, others, statements, statement, consequence, alternative, further, progress, unconditional, named, right, expression, level, more, negation, comparison, primary, actuals, further_actuals}
use Rattle.grammar.specs.Grammar.{a_compound, no_declaration, typed, variables, no_formals, no_values, no_specification, no_other, no_statement, plain, then_plain, no_else, no_element, once, dummy, call, left, value, simple, chain, signed, again, no_more, no_not, compare, no_comparison, bare, no_actual}
use Rattle.grammar.specs.declared.Entry.{Entry}
use Rattle.grammar.specs.declared.Use.{Use}
use Rattle.grammar.specs.declared.Level.{Level}
use Rattle.grammar.specs.declared.Level.TheVariants.{Product, Sum, Conjunction, Disjunction, Implication, Equivalence}
use Rattle.grammar.specs.model.Tables.{none, some, pick, choose}
use Rattle.grammar.specs.model.Run.{In, now}
use Rattle.syntax.specs.model.Operators.{operator_of, relation_of}
use Rattle.grammar.proofs.Sets.{disjoint, apart}
use Rattle.grammar.proofs.Room.{slack, spare}

pub in_not : {c k : ℕ} (l : List ℕ) → In c l → disjoint (k ∷ []) l ≡ true → c ≡ k → ⊥
in_not {k = k} l h d e = apart (k ∷ []) l d (now e) h

module _ {c : ℕ} where
  pub else_inner : (c ≡ 11 → ⊥) → (c ≡ 12 → ⊥) → (c ≡ 13 → ⊥) → (c ≡ 40 → ⊥) → choose inner c 0 ≡ some a_compound
  else_inner p0 p1 p2 p3 = simp (ne_eqb _ _ p0, ne_eqb _ _ p1, ne_eqb _ _ p2, ne_eqb _ _ p3)

  pub else_statements : (c ≡ 35 → ⊥) → choose statements c 0 ≡ some no_statement
  else_statements p0 = simp (ne_eqb _ _ p0)

  pub else_declarations : (c ≡ 11 → ⊥) → (c ≡ 12 → ⊥) → (c ≡ 13 → ⊥) → (c ≡ 40 → ⊥) → choose declarations c 0 ≡ some no_declaration
  else_declarations p0 p1 p2 p3 = simp (ne_eqb _ _ p0, ne_eqb _ _ p1, ne_eqb _ _ p2, ne_eqb _ _ p3)

  pub else_prelude : (c ≡ 11 → ⊥) → (c ≡ 12 → ⊥) → (c ≡ 40 → ⊥) → (c ≡ 13 → ⊥) → choose prelude c 0 ≡ some no_procedure
  else_prelude p0 p1 p2 p3 = simp (ne_eqb _ _ p0, ne_eqb _ _ p1, ne_eqb _ _ p2, ne_eqb _ _ p3)

  pub else_declaration : (c ≡ 13 → ⊥) → choose declaration c 0 ≡ some typed
  else_declaration p0 = simp (ne_eqb _ _ p0)

  pub else_declared : (c ≡ 13 → ⊥) → choose declared c 0 ≡ some variables
  else_declared p0 = simp (ne_eqb _ _ p0)

  pub else_type : (c ≡ 11 → ⊥) → (c ≡ 12 → ⊥) → (c ≡ 40 → ⊥) → choose type c 0 ≡ none
  else_type p0 p1 p2 = simp (ne_eqb _ _ p0, ne_eqb _ _ p1, ne_eqb _ _ p2)

  pub else_formals : (c ≡ 36 → ⊥) → choose formals c 0 ≡ some no_formals
  else_formals p0 = simp (ne_eqb _ _ p0)

  pub else_values : (c ≡ 14 → ⊥) → choose values c 0 ≡ some no_values
  else_values p0 = simp (ne_eqb _ _ p0)

  pub else_specifications : (c ≡ 11 → ⊥) → (c ≡ 12 → ⊥) → (c ≡ 40 → ⊥) → choose specifications c 0 ≡ some no_specification
  else_specifications p0 p1 p2 = simp (ne_eqb _ _ p0, ne_eqb _ _ p1, ne_eqb _ _ p2)

  pub else_others : (e : Entry) → (c ≡ 32 → ⊥) → choose (others e) c 0 ≡ some (no_other e)
  else_others e p0 = simp (ne_eqb _ _ p0)

  pub else_statement : (c ≡ 2 → ⊥) → (c ≡ 5 → ⊥) → choose statement c 0 ≡ some plain
  else_statement p0 p1 = simp (ne_eqb _ _ p0, ne_eqb _ _ p1)

  pub else_consequence : (c ≡ 5 → ⊥) → choose consequence c 0 ≡ some then_plain
  else_consequence p0 = simp (ne_eqb _ _ p0)

  pub else_alternative : (c ≡ 4 → ⊥) → choose alternative c 0 ≡ some no_else
  else_alternative p0 = simp (ne_eqb _ _ p0)

  pub else_further : (c ≡ 32 → ⊥) → choose further c 0 ≡ some no_element
  else_further p0 = simp (ne_eqb _ _ p0)

  pub else_progress : (c ≡ 9 → ⊥) → (c ≡ 7 → ⊥) → choose progress c 0 ≡ some once
  else_progress p0 p1 = simp (ne_eqb _ _ p0, ne_eqb _ _ p1)

  pub else_unconditional : (c ≡ 38 → ⊥) → (c ≡ 0 → ⊥) → choose unconditional c 0 ≡ some dummy
  else_unconditional p0 p1 = simp (ne_eqb _ _ p0, ne_eqb _ _ p1)

  pub else_named : (c ≡ 34 → ⊥) → choose named c 0 ≡ some call
  else_named p0 = simp (ne_eqb _ _ p0)

  pub else_expression : (c ≡ 2 → ⊥) → choose expression c 0 ≡ some simple
  else_expression p0 = simp (ne_eqb _ _ p0)

  pub else_level_sum : (c ≡ 22 → ⊥) → (c ≡ 23 → ⊥) → choose (level Sum) c 0 ≡ some (chain Sum)
  else_level_sum p0 p1 = simp (ne_eqb _ _ p0, ne_eqb _ _ p1)

  pub else_more_product : (c ≡ 24 → ⊥) → (c ≡ 25 → ⊥) → (c ≡ 41 → ⊥) → choose (more Product) c 0 ≡ some (no_more Product)
  else_more_product p0 p1 p2 = simp (ne_eqb _ _ p0, ne_eqb _ _ p1, ne_eqb _ _ p2)

  pub else_more_sum : (c ≡ 22 → ⊥) → (c ≡ 23 → ⊥) → choose (more Sum) c 0 ≡ some (no_more Sum)
  else_more_sum p0 p1 = simp (ne_eqb _ _ p0, ne_eqb _ _ p1)

  pub else_more_conjunction : (c ≡ 17 → ⊥) → choose (more Conjunction) c 0 ≡ some (no_more Conjunction)
  else_more_conjunction p0 = simp (ne_eqb _ _ p0)

  pub else_more_disjunction : (c ≡ 18 → ⊥) → choose (more Disjunction) c 0 ≡ some (no_more Disjunction)
  else_more_disjunction p0 = simp (ne_eqb _ _ p0)

  pub else_more_implication : (c ≡ 20 → ⊥) → choose (more Implication) c 0 ≡ some (no_more Implication)
  else_more_implication p0 = simp (ne_eqb _ _ p0)

  pub else_more_equivalence : (c ≡ 21 → ⊥) → choose (more Equivalence) c 0 ≡ some (no_more Equivalence)
  else_more_equivalence p0 = simp (ne_eqb _ _ p0)

  pub else_negation : (c ≡ 19 → ⊥) → choose negation c 0 ≡ some no_not
  else_negation p0 = simp (ne_eqb _ _ p0)

  pub else_comparison : (c ≡ 26 → ⊥) → (c ≡ 27 → ⊥) → (c ≡ 28 → ⊥) → (c ≡ 29 → ⊥) → (c ≡ 30 → ⊥) → (c ≡ 31 → ⊥) → choose comparison c 0 ≡ some no_comparison
  else_comparison p0 p1 p2 p3 p4 p5 = simp (ne_eqb _ _ p0, ne_eqb _ _ p1, ne_eqb _ _ p2, ne_eqb _ _ p3, ne_eqb _ _ p4, ne_eqb _ _ p5)

  pub else_primary : (c ≡ 39 → ⊥) → (c ≡ 15 → ⊥) → (c ≡ 16 → ⊥) → (c ≡ 38 → ⊥) → (c ≡ 36 → ⊥) → (c ≡ 42 → ⊥) → choose primary c 0 ≡ none
  else_primary p0 p1 p2 p3 p4 p5 = simp (ne_eqb _ _ p0, ne_eqb _ _ p1, ne_eqb _ _ p2, ne_eqb _ _ p3, ne_eqb _ _ p4, ne_eqb _ _ p5)

  pub else_actuals : (u : Use) → (c ≡ 36 → ⊥) → choose (actuals u) c 0 ≡ some (bare u)
  else_actuals u p0 = simp (ne_eqb _ _ p0)

  pub else_further_actuals : (c ≡ 32 → ⊥) → choose further_actuals c 0 ≡ some no_actual
  else_further_actuals p0 = simp (ne_eqb _ _ p0)

-- ---- operators

-- the operator that was found
pub record Found (l : Level) (c c' o : ℕ) : Type 0 where
  pub op : Op l
  pub taken : choose (more l) c c' ≡ some (again op)
  pub symbol : c ≡ kind (op_symbol op)
  pub number : o ≡ kind (op_symbol op)

three_found : (l : Level) (a b d : Op l) (c c' : ℕ) {o : ℕ} → Dec (c ≡ kind (op_symbol a)) → Dec (c ≡ kind (op_symbol b)) → Dec (c ≡ kind (op_symbol d))
    → pick (eqb c (kind (op_symbol a))) (kind (op_symbol a)) (pick (eqb c (kind (op_symbol b))) (kind (op_symbol b)) (pick (eqb c (kind (op_symbol d))) (kind (op_symbol d)) 0)) ≡ o
    → (o ≡ 0 → ⊥) → choose (more l) c c' ≡ pick (eqb c (kind (op_symbol a))) (some (again a)) (pick (eqb c (kind (op_symbol b))) (some (again b)) (pick (eqb c (kind (op_symbol d))) (some (again d)) (some (no_more l)))) → Found l c c' o
three_found l a b d c c' (yes e) y w q h z = record { op = a; taken = z ∙ simp (eq-eqb _ _ e); symbol = e; number = sym q ∙ simp (eq-eqb _ _ e) }
three_found l a b d c c' (no n) (yes e) w q h z = record { op = b; taken = z ∙ simp (ne_eqb _ _ n, eq-eqb _ _ e); symbol = e; number = sym q ∙ simp (ne_eqb _ _ n, eq-eqb _ _ e) }
three_found l a b d c c' (no n) (no m) (yes e) q h z = record { op = d; taken = z ∙ simp (ne_eqb _ _ n, ne_eqb _ _ m, eq-eqb _ _ e); symbol = e; number = sym q ∙ simp (ne_eqb _ _ n, ne_eqb _ _ m, eq-eqb _ _ e) }
three_found l a b d c c' (no n) (no m) (no k) q h z = absurd (h (sym q ∙ simp (ne_eqb _ _ n, ne_eqb _ _ m, ne_eqb _ _ k)))

two_found : (l : Level) (a b : Op l) (c c' : ℕ) {o : ℕ} → (Dec (c ≡ kind (op_symbol a))) → Dec (c ≡ kind (op_symbol b)) → pick (eqb c (kind (op_symbol a))) (kind (op_symbol a)) (pick (eqb c (kind (op_symbol b))) (kind (op_symbol b)) 0) ≡ o
    → (o ≡ 0 → ⊥) → choose (more l) c c' ≡ pick (eqb c (kind (op_symbol a))) (some (again a)) (pick (eqb c (kind (op_symbol b))) (some (again b)) (some (no_more l))) → Found l c c' o
two_found l a b c c' (yes e) y q h z = record { op = a; taken = z ∙ simp (eq-eqb _ _ e); symbol = e; number = sym q ∙ simp (eq-eqb _ _ e) }
two_found l a b c c' (no n) (yes e) q h z = record { op = b; taken = z ∙ simp (ne_eqb _ _ n, eq-eqb _ _ e); symbol = e; number = sym q ∙ simp (ne_eqb _ _ n, eq-eqb _ _ e) }
two_found l a b c c' (no n) (no m) q h z = absurd (h (sym q ∙ simp (ne_eqb _ _ n, ne_eqb _ _ m)))

one_found : (l : Level) (a : Op l) (c c' : ℕ) {o : ℕ} → Dec (c ≡ kind (op_symbol a)) → pick (eqb c (kind (op_symbol a))) (kind (op_symbol a)) 0 ≡ o
    → (o ≡ 0 → ⊥) → choose (more l) c c' ≡ pick (eqb c (kind (op_symbol a))) (some (again a)) (some (no_more l)) → Found l c c' o
one_found l a c c' (yes e) q h z = record { op = a; taken = z ∙ simp (eq-eqb _ _ e); symbol = e; number = sym q ∙ simp (eq-eqb _ _ e) }
one_found l a c c' (no n) q h z = absurd (h (sym q ∙ simp (ne_eqb _ _ n)))

pub op_found : (l : Level) (c c' : ℕ) {o : ℕ} → operator_of l c ≡ o → (o ≡ 0 → ⊥) → Found l c c' o
unfolding operator_of
op_found Product c c' q h = three_found Product times over divide c c' (ℕ_discrete c 24) (ℕ_discrete c 25) (ℕ_discrete c 41) q h refl
op_found Sum c c' q h = two_found Sum plus minus c c' (ℕ_discrete c 22) (ℕ_discrete c 23) q h refl
op_found Conjunction c c' q h = one_found Conjunction and c c' (ℕ_discrete c 17) q h refl
op_found Disjunction c c' q h = one_found Disjunction or c c' (ℕ_discrete c 18) q h refl
op_found Implication c c' q h = one_found Implication implies c c' (ℕ_discrete c 20) q h refl
op_found Equivalence c c' q h = one_found Equivalence equals c c' (ℕ_discrete c 21) q h refl

-- ---- no operator
pub zero_one : {c a other : ℕ} → (c ≡ a → ⊥) → 0 ≡ other → 0 ≡ pick (eqb c a) a other
zero_one p q = simp (ne_eqb _ _ p) q

-- a test that was passed over
passed : (c k other : ℕ) → (k ≡ 0 → ⊥) → pick (eqb c k) k other ≡ 0 → (c ≡ k → ⊥) × (other ≡ 0)
passed c k other h q = go (ℕ_discrete c k)
  where
    go : Dec (c ≡ k) → (c ≡ k → ⊥) × (other ≡ 0)
    go (yes e) = absurd (h (sym (simp (eq-eqb _ _ e)) ∙ q))
    go (no n) = (n, sym (simp (ne_eqb _ _ n)) ∙ q)

pub op_none : (l : Level) (c c' : ℕ) → operator_of l c ≡ 0 → choose (more l) c c' ≡ some (no_more l)
unfolding operator_of
op_none Product c c' q =
    let a = passed c 24 (pick (eqb c 25) 25 (pick (eqb c 41) 41 0)) (λ e. omega arith) q in
    let b = passed c 25 (pick (eqb c 41) 41 0) (λ e. omega arith) a.1 in
    let d = passed c 41 0 (λ e. omega arith) b.1 in
    else_more_product a.0 b.0 d.0
op_none Sum c c' q = let a = passed c 22 (pick (eqb c 23) 23 0) (λ e. omega arith) q in let b = passed c 23 0 (λ e. omega arith) a.1 in else_more_sum a.0 b.0
op_none Conjunction c c' q = else_more_conjunction (passed c 17 0 (λ e. omega arith) q).0
op_none Disjunction c c' q = else_more_disjunction (passed c 18 0 (λ e. omega arith) q).0
op_none Implication c c' q = else_more_implication (passed c 20 0 (λ e. omega arith) q).0
op_none Equivalence c c' q = else_more_equivalence (passed c 21 0 (λ e. omega arith) q).0

pub unsigned : (c c' : ℕ) → operator_of Sum c ≡ 0 → choose (level Sum) c c' ≡ some (chain Sum)
unfolding operator_of
unsigned c c' q = let a = passed c 22 (pick (eqb c 23) 23 0) (λ e. omega arith) q in let b = passed c 23 0 (λ e. omega arith) a.1 in else_level_sum a.0 b.0

pub with_sign : {c c' o : ℕ} (f : Found Sum c c' o) → choose (level Sum) c c' ≡ some (signed f.op)
with_sign {c} {c'} f = go f.op f.symbol
  where
    go : (p : Op Sum) → c ≡ kind (op_symbol p) → choose (level Sum) c c' ≡ some (signed p)
    go plus e = ap (λ (z : ℕ). choose (level Sum) z 0) e
    go minus e = ap (λ (z : ℕ). choose (level Sum) z 0) e

-- no operator is `:`
pub op_low : {l : Level} (p : Op l) → kind (op_symbol p) ≡ 33 → ⊥
op_low times e = omega arith
op_low over e = omega arith
op_low divide e = omega arith
op_low plus e = omega arith
op_low minus e = omega arith
op_low and e = omega arith
op_low or e = omega arith
op_low implies e = omega arith
op_low equals e = omega arith

-- ---- relations

pub record Compared (c c' o : ℕ) : Type 0 where
  pub op : Relation
  pub taken : choose comparison c c' ≡ some (compare op)
  pub symbol : c ≡ kind (relation_symbol op)
  pub number : o ≡ kind (relation_symbol op)

compared : (r : Relation) (c c' : ℕ) {o other : ℕ} → pick (eqb c (kind (relation_symbol r))) (kind (relation_symbol r)) other ≡ o → ((z : ℕ) → z ≡ kind (relation_symbol r) → choose comparison z 0 ≡ some (compare r))
    → ((c ≡ kind (relation_symbol r) → ⊥) → other ≡ o → Compared c c' o) → Compared c c' o
compared r c c' {o} q h k = go (ℕ_discrete c (kind (relation_symbol r)))
  where
    go : Dec (c ≡ kind (relation_symbol r)) → Compared c c' o
    go (yes e) = record { op = r; taken = h c e; symbol = e; number = sym q ∙ simp (eq-eqb _ _ e) }
    go (no n) = k n (sym (simp (ne_eqb _ _ n)) ∙ q)

pub relation_found : (c c' : ℕ) {o : ℕ} → relation_of c ≡ o → (o ≡ 0 → ⊥) → Compared c c' o
unfolding relation_of
relation_found c c' q h =
    compared less c c' q (λ z e. ap (λ (x : ℕ). choose comparison x 0) e) (λ n₁ q₁.
    compared less_equal c c' q₁ (λ z e. ap (λ (x : ℕ). choose comparison x 0) e) (λ n₂ q₂.
    compared equal c c' q₂ (λ z e. ap (λ (x : ℕ). choose comparison x 0) e) (λ n₃ q₃.
    compared greater_equal c c' q₃ (λ z e. ap (λ (x : ℕ). choose comparison x 0) e) (λ n₄ q₄.
    compared greater c c' q₄ (λ z e. ap (λ (x : ℕ). choose comparison x 0) e) (λ n₅ q₅.
    compared not_equal c c' q₅ (λ z e. ap (λ (x : ℕ). choose comparison x 0) e) (λ n₆ q₆. absurd (h (sym q₆))))))))

pub relation_none : (c c' : ℕ) → relation_of c ≡ 0 → choose comparison c c' ≡ some no_comparison
unfolding relation_of
relation_none c c' q =
    let a1 = passed c 26 (pick (eqb c 27) 27 (pick (eqb c 28) 28 (pick (eqb c 29) 29 (pick (eqb c 30) 30 (pick (eqb c 31) 31 0))))) (λ e. omega arith) q in
    let a2 = passed c 27 (pick (eqb c 28) 28 (pick (eqb c 29) 29 (pick (eqb c 30) 30 (pick (eqb c 31) 31 0)))) (λ e. omega arith) a1.1 in
    let a3 = passed c 28 (pick (eqb c 29) 29 (pick (eqb c 30) 30 (pick (eqb c 31) 31 0))) (λ e. omega arith) a2.1 in
    let a4 = passed c 29 (pick (eqb c 30) 30 (pick (eqb c 31) 31 0)) (λ e. omega arith) a3.1 in
    let a5 = passed c 30 (pick (eqb c 31) 31 0) (λ e. omega arith) a4.1 in
    let a6 = passed c 31 0 (λ e. omega arith) a5.1 in
    else_comparison a1.0 a2.0 a3.0 a4.0 a5.0 a6.0

pub relation_low : (p : Relation) → kind (relation_symbol p) ≡ 33 → ⊥
relation_low less e = omega arith
relation_low less_equal e = omega arith
relation_low equal e = omega arith
relation_low greater_equal e = omega arith
relation_low greater e = omega arith
relation_low not_equal e = omega arith

-- ---- the order in which readers of expressions call each other at one symbol
abbrev pub rank : Level → ℕ
rank Product = 2
rank Sum = 4
rank Conjunction = 9
rank Disjunction = 11
rank Implication = 13
rank Equivalence = 15

pub rank_small : (l : Level) → rank l < 32
rank_small Product = omega arith
rank_small Sum = omega arith
rank_small Conjunction = omega arith
rank_small Disjunction = omega arith
rank_small Implication = omega arith
rank_small Equivalence = omega arith

pub operand_words : (l : Level) → (slack (operand l) ≡ 0) × (spare (operand l) ≡ 8)
operand_words Product = (refl, refl)
operand_words Sum = (refl, refl)
operand_words Conjunction = (refl, refl)
operand_words Disjunction = (refl, refl)
operand_words Implication = (refl, refl)
operand_words Equivalence = (refl, refl)

-- ---- a left part, or the value
pub left_at : {c c' : ℕ} → c ≡ 38 → c' ≡ 34 → choose right c c' ≡ some left
left_at p q = simp (eq-eqb _ _ p, eq-eqb _ _ q)

pub value_at : {c c' : ℕ} → c ≡ 38 → (c' ≡ 34 → ⊥) → choose right c c' ≡ some value
value_at p q = simp (eq-eqb _ _ p, ne_eqb _ _ q)

pub value_else : {c : ℕ} (c' : ℕ) → (c ≡ 38 → ⊥) → choose right c c' ≡ some value
value_else c' p = simp (ne_eqb _ _ p)
