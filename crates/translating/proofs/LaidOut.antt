-- The law of the first pass: its table has, for every declaration by its number, the level and offset that Translate gives it. Formals' words stand one after
-- the other as their cells do, and the variables of a block lie by type; cells are fewer than the symbols of the tree, so that no offset is cut off where a word
-- is packed.
use Prim.Native.Nat.{ℕ, suc, ◌+◌, ◌≤◌, ◌<◌}
use native.Mathlib.Omega.{arith}
use mathlib.Core.Path.{◌≡◌, refl, sym, ap, subst, ◌∙◌}
use mathlib.Core.Bool.{Bool, true, false, cond}
use mathlib.Core.List.{List, [], ◌∷◌, ◌++◌, map}
use mathlib.Core.Option.{Option, some, none-ne-some}
use lib.ListN.{length, get_or}
use Rattle.grammar.specs.NodeKinds.{n_variable}
use Rattle.names.specs.Program.{Name, Sort, Specification, Statement, dummy, assignment, procedure, when, either, repeat, compound, block, Statements, last, first, Declarations, none as no_more, variables, declare, Procedure, heading}
use Rattle.names.specs.Scopes.{same, has, Thing, variable, routine, formal, by_name, formal_as, Declared, specified, variables_in, of_block, of_body, in_block, in_body, find_in}
use Rattle.names.specs.Nodes.{sort_number, nodes_s}
use Rattle.names.specs.Outline.{size_p, rows_n, rows_s, rows_d}
use Rattle.rules.specs.Entered.{cells_of, total, one_if, cells_in, one_type, typed, variables_of, typed_before, first_of, among_typed, among_declared, before}
use Rattle.emitting.specs.model.Layout.{packed, layout_of}
use Rattle.translation.specs.model.Sizes.{symbols_s, symbols_ss, symbols_ds, symbols_p}
use Rattle.rules.proofs.Declarations.{own_type, first_most}
use Rattle.translation.proofs.Ranges.{one_most, listed_most, block_cells, body_cells}
use Rattle.translating.proofs.Rising.{RowsRise}
use Rattle.translating.proofs.Sites.{number_of, Lying, Lies, LaidS, LaidSs, LaidDs, LaidP}
use Rattle.translating.proofs.Counts.{many_s, many_ds, many_p}
use Rattle.translating.proofs.BlockRows.{variables_append, Among, among_is, next_variable, past_variables, next_procedure, BlockAt, AtS, AtSs, AtDs, AtP, at}
use Rattle.translating.proofs.LaidWords.{written_n, written_v, written_s, written_ss, written_d, written_p, Found, found_split, found}
use Rattle.translating.proofs.LayoutPass.{layout_writes}

module _ (key : ℕ → ℕ) (L : List ℕ) where
  -- ---- the formals of a body, one after the other: the first cell is at the offset o

  abbrev InTurn : ℕ → ℕ → List Declared → Type 0
  InTurn u o [] = Unit {0}
  InTurn u o (d ∷ l) = Lying key L u o d.thing d.name.symbol × InTurn u (o + cells_of d.thing) l

  as_far_lem : {o o' : ℕ} (u : ℕ) (t : Thing) (k : ℕ) → o ≡ o' → Lying key L u o t k → Lying key L u o' t k
  as_far_lem u t k e h = subst (λ (m : ℕ). Lying key L u m t k) e h

  here_or_later : (u o n m : ℕ) (b : Bool) (c d : Declared) (f : Option Declared) → Lying key L u o c.thing c.name.symbol
      → (f ≡ some d → Lying key L u (o + n + m) d.thing d.name.symbol) → cond b (some c) f ≡ some d
      → Lying key L u (o + cond b 0 (n + m)) d.thing d.name.symbol
  here_or_later u o n m true c d f h k e =
      let i : c ≡ d = cc in
      as_far_lem u d.thing d.name.symbol (omega arith) (subst (λ (z : Declared). Lying key L u o z.thing z.name.symbol) i h)
  here_or_later u o n m false c d f h k e = as_far_lem u d.thing d.name.symbol (omega arith) (k e)

  -- the first one of a name lies behind the cells before it
  in_turn : (u : ℕ) (l : List Declared) (o : ℕ) (x : Name) (d : Declared) → InTurn u o l → find_in l x ≡ some d
      → Lying key L u (o + before l x) d.thing d.name.symbol
  unfolding find_in before
  in_turn u [] o x d h e = absurd (none-ne-some d e)
  in_turn u (c ∷ l) o x d h e =
      here_or_later u o (cells_of c.thing) (before l x) (same c.name x) c d (find_in l x) h.0 (in_turn u l (o + cells_of c.thing) x d h.1) e

  -- a formal lies so, however it is called
  formal_lies : (u o k : ℕ) (b : Bool) (t : Option Sort) → get_or L (key k) 0 ≡ packed u o 0 → o < 8192 → Lying key L u o (formal_as b t) k
  formal_lies u o k true t e h = (e, h)
  formal_lies u o k false t e h = (e, h)

  formals_turn : (u o : ℕ) (vs : List Name) (ss : List Specification) (xs : List Name) → Found key L (written_n u o xs) → o + length xs ≤ 8192
      → InTurn u o (map (λ y. record { name = y; thing = formal_as (has vs y) (specified ss y) }) xs)
  unfolding written_n
  formals_turn u o vs ss [] h j = tt
  formals_turn u o vs ss (x ∷ xs) h j = (
    formal_lies u o x.symbol (has vs x) (specified ss x) h.0 (omega arith),
    subst (λ (n : ℕ). InTurn u n (map (λ y. record { name = y; thing = formal_as (has vs y) (specified ss y) }) xs)) (cells_one (has vs x) (specified ss x) o)
        (formals_turn u (o + 1) vs ss xs h.1 (omega arith)),
  )
    where
      cells_one : (b : Bool) (t : Option Sort) (o : ℕ) → o + 1 ≡ o + cells_of (formal_as b t)
      cells_one true t o = refl
      cells_one false t o = refl

  -- ---- the variables of a block, which declares `all` and whose first cell is at o; k of each type stand before

  abbrev placed : List Declared → (Sort → ℕ) → Thing → ℕ
  placed all k (variable t) = first_of t all + k t
  placed all k (formal t) = 0
  placed all k (by_name t) = 0
  placed all k (routine p) = 0

  placed_as : (all : List Declared) {k k' : Sort → ℕ} (x : Thing) → ((t : Sort) → k t ≡ k' t) → placed all k x ≡ placed all k' x
  placed_as all (variable t) h = omega (arith, h t)
  placed_as all (formal t) h = refl
  placed_as all (by_name t) h = refl
  placed_as all (routine p) h = refl

  abbrev ByType : ℕ → ℕ → List Declared → (Sort → ℕ) → List Declared → Type 0
  ByType u o all k [] = Unit {0}
  ByType u o all k (d ∷ l) = Lying key L u (o + placed all k d.thing) d.thing d.name.symbol × ByType u o all (λ t. k t + typed t d.thing) l

  lying_as : (u o : ℕ) (all : List Declared) {k k' : Sort → ℕ} (d : Declared) → ((t : Sort) → k t ≡ k' t) → Lying key L u (o + placed all k d.thing) d.thing d.name.symbol
      → Lying key L u (o + placed all k' d.thing) d.thing d.name.symbol
  lying_as u o all d e h = as_far_lem u d.thing d.name.symbol (ap (λ (n : ℕ). o + n) (placed_as all d.thing e)) h

  typed_as : (u o : ℕ) (all l : List Declared) {k k' : Sort → ℕ} → ((t : Sort) → k t ≡ k' t) → ByType u o all k l → ByType u o all k' l
  typed_as u o all [] e h = tt
  typed_as u o all (d ∷ l) e h = (lying_as u o all d e h.0, typed_as u o all l (λ t. omega (arith, e t)) h.1)

  -- the first one of a name lies behind those of its type before it
  by_type : (u o : ℕ) (all l : List Declared) (k : Sort → ℕ) (x : Name) (d : Declared) → ByType u o all k l → find_in l x ≡ some d
      → Lying key L u (o + placed all (λ t. k t + typed_before t l x) d.thing) d.thing d.name.symbol
  unfolding find_in typed_before
  by_type u o all [] k x d h e = absurd (none-ne-some d e)
  by_type u o all (c ∷ l) k x d h e = go (same c.name x) (λ e. by_type u o all l (λ t. k t + typed t c.thing) x d h.1 e) e
    where
      go : (b : Bool) → (find_in l x ≡ some d → Lying key L u (o + placed all (λ t. k t + typed t c.thing + typed_before t l x) d.thing) d.thing d.name.symbol)
          → cond b (some c) (find_in l x) ≡ some d
          → Lying key L u (o + placed all (λ t. k t + cond b 0 (typed t c.thing + typed_before t l x)) d.thing) d.thing d.name.symbol
      go true f e =
          let i : c ≡ d = cc in
          lying_as u o all d (λ t. omega arith) (subst (λ (z : Declared). Lying key L u (o + placed all k z.thing) z.thing z.name.symbol) i h.0)
      go false f e = lying_as u o all d (λ t. omega arith) (f e)

  -- that is where Translate has it
  placed_is : (all : List Declared) (t : Thing) (x : Name) → placed all (λ t. 0 + typed_before t all x) t ≡ among_typed all t x
  placed_is all (variable t) x = omega arith
  placed_is all (formal t) x = refl
  placed_is all (by_name t) x = refl
  placed_is all (routine p) x = refl

  block_lies : (u o : ℕ) (ds : Declarations) → ByType u o (in_block ds) (λ t. 0) (in_block ds) → Lies key L u o (of_block ds)
  block_lies u o ds h x d e =
      let l = in_block ds in
      as_far_lem u d.thing d.name.symbol (ap (λ (n : ℕ). o + n) (placed_is l d.thing x ∙ ap (λ (f : Option Declared). among_declared l f x) (sym e))) (by_type u o l l (λ t. 0) x d h e)

  module _ (rows : List ℕ) (u o q : ℕ) (all : List Declared) (few : o + total all ≤ 8192) where
    -- no more than the block has
    abbrev Room : (Sort → ℕ) → List Declared → Type 0
    Room k l = (t : Sort) → k t + variables_of t l ≤ variables_of t all

    variables_lie : (t : Sort) (xs : List Name) (l : List Declared) (k : Sort → ℕ) (n : ℕ) (w : List ℕ) → Found key L (written_v rows u o n xs)
        → Among rows q all k n (rows_n n_variable q (λ x. sort_number (some t)) xs ++ w) → Room k (variables_in t xs) → ByType u o all (λ r. k r + variables_of r (variables_in t xs)) l
        → ByType u o all k (variables_in t xs ++ l)
    unfolding variables_in written_v rows_n variables_of
    variables_lie t [] l k n w h a r b = typed_as u o all l (λ s. omega arith) b
    variables_lie t (x ∷ xs) l k n w h a r b =
        let i : o + (first_of t all + k t) < 8192 = omega (arith, first_most t all, r t, own_type t) in (
          (h.0 ∙ ap (λ (m : ℕ). packed u (o + m) 0) (among_is x.symbol t a), i),
          variables_lie t xs l (λ s. k s + one_type s t) (n + 1) w h.1 (next_variable x.symbol t a) (λ s. omega (arith, r s)) (typed_as u o all l (λ s. omega arith) b),
        )

    declarations_lie : (c : ℕ) (ds : Declarations) (k : Sort → ℕ) (n : ℕ) → 0 < q → q ≤ c → Found key L (written_d rows u o n ds) → Among rows q all k n (rows_d c q ds) → Room k (in_block ds)
        → ByType u o all k (in_block ds)
    unfolding in_block written_s rows_s variables_of
    declarations_lie c no_more k n p i h a r = tt
    declarations_lie c (variables t xs ds) k n p i h a r =
        let f = found_split key L (written_v rows u o n xs) (written_d rows u o (n + length xs) ds) h in
        let v = variables_in t xs in
        let e : (s : Sort) → variables_of s (v ++ in_block ds) ≡ variables_of s v + variables_of s (in_block ds) = λ s. variables_append s v (in_block ds) in
        variables_lie t xs (in_block ds) k n (rows_d c q ds) f.0 a (λ s. omega (arith, r s, e s))
        (declarations_lie c ds (λ s. k s + variables_of s v) (n + length xs) p i f.1 (past_variables t xs a) (λ s. omega (arith, r s, e s)))
    declarations_lie c (declare (heading t f xs vs ss s) ds) k n p i h a r =
        let g : Procedure = heading t f xs vs ss s in
        let z = found_split key L (written_p rows u n g) (written_d rows u o (n + many_p g) ds) h in (
          z.0.0,
          declarations_lie (c + size_p g) ds (λ s. k s + 0) (n + many_p g) p (omega arith) z.1 (next_procedure c g p i a) (λ s. omega (arith, r s)),
        )

  module _ (rows : List ℕ) where
    -- the first cell of a block at o, n declarations and formals before
    block_laid : (u o n : ℕ) (ds : Declarations) → BlockAt rows n ds → Found key L (written_d rows u o n ds) → o + total (in_block ds) ≤ 8192 → Lies key L u o (of_block ds)
    block_laid u o n ds b h j =
        block_lies u o ds (declarations_lie rows u o b.scope (in_block ds) j b.scopes ds (λ t. 0) n b.some b.known h b.stands (λ t. omega arith))

    mutual
      unfolding written_s symbols_s in_body

      laid_s : (u o n : ℕ) (s : Statement) → AtS rows n s → Found key L (written_s rows u o n s) → o + symbols_s s ≤ 8191 → LaidS key L u o s
      laid_s u o n dummy a h j = tt
      laid_s u o n (assignment x xs q e) a h j = tt
      laid_s u o n (procedure x es) a h j = tt
      laid_s u o n (when q c s) a h j = laid_s u o n s a h (omega arith)
      laid_s u o n (either q c s t) a h j =
          let m = n + many_s s in
          let r = found_split key L (written_s rows u o n s) (written_s rows u o m t) h in
          (laid_s u o n s a.0 r.0 (omega arith), laid_s u o m t a.1 r.1 (omega arith))
      laid_s u o n (repeat x l ls s) a h j = laid_s u o n s a h (omega arith)
      laid_s u o n (compound ss) a h j = laid_ss u o n ss a h (omega arith)
      laid_s u o n (block q ds ss) a h j =
          let m = n + many_ds ds in
          let k = o + cells_in (of_block ds) in
          let r = found_split key L (written_d rows u o n ds) (written_ss rows u k m ss) h in
          let z = block_cells ds in (
            block_laid u o n ds a.0 r.0 (omega arith),
            laid_ds u o n ds a.1 r.0 (omega arith),
            laid_ss u k m ss a.2 r.1 (omega arith),
          )

      laid_ss : (u o n : ℕ) (ss : Statements) → AtSs rows n ss → Found key L (written_ss rows u o n ss) → o + symbols_ss ss ≤ 8191 → LaidSs key L u o ss
      laid_ss u o n (last s) a h j = laid_s u o n s a h (omega arith)
      laid_ss u o n (first s ss) a h j =
          let m = n + many_s s in
          let r = found_split key L (written_s rows u o n s) (written_ss rows u o m ss) h in
          (laid_s u o n s a.0 r.0 (omega arith), laid_ss u o m ss a.1 r.1 (omega arith))

      laid_ds : (u o n : ℕ) (ds : Declarations) → AtDs rows n ds → Found key L (written_d rows u o n ds) → symbols_ds ds ≤ 8191 → LaidDs key L u ds
      laid_ds u o n no_more a h j = tt
      laid_ds u o n (variables t xs ds) a h j =
          let m = n + length xs in
          laid_ds u o m ds a (found_split key L (written_v rows u o n xs) (written_d rows u o m ds) h).1 (omega arith)
      laid_ds u o n (declare p ds) a h j =
          let m = n + many_p p in
          let r = found_split key L (written_p rows u n p) (written_d rows u o m ds) h in
          (laid_p u n p a.0 r.0 (omega arith), laid_ds u o m ds a.1 r.1 (omega arith))

      laid_p : (u n : ℕ) (p : Procedure) → AtP rows n p → Found key L (written_p rows u n p) → symbols_p p ≤ 8191 → LaidP key L u p
      laid_p u n (heading t f xs vs ss s) a h j =
          let c = cells_in (of_body (heading t f xs vs ss s)) in
          let r = found_split key L (written_n (suc u) (one_if t) xs) (written_s rows (suc u) c (n + 1 + length xs) s) h.1 in
          let k = body_cells (heading t f xs vs ss s) in
          let k' = listed_most xs in
          let k'' = one_most t in (
            h.0,
            λ x d e.
                as_far_lem (suc u) d.thing d.name.symbol (omega arith)
                (in_turn (suc u) (in_body (heading t f xs vs ss s)) (one_if t) x d (formals_turn (suc u) (one_if t) vs ss xs r.0 (omega arith)) e),
            laid_s (suc u) c (n + 1 + length xs) s a r.1 (omega arith),
          )

-- of a whole program, at any depth
pub laid : (n : ℕ) → n ≤ 2048 → (d : ℕ) (s : Statement) → RowsRise 0 n (rows_s 0 0 s) → symbols_s s ≤ 2048 → LaidS (number_of (rows_s 0 0 s)) (layout_of (rows_s 0 0 s) (nodes_s d s)) 0 0 s
laid n h d s r l =
    let rows = rows_s 0 0 s in
    rw (layout_writes rows d s) (laid_s (number_of rows) _ rows 0 0 0 s (at s) (found n h s r) (omega arith))
