-- Where procedures begin: the words that a pass over a tree adds to the table of the entries, one for each declaration in source order, and that a table
-- of them all is right for every procedure of the tree: each is found by its number, since one word stands for each row.
use Prim.Native.Nat.{ℕ, suc, ◌+◌, ◌≤◌}
use native.Mathlib.Omega.{arith}
use mathlib.Core.Path.{◌≡◌, refl, sym, ap, ◌∙◌}
use mathlib.Core.Bool.{Bool, true, false, cond}
use mathlib.Core.List.{List, [], ◌∷◌, ◌++◌}
use mathlib.Core.Option.{some, none-ne-some}
use lib.ListN.{length, get_or, length-append}
use Rattle.grammar.specs.NodeKinds.{n_variable, n_formal}
use Rattle.names.specs.Program.{Name, Statement, dummy, assignment, procedure, when, either, repeat, compound, block, Statements, last, first, Declarations, none as no_more, variables, declare, Procedure, heading}
use Rattle.names.specs.Scopes.{routine, Declared, Scope, of_block, of_body, name_of, same, in_block, find_in}
use Rattle.names.specs.Nodes.{sort_number}
use Rattle.names.specs.Outline.{size_s, size_d, size_p, formal_in, rows_n, rows_s, rows_ss, rows_d, rows_p}
use Rattle.translation.specs.model.Translate.{end_e, end_l, end_head, end_s, end_ds, end_p, entry}
use Rattle.rules.proofs.Declarations.{behind}
use Rattle.translating.proofs.Counts.{many_s, many_ss, many_ds, many_p}
use Rattle.translating.proofs.Shown.{shown}
use Rattle.translating.proofs.Rising.{RowsRise}
use Rattle.translating.proofs.Sites.{number_of}
use Rattle.translating.proofs.LaidWords.{Written, written, Alike, no_word, a_word, alike_append, writes, writes_append, words_of, writes_are, Found, found_split, found_in_lem}

-- ---- the table behind a tree whose code begins at b

-- behind variables or formals
abbrev pub blanks : List Name → List ℕ → List ℕ
blanks [] l = l
blanks (x ∷ xs) l = blanks xs (l ++ (0 ∷ []))

unfoldable mutual
  pub entered_s : List Scope → Statement → ℕ → List ℕ → List ℕ
  entered_s g dummy b l = l
  entered_s g (assignment x xs q e) b l = l
  entered_s g (procedure x es) b l = l
  entered_s g (when q c s) b l = entered_s g s (suc (end_e g c b)) l
  entered_s g (either q c s t) b l =
      let i = end_e g c b in
      let n = end_s g s (suc i) in
      entered_s g t (suc n) (entered_s g s (suc i) l)
  entered_s g (repeat x y ys s) b l = entered_s g s (end_l g x (y ∷ ys) b) l
  entered_s g (compound ss) b l = entered_ss g ss b l
  entered_s g (block q ds ss) b l =
      let h = of_block ds ∷ g in
      let p = end_head ds b in
      entered_ss h ss (suc (end_ds h ds p)) (entered_ds h ds p l)

  pub entered_ss : List Scope → Statements → ℕ → List ℕ → List ℕ
  entered_ss g (last s) b l = entered_s g s b l
  entered_ss g (first s ss) b l = entered_ss g ss (end_s g s b) (entered_s g s b l)

  pub entered_ds : List Scope → Declarations → ℕ → List ℕ → List ℕ
  entered_ds g no_more b l = l
  entered_ds g (variables t xs ds) b l = entered_ds g ds b (blanks xs l)
  entered_ds g (declare p ds) b l = entered_ds g ds (end_p g p b) (entered_p g p b l)

  pub entered_p : List Scope → Procedure → ℕ → List ℕ → List ℕ
  entered_p g (heading t f xs vs ss s) b l = entered_s (of_body (heading t f xs vs ss s) ∷ g) s b (blanks xs (l ++ (b ∷ [])))

-- ---- the words added, each for the symbol of a declaring name

unfoldable pub entries_n : List Name → List Written
entries_n [] = []
entries_n (x ∷ xs) = written x.symbol 0 ∷ entries_n xs

unfoldable mutual
  pub entries_s : List Scope → Statement → ℕ → List Written
  entries_s g dummy b = []
  entries_s g (assignment x xs q e) b = []
  entries_s g (procedure x es) b = []
  entries_s g (when q c s) b = entries_s g s (suc (end_e g c b))
  entries_s g (either q c s t) b = entries_s g s (suc (end_e g c b)) ++ entries_s g t (suc (end_s g s (suc (end_e g c b))))
  entries_s g (repeat x y ys s) b = entries_s g s (end_l g x (y ∷ ys) b)
  entries_s g (compound ss) b = entries_ss g ss b
  entries_s g (block q ds ss) b =
      let h = of_block ds ∷ g in
      let p = end_head ds b in
      entries_ds h ds p ++ entries_ss h ss (suc (end_ds h ds p))

  pub entries_ss : List Scope → Statements → ℕ → List Written
  entries_ss g (last s) b = entries_s g s b
  entries_ss g (first s ss) b = entries_s g s b ++ entries_ss g ss (end_s g s b)

  pub entries_ds : List Scope → Declarations → ℕ → List Written
  entries_ds g no_more b = []
  entries_ds g (variables t xs ds) b = entries_n xs ++ entries_ds g ds b
  entries_ds g (declare p ds) b = entries_p g p b ++ entries_ds g ds (end_p g p b)

  pub entries_p : List Scope → Procedure → ℕ → List Written
  entries_p g (heading t f xs vs ss s) b = written f.symbol b ∷ (entries_n xs ++ entries_s (of_body (heading t f xs vs ss s) ∷ g) s b)

blanks_are : (xs : List Name) (l : List ℕ) → blanks xs l ≡ writes l (entries_n xs)
unfolding entries_n writes
blanks_are [] l = refl
blanks_are (x ∷ xs) l = blanks_are xs (l ++ (0 ∷ []))

-- one part behind another
then_are : (l : List ℕ) (ws ws' : List Written) {l' l'' : List ℕ} → l' ≡ writes l ws → l'' ≡ writes l' ws' → l'' ≡ writes l (ws ++ ws')
then_are l ws ws' e f = f ∙ ap (λ (x : List ℕ). writes x ws') e ∙ sym (writes_append l ws ws')

mutual
  unfolding entered_s entries_s writes

  entered_s_are : (g : List Scope) (s : Statement) (b : ℕ) (l : List ℕ) → entered_s g s b l ≡ writes l (entries_s g s b)
  entered_s_are g dummy b l = refl
  entered_s_are g (assignment x xs q e) b l = refl
  entered_s_are g (procedure x es) b l = refl
  entered_s_are g (when q c s) b l = entered_s_are g s (suc (end_e g c b)) l
  entered_s_are g (either q c s t) b l =
      let i = suc (end_e g c b) in
      then_are l (entries_s g s i) (entries_s g t (suc (end_s g s i))) (entered_s_are g s i l) (entered_s_are g t (suc (end_s g s i)) (entered_s g s i l))
  entered_s_are g (repeat x y ys s) b l = entered_s_are g s (end_l g x (y ∷ ys) b) l
  entered_s_are g (compound ss) b l = entered_ss_are g ss b l
  entered_s_are g (block q ds ss) b l =
      let h = of_block ds ∷ g in
      let p = end_head ds b in
      let i = suc (end_ds h ds p) in
      then_are l (entries_ds h ds p) (entries_ss h ss i) (entered_ds_are h ds p l) (entered_ss_are h ss i (entered_ds h ds p l))

  entered_ss_are : (g : List Scope) (ss : Statements) (b : ℕ) (l : List ℕ) → entered_ss g ss b l ≡ writes l (entries_ss g ss b)
  entered_ss_are g (last s) b l = entered_s_are g s b l
  entered_ss_are g (first s ss) b l = then_are l (entries_s g s b) (entries_ss g ss (end_s g s b)) (entered_s_are g s b l) (entered_ss_are g ss (end_s g s b) (entered_s g s b l))

  entered_ds_are : (g : List Scope) (ds : Declarations) (b : ℕ) (l : List ℕ) → entered_ds g ds b l ≡ writes l (entries_ds g ds b)
  entered_ds_are g no_more b l = refl
  entered_ds_are g (variables t xs ds) b l = then_are l (entries_n xs) (entries_ds g ds b) (blanks_are xs l) (entered_ds_are g ds b (blanks xs l))
  entered_ds_are g (declare p ds) b l = then_are l (entries_p g p b) (entries_ds g ds (end_p g p b)) (entered_p_are g p b l) (entered_ds_are g ds (end_p g p b) (entered_p g p b l))

  entered_p_are : (g : List Scope) (p : Procedure) (b : ℕ) (l : List ℕ) → entered_p g p b l ≡ writes l (entries_p g p b)
  entered_p_are g (heading t f xs vs ss s) b l =
      then_are (l ++ (b ∷ [])) (entries_n xs) (entries_s (of_body (heading t f xs vs ss s) ∷ g) s b) (blanks_are xs (l ++ (b ∷ []))) (entered_s_are (of_body (heading t f xs vs ss s) ∷ g) s b (blanks xs (l ++ (b ∷ []))))

-- as many as there are declarations and formals
pub blanks_many : (xs : List Name) (l : List ℕ) → length (blanks xs l) ≡ length l + length xs
blanks_many [] l = omega arith
blanks_many (x ∷ xs) l = omega (arith, blanks_many xs (l ++ (0 ∷ [])), length-append l (0 ∷ []))

mutual
  unfolding entered_s many_s

  pub entered_s_many : (g : List Scope) (s : Statement) (b : ℕ) (l : List ℕ) → length (entered_s g s b l) ≡ length l + many_s s
  entered_s_many g dummy b l = omega arith
  entered_s_many g (assignment x xs q e) b l = omega arith
  entered_s_many g (procedure x es) b l = omega arith
  entered_s_many g (when q c s) b l = entered_s_many g s (suc (end_e g c b)) l
  entered_s_many g (either q c s t) b l =
      let i = suc (end_e g c b) in
      omega (arith, entered_s_many g s i l, entered_s_many g t (suc (end_s g s i)) (entered_s g s i l))
  entered_s_many g (repeat x y ys s) b l = entered_s_many g s (end_l g x (y ∷ ys) b) l
  entered_s_many g (compound ss) b l = entered_ss_many g ss b l
  entered_s_many g (block q ds ss) b l =
      let h = of_block ds ∷ g in
      let p = end_head ds b in
      omega (arith, entered_ds_many h ds p l, entered_ss_many h ss (suc (end_ds h ds p)) (entered_ds h ds p l))

  entered_ss_many : (g : List Scope) (ss : Statements) (b : ℕ) (l : List ℕ) → length (entered_ss g ss b l) ≡ length l + many_ss ss
  entered_ss_many g (last s) b l = entered_s_many g s b l
  entered_ss_many g (first s ss) b l = omega (arith, entered_s_many g s b l, entered_ss_many g ss (end_s g s b) (entered_s g s b l))

  pub entered_ds_many : (g : List Scope) (ds : Declarations) (b : ℕ) (l : List ℕ) → length (entered_ds g ds b l) ≡ length l + many_ds ds
  entered_ds_many g no_more b l = omega arith
  entered_ds_many g (variables t xs ds) b l = omega (arith, blanks_many xs l, entered_ds_many g ds b (blanks xs l))
  entered_ds_many g (declare p ds) b l = omega (arith, entered_p_many g p b l, entered_ds_many g ds (end_p g p b) (entered_p g p b l))

  pub entered_p_many : (g : List Scope) (p : Procedure) (b : ℕ) (l : List ℕ) → length (entered_p g p b l) ≡ length l + many_p p
  entered_p_many g (heading t f xs vs ss s) b l =
      let h = of_body (heading t f xs vs ss s) ∷ g in
      omega (arith, entered_s_many h s b (blanks xs (l ++ (b ∷ []))), blanks_many xs (l ++ (b ∷ [])), length-append l (b ∷ []))

-- one for each row
alike_n : (k q : ℕ) (t : Name → ℕ) (xs : List Name) → Alike (rows_n k q t xs) (entries_n xs)
unfolding rows_n entries_n
alike_n k q t [] = no_word
alike_n k q t (x ∷ xs) = a_word (alike_n k q t xs)

mutual
  unfolding rows_s entries_s

  alike_s : (c q : ℕ) (g : List Scope) (s : Statement) (b : ℕ) → Alike (rows_s c q s) (entries_s g s b)
  alike_s c q g dummy b = no_word
  alike_s c q g (assignment x xs p e) b = no_word
  alike_s c q g (procedure x es) b = no_word
  alike_s c q g (when p e s) b = alike_s c q g s (suc (end_e g e b))
  alike_s c q g (either p e s t) b = alike_append (alike_s c q g s (suc (end_e g e b))) (alike_s (c + size_s s) q g t (suc (end_s g s (suc (end_e g e b)))))
  alike_s c q g (repeat x y ys s) b = alike_s c q g s (end_l g x (y ∷ ys) b)
  alike_s c q g (compound ss) b = alike_ss c q g ss b
  alike_s c q g (block p ds ss) b =
      let h = of_block ds ∷ g in
      let i = end_head ds b in
      alike_append (alike_ds (c + 1) (c + 1) h ds i) (alike_ss (c + 1 + size_d ds) (c + 1) h ss (suc (end_ds h ds i)))

  alike_ss : (c q : ℕ) (g : List Scope) (ss : Statements) (b : ℕ) → Alike (rows_ss c q ss) (entries_ss g ss b)
  alike_ss c q g (last s) b = alike_s c q g s b
  alike_ss c q g (first s ss) b = alike_append (alike_s c q g s b) (alike_ss (c + size_s s) q g ss (end_s g s b))

  alike_ds : (c q : ℕ) (g : List Scope) (ds : Declarations) (b : ℕ) → Alike (rows_d c q ds) (entries_ds g ds b)
  alike_ds c q g no_more b = no_word
  alike_ds c q g (variables t xs ds) b = alike_append (alike_n n_variable q (λ x. sort_number (some t)) xs) (alike_ds c q g ds b)
  alike_ds c q g (declare p ds) b = alike_append (alike_p c q g p b) (alike_ds (c + size_p p) q g ds (end_p g p b))

  alike_p : (c q : ℕ) (g : List Scope) (p : Procedure) (b : ℕ) → Alike (rows_p c q p) (entries_p g p b)
  alike_p c q g (heading t f xs vs ss s) b =
      a_word (alike_append (alike_n n_formal (c + 1) (formal_in vs ss) xs) (alike_s (c + 1) (c + 1) (of_body (heading t f xs vs ss s) ∷ g) s b))

-- ---- a table is right for the procedures of a tree

module _ (key : ℕ → ℕ) (T : List ℕ) where
  abbrev mutual
    pub RightS : List Scope → Statement → ℕ → Type 0
    RightS g dummy b = Unit {0}
    RightS g (assignment x xs q e) b = Unit {0}
    RightS g (procedure x es) b = Unit {0}
    RightS g (when q c s) b = RightS g s (suc (end_e g c b))
    RightS g (either q c s t) b = RightS g s (suc (end_e g c b)) × RightS g t (suc (end_s g s (suc (end_e g c b))))
    RightS g (repeat x y ys s) b = RightS g s (end_l g x (y ∷ ys) b)
    RightS g (compound ss) b = RightSs g ss b
    RightS g (block q ds ss) b = RightDs (of_block ds ∷ g) ds (end_head ds b) × RightSs (of_block ds ∷ g) ss (suc (end_ds (of_block ds ∷ g) ds (end_head ds b)))

    pub RightSs : List Scope → Statements → ℕ → Type 0
    RightSs g (last s) b = RightS g s b
    RightSs g (first s ss) b = RightS g s b × RightSs g ss (end_s g s b)

    pub RightDs : List Scope → Declarations → ℕ → Type 0
    RightDs g no_more b = Unit {0}
    RightDs g (variables t xs ds) b = RightDs g ds b
    RightDs g (declare p ds) b = RightP g p b × RightDs g ds (end_p g p b)

    pub RightP : List Scope → Procedure → ℕ → Type 0
    RightP g (heading t f xs vs ss s) b = (get_or T (key f.symbol) 0 ≡ b) × RightS (of_body (heading t f xs vs ss s) ∷ g) s b

  begins : (g : List Scope) (p : Procedure) (b : ℕ) → RightP g p b → get_or T (key (name_of p).symbol) 0 ≡ b
  begins g (heading t f xs vs ss s) b w = w.0

  -- then it has the entry of each procedure of a block
  pub entry_is : (g : List Scope) (ds : Declarations) (b : ℕ) → RightDs g ds b → (x : Name) (d : Declared) (p : Procedure) → find_in (in_block ds) x ≡ some d → d.thing ≡ routine p
      → get_or T (key d.name.symbol) 0 ≡ entry g ds b x
  unfolding in_block find_in entry
  entry_is g no_more b w x d p e e' = absurd (none-ne-some d e)
  entry_is g (variables t xs ds) b w x d p e e' = entry_is g ds b w x d p (behind t xs (in_block ds) x d p e e') e'
  entry_is g (declare q ds) b w x d p e e' = go (same (name_of q) x) (λ e. entry_is g ds (end_p g q b) w.1 x d p e e') e
    where
      go : (t : Bool) → (find_in (in_block ds) x ≡ some d → get_or T (key d.name.symbol) 0 ≡ entry g ds (end_p g q b) x)
          → cond t (some (record { name = name_of q; thing = routine q })) (find_in (in_block ds) x) ≡ some d
          → get_or T (key d.name.symbol) 0 ≡ cond t b (entry g ds (end_p g q b) x)
      go true f e =
          let i : record { name = name_of q; thing = routine q } ≡ d = cc in
          let j : name_of q ≡ d.name = ap (λ (d : Declared). d.name) i in
          rw (← j) (begins g q b w.0)
      go false f e = f e

  -- it is, if the words added are found in it
  mutual
    unfolding entries_s

    right_s : (g : List Scope) (s : Statement) (b : ℕ) → Found key T (entries_s g s b) → RightS g s b
    right_s g dummy b h = tt
    right_s g (assignment x xs q e) b h = tt
    right_s g (procedure x es) b h = tt
    right_s g (when q c s) b h = right_s g s (suc (end_e g c b)) h
    right_s g (either q c s t) b h =
        let i = suc (end_e g c b) in
        let j = suc (end_s g s i) in
        let r = found_split key T (entries_s g s i) (entries_s g t j) h in
        (right_s g s i r.0, right_s g t j r.1)
    right_s g (repeat x y ys s) b h = right_s g s (end_l g x (y ∷ ys) b) h
    right_s g (compound ss) b h = right_ss g ss b h
    right_s g (block q ds ss) b h =
        let g' = of_block ds ∷ g in
        let p = end_head ds b in
        let i = suc (end_ds g' ds p) in
        let r = found_split key T (entries_ds g' ds p) (entries_ss g' ss i) h in
        (right_ds g' ds p r.0, right_ss g' ss i r.1)

    right_ss : (g : List Scope) (ss : Statements) (b : ℕ) → Found key T (entries_ss g ss b) → RightSs g ss b
    right_ss g (last s) b h = right_s g s b h
    right_ss g (first s ss) b h =
        let r = found_split key T (entries_s g s b) (entries_ss g ss (end_s g s b)) h in
        (right_s g s b r.0, right_ss g ss (end_s g s b) r.1)

    right_ds : (g : List Scope) (ds : Declarations) (b : ℕ) → Found key T (entries_ds g ds b) → RightDs g ds b
    right_ds g no_more b h = tt
    right_ds g (variables t xs ds) b h = right_ds g ds b (found_split key T (entries_n xs) (entries_ds g ds b) h).1
    right_ds g (declare p ds) b h =
        let r = found_split key T (entries_p g p b) (entries_ds g ds (end_p g p b)) h in
        (right_p g p b r.0, right_ds g ds (end_p g p b) r.1)

    right_p : (g : List Scope) (p : Procedure) (b : ℕ) → Found key T (entries_p g p b) → RightP g p b
    right_p g (heading t f xs vs ss s) b h =
        let g' = of_body (heading t f xs vs ss s) ∷ g in
        (h.0, right_s g' s b (found_split key T (entries_n xs) (entries_s g' s b) h.1).1)

-- the table that a pass over a program leaves
pub right_entries : (n : ℕ) → n ≤ 2048 → (s : Statement) → RowsRise 0 n (rows_s 0 0 s) → RightS (number_of (rows_s 0 0 s)) (shown 2048 (entered_s [] s 0 [])) [] s 0
right_entries n h s r =
    let e : entered_s [] s 0 [] ≡ words_of (entries_s [] s 0) = entered_s_are [] s 0 [] ∙ writes_are [] (entries_s [] s 0) in
    rw e (right_s (number_of (rows_s 0 0 s)) (shown 2048 (words_of (entries_s [] s 0))) [] s 0 (found_in_lem n 2048 h (alike_s 0 0 [] s 0) r))
