-- What the pass that writes code is told of a program beside its layout: the value of each number by its symbol, the mark of each 'if', and of each procedure
-- that is called the type of its result, and how its formals are called and of which types they are. These are definitions, and that the rows, the uses and the
-- marks of a program tell so much.
use Prim.Native.Nat.{ℕ, ◌+◌, ◌%◌}
use native.Mathlib.Omega.{arith}
use mathlib.Core.Path.{◌≡◌, refl, sym, ap, subst, ◌∙◌}
use mathlib.Core.Bool.{Bool, true, false}
use mathlib.Core.List.{List, [], ◌∷◌, ◌++◌, map}
use mathlib.Core.Option.{Option, none, some}
use lib.Dec.{eqb, ltb}
use lib.ListN.{length, take, drop}
use Rattle.names.specs.Program.{Name, Sort, integer, boolean, real, Specification, Expression, number, decimal, logical, name, call, signed, operated, chosen, nested, Expressions, done, then, Element, value, while, step, Statement, dummy, assignment, procedure, when, either, repeat, compound, block, Statements, last, first, Declarations, none as no_more, variables, declare, Procedure, heading}
use Rattle.names.specs.Every.{AnyName, EveryE, EveryEs, EveryLs, EveryS, EverySs, EveryD, EveryP}
use Rattle.names.specs.Scopes.{has, routine, Mode, by_value, by_name_mode, mode_as, modes, modes_of, formals_of, values_of, specifications_of, sort_of, specified, Declared, Scope, of_block, of_body, declared, meaning}
use Rattle.names.specs.Modes.{formal_number}
use Rattle.names.specs.Nodes.{sort_number}
use Rattle.names.specs.Uses.{Use, used, uses_e, uses_es, uses_l, uses_s, uses_ss, uses_d, uses_p}
use Rattle.names.specs.model.Rows.{meant_of}
use Rattle.names.specs.declared.Meant.{Meant}
use Rattle.names.specs.declared.Meant.TheVariants.{Declared as at_row, Given as at_given, Nothing as nowhere}
use Rattle.names.proofs.Around.{sort_at, Formals, ToldThing, Means}
use Rattle.names.proofs.Resolved.{Matches, matches_split}
use Rattle.types.specs.Types.{widens, wide_arm}
use Rattle.machine.specs.Instructions.{form_number}
use Rattle.rules.specs.Entered.{form_as}
use Rattle.emitting.specs.model.Emission.{formal_at, form_of, form_at}
use Rattle.translating.proofs.Rising.{RowsRise}
use Rattle.translating.proofs.Sites.{number_of}
use Rattle.translating.proofs.Standing.{StandE, StandEs, StandL, StandS, StandSs, StandD, StandP}
use Rattle.translating.proofs.ToldUses.{number_is}

-- ---- the formals of a procedure

-- from the j-th on those of the procedure with the number m are called as the list says, and are of its types; behind them stands no formal called by name
abbrev pub ModesAt : List ℕ → ℕ → ℕ → List Mode → Type 0
ModesAt rows m j [] = eqb (formal_at rows (m + 1 + j)) 2 ≡ false
ModesAt rows m j (by_value t ∷ ms) = (eqb (formal_at rows (m + 1 + j)) 2 ≡ false) × (form_at rows (m + 1 + j) ≡ form_number (form_as t)) × ModesAt rows m (j + 1) ms
ModesAt rows m j (by_name_mode t ∷ ms) = (eqb (formal_at rows (m + 1 + j)) 2 ≡ true) × (form_at rows (m + 1 + j) ≡ form_number (form_as t)) × ModesAt rows m (j + 1) ms

-- of the procedure that a name means: its result's type; so are its formals
abbrev pub Asked : (ℕ → ℕ) → List ℕ → List Scope → Name → Type 0
Asked key rows g x =
    (d : Declared) (h : List Scope) (p : Procedure) → meaning g x ≡ declared d h → d.thing ≡ routine p
    → (form_at rows (key d.name.symbol) ≡ form_number (form_as (sort_of p))) × ModesAt rows (key d.name.symbol) 0 (modes_of p)

by_value_lem : (t : Option Sort) → ltb (formal_number true t) 4 ≡ true
by_value_lem none = refl
by_value_lem (some integer) = refl
by_value_lem (some boolean) = refl
by_value_lem (some real) = refl

not_value : (t : Option Sort) → ltb (formal_number false t) 4 ≡ false
not_value none = refl
not_value (some integer) = refl
not_value (some boolean) = refl
not_value (some real) = refl

-- the type in a row's last word, of a procedure and of a formal
sort_form : (t : Option Sort) → form_of (sort_number t % 4) ≡ form_number (form_as t)
unfolding form_of
sort_form none = refl
sort_form (some integer) = refl
sort_form (some boolean) = refl
sort_form (some real) = refl

formal_form : (b : Bool) (t : Option Sort) → form_of (formal_number b t % 4) ≡ form_number (form_as t)
unfolding form_of
formal_form true none = refl
formal_form true (some integer) = refl
formal_form true (some boolean) = refl
formal_form true (some real) = refl
formal_form false none = refl
formal_form false (some integer) = refl
formal_form false (some boolean) = refl
formal_form false (some real) = refl

formals_modes : (R : List ℕ) (m j : ℕ) (xs vs : List Name) (ss : List Specification) → Formals R (m + 1 + j) xs vs ss → ModesAt R m j (modes ss vs xs)
unfolding modes formal_at form_at
formals_modes R m j [] vs ss f = rw f refl
formals_modes R m j (x ∷ xs) vs ss f = go (has vs x) f.1 (formals_modes R m (j + 1) xs vs ss (subst (λ (i : ℕ). Formals R i xs vs ss) (omega arith) f.2))
  where
    go : (b : Bool) → sort_at R (m + 1 + j) ≡ formal_number b (specified ss x) → ModesAt R m (j + 1) (modes ss vs xs) → ModesAt R m j (mode_as b (specified ss x) ∷ modes ss vs xs)
    go true e h = (rw (f.0.kind, e, by_value_lem (specified ss x)) refl, rw e (formal_form true (specified ss x)), h)
    go false e h = (rw (f.0.kind, e, not_value (specified ss x)) refl, rw e (formal_form false (specified ss x)), h)

-- a use's word tells of its procedure
asked : (n : ℕ) (R : List ℕ) → RowsRise 0 n R → (w : Meant) (g : List Scope) (x : Name) → Means R w (meaning g x) → Asked (number_of R) R g x
unfolding form_at
asked n R rising w g x h d h' p e i = go w (subst (Means R w) e h)
  where
    as_routine : (j : ℕ) → ToldThing R j d.thing → ToldThing R j (routine p)
    as_routine j t = subst (ToldThing R j) i t

    go : (w : Meant) → Means R w (declared d h')
        → (form_at R (number_of R d.name.symbol) ≡ form_number (form_as (sort_of p))) × ModesAt R (number_of R d.name.symbol) 0 (modes_of p)
    go (at_row j) h =
        let m = j.number in
        let inside = h.row.inside in
        let b : number_of R d.name.symbol ≡ m = ap (number_of R) (sym h.row.symbol) ∙ number_is m rising (omega arith) in
        let f = as_routine m h.thing in
        rw b (
          rw f.0 (sort_form (sort_of p)),
          formals_modes R m 0 (formals_of p) (values_of p) (specifications_of p) (subst (λ (i : ℕ). Formals R i (formals_of p) (values_of p) (specifications_of p)) (omega arith) f.1),
        )
    go (at_given k) h = absurd h
    go nowhere h = absurd h

-- ---- the parts of a program, in the scopes g: Q of every number, D of every number with a point, M of every 'if' and its mark, P of every procedure's name

module _ (Q : ℕ → ℕ → Type 0) (D : ℕ → ℕ → ℕ → Type 0) (M : ℕ → ℕ → Type 0) (P : List Scope → Name → Type 0) where
  abbrev mutual
    pub ToldE : List Scope → Expression → Type 0
    ToldE g (number q v) = Q q v
    ToldE g (decimal q n k) = D q n k
    ToldE g (logical q b) = Unit {0}
    ToldE g (name x) = P g x
    ToldE g (call x e es) = P g x × ToldE g e × ToldEs g es
    ToldE g (signed q o e) = ToldE g e
    ToldE g (operated q o e f) = ToldE g e × ToldE g f
    ToldE g (chosen q r c e f) = M q (wide_arm (widens g e f) (widens g f e)) × ToldE g c × ToldE g e × ToldE g f
    ToldE g (nested q e) = ToldE g e

    pub ToldEs : List Scope → Expressions → Type 0
    ToldEs g done = Unit {0}
    ToldEs g (then e es) = ToldE g e × ToldEs g es

  abbrev pub ToldL : List Scope → List Element → Type 0
  ToldL g [] = Unit {0}
  ToldL g (value e ∷ l) = ToldE g e × ToldL g l
  ToldL g (while q e c ∷ l) = ToldE g e × ToldE g c × ToldL g l
  ToldL g (step q e f h ∷ l) = ToldE g e × ToldE g f × ToldE g h × ToldL g l

  abbrev mutual
    pub ToldS : List Scope → Statement → Type 0
    ToldS g dummy = Unit {0}
    ToldS g (assignment x xs q e) = ToldE g e
    ToldS g (procedure x es) = P g x × ToldEs g es
    ToldS g (when q c s) = M q 0 × ToldE g c × ToldS g s
    ToldS g (either q c s t) = M q 0 × ToldE g c × ToldS g s × ToldS g t
    ToldS g (repeat x l ls s) = ToldL g (l ∷ ls) × ToldS g s
    ToldS g (compound ss) = ToldSs g ss
    ToldS g (block q ds ss) = ToldDs (of_block ds ∷ g) ds × ToldSs (of_block ds ∷ g) ss

    pub ToldSs : List Scope → Statements → Type 0
    ToldSs g (last s) = ToldS g s
    ToldSs g (first s ss) = ToldS g s × ToldSs g ss

    pub ToldDs : List Scope → Declarations → Type 0
    ToldDs g no_more = Unit {0}
    ToldDs g (variables t xs ds) = ToldDs g ds
    ToldDs g (declare p ds) = ToldP g p × ToldDs g ds

    pub ToldP : List Scope → Procedure → Type 0
    ToldP g (heading t f xs vs ss s) = ToldS (of_body (heading t f xs vs ss s) ∷ g) s

-- ---- numbers, marks and uses tell it

module _ (Q : ℕ → ℕ → Type 0) (D : ℕ → ℕ → ℕ → Type 0) (M : ℕ → ℕ → Type 0) (n : ℕ) (R : List ℕ) (rising : RowsRise 0 n R) where
  abbrev P : List Scope → Name → Type 0
  P g x = Asked (number_of R) R g x

  -- the words of the uses us
  abbrev Of : List Use → Type 0
  Of us = (ws : List ℕ) × Matches R ws us

  apart : (us us' : List Use) → Of (us ++ us') → Of us × Of us'
  apart us us' w = let h = matches_split R w.0 us us' w.1 in ((take (length us) w.0, h.0), (drop (length us) w.0, h.1))

  one : (g : List Scope) (x : Name) (us : List Use) → Of (used g x ∷ us) → P g x × Of us
  one g x us ([], h) = absurd h
  one g x us (w ∷ ws, h) = (asked n R rising (meant_of w) g x h.0, (ws, h.1))

  -- t: of the numbers; m: of the marks; w: of the uses
  mutual
    unfolding uses_e

    told_e : (g : List Scope) (e : Expression) → EveryE AnyName Q D e → StandE M g e → Of (uses_e g e) → ToldE Q D M P g e
    told_e g (number q v) t m w = t
    told_e g (decimal q v i) t m w = t
    told_e g (logical q b) t m w = tt
    told_e g (name x) t m w = (one g x [] w).0
    told_e g (call x e es) t m w =
        let o = one g x (uses_e g e ++ uses_es g es) w in
        let h = apart (uses_e g e) (uses_es g es) o.1 in
        (o.0, told_e g e t.1 m.0 h.0, told_es g es t.2 m.1 h.1)
    told_e g (signed q o e) t m w = told_e g e t m w
    told_e g (operated q o e f) t m w = let h = apart (uses_e g e) (uses_e g f) w in (told_e g e t.0 m.0 h.0, told_e g f t.1 m.1 h.1)
    told_e g (chosen q r c e f) t m w =
        let h = apart (uses_e g c) (uses_e g e ++ uses_e g f) w in
        let h' = apart (uses_e g e) (uses_e g f) h.1 in
        (m.0, told_e g c t.0 m.1 h.0, told_e g e t.1 m.2 h'.0, told_e g f t.2 m.3 h'.1)
    told_e g (nested q e) t m w = told_e g e t m w

    told_es : (g : List Scope) (es : Expressions) → EveryEs AnyName Q D es → StandEs M g es → Of (uses_es g es) → ToldEs Q D M P g es
    told_es g done t m w = tt
    told_es g (then e es) t m w = let h = apart (uses_e g e) (uses_es g es) w in (told_e g e t.0 m.0 h.0, told_es g es t.1 m.1 h.1)

  told_l : (g : List Scope) (l : List Element) → EveryLs AnyName Q D l → StandL M g l → Of (uses_l g l) → ToldL Q D M P g l
  unfolding uses_l
  told_l g [] t m w = tt
  told_l g (value e ∷ l) t m w = let h = apart (uses_e g e) (uses_l g l) w in (told_e g e t.0 m.0 h.0, told_l g l t.1 m.1 h.1)
  told_l g (while q e c ∷ l) t m w =
      let h = apart (uses_e g e) (uses_e g c ++ uses_l g l) w in
      let h' = apart (uses_e g c) (uses_l g l) h.1 in
      (told_e g e t.0.0 m.0 h.0, told_e g c t.0.1 m.1 h'.0, told_l g l t.1 m.2 h'.1)
  told_l g (step q e f i ∷ l) t m w =
      let h = apart (uses_e g e) (uses_e g f ++ (uses_e g i ++ uses_l g l)) w in
      let h' = apart (uses_e g f) (uses_e g i ++ uses_l g l) h.1 in
      let h'' = apart (uses_e g i) (uses_l g l) h'.1 in
      (told_e g e t.0.0 m.0 h.0, told_e g f t.0.1 m.1 h'.0, told_e g i t.0.2 m.2 h''.0, told_l g l t.1 m.3 h''.1)

  -- behind left parts
  lefts : (g : List Scope) (xs : List Name) (us : List Use) → Of (map (used g) xs ++ us) → Of us
  lefts g xs us w = (apart (map (used g) xs) us w).1

  mutual
    unfolding uses_s

    pub told_s : (g : List Scope) (s : Statement) → EveryS AnyName Q D s → StandS M g s → Of (uses_s g s) → ToldS Q D M P g s
    told_s g dummy t m w = tt
    told_s g (assignment x xs q e) t m w = told_e g e t.2 m (lefts g (x ∷ xs) (uses_e g e) w)
    told_s g (procedure x es) t m w = let o = one g x (uses_es g es) w in (o.0, told_es g es t.1 m o.1)
    told_s g (when q c s) t m w = let h = apart (uses_e g c) (uses_s g s) w in (m.0, told_e g c t.0 m.1 h.0, told_s g s t.1 m.2 h.1)
    told_s g (either q c s s') t m w =
        let h = apart (uses_e g c) (uses_s g s ++ uses_s g s') w in
        let h' = apart (uses_s g s) (uses_s g s') h.1 in
        (m.0, told_e g c t.0 m.1 h.0, told_s g s t.1 m.2 h'.0, told_s g s' t.2 m.3 h'.1)
    told_s g (repeat x l ls s) t m w =
        let o = one g x (uses_l g (l ∷ ls) ++ uses_s g s) w in
        let h = apart (uses_l g (l ∷ ls)) (uses_s g s) o.1 in
        (told_l g (l ∷ ls) (t.1, t.2) m.0 h.0, told_s g s t.3 m.1 h.1)
    told_s g (compound ss) t m w = told_ss g ss t m w
    told_s g (block q ds ss) t m w =
        let h = apart (uses_d (of_block ds ∷ g) ds) (uses_ss (of_block ds ∷ g) ss) w in
        (told_ds (of_block ds ∷ g) ds t.0 m.0 h.0, told_ss (of_block ds ∷ g) ss t.1 m.1 h.1)

    told_ss : (g : List Scope) (ss : Statements) → EverySs AnyName Q D ss → StandSs M g ss → Of (uses_ss g ss) → ToldSs Q D M P g ss
    told_ss g (last s) t m w = told_s g s t m w
    told_ss g (first s ss) t m w = let h = apart (uses_s g s) (uses_ss g ss) w in (told_s g s t.0 m.0 h.0, told_ss g ss t.1 m.1 h.1)

    told_ds : (g : List Scope) (ds : Declarations) → EveryD AnyName Q D ds → StandD M g ds → Of (uses_d g ds) → ToldDs Q D M P g ds
    told_ds g no_more t m w = tt
    told_ds g (variables y xs ds) t m w = told_ds g ds t.1 m w
    told_ds g (declare p ds) t m w = let h = apart (uses_p g p) (uses_d g ds) w in (told_p g p t.0 m.0 h.0, told_ds g ds t.1 m.1 h.1)

    told_p : (g : List Scope) (p : Procedure) → EveryP AnyName Q D p → StandP M g p → Of (uses_p g p) → ToldP Q D M P g p
    told_p g (heading y f xs vs ss s) t m w = told_s (of_body (heading y f xs vs ss s) ∷ g) s t.4 m w
