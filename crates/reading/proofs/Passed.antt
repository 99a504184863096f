-- From the passes to the answer: what the least faults of the passes say of the program whose nodes they were lent, at any depth and on any page.
use Prim.Native.Nat.{ℕ, ◌*◌, ◌<◌, ◌≤◌, min}
use native.Mathlib.Omega.{arith}
use mathlib.Core.Path.{◌≡◌, refl, sym, ap, subst, ◌∙◌}
use mathlib.Core.List.{List, [], map}
use mathlib.Core.Option.{none, some}
use lib.ListN.{length, get_or, take}
use Rattle.answers.specs.Numbers.{types}
use Rattle.answers.specs.Answers.{refusal}
use Rattle.answers.specs.declared.Refusal.{Refusal as Refusing}
use Rattle.symbols.specs.Names.{letters_at, same_name}
use Rattle.names.specs.Program.{Name, Statement}
use Rattle.names.specs.Scopes.{environment}
use Rattle.names.specs.Uses.{Fault, name_faults, least, joined, faults_here, unmeant, scopes_s, uses_s}
use Rattle.names.specs.Nodes.{nodes_s}
use Rattle.names.specs.Outline.{rows_s}
use Rattle.names.specs.model.Identity.{Identified, letters_of, GivenAs}
use Rattle.names.specs.model.Rows.{identity_in, fault_of, least_key, no_fault, outline_of, uses_of}
use Rattle.names.proofs.AllNames.{AllS}
use Rattle.names.proofs.Weaken.{map_all}
use Rattle.names.proofs.Least.{some_fault, no_fault_lem}
use Rattle.names.proofs.NearNames.{near_names, small_names}
use Rattle.names.proofs.NearNodes.{SymbolsWithin}
use Rattle.names.proofs.TreeLaws.{least_append}
use Rattle.names.proofs.Around.{Agree}
use Rattle.names.proofs.Outlined.{outlined}
use Rattle.names.proofs.Resolved.{Matches, resolved_least, resolved_uses}
use Rattle.types.specs.Types.{type_faults, type_fault}
use Rattle.types.specs.model.Marks.{marks_s}
use Rattle.types.specs.model.Passes.{typed_of, marks_of}
use Rattle.types.proofs.NearTypes.{near_types, small_types}
use Rattle.types.proofs.TreeStatements.{At, typed, marked}
use Rattle.reading.specs.declared.Sizes.{Sizes}
use Rattle.std.proofs.Common.{Result, Ok, Err}
use Rattle.reading.specs.model.Passing.{Kept, name_key, type_key, place_from, refused_for, Passes, misnamed, mistyped, sound}

-- what was found is one thing, and so is what was refused
module _ {A : Type 0} where
  pub same_found : {a b : A} → ◌≡◌ {A = Result A Refusing} (Ok a) (Ok b) → a ≡ b
  same_found q = cc

  pub same_refusal : {a b : Refusing} → ◌≡◌ {A = Result A Refusing} (Err a) (Err b) → a ≡ b
  same_refusal q = cc

-- the nodes of a program stand, and each of its names has the letters at its symbol's place of the page
pub record Stands (page places nodes : List ℕ) (n : ℕ) (s : Statement) : Type 0 where
  pub depth : ℕ
  pub there : At depth s
  pub noded : nodes ≡ nodes_s depth s
  pub few : n ≤ 2048
  pub named : AllS (λ x. (x.letters ≡ letters_at page (get_or places x.symbol 0)) × (x.symbol < n)) s
  pub within : SymbolsWithin n nodes
  pub room : length (rows_s 0 0 s) ≤ 32768

module _ {page places nodes : List ℕ} {n : ℕ} {s : Statement} (st : Stands page places nodes n s) where
  abbrev Good : Name → Type 0
  Good x = (x.letters ≡ letters_at page (get_or places x.symbol 0)) × (x.symbol < n)

  -- identities tell names apart as letters do
  agree : {ids : List ℕ} → Identified page places ids n → Agree Good ids
  agree {ids} i = record {
    one = λ x y g h.
        i.same x.symbol y.symbol g.1 h.1 ∙ ap (λ l. same_name l (letters_of page places y.symbol)) (sym g.0) ∙ ap (λ l. same_name x.letters l) (sym h.0);
    given = λ x g. subst (λ l. GivenAs 0 environment l (identity_in ids x.symbol)) (sym g.0) (i.given x.symbol g.1);
    small = λ x g. i.bounded x.symbol g.1;
  }

  -- ---- declarations

  pub rows_are : {ids : List ℕ} → Identified page places ids n → (outline_of ids nodes).rows ≡ rows_s 0 0 s
  rows_are {ids} i = ap (λ ws. (outline_of ids ws).rows) st.noded ∙ (outlined ids Good (agree i).one st.depth s st.named).1

  outline_least : {ids : List ℕ} → Identified page places ids n → (outline_of ids nodes).least ≡ least_key (joined faults_here (scopes_s [] s))
  outline_least {ids} i = ap (λ ws. (outline_of ids ws).least) st.noded ∙ (outlined ids Good (agree i).one st.depth s st.named).0

  -- ---- what is kept

  module _ {rows uses : List ℕ} {a b : ℕ} (x : Kept page places nodes rows uses n a b) where
    known : Identified page places x.ids n
    known = let all : min n 2048 ≡ n = omega (arith, st.few) in subst (Identified page places x.ids) all x.identified

    pub rows_here_lem : take (4 * a) rows ≡ rows_s 0 0 s
    rows_here_lem = x.rowed ∙ rows_are known

    uses_are : uses_of x.ids (take (4 * a) rows) nodes ≡ uses_of x.ids (rows_s 0 0 s) (nodes_s st.depth s)
    uses_are = ap (λ r. uses_of x.ids r nodes) rows_here_lem ∙ ap (uses_of x.ids (rows_s 0 0 s)) st.noded

    pub uses_here : Matches (rows_s 0 0 s) (take b uses) (uses_s [] s)
    uses_here = subst (λ w. Matches (rows_s 0 0 s) w (uses_s [] s)) (sym (x.used ∙ ap (λ f. f.uses) uses_are)) (resolved_uses Good x.ids (agree known) st.depth s st.named st.room)

    pub marks_here : (was : List ℕ) → marks_of (take (4 * a) rows) (take b uses) nodes was ≡ marks_s [] s was
    marks_here was =
        ap (λ (ws : List ℕ). marks_of (take (4 * a) rows) (take b uses) ws was) st.noded
        ∙ ap (λ (r : List ℕ). marks_of r (take b uses) (nodes_s st.depth s) was) rows_here_lem
        ∙ marked (rows_s 0 0 s) (take b uses) st.depth s st.there refl uses_here was

    names_are : name_key x ≡ least_key (name_faults s)
    unfolding name_faults
    names_are =
        ap (λ k. min k (uses_of x.ids (take (4 * a) rows) nodes).least) (outline_least known)
        ∙ ap (min (least_key (joined faults_here (scopes_s [] s)))) (ap (λ f. f.least) uses_are ∙ resolved_least Good x.ids (agree known) st.depth s st.named st.room)
        ∙ sym (least_append (joined faults_here (scopes_s [] s)) (joined unmeant (uses_s [] s)))

    abbrev types_of : List Fault
    types_of = map (λ q. record { symbol = q; answer = types }) (type_faults s)

    types_are : type_key x ≡ least_key types_of
    types_are =
        ap (λ (ws : List ℕ). typed_of (take (4 * a) rows) (take b uses) ws) st.noded
        ∙ ap (λ (r : List ℕ). typed_of r (take b uses) (nodes_s st.depth s)) rows_here_lem
        ∙ typed (rows_s 0 0 s) (take b uses) st.depth s st.there refl uses_here

    -- 7 to 9, or none
    names_some : name_key x < no_fault → least (name_faults s) ≡ some (fault_of (name_key x))
    names_some l = some_fault (name_faults s) (small_names s) (subst (λ k. k < no_fault) names_are l) ∙ ap (λ k. some (fault_of k)) (sym names_are)

    names_none : (name_key x < no_fault → ⊥) → least (name_faults s) ≡ none
    names_none l =
        no_fault_lem (name_faults s) (near_names n s (omega (arith, st.few)) (map_all s (λ y g. g.1) st.named)) (small_names s)
        (λ m. l (subst (λ k. k < no_fault) (sym names_are) m))

    -- 10, or none
    types_some : type_key x < no_fault → type_fault s ≡ some (fault_of (type_key x))
    unfolding type_fault
    types_some l = some_fault types_of (small_types s) (subst (λ k. k < no_fault) types_are l) ∙ ap (λ k. some (fault_of k)) (sym types_are)

    types_none : (type_key x < no_fault → ⊥) → type_fault s ≡ none
    unfolding type_fault
    types_none l =
        no_fault_lem types_of (near_types n st.depth s (omega (arith, st.few)) (subst (SymbolsWithin n) st.noded st.within)) (small_types s)
        (λ m. l (subst (λ k. k < no_fault) (sym types_are) m))

-- ---- what the passes say of the program

pub data Said (page places nodes rows uses was marks : List ℕ) (n end words : ℕ) (s : Statement) : Result Sizes Refusing → Type 0 where
  at_names : (f : Fault) → least (name_faults s) ≡ some f → (x : Refusing) → x ≡ refusal f.answer (place_from places n end f.symbol)
      → Said page places nodes rows uses was marks n end words s (Err x)
  at_types : (f : Fault) → least (name_faults s) ≡ none → type_fault s ≡ some f → (x : Refusing) → x ≡ refusal f.answer (place_from places n end f.symbol)
      → Said page places nodes rows uses was marks n end words s (Err x)
  right : (z : Sizes) → least (name_faults s) ≡ none → type_fault s ≡ none → Kept page places nodes rows uses n z.rows z.uses
      → marks ≡ marks_of (take (4 * z.rows) rows) (take z.uses uses) nodes was → z.symbols ≡ n → z.nodes ≡ words
      → Said page places nodes rows uses was marks n end words s (Ok z)

pub said : {page places nodes rows uses was marks : List ℕ} {n end words : ℕ} {s : Statement} {r : Result Sizes Refusing} → Stands page places nodes n s
    → Passes page places nodes rows uses was marks n end words r → Said page places nodes rows uses was marks n end words s r
said {s = s} st (misnamed k a b x e l) = at_names (fault_of k) (subst (λ k. least (name_faults s) ≡ some (fault_of k)) (sym e) (names_some st x (subst (λ k. k < no_fault) e l))) _ refl
said {s = s} st (mistyped k a b x h e l) = at_types (fault_of k) (names_none st x h) (subst (λ k. type_fault s ≡ some (fault_of k)) (sym e) (types_some st x (subst (λ k. k < no_fault) e l))) _ refl
said st (sound z x h k m c w) = right z (names_none st x h) (types_none st x k) x m c w

-- ---- what the function of the passes answers

module _ {page places nodes rows uses was marks : List ℕ} {n end words : ℕ} where
  pub as_misnamed : {a b : ℕ} (k : ℕ) (x : Kept page places nodes rows uses n a b) → k ≡ name_key x → k < no_fault → (y : Refusing) → y ≡ refused_for (place_from places n end) k
      → Passes page places nodes rows uses was marks n end words (Err y)
  as_misnamed {a} {b} k x e l y q = subst (λ z. Passes page places nodes rows uses was marks n end words (Err z)) (sym q) (misnamed k a b x e l)

  pub as_mistyped : {a b : ℕ} (k : ℕ) (x : Kept page places nodes rows uses n a b) → (name_key x < no_fault → ⊥) → k ≡ type_key x → k < no_fault → (y : Refusing) → y ≡ refused_for (place_from places n end) k
      → Passes page places nodes rows uses was marks n end words (Err y)
  as_mistyped {a} {b} k x h e l y q = subst (λ z. Passes page places nodes rows uses was marks n end words (Err z)) (sym q) (mistyped k a b x h e l)

-- the lesser of the faults of the two passes over names
pub key_is : (fault first second a b : ℕ) → fault ≡ min first second → first ≡ a → second ≡ b → fault ≡ min a b
key_is fault first second a b e p q = e ∙ ap (λ k. min k second) p ∙ ap (min a) q
