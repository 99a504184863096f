-- Values on their way through name formals: what the definitions say with what follows (`outward`, `inward`, `reaching`) is what the code's functions
-- give back, and a value on its way is always one that a cell can hold.
use mathlib.Core.Path.{◌≡◌, refl, sym, ap, subst, ◌∙◌}
use mathlib.Core.Logic.{⊎_elim}
use mathlib.Core.Bool.{Bool, true, false, cond, not, ◌&&◌, true≢false, false≢true}
use mathlib.Core.List.{List, [], ◌∷◌}
use Prim.Native.Nat.{ℕ, zero, suc, ◌+◌, ◌-◌, ◌*◌, ◌%◌, ◌≤◌, ◌<◌}
use native.Mathlib.Omega.{arith}
use native.Mathlib.Nat.{not-suc-le-zero, le_of_suc-le-suc, eq-or-lt_of_le}
use native.Mathlib.Numerals.{add-one}
use lib.Dec.{T, ltb}
use lib.ListN.{get_or}
use lib.IntN.{ℤ, pos, negsuc}
use lib.Signed.{mag}
use lib.Ieee.{Float, binary64}
use lib.Ieee.Bits.{of_bits-fits}
use mir.Syntax.{w32, w64}
use mir.Val.{SFits, of_z}
use Rattle.answers.specs.declared.Answer.{Answer}
use Rattle.answers.specs.Numbers.{channel as noChannel, unassigned as notAssigned}
use Rattle.answers.specs.Answers.{answer}
use Rattle.std.specs.Prelude.{Option, Some, None, Result as Returned, Ok, Err}
use Rattle.reals.specs.declared.Form.{Form}
use Rattle.reals.specs.declared.Value.{Value}
use Rattle.reals.specs.declared.Value.TheVariants.{Truth, Whole, Real}
use Rattle.reals.specs.declared.Outcome.{Outcome}
use Rattle.reals.specs.declared.Outcome.TheVariants.{Is, Fault, Stray}
use Rattle.reals.specs.declared.Cell.{Cell}
use Rattle.reals.specs.declared.Cell.TheVariants.{Unset, Holds, Named}
use Rattle.reals.specs.Values.{form_of, finite_b, same, convert}
use Rattle.reals.specs.model.Stored.{Fitting, FittingO, FittingC}
use Rattle.reals.proofs.Fits.{convert_fits}
use Rattle.reals.proofs.Signed.{same_number, same_yes, same_no}
use Rattle.reals.specs.model.Stored.{bits_in}
use Rattle.machine.specs.declared.Trouble.{Trouble}
use Rattle.machine.specs.declared.Trouble.TheVariants.{Fault as Bad, Stray as Astray}
use Rattle.machine.specs.declared.Line.{Line}
use Rattle.machine.specs.declared.Line.TheVariants.{One, Other, Not as NoLine}
use Rattle.machine.specs.Data.{Link, link, to, Data, cells, joined, Result, bad, wrong, guard, check, look, plain, form_in, suits, suited, along, reaching, outward, inward, reading, read_from, valued, saving, put, on_channel}
use Rattle.machine.specs.model.Holding.{turned, on_turned, all_suit, onward, out_t, inwards, in_t, read_t, reach_t, line_of, raised_of, form_of_word, link_at, links_of, FittingT}

-- ---- conversions

module _ {A : Type 0} where
  pub valued_turned : (q : ℕ) (f : Value → Result A) (o : Outcome) → valued q f o ≡ on_turned f (turned q o)
  unfolding valued
  valued_turned q f (Is v) = refl
  valued_turned q f (Fault a) = refl
  valued_turned q f Stray = refl

  onward_is : (t : Form) (q : ℕ) (f : Value → Result A) (x : Returned Value Trouble) → on_turned (λ u. valued q f (convert t u)) x ≡ on_turned f (onward t q x)
  onward_is t q f (Ok u) = valued_turned q f (convert t u)
  onward_is t q f (Err (Bad a p)) = refl
  onward_is t q f (Err Astray) = refl

  pub outward_is : (l : List Link) (f : Value → Result A) (v : Value) → outward l f v ≡ on_turned f (out_t l v)
  unfolding outward out_t
  outward_is [] f v = refl
  outward_is (link t q ∷ l) f v = outward_is l (λ u. valued q f (convert t u)) v ∙ onward_is t q f (out_t l v)

  inward_on : (q : ℕ) (f g : Value → Result A) (h : Value → Returned Value Trouble) → ((w : Value) → g w ≡ on_turned f (h w)) → (o : Outcome) → valued q g o ≡ on_turned f (inwards h q o)
  unfolding valued
  inward_on q f g h e (Is w) = e w
  inward_on q f g h e (Fault a) = refl
  inward_on q f g h e Stray = refl

  pub inward_is : (q : ℕ) (t : Form) (l : List Link) (f : Value → Result A) (v : Value) → inward q t l f v ≡ on_turned f (in_t q t l v)
  unfolding inward in_t
  inward_is q t [] f v = valued_turned q f (convert t v)
  inward_is q t (link u p ∷ l) f v = inward_on q f (inward q t l f) (in_t q t l) (λ w. inward_is q t l f w) (convert u v)

  -- ---- every formal on the way is of the type's kind

  pub guard_and : (a b : Bool) (r s : Result A) → s ≡ guard b r → guard a s ≡ guard (a && b) r
  unfolding guard
  guard_and true b r s e = e
  guard_and false b r s e = refl

  pub along_guard : (t : Form) (l : List Link) (r : Result A) → along t l r ≡ guard (all_suit t l) r
  unfolding along all_suit guard
  along_guard t [] r = refl
  along_guard t (link u q ∷ l) r = guard_and (suits t u) (all_suit t l) r (along t l r) (along_guard t l r)

  abbrev pub on_typed : Result A → Option Form → Result A
  on_typed r (Some u) = r
  on_typed r None = wrong

  both_guard : (a b : Bool) (r s : Result A) → r ≡ s → guard a (guard b r) ≡ cond (a && b) s wrong
  unfolding guard
  both_guard true true r s e = e
  both_guard true false r s e = refl
  both_guard false b r s e = refl

  typed_cond : (b : Bool) (u : Form) (r : Result A) → cond b r wrong ≡ on_typed r (cond b (Some u) None)
  typed_cond true u r = refl
  typed_cond false u r = refl

  turned_cond : (b : Bool) (f : Value → Result A) (x : Returned Value Trouble) → cond b (on_turned f x) wrong ≡ on_turned f (cond b x (Err Astray))
  turned_cond true f x = refl
  turned_cond false f x = refl

  guarded : (t u : Form) (l : List Link) (r s : Result A) → r ≡ s → guard (suits t u) (along t l r) ≡ cond (suits t u && all_suit t l) s wrong
  guarded t u l r s e = ap (guard (suits t u)) (along_guard t l r) ∙ both_guard (suits t u) (all_suit t l) r s e

  reach_cell : (t : Form) (l : List Link) (r : Result A) (x : Cell) → guard (plain x) (suited t (form_in x) (along t l r)) ≡ on_typed r (reach_t t l x)
  unfolding reach_t guard
  reach_cell t l r (Unset u) = guarded t u l r r refl ∙ typed_cond (suits t u && all_suit t l) u r
  reach_cell t l r (Holds v) = guarded t (form_of v) l r r refl ∙ typed_cond (suits t (form_of v) && all_suit t l) (form_of v) r
  reach_cell t l r (Named n) = refl

  read_cell : (t : Form) (q : ℕ) (l : List Link) (f : Value → Result A) (x : Cell) → guard (plain x) (suited t (form_in x) (along t l (reading q (outward l f) x))) ≡ on_turned f (read_t t q l x)
  unfolding read_t guard reading
  read_cell t q l f (Unset u) = guarded t u l _ _ refl ∙ turned_cond (suits t u && all_suit t l) f _
  read_cell t q l f (Holds v) = guarded t (form_of v) l _ _ (outward_is l f v) ∙ turned_cond (suits t (form_of v) && all_suit t l) f (out_t l v)
  read_cell t q l f (Named n) = refl

  -- ---- a target in the data

  module _ (c : ℕ) (l : List Link) (d : Data) where
    pub reach_out : (t : Form) (r : Result A) → ltb c (cells d) ≡ false → reaching t (to c l) d r ≡ wrong
    unfolding guard
    reach_out t r e = rw e

    module _ (e : ltb c (cells d) ≡ true) {x : Cell} (g : look c d ≡ x) where
      pub reach_in : (t : Form) (r : Result A) → reaching t (to c l) d r ≡ on_typed r (reach_t t l x)
      unfolding guard
      reach_in t r = rw (e, g) (reach_cell t l r x)

      pub read_in : (t : Form) (q : ℕ) (f : Value → Result A) → reaching t (to c l) d (read_from q (to c l) d f) ≡ on_turned f (read_t t q l x)
      unfolding guard
      read_in t q f = rw (e, g) (read_cell t q l f x)

      pub save_in : (q : ℕ) (v : Value) (r : Data → Result A) {u : Form} → u ≡ form_in x → saving q (to c l) v d r ≡ on_turned (λ w. r (put c w d)) (in_t q u l v)
      save_in q v r {u} h = ap (λ (t : Form). inward q t l (λ w. r (put c w d)) v) (ap form_in g ∙ sym h) ∙ inward_is q u l (λ w. r (put c w d)) v

-- the cell's type is what is told of it
reach_cond : (b : Bool) (u : Form) {w : Form} → cond b (Some u) None ≡ Some w → w ≡ u
reach_cond true u {w} e = let z : u ≡ w = cc in sym z
reach_cond false u e = absurd (let z : ◌≡◌ {A = ℕ} 0 1 = cc in omega arith)

pub reach_form : (t : Form) (l : List Link) (x : Cell) {u : Form} → reach_t t l x ≡ Some u → u ≡ form_in x
unfolding reach_t
reach_form t l (Unset w) e = reach_cond (suits t w && all_suit t l) w e
reach_form t l (Holds v) e = reach_cond (suits t (form_of v) && all_suit t l) (form_of v) e
reach_form t l (Named n) e = absurd (let z : ◌≡◌ {A = ℕ} 0 1 = cc in omega arith)

-- ---- values on their way fit

turned_fits : (q : ℕ) (o : Outcome) → FittingO o → FittingT (turned q o)
turned_fits q (Is v) h = h
turned_fits q (Fault a) h = tt
turned_fits q Stray h = tt

onward_fits : (t : Form) (q : ℕ) (x : Returned Value Trouble) → FittingT x → FittingT (onward t q x)
onward_fits t q (Ok u) h = turned_fits q (convert t u) (convert_fits t u h)
onward_fits t q (Err (Bad a p)) h = tt
onward_fits t q (Err Astray) h = tt

out_fits : (l : List Link) (v : Value) → Fitting v → FittingT (out_t l v)
unfolding out_t
out_fits [] v h = h
out_fits (link t q ∷ l) v h = onward_fits t q (out_t l v) (out_fits l v h)

inwards_fits : (q : ℕ) (h : Value → Returned Value Trouble) → ((w : Value) → Fitting w → FittingT (h w)) → (o : Outcome) → FittingO o → FittingT (inwards h q o)
inwards_fits q h e (Is w) f = e w f
inwards_fits q h e (Fault a) f = tt
inwards_fits q h e Stray f = tt

pub in_fits : (q : ℕ) (t : Form) (l : List Link) (v : Value) → Fitting v → FittingT (in_t q t l v)
unfolding in_t
in_fits q t [] v h = turned_fits q (convert t v) (convert_fits t v h)
in_fits q t (link u p ∷ l) v h = inwards_fits q (in_t q t l) (λ w f. in_fits q t l w f) (convert u v) (convert_fits u v h)

cond_fits : (b : Bool) (x : Returned Value Trouble) → FittingT x → FittingT (cond b x (Err Astray))
cond_fits true x h = h
cond_fits false x h = tt

pub read_fits : (t : Form) (q : ℕ) (l : List Link) (x : Cell) → FittingC x → FittingT (read_t t q l x)
unfolding read_t
read_fits t q l (Unset u) h = cond_fits (suits t u && all_suit t l) _ tt
read_fits t q l (Holds v) h = cond_fits (suits t (form_of v) && all_suit t l) (out_t l v) (out_fits l v h)
read_fits t q l (Named n) h = tt

raised_cond : (b : Bool) (z : ℤ) (h : ℕ) → finite_b (joined z h) ≡ b → FittingO (cond b (Is (Real (joined z h))) Stray)
raised_cond true z h e = record { held = of_bits-fits binary64 (4294967296 * h + of_z w32 z); finite = subst T (sym e) tt }
raised_cond false z h e = tt

pub raised_fits : (v : Value) (h : ℕ) → FittingO (raised_of v h)
unfolding raised_of
raised_fits (Truth b) h = tt
raised_fits (Whole z) h = raised_cond (finite_b (joined z h)) z h refl
raised_fits (Real r) h = tt

-- ---- the formals one by one, as the code's loops go

not_yes : {r : Bool} → not r ≡ true → r ≡ false
not_yes {r = true} h = absurd (false≢true h)
not_yes {r = false} h = refl

not_no : {r : Bool} → not r ≡ false → r ≡ true
not_no {r = true} h = refl
not_no {r = false} h = absurd (true≢false h)

module _ (l : List ℕ) where
  abbrev pub form_at : ℕ → Form
  form_at j = form_of_word (get_or l (17990 + 2 * j) 0)

  abbrev pub place_at : ℕ → ℕ
  place_at j = get_or l (17990 + 2 * j + 1) 0

  links_cons : (k : ℕ) → 1 ≤ k → links_of l k ≡ link (form_at (k - 1)) (place_at (k - 1)) ∷ links_of l (k - 1)
  unfolding links_of link_at
  links_cons zero h = absurd (not-suc-le-zero h)
  links_cons (suc n) h = let e : suc n - 1 ≡ n = omega arith in rw e

  pub suit_more : (t : Form) (k : ℕ) → 1 ≤ k → all_suit t (links_of l k) ≡ (suits t (form_at (k - 1)) && all_suit t (links_of l (k - 1)))
  unfolding all_suit
  suit_more t k h = rw (links_cons k h)

  pub suit_none : (t : Form) (k : ℕ) → k ≤ 0 → all_suit t (links_of l k) ≡ true
  unfolding all_suit links_of
  suit_none t zero h = refl
  suit_none t (suc n) h = absurd (not-suc-le-zero h)

  -- one of another kind, or not
  module _ (t : Form) (k : ℕ) (h : 1 ≤ k) {f : Form} {r : Bool} (g : f ≡ form_at (k - 1)) (e : r ≡ suits t f) where
    suit_known : {b : Bool} → r ≡ b → all_suit t (links_of l k) ≡ (b && all_suit t (links_of l (k - 1)))
    suit_known p = suit_more t k h ∙ ap (λ (x : Bool). x && all_suit t (links_of l (k - 1))) (sym (sym p ∙ e ∙ ap (suits t) g))

    pub suit_fails : not r ≡ true → false ≡ all_suit t (links_of l k)
    suit_fails p = sym (suit_known (not_yes p))

    pub suit_goes : not r ≡ false → all_suit t (links_of l (k - 1)) ≡ all_suit t (links_of l k)
    suit_goes p = sym (suit_known (not_no p))

  pub in_more : (q : ℕ) (t : Form) (v : Value) (k : ℕ) → 1 ≤ k → in_t q t (links_of l k) v ≡ inwards (in_t q t (links_of l (k - 1))) q (convert (form_at (k - 1)) v)
  unfolding in_t
  in_more q t v k h = rw (links_cons k h)

  pub in_none : (q : ℕ) (t : Form) (v : Value) (k : ℕ) → k ≤ 0 → in_t q t (links_of l k) v ≡ turned q (convert t v)
  unfolding in_t links_of
  in_none q t v zero h = refl
  in_none q t v (suc n) h = absurd (not-suc-le-zero h)

  pub out_none : (v : Value) → out_t (links_of l 0) v ≡ Ok v
  unfolding out_t links_of
  out_none v = refl

  pub out_more : (v : Value) (j : ℕ) {u : Value} {o : Outcome} → out_t (links_of l j) v ≡ Ok u → o ≡ convert (form_at j) u → out_t (links_of l (j + 1)) v ≡ turned (place_at j) o
  unfolding out_t links_of link_at
  out_more v j e g = rw (add-one j, e, g)

  -- once it has stopped it is no other
  pub out_bad : (v : Value) (k m : ℕ) {a : Answer} {q : ℕ} → m ≤ k → out_t (links_of l m) v ≡ Err (Bad a q) → out_t (links_of l k) v ≡ Err (Bad a q)
  unfolding out_t links_of link_at
  out_bad v zero m {a} {q} h e = let z : m ≡ 0 = omega arith in subst (λ (n : ℕ). out_t (links_of l n) v ≡ Err (Bad a q)) z e
  out_bad v (suc n) m {a} {q} h e =
      ⊎_elim
      (λ z. subst (λ (k : ℕ). out_t (links_of l k) v ≡ Err (Bad a q)) z e)
      (λ b. ap (onward (form_at n) (place_at n)) (out_bad v n m (le_of_suc-le-suc b) e))
      (eq-or-lt_of_le h)

  pub out_stray : (v : Value) (k m : ℕ) → m ≤ k → out_t (links_of l m) v ≡ Err Astray → out_t (links_of l k) v ≡ Err Astray
  unfolding out_t links_of link_at
  out_stray v zero m h e = let z : m ≡ 0 = omega arith in subst (λ (n : ℕ). out_t (links_of l n) v ≡ (Err Astray)) z e
  out_stray v (suc n) m h e =
      ⊎_elim
      (λ z. subst (λ (k : ℕ). out_t (links_of l k) v ≡ (Err Astray)) z e)
      (λ b. ap (onward (form_at n) (place_at n)) (out_stray v n m (le_of_suc-le-suc b) e))
      (eq-or-lt_of_le h)

-- ---- channels

abbrev pub on_line : {A : Type 0} → ℕ → Result A → Line → Result A
on_line q r One = r
on_line q r Other = bad noChannel q
on_line q r NoLine = wrong

module _ {A : Type 0} (q : ℕ) (v : Value) (r : Result A) where
  whole_line : (b : Bool) → check b noChannel q r ≡ on_line q r (cond b One Other)
  unfolding check
  whole_line true = refl
  whole_line false = refl

  pub line_is : on_channel q v r ≡ on_line q r (line_of v)
  unfolding on_channel line_of
  line_is = go v
    where
      go : (v : Value) → on_channel q v r ≡ on_line q r (line_of v)
      go (Truth b) = refl
      go (Whole z) = whole_line (same z (pos 1))
      go (Real x) = refl

-- a number of 32 bits that is 1
module _ {z : ℤ} where
  pub one_line : {v : Value} → v ≡ Whole z → SFits w32 z → of_z w32 z ≡ 1 → One ≡ line_of v
  unfolding line_of
  one_line e h g = rw (e, same_yes (same_number {w = w32} {x = z} {y = pos 1} h (record { sfits = omega arith }) g))

  pub other_line : {v : Value} → v ≡ Whole z → (of_z w32 z ≡ 1 → ⊥) → Other ≡ line_of v
  unfolding line_of
  other_line e h = rw (e, same_no z (pos 1) (λ g. h (ap (of_z w32) g)))

pub real_line : {v : Value} {x : Float} → v ≡ Real x → NoLine ≡ line_of v
unfolding line_of
real_line e = rw e

pub truth_line : {v : Value} {b : Bool} → v ≡ Truth b → NoLine ≡ line_of v
unfolding line_of
truth_line e = rw e

-- ---- real constants

-- the 32 bits of a number are the lower ones of its 64
pub low_word : (z : ℤ) → mag z < 2147483648 → of_z w64 z % 4294967296 ≡ of_z w32 z
low_word (pos n) h = omega arith
low_word (negsuc n) h = omega arith

abbrev pub as_outcome : Option Float → Outcome
as_outcome (Some x) = Is (Real x)
as_outcome None = Stray

raised_bits : (b : Bool) (x : Float) → as_outcome (cond b (Some x) None) ≡ cond b (Is (Real x)) Stray
raised_bits true x = refl
raised_bits false x = refl

raised_join : {v : Value} {z : ℤ} (h : ℕ) {w : ℕ} → v ≡ Whole z → w ≡ of_z w32 z → as_outcome (bits_in (h * 4294967296 + w)) ≡ raised_of v h
unfolding raised_of bits_in
raised_join {v} {z} h {w} e g =
    let m : h * 4294967296 + of_z w32 z ≡ 4294967296 * h + of_z w32 z = omega arith in
    rw (e, g, m) (raised_bits (finite_b (joined z h)) (joined z h))

pub raised_is : {v : Value} {z : ℤ} (h : ℕ) {w : ℕ} {y y' : Option Float} → v ≡ Whole z → w ≡ of_z w32 z → y ≡ bits_in (h * 4294967296 + w) → y ≡ y' → as_outcome y' ≡ raised_of v h
raised_is h e g k p = sym (ap as_outcome p) ∙ ap as_outcome k ∙ raised_join h e g

pub raised_real : {v : Value} {x : Float} (h : ℕ) → v ≡ Real x → Stray ≡ raised_of v h
unfolding raised_of
raised_real h e = rw e

pub raised_truth : {v : Value} {b : Bool} (h : ℕ) → v ≡ Truth b → Stray ≡ raised_of v h
unfolding raised_of
raised_truth h e = rw e

-- ---- what the code's functions give, by what they called

pub read_as : (q : ℕ) (l : List Link) {r : Returned Value Trouble} {y : Form} {x z : Cell} → r ≡ read_t y q l x → y ≡ form_in x → x ≡ z → r ≡ read_t (form_in z) q l z
read_as q l e g h = rw (← h, ← g) e

-- both tests
module _ {b x : Bool} (e : b ≡ x) (y : Bool) where
  pub both_yes : {r : Bool} → b ≡ true → r ≡ y → r ≡ (x && y)
  both_yes g h = h ∙ sym (ap (λ (z : Bool). z && y) (sym e ∙ g))

  pub both_no : b ≡ false → false ≡ (x && y)
  both_no g = sym (ap (λ (z : Bool). z && y) (sym e ∙ g))

-- a cell that values of a type reach, or not
module _ (f : Form) (q : ℕ) (l : List Link) {x : Cell} {t : Form} {b : Bool} (h : b ≡ (suits f t && all_suit f l)) where
  module _ {v : Value} (e : x ≡ Holds v) (g : t ≡ form_of v) where
    pub reach_holds : b ≡ true → Some t ≡ reach_t f l x
    unfolding reach_t
    reach_holds k = rw (e, ← g, ← h, k)

    pub reach_not_holds : b ≡ false → None ≡ reach_t f l x
    unfolding reach_t
    reach_not_holds k = rw (e, ← g, ← h, k)

    pub read_holds : {r : Returned Value Trouble} → b ≡ true → r ≡ out_t l v → r ≡ read_t f q l x
    unfolding read_t
    read_holds k p = rw (e, ← g, ← h, k) p

    pub read_not_holds : b ≡ false → Err Astray ≡ read_t f q l x
    unfolding read_t
    read_not_holds k = rw (e, ← g, ← h, k)

  module _ (e : x ≡ Unset t) where
    pub reach_unset : b ≡ true → Some t ≡ reach_t f l x
    unfolding reach_t
    reach_unset k = rw (e, ← h, k)

    pub reach_not_unset : b ≡ false → None ≡ reach_t f l x
    unfolding reach_t
    reach_not_unset k = rw (e, ← h, k)

    pub read_unset : b ≡ true → Err (Bad (answer notAssigned) q) ≡ read_t f q l x
    unfolding read_t
    read_unset k = rw (e, ← h, k)

    pub read_not_unset : b ≡ false → Err Astray ≡ read_t f q l x
    unfolding read_t
    read_not_unset k = rw (e, ← h, k)

module _ (f : Form) (q : ℕ) (l : List Link) {x : Cell} {n : ℕ} (e : x ≡ Named n) where
  pub reach_named : None ≡ reach_t f l x
  unfolding reach_t
  reach_named = rw e

  pub read_named : Err Astray ≡ read_t f q l x
  unfolding read_t
  read_named = rw e

pub reach_as : (l : List Link) {r z : Option Form} {y y' : Form} {x x' : Cell} → r ≡ reach_t y l x → y ≡ y' → x ≡ x' → r ≡ z → reach_t y' l x' ≡ z
reach_as l e g h p = rw (← g, ← h, ← e) p

pub turned_holds : {r x : Returned Value Trouble} {v : Value} → r ≡ x → r ≡ Ok v → FittingT x → Fitting v
turned_holds e g h = subst FittingT (sym e ∙ g) h
