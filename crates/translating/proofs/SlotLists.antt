-- What lies ahead of a tree's code, in the order in which the pass takes slots for it, in front of what lies ahead behind the tree; and how slots are
-- taken and filled. An actual of a name formal takes three. No more slots are taken than instructions are written. Assumes nothing.
use Prim.Native.Nat.{ℕ, suc, ◌+◌, ◌≤◌, ◌<◌}
use native.Mathlib.Omega.{arith}
use native.Mathlib.Nat.{add-zero}
use mathlib.Core.Path.{◌≡◌, refl, sym, ap, ◌∙◌}
use mathlib.Core.List.{List, [], ◌∷◌, ◌++◌, append_assoc, append-nil}
use mathlib.Core.Option.{Option, none, some}
use lib.ListN.{length, get_or, drop, set, length-append}
use lib.Seq.{set-append_seam, set-append_left, drop-append_seam, drop-append-add, drop-drop, get_or-drop}
use Rattle.names.specs.Program.{Name, Sort, integer, first_symbol, Expression, number, decimal, logical, name, call, signed, operated, chosen, nested, Expressions, done, then, Element, value, while, step, Statement, dummy, assignment, procedure, when, either, repeat, compound, block, Statements, last, first, Declarations, none as no_more, variables, declare, Procedure, heading}
use Rattle.names.specs.Scopes.{Scope, sort_of, Mode, by_value, by_name_mode, modes_of, meaning}
use Rattle.types.specs.Types.{widens}
use Rattle.rules.specs.Calls.{Primary, held, worked, function, absolute, greatest, no_primary, primary, Command, routine_of, absolute_of, greatest_of, input_to, output_of_lem, no_command, command, way}
use Rattle.translation.specs.model.Translate.{Around, a_block, a_body, an_actual, scopes, reach, end_name, end_actual, end_then, end_wide, end_e, end_es, end_store, end_way, end_step, end_l, end_call, end_command, routines, end_head, end_s, end_ss, end_ds, end_p}
use Rattle.emitting.specs.model.Layout.{packed}
use Rattle.translation.proofs.Sizes.{name_size, sign_size, wide_size, jump_size, way_size, sum_size, take_size, size_stores}

-- ---- slots taken and filled

-- the slots S have become T: behind S stands what A puts in front of what comes next
pub record Fills (S T : List ℕ) (A : List ℕ → List ℕ) : Type 0 where
  pub so : (k : List ℕ) → T ++ k ≡ S ++ A k

pub no_slot : {S : List ℕ} → Fills S S (λ k. k)
no_slot = record { so = λ k. refl }

pub a_slot : {S : List ℕ} (v : ℕ) → Fills S (S ++ (v ∷ [])) (λ k. v ∷ k)
a_slot {S} v = record { so = λ k. append_assoc S (v ∷ []) k }

pub then_slots : {S T U : List ℕ} {A B : List ℕ → List ℕ} → Fills S T A → Fills T U B → Fills S U (λ k. A (B k))
then_slots {A = A} {B = B} x y = record { so = λ k. y.so k ∙ x.so (B k) }

pub more_slots : {S T : List ℕ} {A : List ℕ → List ℕ} → Fills S T A → T ≡ S ++ A []
more_slots {T = T} x = sym (append-nil T) ∙ x.so []

pub longer : {S T : List ℕ} {A : List ℕ → List ℕ} → Fills S T A → length S ≤ length T
longer {S} {T} {A} x = omega (arith, ap length (more_slots x), length-append S (A []))

-- a slot taken before is filled
pub refill : {S T : List ℕ} {A : List ℕ → List ℕ} (v w : ℕ) → Fills (S ++ (v ∷ [])) T A → Fills S (set T (length S) w) (λ k. w ∷ A k)
refill {S} {T} {A} v w x =
    let h : length S < length T = omega (arith, longer x, length-append S (v ∷ [])) in
    record {
      so = λ k.
          sym (set-append_left T k (length S) w h)
          ∙ ap (λ (l : List ℕ). set l (length S) w) (x.so k ∙ append_assoc S (v ∷ []) (A k))
          ∙ set-append_seam S v (A k) w;
    }

-- ---- what a table says at the next slot, and behind some slots

pub slot_read : (L S k : List ℕ) (v : ℕ) → drop (length S) L ≡ v ∷ k → get_or L (length S) 0 ≡ v
slot_read L S k v e = ap (λ (i : ℕ). get_or L i 0) (sym (add-zero (length S))) ∙ sym (get_or-drop (length S) L 0 0) ∙ ap (λ (l : List ℕ). get_or l 0 0) e

pub slot_past : (L S k : List ℕ) (u v : ℕ) → drop (length S) L ≡ v ∷ k → drop (length (S ++ (u ∷ []))) L ≡ k
slot_past L S k u v e =
    ap (λ (i : ℕ). drop i L) (length-append S (u ∷ [])) ∙ sym (drop-drop 1 (length S) L) ∙ ap (λ (l : List ℕ). drop 1 l) e

pub slots_past : {S T : List ℕ} {A : List ℕ → List ℕ} (L k : List ℕ) → Fills S T A → drop (length S) L ≡ A k → drop (length T) L ≡ k
slots_past {S} {T} {A} L k x e =
    let j : ℕ = length (A []) in
    let n : length T ≡ length S + j = ap length (more_slots x) ∙ length-append S (A []) in
    ap (λ (i : ℕ). drop i L) n
    ∙ sym (drop-drop j (length S) L)
    ∙ ap (drop j) e
    ∙ sym (drop-append-add S (A k) j)
    ∙ ap (λ (i : ℕ). drop i (S ++ A k)) (sym n)
    ∙ ap (drop (length T)) (sym (x.so k))
    ∙ drop-append_seam T k

-- ---- what lies ahead; g: the scopes around, b: the address of the tree's code, k: what lies ahead behind it

-- an address
abbrev pub there : ℕ → ℕ
there b = packed 0 0 b

-- where an element's code ends, whose variable is x
unfoldable pub end_x : List Scope → Name → Element → ℕ → ℕ
end_x g x (value e) b = suc (end_store g x (end_e g e b))
end_x g x (while q e c) b = suc (suc (end_e g c (end_store g x (end_e g e b))))
end_x g x (step q e f h) b = end_step (way (meaning g x)) g f h (end_store g x (end_e g e b))

-- place: of a symbol; word: of an actual
module _ (place : ℕ → ℕ) (word : List Around → Expression → ℕ) where
  abbrev pub ahead_name : Primary → (List Mode → ℕ → List ℕ → List ℕ) → ℕ → List ℕ → List ℕ
  ahead_name held f b k = k
  ahead_name worked f b k = k
  ahead_name (function p) f b k = f (modes_of p) (suc b) k
  ahead_name absolute f b k = f (by_value (some integer) ∷ []) b k
  ahead_name greatest f b k = k
  ahead_name no_primary f b k = k

  -- an actual; of a name formal: where it ends, its first symbol's place, its word. f: where its expression ends; a: what lies ahead in that
  abbrev pub ahead_actual : Mode → List Around → Expression → (ℕ → ℕ) → (List Around → ℕ → List ℕ → List ℕ) → ℕ → List ℕ → List ℕ
  ahead_actual (by_value t) g e f a b k = a g b k
  ahead_actual (by_name_mode t) g e f a b k = there (end_actual (by_name_mode t) f b) ∷ place (first_symbol e) ∷ word (an_actual ∷ g) e ∷ a (an_actual ∷ g) (suc (suc (suc b))) k

  abbrev pub ahead_then : List Mode → List Around → Expression → (ℕ → ℕ) → (List Around → ℕ → List ℕ → List ℕ) → (List Mode → ℕ → List ℕ → List ℕ) → ℕ → List ℕ → List ℕ
  ahead_then [] g e f a more b k = a g b (more [] (f b) k)
  ahead_then (m ∷ ms) g e f a more b k = ahead_actual m g e f a b (more ms (end_actual m f b) k)

  unfoldable mutual
    pub ahead_e : List Around → Expression → ℕ → List ℕ → List ℕ
    ahead_e g (number q n) b k = k
    ahead_e g (decimal q n i) b k = k
    ahead_e g (logical q t) b k = k
    ahead_e g (name x) b k = k
    ahead_e g (call x e es) b k =
        ahead_name (primary (meaning (scopes g) x) (then e es)) (λ m b k. ahead_then m g e (λ b. end_e (scopes g) e b) (λ g b k. ahead_e g e b k) (λ m b k. ahead_es g m es b k) b k) b k
    ahead_e g (signed q o e) b k = ahead_e g e b k
    ahead_e g (operated q o e f) b k = ahead_e g e b (ahead_e g f (end_e (scopes g) e b) k)
    ahead_e g (chosen q r c e f) b k =
        let m = end_e (scopes g) c b in
        let n = end_wide (widens (scopes g) e f) (end_e (scopes g) e (suc m)) in
        ahead_e g c b (there (suc n) ∷ ahead_e g e (suc m) (there (end_wide (widens (scopes g) f e) (end_e (scopes g) f (suc n))) ∷ ahead_e g f (suc n) k))
    ahead_e g (nested q e) b k = ahead_e g e b k

    pub ahead_es : List Around → List Mode → Expressions → ℕ → List ℕ → List ℕ
    ahead_es g m done b k = k
    ahead_es g m (then e es) b k = ahead_then m g e (λ b. end_e (scopes g) e b) (λ g b k. ahead_e g e b k) (λ m b k. ahead_es g m es b k) b k

  -- the expressions of an element
  unfoldable pub ahead_x : List Around → Name → Element → ℕ → List ℕ → List ℕ
  ahead_x g x (value e) b k = ahead_e g e b k
  ahead_x g x (while q e c) b k = ahead_e g e b (ahead_e g c (end_store (scopes g) x (end_e (scopes g) e b)) k)
  ahead_x g x (step q e f h) b k =
      let a = end_store (scopes g) x (end_e (scopes g) e b) in
      let i = suc (end_e (scopes g) f (suc a)) in
      ahead_e g e b (there i ∷ ahead_e g f (suc a) (ahead_e g h (suc i) k))

  -- elements, up to the last one's own slot
  unfoldable pub ahead_l : List Around → Name → Element → List Element → ℕ → List ℕ → List ℕ
  ahead_l g x l [] b k = ahead_x g x l b k
  ahead_l g x l (y ∷ ls) b k = ahead_x g x l b (there (end_x (scopes g) x l b) ∷ ahead_l g x y ls (end_x (scopes g) x l b) k)

  abbrev pub ahead_call : List Around → Option Sort → List Mode → Expressions → ℕ → List ℕ → List ℕ
  ahead_call g none m es b k = ahead_es g m es b k
  ahead_call g (some t) m es b k = ahead_es g m es (suc b) k

  abbrev pub ahead_command : List Around → Command → Expressions → ℕ → List ℕ → List ℕ
  ahead_command g (routine_of p) es b k = ahead_call g (sort_of p) (modes_of p) es b k
  ahead_command g (absolute_of e) es b k = ahead_e g e b k
  ahead_command g greatest_of es b k = k
  ahead_command g (input_to e y) es b k = ahead_e g e b k
  ahead_command g (output_of_lem t e f) es b k = ahead_e g e b (ahead_e g f (suc (end_e (scopes g) e b)) k)
  ahead_command g no_command es b k = k

  unfoldable mutual
    pub ahead_s : List Around → Statement → ℕ → List ℕ → List ℕ
    ahead_s g dummy b k = k
    ahead_s g (assignment x xs q e) b k = ahead_e g e b k
    ahead_s g (procedure x es) b k = ahead_command g (command (meaning (scopes g) x) es) es b k
    ahead_s g (when q c s) b k =
        let i = suc (end_e (scopes g) c b) in
        ahead_e g c b (there (end_s (scopes g) s i) ∷ ahead_s g s i k)
    ahead_s g (either q c s t) b k =
        let i = end_e (scopes g) c b in
        let n = end_s (scopes g) s (suc i) in
        ahead_e g c b (there (suc n) ∷ ahead_s g s (suc i) (there (end_s (scopes g) t (suc n)) ∷ ahead_s g t (suc n) k))
    ahead_s g (repeat x l ls s) b k =
        let i = end_l (scopes g) x (l ∷ ls) b in
        there i ∷ ahead_l g x l ls b (there (suc (end_s (scopes g) s i)) ∷ ahead_s g s i k)
    ahead_s g (compound ss) b k = ahead_ss g ss b k
    ahead_s g (block q ds ss) b k =
        let p = end_head ds b in
        let h = a_block (reach g) ds p ∷ g in
        let i = end_ds (scopes h) ds p in
        there i ∷ ahead_ds h ds p (ahead_ss h ss (suc i) k)

    pub ahead_ss : List Around → Statements → ℕ → List ℕ → List ℕ
    ahead_ss g (last s) b k = ahead_s g s b k
    ahead_ss g (first s ss) b k = ahead_s g s b (ahead_ss g ss (end_s (scopes g) s b) k)

    pub ahead_ds : List Around → Declarations → ℕ → List ℕ → List ℕ
    ahead_ds g no_more b k = k
    ahead_ds g (variables t xs ds) b k = ahead_ds g ds b k
    ahead_ds g (declare p ds) b k = ahead_p g p b (ahead_ds g ds (end_p (scopes g) p b) k)

    pub ahead_p : List Around → Procedure → ℕ → List ℕ → List ℕ
    ahead_p g (heading t f xs vs ss s) b k = ahead_s (a_body (heading t f xs vs ss s) ∷ g) s b k

  -- ---- no more slots than instructions

  abbrev Few : (ℕ → ℕ) → (ℕ → List ℕ → List ℕ) → Type 0
  Few f a = (b : ℕ) (k : List ℕ) → length (a b k) + b ≤ length k + f b

  few_name : (pr : Primary) (f : List Mode → ℕ → ℕ) (a : List Mode → ℕ → List ℕ → List ℕ) → ((m : List Mode) → Few (f m) (a m)) → Few (end_name pr f) (ahead_name pr a)
  few_name held f a h b k = omega arith
  few_name worked f a h b k = omega arith
  few_name (function p) f a h b k = omega (arith, h (modes_of p) (suc b) k)
  few_name absolute f a h b k = omega (arith, h (by_value (some integer) ∷ []) b k)
  few_name greatest f a h b k = omega arith
  few_name no_primary f a h b k = omega arith

  few_then : (m : List Mode) (g : List Around) (e : Expression) (f : ℕ → ℕ) (a : List Around → ℕ → List ℕ → List ℕ) (fs : List Mode → ℕ → ℕ) (more : List Mode → ℕ → List ℕ → List ℕ)
      → Few f (a g) → Few f (a (an_actual ∷ g)) → ((m : List Mode) → Few (fs m) (more m)) → Few (end_then m f fs) (ahead_then m g e f a more)
  few_then [] g e f a fs more h h' hs b k = omega (arith, h b (more [] (f b) k), hs [] (f b) k)
  few_then (by_value t ∷ ms) g e f a fs more h h' hs b k = omega (arith, h b (more ms (suc (f b)) k), hs ms (suc (f b)) k)
  few_then (by_name_mode t ∷ ms) g e f a fs more h h' hs b k =
      let n = suc (suc (f (suc (suc (suc b))))) in
      omega (arith, h' (suc (suc (suc b))) (more ms n k), hs ms n k)

  mutual
    unfolding end_e ahead_e

    few_e : (g : List Around) (e : Expression) → Few (end_e (scopes g) e) (ahead_e g e)
    few_e g (number q n) b k = omega arith
    few_e g (decimal q n i) b k = omega arith
    few_e g (logical q t) b k = omega arith
    few_e g (name x) b k = omega (arith, name_size (primary (meaning (scopes g) x) done) (λ m b. b) 0 (λ m b. omega arith) b)
    few_e g (call x e es) b k =
        few_name (primary (meaning (scopes g) x) (then e es)) (λ m b. end_then m (λ b. end_e (scopes g) e b) (λ m b. end_es (scopes g) m es b) b) (λ m b k. ahead_then m g e (λ b. end_e (scopes g) e b) (λ g b k. ahead_e g e b k) (λ m b k. ahead_es g m es b k) b k)
        (λ m b k. few_then m g e (λ b. end_e (scopes g) e b) (λ g b k. ahead_e g e b k) (λ m b. end_es (scopes g) m es b) (λ m b k. ahead_es g m es b k) (λ b k. few_e g e b k) (λ b k. few_e (an_actual ∷ g) e b k) (λ m b k. few_es g m es b k) b k) b k
    few_e g (signed q o e) b k = omega (arith, few_e g e b k, sign_size o (end_e (scopes g) e b))
    few_e g (operated q o e f) b k = omega (arith, few_e g e b (ahead_e g f (end_e (scopes g) e b) k), few_e g f (end_e (scopes g) e b) k)
    few_e g (chosen q r c e f) b k =
        let m = end_e (scopes g) c b in
        let u = widens (scopes g) e f in
        let v = widens (scopes g) f e in
        let i = end_e (scopes g) e (suc m) in
        let n = end_wide u i in
        let j = end_e (scopes g) f (suc n) in
        let k₁ : List ℕ = there (end_wide v j) ∷ ahead_e g f (suc n) k in
        omega (arith, few_e g c b (there (suc n) ∷ ahead_e g e (suc m) k₁), few_e g e (suc m) k₁, wide_size u i, few_e g f (suc n) k, wide_size v j)
    few_e g (nested q e) b k = few_e g e b k

    few_es : (g : List Around) (m : List Mode) (es : Expressions) → Few (end_es (scopes g) m es) (ahead_es g m es)
    few_es g m done b k = omega arith
    few_es g m (then e es) b k =
        few_then m g e (λ b. end_e (scopes g) e b) (λ g b k. ahead_e g e b k) (λ m b. end_es (scopes g) m es b) (λ m b k. ahead_es g m es b k) (λ b k. few_e g e b k) (λ b k. few_e (an_actual ∷ g) e b k) (λ m b k. few_es g m es b k) b k

  few_x : (g : List Around) (x : Name) (l : Element) (b : ℕ) (k : List ℕ) → length (ahead_x g x l b k) + b + 1 ≤ length k + end_x (scopes g) x l b
  unfolding ahead_x end_x
  few_x g x (value e) b k = omega (arith, few_e g e b k, way_size (way (meaning (scopes g) x)) (end_e (scopes g) e b))
  few_x g x (while q e c) b k =
      let a = end_store (scopes g) x (end_e (scopes g) e b) in
      omega (arith, few_e g e b (ahead_e g c a k), few_e g c a k, way_size (way (meaning (scopes g) x)) (end_e (scopes g) e b))
  few_x g x (step q e f h) b k =
      let a = end_store (scopes g) x (end_e (scopes g) e b) in
      let w = way (meaning (scopes g) x) in
      let i = suc (end_e (scopes g) f (suc a)) in
      let n = end_e (scopes g) h (suc i) in
      let k₁ : List ℕ = ahead_e g f (suc a) (ahead_e g h (suc i) k) in
      omega
      (arith, few_e g e b (there i ∷ k₁), few_e g f (suc a) (ahead_e g h (suc i) k), few_e g h (suc i) k, way_size w (end_e (scopes g) e b), way_size w n, sum_size w (suc (suc (end_way w n))))

-- the address behind an element is where the others begin
pub end_element : (g : List Scope) (x : Name) (l : Element) (ls : List Element) (b : ℕ) → end_l g x (l ∷ ls) b ≡ end_l g x ls (end_x g x l b)
unfolding end_l end_x
end_element g x (value e) ls b = refl
end_element g x (while q e c) ls b = refl
end_element g x (step q e f h) ls b = refl

module _ (place : ℕ → ℕ) (word : List Around → Expression → ℕ) where
  few_l : (g : List Around) (x : Name) (l : Element) (ls : List Element) (b : ℕ) (k : List ℕ) → length (ahead_l place word g x l ls b k) + b + 1 ≤ length k + end_l (scopes g) x (l ∷ ls) b
  unfolding ahead_l end_l
  few_l g x l [] b k = omega (arith, few_x place word g x l b k, end_element (scopes g) x l [] b)
  few_l g x l (y ∷ ls) b k =
      let i = end_x (scopes g) x l b in
      omega (arith, few_x place word g x l b (there i ∷ ahead_l place word g x y ls i k), few_l g x y ls i k, end_element (scopes g) x l (y ∷ ls) b)

  few_call : (g : List Around) (t : Option Sort) (m : List Mode) (es : Expressions) (b : ℕ) (k : List ℕ) → length (ahead_call place word g t m es b k) + b ≤ length k + end_call (scopes g) t m es b
  few_call g none m es b k = omega (arith, few_es place word g m es b k)
  few_call g (some t) m es b k = omega (arith, few_es place word g m es (suc b) k)

  few_command : (g : List Around) (c : Command) (es : Expressions) (b : ℕ) (k : List ℕ) → length (ahead_command place word g c es b k) + b ≤ length k + end_command (scopes g) c es b
  few_command g (routine_of p) es b k = few_call g (sort_of p) (modes_of p) es b k
  few_command g (absolute_of e) es b k = omega (arith, few_e place word g e b k)
  few_command g greatest_of es b k = omega arith
  few_command g (input_to e y) es b k = omega (arith, few_e place word g e b k, take_size (way (meaning (scopes g) y)) (suc (end_e (scopes g) e b)))
  few_command g (output_of_lem t e f) es b k =
      let i = suc (end_e (scopes g) e b) in
      omega (arith, few_e place word g e b (ahead_e place word g f i k), few_e place word g f i k)
  few_command g no_command es b k = omega arith

  mutual
    unfolding end_s ahead_s

    pub few_s : (g : List Around) (s : Statement) (b : ℕ) (k : List ℕ) → length (ahead_s place word g s b k) + b ≤ length k + end_s (scopes g) s b
    few_s g dummy b k = omega arith
    few_s g (assignment x xs q e) b k = omega (arith, few_e place word g e b k, size_stores (scopes g) x xs (end_e (scopes g) e b))
    few_s g (procedure x es) b k = few_command g (command (meaning (scopes g) x) es) es b k
    few_s g (when q c s) b k =
        let i = suc (end_e (scopes g) c b) in
        omega (arith, few_e place word g c b (there (end_s (scopes g) s i) ∷ ahead_s place word g s i k), few_s g s i k)
    few_s g (either q c s t) b k =
        let i = end_e (scopes g) c b in
        let n = end_s (scopes g) s (suc i) in
        let k₁ : List ℕ = there (end_s (scopes g) t (suc n)) ∷ ahead_s place word g t (suc n) k in
        omega (arith, few_e place word g c b (there (suc n) ∷ ahead_s place word g s (suc i) k₁), few_s g s (suc i) k₁, few_s g t (suc n) k)
    few_s g (repeat x l ls s) b k =
        let i = end_l (scopes g) x (l ∷ ls) b in
        omega (arith, few_l g x l ls b (there (suc (end_s (scopes g) s i)) ∷ ahead_s place word g s i k), few_s g s i k)
    few_s g (compound ss) b k = few_ss g ss b k
    few_s g (block q ds ss) b k =
        let p = end_head ds b in
        let h : List Around = a_block (reach g) ds p ∷ g in
        let i = end_ds (scopes h) ds p in
        omega (arith, jump_size (routines ds) b, few_ds h ds p (ahead_ss place word h ss (suc i) k), few_ss h ss (suc i) k)

    few_ss : (g : List Around) (ss : Statements) (b : ℕ) (k : List ℕ) → length (ahead_ss place word g ss b k) + b ≤ length k + end_ss (scopes g) ss b
    few_ss g (last s) b k = few_s g s b k
    few_ss g (first s ss) b k = omega (arith, few_s g s b (ahead_ss place word g ss (end_s (scopes g) s b) k), few_ss g ss (end_s (scopes g) s b) k)

    few_ds : (g : List Around) (ds : Declarations) (b : ℕ) (k : List ℕ) → length (ahead_ds place word g ds b k) + b ≤ length k + end_ds (scopes g) ds b
    few_ds g no_more b k = omega arith
    few_ds g (variables t xs ds) b k = few_ds g ds b k
    few_ds g (declare p ds) b k = omega (arith, few_p g p b (ahead_ds place word g ds (end_p (scopes g) p b) k), few_ds g ds (end_p (scopes g) p b) k)

    few_p : (g : List Around) (p : Procedure) (b : ℕ) (k : List ℕ) → length (ahead_p place word g p b k) + b ≤ length k + end_p (scopes g) p b
    few_p g (heading t f xs vs ss s) b k = omega (arith, few_s (a_body (heading t f xs vs ss s) ∷ g) s b k)
