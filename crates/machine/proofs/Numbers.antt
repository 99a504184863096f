-- The quick way of an instruction that uses whole numbers alone: no formal on the way converts one, so that a cell's own number is what is read and
-- stored; what each instruction comes to is then one of the cases in `Works`.
use mathlib.Core.Path.{◌≡◌, refl, sym, ap, ap₂, subst, ◌∙◌}
use mathlib.Core.Bool.{Bool, true, false, cond, not, false≢true}
use mathlib.Core.List.{List, [], ◌∷◌}
use mathlib.Core.Option.{Option as Maybe, some}
use Rattle.std.specs.Prelude.{Option, Some, None, Result as Returned, Ok, Err, OkIff}
use Rattle.std.specs.Result.{result_ok}
use Prim.Native.Nat.{ℕ, zero, suc, ◌+◌, ◌-◌, ◌*◌, ◌≤◌, ◌<◌}
use native.Mathlib.Omega.{arith}
use native.Mathlib.Nat.{not-suc-le-zero}
use lib.Dec.{ltb}
use lib.ListN.{get_or}
use lib.IntN.{ℤ, pos}
use lib.Signed.{mag}
use mir.Syntax.{w32, w64}
use mir.Val.{SFits, to_z, of_z}
use mir.Facts.{to_z-of_z}
use borrow.Author.Tests.{lt-ltb}
use Rattle.reals.specs.declared.Form.{Form}
use Rattle.reals.specs.declared.Form.TheVariants.{Wholes}
use Rattle.reals.specs.declared.Value.{Value}
use Rattle.reals.specs.declared.Value.TheVariants.{Truth, Whole}
use Rattle.reals.specs.declared.Outcome.{Outcome}
use Rattle.reals.specs.declared.Outcome.TheVariants.{Is}
use Rattle.reals.specs.declared.Binary.{Binary}
use Rattle.reals.specs.declared.Binary.TheVariants.{Plus}
use Rattle.reals.specs.declared.Cell.{Cell}
use Rattle.reals.specs.declared.Cell.TheVariants.{Unset, Holds, Named}
use Rattle.reals.specs.Values.{convert, apply2, leaves}
use Rattle.reals.specs.model.Stored.{Fitting, FittingC, FittingO, whole_in, cell_of}
use Rattle.reals.proofs.Fits.{binary_fits}
use Rattle.reals.proofs.ReadBack.{of_4}
use Rattle.machine.specs.declared.Counts.{Counts}
use Rattle.machine.specs.Run.{Trace, quiet}
use Rattle.machine.specs.Data.{Link, link, Target, to, Data, form_in, back, valued, unhold, yea, Act, push, reserve, load, store, binary, sum, turn, act_on, downs, work, upto, test, good, hold}
use Rattle.machine.specs.Instructions.{Location, Instruction, DO, IF, JUMP, variable, low, with_form}
use Rattle.machine.specs.Machine.{base, target_in, stray, obey}
use Rattle.machine.specs.model.Holding.{Own, cell_at, put_at, room_of, data_of, trace_of, fine, told, lifted, goes, stepped, all_suit, out_t, in_t, read_t, reach_t, mach_of, positions_of, frames_of, link_at, links_of, own_of, fewer, holding, Sound}
use Rattle.machine.specs.model.Quick.{NumberIn, TakesWholes, OnWholes, LeadsTo, Spots, Fills, cut, Quickly}
use Rattle.machine.proofs.Turns.{form_at}
use Rattle.machine.proofs.Stacks.{held_fits, cells_cons, sound_same}
use Rattle.machine.proofs.Kept.{more, newest_holds, look_data, cell_in, back_done, put_done, new_done, fewer_sound, put_sound, new_sound, valued_is}
use Rattle.machine.proofs.Works.{two_some, turned_is, turned_fine, load_is, save_is, binary_some, turn_some, sum_some, upto_some, read_is, counting_yes}
use Rattle.machine.proofs.Told.{released, held_in_lem, held_some, some_held, renew_sound, renew_room, renew_done, left_no}
use Rattle.machine.proofs.Execs.{room_yes, lift_good, test_yes, plain_done, upto_done, obeyed, obeyed_as, jump_goes}

-- ---- cells

-- the kind of a whole number, and a load that is one
pub number_at : (s : List ℤ) (c : ℕ) → of_z w64 (get_or s (2 * c) (pos 0)) ≡ 4 → mag (get_or s (2 * c + 1) (pos 0)) < 2147483648 → cell_at s c ≡ Holds (Whole (get_or s (2 * c + 1) (pos 0)))
unfolding cell_at whole_in
number_at s c e h = sym (of_4 (get_or s (2 * c + 1) (pos 0)) e) ∙ rw (lt-ltb (mag (get_or s (2 * c + 1) (pos 0))) 2147483648 h)

-- a number that is read as one of 32 bits
pub number_told : {E : Type 0} (s : List ℤ) (c : ℕ) (r : Returned ℤ E) {x : ℤ} → of_z w64 (get_or s (2 * c) (pos 0)) ≡ 4 → x ≡ get_or s (2 * c + 1) (pos 0) → OkIff r (SFits w32 x) x → NumberIn (result_ok r) (cell_at s c)
number_told s c (Ok z) e g h = number_at s c e (subst (SFits w32) g h.0).sfits ∙ ap (λ (y : ℤ). Holds (Whole y)) (sym (h.1 ∙ g))
number_told s c (Err f) e g h = tt

whole_takes : (x : ℤ) → TakesWholes (whole_in x)
unfolding whole_in
whole_takes x = go (ltb (mag x) 2147483648)
  where
    go : (b : Bool) → TakesWholes (cond b (Holds (Whole x)) (Unset Wholes))
    go true = refl
    go false = refl

module _ (s : List ℤ) (c : ℕ) where
  pub takes_held : of_z w64 (get_or s (2 * c) (pos 0)) ≡ 4 → TakesWholes (cell_at s c)
  unfolding cell_at
  takes_held e = subst TakesWholes (of_4 (get_or s (2 * c + 1) (pos 0)) e) (whole_takes (get_or s (2 * c + 1) (pos 0)))

  pub takes_unset : of_z w64 (get_or s (2 * c) (pos 0)) ≡ 0 → TakesWholes (cell_at s c)
  unfolding cell_at cell_of
  takes_unset e = rw e refl

-- what is told of a cell
pub number_is : {r : Option ℤ} {z : ℤ} {x : Cell} → r ≡ Some z → NumberIn r x → x ≡ Holds (Whole z)
number_is {x} e h = subst (λ (y : Option ℤ). NumberIn y x) e h

-- ---- the formals on the way

way_suits : (l : List Link) → OnWholes l → all_suit Wholes l ≡ true
unfolding all_suit
way_suits [] h = refl
way_suits (link t q ∷ l) h = rw h.0 (way_suits l h.1)

way_out : (l : List Link) (z : ℤ) → OnWholes l → out_t l (Whole z) ≡ Ok (Whole z)
unfolding out_t convert
way_out [] z h = refl
way_out (link t q ∷ l) z h = rw (h.0, way_out l z h.1)

way_in : (q : ℕ) (l : List Link) (z : ℤ) → OnWholes l → in_t q Wholes l (Whole z) ≡ Ok (Whole z)
unfolding in_t convert
way_in q [] z h = refl
way_in q (link t p ∷ l) z h = rw h.0 (way_in q l z h.1)

way_read : (q : ℕ) (l : List Link) (z : ℤ) → OnWholes l → read_t Wholes q l (Holds (Whole z)) ≡ Ok (Whole z)
unfolding read_t
way_read q l z h = rw (way_suits l h, way_out l z h)

way_reach : (l : List Link) (x : Cell) → TakesWholes x → OnWholes l → reach_t Wholes l x ≡ Some Wholes
unfolding reach_t
way_reach l (Unset t) k h = rw (k, way_suits l h)
way_reach l (Holds v) k h = rw (k, way_suits l h)
way_reach l (Named n) k h = absurd k

takes_form : (x : Cell) → TakesWholes x → Wholes ≡ form_in x
takes_form (Unset t) k = sym k
takes_form (Holds v) k = sym k
takes_form (Named n) k = absurd k

-- one by one, as the code's loop goes
module _ (l : List ℕ) where
  pub way_none : (k : ℕ) → k ≤ 0 → OnWholes (links_of l k)
  unfolding links_of
  way_none zero h = tt
  way_none (suc k) h = absurd (not-suc-le-zero h)

  pub way_more : (k : ℕ) {f : Form} → 1 ≤ k → f ≡ form_at l (k - 1) → f ≡ Wholes → OnWholes (links_of l (k - 1)) → OnWholes (links_of l k)
  unfolding links_of link_at
  way_more zero h e g w = absurd (not-suc-le-zero h)
  way_more (suc k) h e g w = let z : suc k - 1 ≡ k = omega arith in (sym (rw z at e) ∙ g, rw z at w)

-- ---- the operations on the data

-- one cell less
less : (n : Counts) (a : Own) (s i o : List ℤ) {x : Data} {t : Trace} → 2 ≤ n.cells → fine (data_of (more 1 (fewer 2 n)) a s i o) (trace_of n o) ≡ fine x t → fine (data_of (fewer 1 n) a s i o) (trace_of n o) ≡ fine x t
less n a s i o h e = let z : n.cells - 1 ≡ n.cells - 2 + 1 = omega arith in ap (λ (c : ℕ). fine (data_of (cut c n) a s i o) (trace_of n o)) z ∙ e

module _ (n : Counts) (a : Own) (s i o : List ℤ) (q : ℕ) {s' : List ℤ} where
  load_whole : (c : ℕ) {z : ℤ} (x : Target) → LeadsTo c x → c < n.cells → cell_at s c ≡ Holds (Whole z) → n.cells + n.held < room_of s → s' ≡ put_at s n.cells (Holds (Whole z))
      → fine (data_of (more 1 n) a s' i o) (trace_of n o) ≡ told (trace_of n o) (work (load q x) (data_of n a s i o))
  load_whole c {z} (to d l) p h e r k =
      let b : d < n.cells = subst (λ (y : ℕ). y < n.cells) p.0 h in
      let g : cell_at s d ≡ Holds (Whole z) = subst (λ (y : ℕ). cell_at s y ≡ Holds (Whole z)) p.0 e in
      new_done n a s i o q (Holds (Whole z)) k (held_fits s d g) r
      ∙ turned_is _ _ (way_read q l z p.1)
      ∙ load_is _ _ q d l (cell_in n a s i o d b) (look_data n a s i o d b ∙ g)

  save_whole : (c : ℕ) {z : ℤ} (x : Target) → LeadsTo c x → c + 1 < n.cells → cell_at s (n.cells - 1) ≡ Holds (Whole z) → TakesWholes (cell_at s c) → n.cells + n.held ≤ room_of s → s' ≡ put_at s c (Holds (Whole z))
      → fine (data_of (fewer 1 n) a s' i o) (trace_of n o) ≡ told (trace_of n o) (work (store q x) (data_of n a s i o))
  save_whole c {z} (to d l) p h e w r k =
      let m = fewer 1 n in
      let b : c < n.cells - 1 = omega arith in
      let y = subst (λ (y : ℕ). told (trace_of n o) (work (store q (to y l)) (data_of n a s i o)) ≡ told (trace_of n o) (work (store q (to d l)) (data_of n a s i o))) (sym p.0) refl in
      put_done m a s i o (Whole z) k (held_fits s (n.cells - 1) e) b (omega arith)
      ∙ turned_fine _ _ (way_in q l z p.1)
      ∙ save_is _ _ q c l (newest_holds n a s i o (omega arith) e) (cell_in m a s i o c b) (look_data m a s i o c b) (way_reach l (cell_at s c) w p.1) (takes_form (cell_at s c) w) refl
      ∙ y

  binary_whole : (op : Binary) {x y : ℤ} {w : Outcome} {v : Value} → 2 ≤ n.cells → n.cells + n.held ≤ room_of s → cell_at s (n.cells - 1) ≡ Holds (Whole y) → cell_at s (n.cells - 2) ≡ Holds (Whole x) → w ≡ apply2 op (Whole x) (Whole y) → w ≡ Is v → s' ≡ put_at s (n.cells - 2) (Holds v)
      → fine (data_of (fewer 1 n) a s' i o) (trace_of n o) ≡ told (trace_of n o) (work (binary q op) (data_of n a s i o))
  binary_whole op {x} {y} {w} {v} h r e g p u k =
      let m : n.cells - 1 - 1 ≡ n.cells - 2 = omega arith in
      let g' : cell_at s (n.cells - 1 - 1) ≡ Holds (Whole x) = rw m g in
      let f : Fitting v = subst FittingO (sym p ∙ u) (binary_fits op (Whole x) (Whole y)) in
      let j = newest_holds (fewer 1 n) a s i o (omega arith) g' in
      let j' = rw m at j in
      less n a s' i o h (back_done (fewer 2 n) a s i o v k f (omega arith))
      ∙ valued_is q _ _ w u
      ∙ binary_some _ _ q op (λ b. two_some b _ (newest_holds n a s i o (omega arith) e) j') refl p

  -- the step is held in the place of the old one, and the sum has its cell
  sum_whole : (c : ℕ) {x z : ℤ} {w : Outcome} {u : Value} {s₁ : List ℤ} (y : Target) → LeadsTo c y → c + 1 < n.cells → 1 ≤ n.held → n.cells + n.held ≤ room_of s → cell_at s (n.cells - 1) ≡ Holds (Whole x) → cell_at s c ≡ Holds (Whole z) → w ≡ apply2 Plus (Whole z) (Whole x) → w ≡ Is u
      → s₁ ≡ put_at s (room_of s - n.held) (Holds (Whole x)) → s' ≡ put_at s₁ (n.cells - 1) (Holds u) → fine (data_of n a s' i o) (trace_of n o) ≡ told (trace_of n o) (work (sum q y) (data_of n a s i o))
  sum_whole c {x} {z} {w} {u} {s₁} (to d l) p h k r e g j v e₁ e₂ =
      let m = fewer 1 n in
      let b : d < n.cells - 1 = omega (arith, p.0) in
      let g' : cell_at s d ≡ Holds (Whole z) = subst (λ (y : ℕ). cell_at s y ≡ Holds (Whole z)) p.0 g in
      let t : room_of s - 1 - (n.held - 1) ≡ room_of s - n.held = omega arith in
      let e₃ : s₁ ≡ put_at s (room_of s - 1 - (n.held - 1)) (Holds (Whole x)) = rw t e₁ in
      let fx : Fitting (Whole x) = held_fits s (n.cells - 1) e in
      let fu : Fitting u = subst FittingO (sym j ∙ v) (binary_fits Plus (Whole z) (Whole x)) in
      let r' : n.cells - 1 + n.held < room_of s = omega arith in
      let cs : n.cells ≡ n.cells - 1 + 1 = omega arith in
      let hs : n.held ≡ n.held - 1 + 1 = omega arith in
      ap₂ (λ (c h : ℕ). fine (data_of (record { cells = c; held = h; taken = n.taken; written = n.written }) a s' i o) (trace_of n o)) cs hs
      ∙ back_done (holding (released m)) a s₁ i o u e₂ fu (renew_room m s (Whole x) e₃ fx refl r' k)
      ∙ renew_done m s (Whole x) e₃ fx refl r' k u a i o
      ∙ valued_is q _ _ w v
      ∙ ap (λ (y : Outcome). told (trace_of n o) (valued q (λ u. good quiet (back u (hold (Whole x) (unhold (data_of m a s i o))))) y)) j
      ∙ turned_is _ _ (way_read q l z p.1)
      ∙ read_is _ _ q d l _ (cell_in m a s i o d b) (look_data m a s i o d b ∙ g')
      ∙ sum_some _ _ q d l (newest_holds n a s i o (omega arith) e) (some_held m a s i o k) refl refl

-- the store is as it was
module _ (n : Counts) (a : Own) (s i o : List ℤ) (q : ℕ) where
  turn_whole : {z : ℤ} → 1 ≤ n.cells → cell_at s (n.cells - 1) ≡ Holds (Whole z) → fine (data_of n a s i o) (trace_of n o) ≡ told (trace_of n o) (work (turn q Wholes) (data_of n a s i o))
  unfolding back convert
  turn_whole {z} h e =
      let d : data_of n a s i o ≡ back (Whole z) (data_of (fewer 1 n) a s i o) = rw (cells_cons n.cells s h, e) in
      ap (λ (x : Data). fine x (trace_of n o)) d
      ∙ valued_is q _ _ (Is (Whole z)) refl
      ∙ turn_some _ _ q Wholes (newest_holds n a s i o h e) refl refl

  upto_whole : (c : ℕ) {x y z : ℤ} (v : Target) → LeadsTo c v → c + 1 < n.cells → 1 ≤ n.held → Sound n s → cell_at s (n.cells - 1) ≡ Holds (Whole y) → cell_at s (room_of s - n.held) ≡ Holds (Whole x) → cell_at s c ≡ Holds (Whole z) → leaves (Whole z) (Whole x) (Whole y) ≡ Is (Truth false)
      → fine (yea (data_of (fewer 1 n) a s i o)) (trace_of n o) ≡ told (trace_of n o) (test (upto q v) (data_of n a s i o))
  upto_whole c {x} {y} {z} (to d l) p h k g e e₁ e₂ j =
      let m = fewer 1 n in
      let b : d < n.cells - 1 = omega (arith, p.0) in
      let g' : cell_at s d ≡ Holds (Whole z) = subst (λ (y : ℕ). cell_at s y ≡ Holds (Whole z)) p.0 e₂ in
      let u = held_in_lem m s (fewer_sound 1 n m s g refl) refl k refl in
      left_no m a s i o q (leaves (Whole z) (Whole x) (Whole y)) j refl refl
      ∙ turned_is _ _ (way_read q l z p.1)
      ∙ read_is _ _ q d l _ (cell_in m a s i o d b) (look_data m a s i o d b ∙ g')
      ∙ counting_yes _ (data_of m a s i o) (Whole x) _ refl
      ∙ counting_yes _ (data_of m a s i o) (Whole y) _ refl
      ∙ upto_some _ _ q d l (newest_holds n a s i o (omega arith) e) (held_some m a s i o e₁ u) refl

-- ---- the instructions

module _ (at a : ℕ) (n : Counts) (s s' i o : List ℤ) (l : List ℕ) where
  did : (b : Act Location) (c : ℕ) → base (frames_of l a) a + downs b ≤ n.cells
      → fine (data_of (cut c n) (own_of l a) s' i o) (trace_of n o) ≡ told (trace_of n o) (work (act_on (target_in (frames_of l a) (data_of n (own_of l a) s i o)) b) (data_of n (own_of l a) s i o))
      → goes (mach_of (at + 1) a (cut c n) s' l i o) (trace_of n o) ≡ stepped (trace_of n o) (obey (some (DO b)) at (positions_of l a) (frames_of l a) (data_of n (own_of l a) s i o))
  did b c h e =
      lift_good (stray at) (at + 1) a s' i o l {d = Ok (cut c n)} refl
      ∙ ap (lifted (stray at) _) e
      ∙ plain_done (trace_of n o) at _ _ _ b (room_yes n a s i o l refl (downs b) h) refl
      ∙ obeyed (trace_of n o) at _ _ _ refl

-- a number of 32 bits, as it is handed on
abbrev seen : ℤ → ℤ
seen z = to_z w32 (of_z w32 z)

seen_is : (s : List ℤ) (c : ℕ) {z : ℤ} → cell_at s c ≡ Holds (Whole z) → seen z ≡ z
seen_is s c e = to_z-of_z (held_fits s c e)

-- new cells
pub fills_push : {z z' : Value} → z' ≡ z → Fills (Holds z') (λ q. push q z)
unfolding work
fills_push e q = (refl, λ y d. rw e)

pub fills_reserve : (t : Form) → Fills (Unset t) (λ q. reserve q t)
unfolding work
fills_reserve t q = (refl, λ y d. refl)

pub form_whole : (f : ℕ) (i : Form → Instruction) → f ≡ 0 → with_form f i ≡ some (i Wholes)
unfolding with_form
form_whole f i e = rw e

module _ (at a : ℕ) (n : Counts) (s : List ℤ) (l : List ℕ) {s' : List ℤ} (g : Sound n s) where
  pub load_quick : (v : ℕ) {c : ℕ} {r : Option ℤ} {z : ℤ} → Spots c v (n.cells + 1) n a l → c < n.cells → n.cells + n.held < room_of s → r ≡ Some z → NumberIn r (cell_at s c) → s' ≡ put_at s n.cells (Holds (Whole (seen z)))
      → Quickly (λ q. some (DO (load q (variable v)))) at a n (Some (at + 1, n.cells + 1)) s s' l
  load_quick v {c} {r} {z} k h w e p d =
      let x = number_is e p in
      let d' = d ∙ ap (λ (y : ℤ). put_at s n.cells (Holds (Whole y))) (seen_is s c x) in
      (λ q i o. did at a n s s' i o l (load q (variable v)) (n.cells + 1) (omega (arith, (k h).0)) (load_whole n (own_of l a) s i o q c _ ((k h).1 n s i o) h x w d'), new_sound n.cells (Holds (Whole z)) d' g refl w)

  pub save_quick : (v : ℕ) {c : ℕ} {r : Option ℤ} {z : ℤ} → Spots c v n.cells n a l → c + 1 < n.cells → r ≡ Some z → NumberIn r (cell_at s (n.cells - 1)) → TakesWholes (cell_at s c) → s' ≡ put_at s c (Holds (Whole (seen z)))
      → Quickly (λ q. some (DO (store q (variable v)))) at a n (Some (at + 1, n.cells - 1)) s s' l
  save_quick v {c} {r} {z} k h e p t d =
      let b = k (omega arith) in
      let x = number_is e p in
      let d' = d ∙ ap (λ (y : ℤ). put_at s c (Holds (Whole y))) (seen_is s (n.cells - 1) x) in
      (λ q i o. did at a n s s' i o l (store q (variable v)) (n.cells - 1) (omega (arith, b.0)) (save_whole n (own_of l a) s i o q c _ (b.1 n s i o) h x t g.room d'), put_sound c (Holds (Whole z)) d' (fewer_sound 1 n (fewer 1 n) s g refl) (omega arith))

  pub fill_quick : (x : Cell) → FittingC x → base (frames_of l a) a ≤ n.cells → n.cells + n.held < room_of s → s' ≡ put_at s n.cells x
      → (f : ℕ → Act Location) → Fills x f → Quickly (λ q. some (DO (f q))) at a n (Some (at + 1, n.cells + 1)) s s' l
  fill_quick x k h w d f p =
      (λ q i o. did at a n s s' i o l (f q) (n.cells + 1) (rw (p q).0 (omega arith)) (new_done n (own_of l a) s i o q x d k w ∙ ap (told (trace_of n o)) (sym ((p q).1 _ (data_of n (own_of l a) s i o)))), new_sound n.cells x d g refl w)

  pub binary_quick : (op : Binary) {x y : ℤ} {r t : Option ℤ} {w : Outcome} {v : Value} → base (frames_of l a) a + 2 ≤ n.cells → r ≡ Some y → NumberIn r (cell_at s (n.cells - 1)) → t ≡ Some x → NumberIn t (cell_at s (n.cells - 2)) → w ≡ apply2 op (Whole (seen x)) (Whole (seen y)) → w ≡ Is v → s' ≡ put_at s (n.cells - 2) (Holds v)
      → Quickly (λ q. some (DO (binary q op))) at a n (Some (at + 1, n.cells - 1)) s s' l
  binary_quick op {v = v} h e p e' p' k u d =
      let b = number_is e p in
      let b' = number_is e' p' in
      let k' = k ∙ ap₂ (λ (i j : ℤ). apply2 op (Whole i) (Whole j)) (seen_is s (n.cells - 2) b') (seen_is s (n.cells - 1) b) in
      let z : n.cells - 1 ≡ n.cells - 2 + 1 = omega arith in
      (λ q i o. did at a n s s' i o l (binary q op) (n.cells - 1) h (binary_whole n (own_of l a) s i o q op (omega arith) g.room b b' k' u d), rw z (new_sound (n.cells - 2) (Holds v) d (fewer_sound 2 n (fewer 2 n) s g refl) refl (omega (arith, g.room))))

  pub sum_quick : (v : ℕ) {c : ℕ} {x z : ℤ} {r t : Option ℤ} {w : Outcome} {u : Value} {s₁ : List ℤ} → Spots c v n.cells n a l → c + 1 < n.cells → 1 ≤ n.held → r ≡ Some x → NumberIn r (cell_at s (n.cells - 1)) → t ≡ Some z → NumberIn t (cell_at s c) → w ≡ apply2 Plus (Whole (seen z)) (Whole (seen x)) → w ≡ Is u
      → s₁ ≡ put_at s (room_of s - n.held) (Holds (Whole (seen x))) → s' ≡ put_at s₁ (n.cells - 1) (Holds u) → Quickly (λ q. some (DO (sum q (variable v)))) at a n (Some (at + 1, n.cells)) s s' l
  sum_quick v {c} {x} {u = u} {s₁ = s₁} k h m e p e' p' j y d₀ d' =
      let b = k (omega arith) in
      let i₁ = number_is e p in
      let i₂ = number_is e' p' in
      let d = d₀ ∙ ap (λ (y : ℤ). put_at s (room_of s - n.held) (Holds (Whole y))) (seen_is s (n.cells - 1) i₁) in
      let j' = j ∙ ap₂ (λ (i j : ℤ). apply2 Plus (Whole i) (Whole j)) (seen_is s c i₂) (seen_is s (n.cells - 1) i₁) in
      let f = fewer 1 n in
      let t : room_of s - 1 - (n.held - 1) ≡ room_of s - n.held = omega arith in
      let d₃ : s₁ ≡ put_at s (room_of s - 1 - (n.held - 1)) (Holds (Whole x)) = rw t d in
      let fx : Fitting (Whole x) = held_fits s (n.cells - 1) i₁ in
      let r' : n.cells - 1 + n.held < room_of s = omega (arith, g.room) in
      let s₂ = new_sound (n.cells - 1) (Holds u) d' (renew_sound f s (Whole x) d₃ fx refl r' m (fewer_sound 1 n f s g refl)) refl (renew_room f s (Whole x) d₃ fx refl r' m) in
      (λ q i o. did at a n s s' i o l (sum q (variable v)) n.cells (omega (arith, b.0)) (sum_whole n (own_of l a) s i o q c _ (b.1 n s i o) h m g.room i₁ i₂ j' y d d'), sound_same (more 1 (holding (released f))) (cut n.cells n) s' s₂ (omega arith) (omega (arith, s₂.room)))

-- the store is as it was
module _ (at a : ℕ) (n : Counts) (s : List ℤ) (l : List ℕ) (g : Sound n s) where
  pub turn_quick : (v : ℕ) {r : Option ℤ} {z : ℤ} → base (frames_of l a) a + 1 ≤ n.cells → low v ≡ 0 → r ≡ Some z → NumberIn r (cell_at s (n.cells - 1))
      → Quickly (λ q. with_form (low v) (λ t. DO (turn q t))) at a n (Some (at + 1, n.cells)) s s l
  turn_quick v h f e p =
      (λ q i o. did at a n s s i o l (turn q Wholes) n.cells h (turn_whole n (own_of l a) s i o q (omega arith) (number_is e p)) ∙ obeyed_as _ at _ _ _ (form_whole (low v) (λ t. DO (turn q t)) f), sound_same n (cut n.cells n) s g (omega arith) g.room)

  pub upto_quick : (v : ℕ) {c : ℕ} {x y z : ℤ} {r t u : Option ℤ} → Spots c v n.cells n a l → c + 1 < n.cells → 1 ≤ n.held → r ≡ Some y → NumberIn r (cell_at s (n.cells - 1)) → t ≡ Some x → NumberIn t (cell_at s (room_of s - n.held)) → u ≡ Some z → NumberIn u (cell_at s c) → leaves (Whole (seen z)) (Whole (seen x)) (Whole (seen y)) ≡ Is (Truth false)
      → Quickly (λ q. some (IF (upto q (variable v)) (low v))) at a n (Some (at + 1, n.cells - 1)) s s l
  upto_quick v {c} {x} {y} {z} k h m e p e₁ p₁ e₂ p₂ j =
      let b = k (omega arith) in
      let i₀ = number_is e p in
      let i₁ = number_is e₁ p₁ in
      let i₂ = number_is e₂ p₂ in
      let j' : leaves (Whole z) (Whole x) (Whole y) ≡ Is (Truth false) = rw (seen_is s (n.cells - 1) i₀, seen_is s (room_of s - n.held) i₁, seen_is s c i₂) at j in (
        λ q i o. test_yes (stray at) at (low v) a s i o l {c = Ok (true, fewer 1 n)} refl
            ∙ ap (lifted (stray at) _) (upto_whole n (own_of l a) s i o q c _ (b.1 n s i o) h m g i₀ i₁ i₂ j')
            ∙ upto_done (trace_of n o) at _ _ _ q v refl (low v) (room_yes n a s i o l refl 1 (omega (arith, b.0)))
            ∙ obeyed (trace_of n o) at _ _ _ refl,
        fewer_sound 1 n (fewer 1 n) s g refl,
      )

  pub jump_quick : (v : ℕ) → Quickly (λ q. some (JUMP (low v))) at a n (Some (low v, n.cells)) s s l
  jump_quick v = (λ q i o. jump_goes (trace_of n o) at _ _ _ (low v) ∙ obeyed (trace_of n o) at _ _ _ refl, sound_same n (cut n.cells n) s g (omega arith) g.room)

-- the same instruction
pub quick_as : (at a : ℕ) (n : Counts) (s s' : List ℤ) (l : List ℕ) {f h : ℕ → Maybe Instruction} (r : Option (ℕ × ℕ)) → ((q : ℕ) → h q ≡ f q) → Quickly f at a n r s s' l → Quickly h at a n r s s' l
quick_as at a n s s' l (Some (pc, c)) e k = (λ q i o. k.0 q i o ∙ obeyed_as _ at _ _ _ (e q), k.1)
quick_as at a n s s' l None e k = k

-- a loop that goes on
pub stays_is : {w : Outcome} {v : Value} {b : Bool} → w ≡ Is v → v ≡ Truth b → not b ≡ true → w ≡ Is (Truth false)
stays_is {b = true} e g h = absurd (false≢true h)
stays_is {b = false} e g h = e ∙ ap Is g

-- ---- what was done, by what is answered

module _ (f : ℕ → Maybe Instruction) (at a : ℕ) (n : Counts) (s s' : List ℤ) (l : List ℕ) {r : Option (ℕ × ℕ)} where
  pub quick_goes : {pc c : ℕ} → r ≡ Some (pc, c) → Quickly f at a n r s s' l → Quickly f at a n (Some (pc, c)) s s' l
  quick_goes e h = subst (λ (x : Option (ℕ × ℕ)). Quickly f at a n x s s' l) e h

  pub quick_not : r ≡ None → Quickly f at a n r s s' l → s' ≡ s
  quick_not e h = subst (λ (x : Option (ℕ × ℕ)). Quickly f at a n x s s' l) e h
