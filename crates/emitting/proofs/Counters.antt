-- The counts stay small: no node adds more than ten to one, nor opens more than one thing. So behind i nodes the counts are at most 65,536, which a
-- place or a kind may be, and ten a node; the second number of each thing that is open is a word of 32 bits, or what a use means.
use mathlib.Core.Path.{◌≡◌, refl, sym, ap, subst}
use mathlib.Core.Bool.{Bool, true, false, cond, ◌||◌}
use mathlib.Core.List.{List, [], ◌∷◌}
use Prim.Native.Nat.{ℕ, ◌+◌, ◌*◌, ◌-◌, ◌%◌, ◌≤◌, ◌<◌}
use native.Mathlib.Omega.{arith}
use lib.Dec.{eqb, ltb}
use lib.ListN.{length, get_or}
use Rattle.machine.specs.Instructions.{high, mid, low}
use Rattle.grammar.specs.NodeKinds.{n_block, n_statements, n_variable, n_procedure, n_formal, n_procedure_end, n_then, n_else, n_start, n_once, n_while, n_step, n_do, n_for_end, n_left, n_assign, n_unary, n_binary, n_number, n_decimal, n_logical, n_use, n_call, n_call_end, n_actual}
use Rattle.names.specs.model.Rows.{is_use}
use Rattle.emitting.specs.model.Layout.{packed}
use Rattle.emitting.specs.model.Emission.{Used, State, Opened, put, with_open, with_slot, noted, within, with_lefts, with_variable, with_uses, with_cell, with_entry, top, below, pushed, popped, replaced, nameless, bare, on_cell, formal_at, form_at, kind_next, means_next, others_next, signed, largest, ahead_at, cell_of, result_of, called_with, result_for, dropped, named, word_of, named_or, lending, name_begun, name_ended, given_turned, taken_in, call_ended, repeated, begun, calling, actual_in, use_node, element, bodied, tested, added, step_begun, step_held, step_again, turning, stepping, amount, element_node, loop_node, widened, otherwise, joined, choice_node, opening, block_node, skipped, proceeding, procedure_node, lefts_of, assigned, plain_node, is_element, is_choice, is_block, code_node}
use Rattle.emitting.specs.declared.Thing.{Thing}
use Rattle.emitting.specs.declared.Writing.{Writing}
use Rattle.emitting.specs.model.Arrays.{things_of, see, Slim, AllSlim, Small, Fit}
use Rattle.emitting.proofs.Stacked.{length_things}
use Rattle.emitting.proofs.LeftParts.{slim_below, fewer_below, one_below, slim_behind, fewer_behind, behind_things, length_lefts, storing}

-- ---- what is open

slim_up : {b d : ℕ} (f : Opened) → b ≤ d → Slim b f → Slim d f
slim_up f q h =
    let a = h.first in
    let c = h.third in
    let e = h.fourth in
    record { first = omega arith; second = h.second; third = omega arith; fourth = omega arith }

pub all_up : {b d : ℕ} (l : List Opened) → b ≤ d → AllSlim b l → AllSlim d l
unfolding AllSlim
all_up [] q h = h
all_up (f ∷ l) q h = (slim_up f q h.0, all_up l q h.1)

pub slim_top : (b : ℕ) (l : List Opened) → AllSlim b l → Slim b (top l)
unfolding AllSlim top
slim_top b [] h = record { first = omega arith; second = omega arith; third = omega arith; fourth = omega arith }
slim_top b (f ∷ l) h = h.0

-- ---- the parts of a state

module _ {b n : ℕ} where
  either : (x : Bool) {st su : State} → Small b n st → Small b n su → Small b n (cond x st su)
  either true p q = p
  either false p q = q

module _ {b n : ℕ} (st : State) (h : Small b n st) where
  pub small_up : {d m : ℕ} → b ≤ d → n ≤ m → Small d m st
  small_up q r =
      let a = h.at in
      let c = h.slots in
      let e = h.level in
      let f = h.loops in
      let g = h.cells in
      let y = h.declared in
      let k = h.many in
      record {
        at = omega arith;
        slots = omega arith;
        level = omega arith;
        loops = omega arith;
        cells = omega arith;
        declared = omega arith;
        variable = h.variable;
        many = omega arith;
        things = all_up st.open_ones q h.things;
      }

  -- no count grows by more than d, and nothing is opened
  grown : (d : ℕ) (su : State) → su.at + 2 * su.lefts ≤ st.at + 2 * st.lefts + d → su.slots ≤ st.slots + d → su.level ≤ st.level + d
      → su.loops ≤ st.loops + d → su.cells ≤ st.cells + d → su.declared ≤ st.declared + d
      → su.variable ≡ st.variable → su.open_ones ≡ st.open_ones → Small (b + d) n su
  grown d su p q r s t u e o =
      record {
        at = omega (arith, h.at);
        slots = omega (arith, h.slots);
        level = omega (arith, h.level);
        loops = omega (arith, h.loops);
        cells = omega (arith, h.cells);
        declared = omega (arith, h.declared);
        variable = omega (arith, h.variable);
        many = omega (arith, h.many, ap length o);
        things = subst (AllSlim (b + d)) (sym o) (all_up st.open_ones (omega arith) h.things);
      }

  in_put : (o p v : ℕ) → Small (b + 1) n (put o p v st)
  unfolding put
  in_put o p v =
      grown 1 (put o p v st) (omega arith) (omega arith) (omega arith) (omega arith) (omega arith) (omega arith) refl refl

  in_pushed : (v w x y : ℕ) → v ≤ b → w < 4294967296 → x ≤ b → y ≤ b → Small b (n + 1) (pushed v w x y st)
  unfolding pushed with_open AllSlim
  in_pushed v w x y p q r s =
      let k = h.many in
      record {
        at = h.at;
        slots = h.slots;
        level = h.level;
        loops = h.loops;
        cells = h.cells;
        declared = h.declared;
        variable = h.variable;
        many = omega arith;
        things = (record { first = p; second = q; third = r; fourth = s }, h.things);
      }

  in_replaced : (v w x y : ℕ) → v ≤ b → w < 4294967296 → x ≤ b → y ≤ b → Small b (n + 1) (replaced v w x y st)
  unfolding replaced with_open AllSlim
  in_replaced v w x y p q r s =
      let k = fewer_below n st.open_ones h.many in
      record {
        at = h.at;
        slots = h.slots;
        level = h.level;
        loops = h.loops;
        cells = h.cells;
        declared = h.declared;
        variable = h.variable;
        many = omega arith;
        things = (record { first = p; second = q; third = r; fourth = s }, slim_below b st.open_ones h.things);
      }

  -- where something is open
  in_renewed : (v w x y : ℕ) → 1 ≤ n → v ≤ b → w < 4294967296 → x ≤ b → y ≤ b → Small b n (replaced v w x y st)
  unfolding replaced with_open AllSlim
  in_renewed v w x y o p q r s =
      let k = one_below n st.open_ones h.many o in
      record {
        at = h.at;
        slots = h.slots;
        level = h.level;
        loops = h.loops;
        cells = h.cells;
        declared = h.declared;
        variable = h.variable;
        many = omega arith;
        things = (record { first = p; second = q; third = r; fourth = s }, slim_below b st.open_ones h.things);
      }

  in_popped : Small b n (popped st)
  unfolding popped with_open
  in_popped =
      record {
        at = h.at;
        slots = h.slots;
        level = h.level;
        loops = h.loops;
        cells = h.cells;
        declared = h.declared;
        variable = h.variable;
        many = fewer_below n st.open_ones h.many;
        things = slim_below b st.open_ones h.things;
      }

  in_slot : Small (b + 1) n (with_slot st)
  unfolding with_slot
  in_slot =
      grown 1 (with_slot st) (omega arith) (omega arith) (omega arith) (omega arith) (omega arith) (omega arith) refl refl

  in_noted : (i v : ℕ) → Small b n (noted i v st)
  unfolding noted
  in_noted i v =
      record {
        at = h.at;
        slots = h.slots;
        level = h.level;
        loops = h.loops;
        cells = h.cells;
        declared = h.declared;
        variable = h.variable;
        many = h.many;
        things = h.things;
      }

  in_within : (v w x : ℕ) → v ≤ b → w ≤ b → x ≤ b → Small b n (within v w x st)
  unfolding within
  in_within v w x p q r =
      record {
        at = h.at;
        slots = h.slots;
        level = p;
        loops = q;
        cells = r;
        declared = h.declared;
        variable = h.variable;
        many = h.many;
        things = h.things;
      }

  in_lefts : Small (b + 2) n (with_lefts (st.lefts + 1) st)
  unfolding with_lefts
  in_lefts =
      grown 2 (with_lefts (st.lefts + 1) st) (omega arith) (omega arith) (omega arith) (omega arith) (omega arith) (omega arith) refl refl

  in_variable : (v w : ℕ) → w < 4294967296 → Small b n (with_variable v w st)
  unfolding with_variable
  in_variable v w p =
      record {
        at = h.at;
        slots = h.slots;
        level = h.level;
        loops = h.loops;
        cells = h.cells;
        declared = h.declared;
        variable = p;
        many = h.many;
        things = h.things;
      }

  in_nameless : Small b n (nameless st)
  unfolding nameless
  in_nameless = in_variable st.awaits 0 (omega arith)

  in_uses : (l : List Used) → Small b n (with_uses l st)
  unfolding with_uses
  in_uses l =
      record {
        at = h.at;
        slots = h.slots;
        level = h.level;
        loops = h.loops;
        cells = h.cells;
        declared = h.declared;
        variable = h.variable;
        many = h.many;
        things = h.things;
      }

  in_cell : Small (b + 1) n (with_cell st)
  unfolding with_cell
  in_cell =
      grown 1 (with_cell st) (omega arith) (omega arith) (omega arith) (omega arith) (omega arith) (omega arith) refl refl

  in_entry : Small (b + 1) n (with_entry st)
  unfolding with_entry
  in_entry =
      grown 1 (with_entry st) (omega arith) (omega arith) (omega arith) (omega arith) (omega arith) (omega arith) refl refl

in_proceeding : (vs ly ks es : List ℕ) {b n : ℕ} (st : State) → Small b n st → Small (b + 1) (n + 1) (proceeding vs ly ks es st)
unfolding proceeding
in_proceeding vs ly ks es st h =
    let y = h.loops in
    let z = h.level in
    let w = h.cells in
    in_within _ (in_pushed _ (in_entry st h) st.loops 0 0 0 (omega arith) (omega arith) (omega arith) (omega arith)) (st.level + 1) 0 st.cells (omega arith) (omega arith) (omega arith)

-- on a cell: at most two instructions
in_on : {b n : ℕ} (st : State) → Small b n st → (o q p v : ℕ) → Small (b + 1 + 1) n (on_cell o q p v st)
unfolding on_cell
in_on st h o q p v = either (eqb (low v) 2) (in_put _ (in_put st h 41 p (bare v)) o q _) (small_up _ (in_put st h o q (bare v)) (omega arith) (omega arith))

-- an operand of three parts is a word
pub packed_word : (u o l : ℕ) → packed u o l < 4294967296
packed_word u o l = omega arith

either_word : (x : Bool) {v w : ℕ} → v < 4294967296 → w < 4294967296 → cond x v w < 4294967296
either_word true p q = p
either_word false p q = q

-- ---- names and calls

module _ (vs ly ks es : List ℕ) where
  pub cell_word : (level k m : ℕ) → cell_of vs ly ks es level k m < 4294967296
  unfolding cell_of
  cell_word level k m = let w = get_or ly m 0 in either_word (eqb k 2) (packed_word (level - (high w + 1)) 0 1) (packed_word (level - high w) (mid w) (cond (eqb k 4) 2 1))

module _ (vs ly ks es : List ℕ) {b n : ℕ} (st : State) (h : Small b n st) where
  in_called : (k m a u p : ℕ) → Small (b + 1) n (called_with vs ly ks es k m a u p st)
  unfolding called_with
  in_called k m a u p = in_put st h _ p _

  in_result : (k m p f : ℕ) → Small (b + 1) n (result_for vs ly ks es k m p f st)
  unfolding result_for
  in_result k m p f = either (eqb (result_of vs ly ks es k m) 0) (small_up st h (omega arith) (omega arith)) (in_put st h 16 p f)

  in_dropped : (u : ℕ) → Small (b + 1) n (dropped vs ly ks es u st)
  unfolding dropped
  in_dropped u = either (eqb u 0) (small_up st h (omega arith) (omega arith)) (in_put st h 17 0 0)

  in_bodied : (f : Opened) (r : ℕ) → Small (b + 1) n (bodied vs ly ks es f r st)
  unfolding bodied
  in_bodied f r = in_put st h 8 0 _

module _ (vs ly ks es : List ℕ) {b n : ℕ} (st : State) (h : Small b n st) where
  in_named : (k m u p f : ℕ) → Small (b + 1 + 1) n (named vs ly ks es k m u p f st)
  unfolding named
  in_named k m u p f =
      either (eqb k 0) (in_dropped vs ly ks es _ (in_put st h 12 p largest) u)
      (either (eqb k 2) (in_called vs ly ks es _ (in_result vs ly ks es st h k m p f) k m 0 u p)
      (small_up _ (in_put st h _ p _) (omega arith) (omega arith)))

  word_word : (k m d : ℕ) → word_of vs ly ks es k m d st < 4294967296
  unfolding word_of
  word_word k m d = either_word (eqb k 0 || eqb k 2) (omega arith) (either_word (eqb d (top st.open_ones).fourth) (cell_word vs ly ks es st.level k m) (omega arith))

  in_named_or : (k m u p d f : ℕ) → Small (b + 1 + 1) n (named_or vs ly ks es k m u p d f st)
  unfolding named_or
  in_named_or k m u p d f =
      either (eqb st.awaits 0) (in_variable _ (in_named k m u p f) 0 _ (word_word k m d))
      (in_variable st (small_up st h (omega arith) (omega arith)) 0 _ (cell_word vs ly ks es st.level k m))

  in_left : (k m p : ℕ) → p ≤ b → Small (b + 2) (n + 1) (with_lefts (st.lefts + 1) (pushed 0 (cell_of vs ly ks es st.level k m) p 0 st))
  unfolding pushed with_open
  in_left k m p q = in_lefts _ (in_pushed st h 0 _ p 0 (omega arith) (cell_word vs ly ks es st.level k m) q (omega arith))

  in_repeated : (k m p : ℕ) → p ≤ b → Small (b + 1) (n + 1) (repeated vs ly ks es k m p st)
  unfolding repeated
  in_repeated k m p q =
      let a = h.at in
      in_slot _ (in_pushed st h st.slots _ p st.at h.slots (cell_word vs ly ks es st.level k m) q (omega arith))

  in_lending : (w p : ℕ) → Small (b + 1) n (lending vs ly ks es w p st)
  unfolding lending
  in_lending w p = either (eqb (low w) 0) (in_put st h 44 0 0) (either (eqb (low w) 1) (in_put st h 43 0 _) (in_put st h 42 p _))

  in_name_ended : (f : Opened) (p i : ℕ) → Small (b + 1 + 1) n (name_ended vs ly ks es f p i st)
  unfolding name_ended
  in_name_ended f p i =
      let x = h.level in
      let y = h.loops in
      let z = h.cells in
      in_noted _ (in_noted _ (in_noted _ (in_within _ (in_put _ (in_put st h 50 p i) 7 0 0) (st.level - 1) st.loops st.cells (omega arith) (omega arith) (omega arith)) _ _) _ _) _ _

  in_given_turned : (f : Opened) (p : ℕ) → Small (b + 1) n (given_turned vs ly ks es f p st)
  unfolding given_turned
  in_given_turned f p =
      either (eqb f.third 1) (either (eqb f.second 2) (small_up st h (omega arith) (omega arith)) (in_put st h 50 p _)) (in_put st h 50 p 0)

  in_taken_in : (p q : ℕ) → Small (b + 1 + 1 + 1) n (taken_in vs ly ks es p q st)
  unfolding taken_in
  in_taken_in p q = in_on _ (either (eqb (low st.variable) 2) (in_put st h 45 p 0) (small_up st h (omega arith) (omega arith))) 18 p q st.variable

-- an actual begins: three instructions, three slots
module _ (vs ly ks es : List ℕ) {b n : ℕ} (st : State) (h : Small b n st) (m j d : ℕ) (o : 1 ≤ n) (p : m < 4294967296) (q : j ≤ b) (r : d ≤ b) where
  in_name_begun : (f : ℕ) → Small (b + 4 + 1 + 1 + 1) n (name_begun vs ly ks es m j d f st)
  unfolding name_begun
  in_name_begun f =
      let x = h.level in
      let y = h.loops in
      let z = h.cells in
      let w = h.slots in
      let c = in_put _ (in_lending vs ly ks es _ (in_put st h 39 (ahead_at vs ly ks es (st.slots + 1) % 65536) (ahead_at vs ly ks es st.slots)) (ahead_at vs ly ks es (st.slots + 2)) (ahead_at vs ly ks es (st.slots + 1) % 65536)) 7 (ahead_at vs ly ks es (st.slots + 1) % 65536) f in
      let e = in_renewed _ (small_up _ c {d = b + 4} {m = n} (omega arith) (omega arith)) (4 + st.slots) m j d o (omega arith) p (omega arith) (omega arith) in
      in_within _ (in_slot _ (in_slot _ (in_slot _ e))) (st.level + 1) st.loops st.cells (omega arith) (omega arith) (omega arith)

  in_begun : (rows : List ℕ) → Small (b + 4 + 1 + 1 + 1) n (begun vs ly ks es rows m j d st)
  unfolding begun
  in_begun rows = either (eqb (formal_at rows (m + 1 + j)) 2) (in_name_begun _) (small_up st h (omega arith) (omega arith))

module _ (vs ly ks es rows : List ℕ) {b n : ℕ} (st : State) (h : Small b n st) (g : 2 ≤ b) where
  in_calling : (k m p a : ℕ) → k ≤ b → m < 4294967296 → a + 1 ≤ b → Small (b + 10) (n + 1) (calling vs ly ks es rows k m p a st)
  unfolding calling
  in_calling k m p a q r s =
      let e = in_result vs ly ks es st h k m p (form_at rows m) in
      either (eqb k 2)
      (small_up _ (in_begun vs ly ks es _ (in_pushed _ e 2 m 0 (a + 1) (omega arith) r (omega arith) (omega arith)) m 0 (a + 1) (omega arith) r (omega arith) (omega arith) rows) (omega arith) (omega arith))
      (small_up _ (in_pushed _ e k m 0 0 (omega arith) r (omega arith) (omega arith)) (omega arith) (omega arith))

  in_use : (i k m u p a : ℕ) → k ≤ b → m < 4294967296 → p ≤ b → a + 1 ≤ b → Small (b + 10) (n + 1) (use_node vs ly ks es rows i k m u p a st)
  unfolding use_node
  in_use i k m u p a q r s t =
      either (eqb i n_use) (small_up _ (in_named_or vs ly ks es st h k m u p a (form_at rows m)) (omega arith) (omega arith))
      (either (eqb i n_call) (in_calling k m p a q r t)
      (either (eqb i n_left) (small_up _ (in_left vs ly ks es st h k m p s) (omega arith) (omega arith))
      (small_up _ (in_repeated vs ly ks es st h k m p s) (omega arith) (omega arith))))

  in_actual : (f : Opened) → Slim b f → (p : ℕ) → p ≤ b → Small (b + 10) (n + 1) (actual_in vs ly ks es rows f p st)
  unfolding actual_in
  in_actual f s p q =
      let y = s.third in
      let z = s.fourth in
      let i = form_at rows (f.second + 1 + f.third) in
      let e = either (ltb f.first 4) (small_up _ (in_put st h 50 p i) (omega arith) (omega arith)) (in_name_ended vs ly ks es st h f p i) in
      let k = small_up _ (in_given_turned vs ly ks es st h f p) {d = b + 10} {m = n} (omega arith) (omega arith) in
      either (eqb f.first 0)
      (in_variable _ (in_replaced _ k 0 f.second (f.third + 1) p (omega arith) s.second (omega arith) (omega arith)) _ _ h.variable)
      (small_up _ (in_begun vs ly ks es _ (in_replaced _ e 2 f.second (f.third + 1) f.fourth (omega arith) s.second (omega arith) (omega arith)) f.second (f.third + 1) f.fourth (omega arith) s.second (omega arith) (omega arith) rows) (omega arith) (omega arith))

module _ (vs ly ks es : List ℕ) {b n : ℕ} (st : State) (h : Small b n st) where
  in_call_ended : (f : Opened) (p u : ℕ) → Small (b + 10) (n + 1) (call_ended vs ly ks es f p u st)
  unfolding call_ended
  in_call_ended f p u =
      in_nameless _
      (either (eqb f.first 2) (small_up _ (in_called vs ly ks es st h 2 f.second f.third u p) (omega arith) (omega arith))
      (either (eqb f.second 0) (small_up _ (in_dropped vs ly ks es _ (in_put st h 24 p 0) u) (omega arith) (omega arith))
      (either (eqb f.second 2) (small_up _ (in_taken_in vs ly ks es st h p f.fourth) (omega arith) (omega arith))
      (small_up _ (in_put st h _ p 0) (omega arith) (omega arith)))))

  -- ---- for statements

  in_element : (f : Opened) → Slim b f → Small (b + 1) (n + 1) (element vs ly ks es f st)
  unfolding element
  in_element f s =
      let a = h.at in
      in_noted _ (in_slot _ (in_replaced st h f.first f.second f.third st.at s.first s.second s.third (omega arith))) _ _

  in_tested : (q v w : ℕ) → Small (b + 1 + 1) n (tested vs ly ks es q v w st)
  unfolding tested
  in_tested q v w = either (eqb (low v) 2) (in_put _ (in_put st h 41 q _) 11 q _) (small_up _ (in_put st h 11 q _) (omega arith) (omega arith))

  in_added : (q v p : ℕ) → Small (b + 1 + 1 + 1 + 1) n (added vs ly ks es q v p st)
  unfolding added
  in_added q v p = in_on _ (in_on st h 21 p q v) 14 q q v

  in_step_begun : (p : ℕ) → p ≤ b → Small (b + 10) (n + 1) (step_begun vs ly ks es p st)
  unfolding step_begun
  in_step_begun p q =
      let a = h.at in
      let x = h.slots in
      small_up _ (in_slot _ (in_pushed _ (in_put st h 8 0 _) st.slots 0 p (st.at + 1) (omega arith) (omega arith) (omega arith) (omega arith))) (omega arith) (omega arith)

  in_step_held : (c : Opened) → Slim b c → Small (b + 10) (n + 1) (step_held vs ly ks es c st)
  unfolding step_held
  in_step_held c s =
      let a = h.at in
      let x = s.third in
      let y = s.fourth in
      small_up _ (in_noted _ (in_replaced _ (in_put _ (in_put st h 9 0 _) 20 0 0) (st.at + 1 + 1) 1 c.third c.fourth (omega arith) (omega arith) (omega arith) (omega arith)) _ _) (omega arith) (omega arith)

  in_turning : (f : Opened) → Small (b + 1 + 1 + 1) n (turning vs ly ks es f st)
  unfolding turning
  in_turning f = in_bodied vs ly ks es _ (in_tested f.third f.second _) f _

module _ (vs ly ks es : List ℕ) {b n : ℕ} (st : State) (h : Small b n st) where
  in_stepping : (f c : Opened) → Small (b + 9) n (stepping vs ly ks es f c st)
  unfolding stepping step_again
  in_stepping f c = small_up _ (in_put _ (in_added vs ly ks es _ (in_put _ (in_turning vs ly ks es st h f) 8 0 _) f.third f.second c.third) 2 0 _) (omega arith) (omega arith)

module _ (vs ly ks es : List ℕ) {b n : ℕ} (st : State) (h : Small b n st) where
  in_amount : (c : Opened) → Slim b c → Small (b + 10) (n + 1) (amount vs ly ks es c st)
  unfolding amount
  in_amount c s =
      let f = top (below st.open_ones) in
      let g = slim_top b (below st.open_ones) (slim_below b st.open_ones h.things) in
      either (eqb c.second 0) (in_step_held vs ly ks es st h c s)
      (small_up _ (in_element vs ly ks es _ (in_stepping vs ly ks es (popped st) (in_popped st h) f c) f (slim_up f (omega arith) g)) (omega arith) (omega arith))

module _ (vs ly ks es : List ℕ) {b n : ℕ} (st : State) (h : Small b n st) (f : Opened) (s : Slim b f) where
  in_elements : (k p : ℕ) → p ≤ b → Small (b + 10) (n + 1) (element_node vs ly ks es k f p st)
  unfolding element_node
  in_elements k p q =
      either (eqb k n_start) (small_up _ (in_on st h 14 f.third f.third f.second) (omega arith) (omega arith))
      (either (eqb k n_once) (small_up _ (in_element vs ly ks es _ (in_bodied vs ly ks es st h f _) f (slim_up f (omega arith) s)) (omega arith) (omega arith))
      (either (eqb k n_while) (small_up _ (in_element vs ly ks es _ (in_bodied vs ly ks es _ (in_put st h 10 0 _) f _) f (slim_up f (omega arith) s)) (omega arith) (omega arith))
      (either (eqb k n_step) (in_step_begun vs ly ks es st h p q)
      (in_amount vs ly ks es st h f s))))

  in_loop : (k : ℕ) → Small (b + 10) (n + 1) (loop_node vs ly ks es k f st)
  unfolding loop_node
  in_loop k =
      let x = h.slots in
      let y = h.loops in
      let z = h.level in
      let w = h.cells in
      either (eqb k n_do)
      (in_within _ (in_noted _ (in_replaced st (small_up st h (omega arith) (omega arith)) (st.slots - 1) 0 0 0 (omega arith) (omega arith) (omega arith) (omega arith)) _ _) st.level (st.loops + 1) st.cells (omega arith) (omega arith) (omega arith))
      (small_up _ (in_noted _ (in_popped _ (in_within _ (in_put st h 9 0 _) st.level (st.loops - 1) st.cells (omega arith) (omega arith) (omega arith))) _ _) (omega arith) (omega arith))

  -- ---- conditions, blocks, procedures

  in_widened : (i : ℕ) → Small (b + 1) n (widened vs ly ks es i f st)
  unfolding widened
  in_widened i = either (eqb f.second i) (in_put st h 50 0 1) (small_up st h (omega arith) (omega arith))

  in_skipped : Small (b + 1) n (skipped vs ly ks es f st)
  unfolding skipped
  in_skipped = either (eqb st.variable 0) (in_put st h 2 0 _) (small_up st h (omega arith) (omega arith))

module _ (vs ly ks es : List ℕ) {b n : ℕ} (st : State) (h : Small b n st) (f : Opened) (s : Slim b f) where
  in_otherwise : Small (b + 1 + 1) (n + 1) (otherwise vs ly ks es f st)
  unfolding otherwise
  in_otherwise =
      let x = h.slots in
      in_noted _ (in_slot _ (in_replaced _ (in_put st h 2 0 _) st.slots f.second 0 0 (omega arith) s.second (omega arith) (omega arith))) _ _

  in_joined : Small b n (joined vs ly ks es f st)
  unfolding joined
  in_joined = in_nameless _ (in_noted _ (in_popped st h) _ _)

  in_opening : (rows : List ℕ) (p : ℕ) → Small (b + 1) (n + 1) (opening vs ly ks es rows f p st)
  unfolding opening
  in_opening rows p =
      let x = s.first in
      let y = h.cells in
      let z = s.fourth in
      in_noted _ (in_replaced _ (in_put st h 3 p _) f.first 0 st.cells f.fourth (omega arith) (omega arith) (omega arith) (omega arith)) _ _

module _ (vs ly ks es : List ℕ) {b n : ℕ} (st : State) (h : Small b n st) (f : Opened) (s : Slim b f) where
  in_choice : (k m : ℕ) → m < 4294967296 → Small (b + 10) (n + 1) (choice_node vs ly ks es k f m st)
  unfolding choice_node
  in_choice k m i =
      let x = h.slots in
      let g = slim_up {b = b} {d = b + 1} f (omega arith) s in
      either (eqb k n_then)
      (small_up _ (in_slot _ (in_pushed _ (in_put st h 10 0 _) st.slots m 0 0 (omega arith) i (omega arith) (omega arith))) (omega arith) (omega arith))
      (either (eqb k n_else)
      (small_up _ (in_otherwise vs ly ks es _ (in_widened vs ly ks es st h f s 1) f g) (omega arith) (omega arith))
      (small_up _ (in_joined vs ly ks es _ (in_widened vs ly ks es st h f s 2) f g) (omega arith) (omega arith)))

  in_block_lem : (rows : List ℕ) (k p : ℕ) → Small (b + 10) (n + 1) (block_node vs ly ks es rows k f p st)
  unfolding block_node
  in_block_lem rows k p =
      let x = h.slots in
      let y = h.loops in
      let z = h.level in
      let w = h.cells in
      let v = h.declared in
      let q = s.fourth in
      either (eqb k n_block)
      (small_up _ (in_within _ (in_slot _ (in_pushed _ (in_nameless st h) st.slots 0 st.declared st.cells (omega arith) (omega arith) (omega arith) (omega arith))) st.level st.loops 0 (omega arith) (omega arith) (omega arith)) (omega arith) (omega arith))
      (either (eqb k n_statements)
      (small_up _ (in_opening vs ly ks es st h f s rows p) (omega arith) (omega arith))
      (small_up _ (in_within _ (in_popped _ (in_put st h 4 0 _)) st.level st.loops f.fourth (omega arith) (omega arith) (omega arith)) (omega arith) (omega arith)))

  in_procedure_lem : (k : ℕ) → Small (b + 10) (n + 1) (procedure_node vs ly ks es k f st)
  unfolding procedure_node
  in_procedure_lem k =
      let y = h.loops in
      let z = h.level in
      let w = h.cells in
      let q = s.first in
      either (eqb k n_procedure)
      (small_up _ (in_proceeding vs ly ks es _ (in_skipped vs ly ks es st h f s)) (omega arith) (omega arith))
      (small_up _ (in_variable _ (in_within _ (in_popped _ (in_put st h 7 0 0)) (st.level - 1) f.first st.cells (omega arith) (omega arith) (omega arith)) _ 1 (omega arith)) (omega arith) (omega arith))

-- ---- what is left

in_signed : {b n : ℕ} (st : State) → Small b n st → (k p : ℕ) → Small (b + 1) n (signed k p st)
unfolding signed
in_signed st h k p = either (eqb k 19) (in_put st h 23 p 0) (either (eqb k 23) (in_put st h 22 p 0) (small_up st h (omega arith) (omega arith)))

module _ (vs ly ks es : List ℕ) {b n : ℕ} (st : State) (h : Small b n st) where
  -- no more than twice as many instructions as there were left parts
  in_assigned : Small b n (assigned vs ly ks es st)
  unfolding assigned with_lefts with_open
  in_assigned =
      let l = lefts_of vs ly ks es st.lefts st.open_ones [] in
      let r = storing vs ly ks es l st in
      let e = length_lefts vs ly ks es st.lefts st.open_ones [] in
      let a = h.at in
      let x = r.at in
      let y = r.slots in
      let z = r.level in
      let w = r.loops in
      let v = r.cells in
      let u = r.variable in
      let o = r.declared in
      let c = h.slots in
      let d = h.level in
      let f = h.loops in
      let g = h.cells in
      let y = h.declared in
      let i = h.variable in
      let j = h.declared in
      record {
        at = omega arith;
        slots = omega arith;
        level = omega arith;
        loops = omega arith;
        cells = omega arith;
        declared = omega arith;
        variable = omega arith;
        many = fewer_behind vs ly ks es n st.lefts st.open_ones h.many;
        things = slim_behind vs ly ks es b st.lefts st.open_ones h.things;
      }

  in_plain : (k q p a : ℕ) → Small (b + 10) (n + 1) (plain_node vs ly ks es k q p a st)
  unfolding plain_node
  in_plain k q p a =
      let y = h.loops in
      let z = h.level in
      let w = h.cells in
      either (eqb k n_number) (small_up _ (in_nameless _ (in_put st h 12 p _)) (omega arith) (omega arith))
      (either (eqb k n_decimal) (small_up _ (in_nameless _ (in_put _ (in_put st h 12 p _) 49 0 _)) (omega arith) (omega arith))
      (either (eqb k n_logical) (small_up _ (in_nameless _ (in_put st h 48 p a)) (omega arith) (omega arith))
      (either (eqb k n_unary) (small_up _ (in_nameless _ (in_signed st h a p)) (omega arith) (omega arith))
      (either (eqb k n_binary) (small_up _ (in_nameless _ (in_put st h _ p 0)) (omega arith) (omega arith))
      (either (eqb k n_assign) (small_up _ in_assigned (omega arith) (omega arith))
      (either (eqb k n_variable) (small_up _ (in_cell _ (in_within st (small_up st h {d = b + 1} {m = n} (omega arith) (omega arith)) st.level st.loops (st.cells + 1) (omega arith) (omega arith) (omega arith))) (omega arith) (omega arith))
      (either (eqb k n_formal) (small_up _ (in_cell st h) (omega arith) (omega arith))
      (small_up st h (omega arith) (omega arith)))))))))

  -- what a node adds
  pub small_node : (rows marks : List ℕ) → 65536 ≤ b → (k y p a c : ℕ) → p < 65536 → a < 65536 → kind_next st.uses < 65536 → means_next st.uses < 65536 → Small (b + 10) (n + 1) (code_node vs ly ks es rows marks k y p a c st)
  unfolding code_node
  small_node rows marks q k y p a c r t i j =
      let f = top st.open_ones in
      let s = slim_top b st.open_ones h.things in
      either (is_use k) (in_use vs ly ks es rows _ (in_uses st h (others_next st.uses)) (omega arith) k _ _ c p a (omega arith) (omega arith) (omega arith) (omega arith))
      (either (eqb k n_actual) (in_actual vs ly ks es rows st h (omega arith) f s p (omega arith))
      (either (eqb k n_call_end) (in_call_ended vs ly ks es _ (in_popped st h) f p c)
      (either (is_element vs ly ks es k) (in_elements vs ly ks es st h f s k p (omega arith))
      (either (eqb k n_do || eqb k n_for_end) (in_loop vs ly ks es st h f s k)
      (either (is_choice vs ly ks es k) (in_choice vs ly ks es st h f s k _ (omega arith))
      (either (is_block vs ly ks es k) (in_block_lem vs ly ks es st h f s rows k p)
      (either (eqb k n_procedure || eqb k n_procedure_end) (in_procedure_lem vs ly ks es st h f s k)
      (in_plain k y p a))))))))

-- ---- of the code's numbers

-- the arrays besides do not matter
pub small_alone : {b n : ℕ} (t : Writing) (us : List Used) (op : List Thing) (co ah en : List ℕ) → Small b n (see t us op co ah en) → Small b n (see t [] op [] [] [])
small_alone t us op co ah en h =
    record {
      at = h.at;
      slots = h.slots;
      level = h.level;
      loops = h.loops;
      cells = h.cells;
      declared = h.declared;
      variable = h.variable;
      many = h.many;
      things = h.things;
    }

pub fit : (t : Writing) (op : List Thing) → Small 262143 8191 (see t [] op [] [] []) → Fit t
fit t op h =
    let a = h.at in
    let c = h.slots in
    let e = h.level in
    let f = h.loops in
    let g = h.cells in
    let y = h.declared in
    let k = h.many in
    let l = length_things t.open op in
    record { at = omega arith; slots = omega arith; level = omega arith; loops = omega arith; cells = omega arith; declared = omega arith; variable = h.variable; open_ones = omega arith }

-- a left part's place
pub left_third : (b m n : ℕ) (op : List Thing) → AllSlim b (things_of m op) → (top (things_of (m - n) op)).third ≤ b
left_third b m n op h = (slim_top b (things_of (m - n) op) (subst (AllSlim b) (behind_things [] [] [] [] n m op) (slim_behind [] [] [] [] b n (things_of m op) h))).third
