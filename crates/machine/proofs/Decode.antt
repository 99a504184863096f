-- What the numbers of operations stand for.
use mathlib.Core.Path.{◌≡◌, refl}
use Prim.Native.Nat.{ℕ, suc, ◌≤◌, ◌<◌}
use native.Mathlib.Omega.{arith}
use borrow.Author.Tests.{ne_eqb, lt-ltb, le-ltb}
use lib.Dec.{eqb, ltb}
use mathlib.Core.Bool.{Bool, true, false, cond}
use mathlib.Core.Option.{none, some}
use lib.IntN.{ℤ}
use mir.Syntax.{w32}
use mir.Val.{to_z}
use Rattle.reals.specs.declared.Value.TheVariants.{Whole}
use Rattle.reals.specs.declared.Unary.{Unary}
use Rattle.reals.specs.declared.Binary.{Binary}
use Rattle.reals.specs.declared.Binary.TheVariants.{Plus, Less, Times, Over, Divide, Below, AtMost, Equal, AtLeast, Above, Unequal, Equiv}
use Rattle.reals.specs.declared.Form.TheVariants.{Wholes, Reals}
use Rattle.machine.specs.Data.{link, Act, push, heighten, load, store, assign, reserve, forget, receive, send, keep, unary, binary, lend, channel, sum, turn, act_on, condition, upto, kept, gone}
use Rattle.machine.specs.Instructions.{binary_of, unary_of, with_form, logical, counted, act_of, decode, variable, high, mid, low, END, DO, IF, JUMP, ENTER, LEAVE, CALL, RETURN, GO, NEXT, NAME, WORK, SEEK, PASS, REFUSE}

-- a number that is not m
pub apart : (k m : ℕ) → m < k → eqb k m ≡ false
apart k m h = ne_eqb k m (omega arith)

-- one more
pub next_up : (m k : ℕ) → m ≤ k → (k ≡ m → ⊥) → suc m ≤ k
next_up m k h e = omega arith

pub binary_last : (k : ℕ) → 38 ≤ k → binary_of k ≡ Equiv
unfolding binary_of
binary_last k h =
    simp (
      apart k 25 (omega arith),
      apart k 26 (omega arith),
      apart k 27 (omega arith),
      apart k 28 (omega arith),
      apart k 29 (omega arith),
      apart k 30 (omega arith),
      apart k 31 (omega arith),
      apart k 32 (omega arith),
      apart k 33 (omega arith),
      apart k 34 (omega arith),
      apart k 35 (omega arith),
      apart k 36 (omega arith),
      apart k 37 (omega arith),
    )

-- ---- the operations on the data

module _ {X : Type 0} (k q : ℕ) (x : X) (v : ℕ) where
  pub act_12 : k ≡ 12 → act_of k q x v ≡ push q (Whole (to_z w32 v))
  unfolding act_of
  act_12 e = rw e

  pub act_13 : k ≡ 13 → act_of k q x v ≡ load q x
  unfolding act_of
  act_13 e = rw e

  pub act_14 : k ≡ 14 → act_of k q x v ≡ store q x
  unfolding act_of
  act_14 e = rw e

  pub act_15 : k ≡ 15 → act_of k q x v ≡ assign q x
  unfolding act_of
  act_15 e = rw e

  pub act_17 : k ≡ 17 → act_of k q x v ≡ forget
  unfolding act_of
  act_17 e = rw e

  pub act_18 : k ≡ 18 → act_of k q x v ≡ receive q x
  unfolding act_of
  act_18 e = rw e

  pub act_19 : k ≡ 19 → act_of k q x v ≡ send q Wholes
  unfolding act_of
  act_19 e = rw e

  pub act_20 : k ≡ 20 → act_of k q x v ≡ keep
  unfolding act_of
  act_20 e = rw e

  pub act_21 : k ≡ 21 → act_of k q x v ≡ sum q x
  unfolding act_of
  act_21 e = rw e

  pub act_unary : 22 ≤ k → k < 25 → act_of k q x v ≡ unary q (unary_of k)
  unfolding act_of
  act_unary h b = rw (apart k 12 (omega arith), apart k 13 (omega arith), apart k 14 (omega arith), apart k 15 (omega arith), apart k 17 (omega arith), apart k 18 (omega arith), apart k 19 (omega arith), apart k 20 (omega arith), apart k 21 (omega arith), lt-ltb k 25 b)

  pub act_binary : 25 ≤ k → act_of k q x v ≡ binary q (binary_of k)
  unfolding act_of
  act_binary h = rw (apart k 12 (omega arith), apart k 13 (omega arith), apart k 14 (omega arith), apart k 15 (omega arith), apart k 17 (omega arith), apart k 18 (omega arith), apart k 19 (omega arith), apart k 20 (omega arith), apart k 21 (omega arith), le-ltb k 25 h)

-- an operation's variable is what names it
chosen : {X : Type 0} → (a b c d f g h i j m : Bool) → ℕ → X → ℤ → Unary → Binary → Act X
chosen a b c d f g h i j m q x z u o =
    cond a (push q (Whole z)) (cond b (load q x) (cond c (store q x) (cond d (assign q x) (cond f forget (cond g (receive q x) (cond h (send q Wholes) (cond i keep (cond j (sum q x) (cond m (unary q u) (binary q o))))))))))

chosen_on : {X Y : Type 0} (w : X → Y) (a b c d f g h i j m : Bool) (q : ℕ) (x : X) (z : ℤ) (u : Unary) (o : Binary) → act_on w (chosen a b c d f g h i j m q x z u o) ≡ chosen a b c d f g h i j m q (w x) z u o
unfolding chosen
chosen_on w true b c d f g h i j m q x z u o = refl
chosen_on w false true c d f g h i j m q x z u o = refl
chosen_on w false false true d f g h i j m q x z u o = refl
chosen_on w false false false true f g h i j m q x z u o = refl
chosen_on w false false false false true g h i j m q x z u o = refl
chosen_on w false false false false false true h i j m q x z u o = refl
chosen_on w false false false false false false true i j m q x z u o = refl
chosen_on w false false false false false false false true j m q x z u o = refl
chosen_on w false false false false false false false false true m q x z u o = refl
chosen_on w false false false false false false false false false true q x z u o = refl
chosen_on w false false false false false false false false false false q x z u o = refl

pub act_on_lem : {X Y : Type 0} (w : X → Y) (k q : ℕ) (x : X) (v : ℕ) → act_on w (act_of k q x v) ≡ act_of k q (w x) v
unfolding act_of chosen
act_on_lem w k q x v = chosen_on w (eqb k 12) (eqb k 13) (eqb k 14) (eqb k 15) (eqb k 17) (eqb k 18) (eqb k 19) (eqb k 20) (eqb k 21) (ltb k 25) q x (to_z w32 v) (unary_of k) (binary_of k)

-- ---- the instructions

module _ (k q v : ℕ) where
  pub code_0 : k ≡ 0 → decode k q v ≡ none
  unfolding decode
  code_0 e = rw e

  pub code_1 : k ≡ 1 → decode k q v ≡ some END
  unfolding decode
  code_1 e = rw e

  pub code_2 : k ≡ 2 → decode k q v ≡ some (JUMP (low v))
  unfolding decode
  code_2 e = rw e

  pub code_3 : k ≡ 3 → decode k q v ≡ some (ENTER q (counted v))
  unfolding decode
  code_3 e = rw e

  pub code_4 : k ≡ 4 → decode k q v ≡ some (LEAVE (mid v))
  unfolding decode
  code_4 e = rw e

  pub code_5 : k ≡ 5 → decode k q v ≡ some (CALL q (low v) (high v) (mid v) kept)
  unfolding decode
  code_5 e = rw e

  pub code_6 : k ≡ 6 → decode k q v ≡ some (CALL q (low v) (high v) (mid v) gone)
  unfolding decode
  code_6 e = rw e

  pub code_7 : k ≡ 7 → decode k q v ≡ with_form (low v) (λ t. RETURN (link t q))
  unfolding decode
  code_7 e = rw e

  pub code_8 : k ≡ 8 → decode k q v ≡ some (GO (high v) (low v) (mid v))
  unfolding decode
  code_8 e = rw e

  pub code_9 : k ≡ 9 → decode k q v ≡ some (NEXT (high v))
  unfolding decode
  code_9 e = rw e

  pub code_10 : k ≡ 10 → decode k q v ≡ some (IF condition (low v))
  unfolding decode
  code_10 e = rw e

  pub code_11 : k ≡ 11 → decode k q v ≡ some (IF (upto q (variable v)) (low v))
  unfolding decode
  code_11 e = rw e

  pub code_12 : k ≡ 12 → decode k q v ≡ some (DO (push q (Whole (to_z w32 v))))
  unfolding decode act_of
  code_12 e = rw e

  pub code_13 : k ≡ 13 → decode k q v ≡ some (DO (load q (variable v)))
  unfolding decode act_of
  code_13 e = rw e

  pub code_14 : k ≡ 14 → decode k q v ≡ some (DO (store q (variable v)))
  unfolding decode act_of
  code_14 e = rw e

  pub code_16 : k ≡ 16 → decode k q v ≡ with_form (low v) (λ t. DO (reserve q t))
  unfolding decode
  code_16 e = rw e

  pub code_21 : k ≡ 21 → decode k q v ≡ some (DO (sum q (variable v)))
  unfolding decode act_of
  code_21 e = rw e

  pub code_25 : k ≡ 25 → decode k q v ≡ some (DO (binary q Plus))
  unfolding decode act_of binary_of
  code_25 e = rw e

  pub code_26 : k ≡ 26 → decode k q v ≡ some (DO (binary q Less))
  unfolding decode act_of binary_of
  code_26 e = rw e

  pub code_27 : k ≡ 27 → decode k q v ≡ some (DO (binary q Times))
  unfolding decode act_of binary_of
  code_27 e = rw e

  pub code_28 : k ≡ 28 → decode k q v ≡ some (DO (binary q Over))
  unfolding decode act_of binary_of
  code_28 e = rw e

  pub code_29 : k ≡ 29 → decode k q v ≡ some (DO (binary q Below))
  unfolding decode act_of binary_of
  code_29 e = rw e

  pub code_30 : k ≡ 30 → decode k q v ≡ some (DO (binary q AtMost))
  unfolding decode act_of binary_of
  code_30 e = rw e

  pub code_31 : k ≡ 31 → decode k q v ≡ some (DO (binary q Equal))
  unfolding decode act_of binary_of
  code_31 e = rw e

  pub code_32 : k ≡ 32 → decode k q v ≡ some (DO (binary q AtLeast))
  unfolding decode act_of binary_of
  code_32 e = rw e

  pub code_33 : k ≡ 33 → decode k q v ≡ some (DO (binary q Above))
  unfolding decode act_of binary_of
  code_33 e = rw e

  pub code_34 : k ≡ 34 → decode k q v ≡ some (DO (binary q Unequal))
  unfolding decode act_of binary_of
  code_34 e = rw e

  pub code_act : 12 ≤ k → k < 39 → (k ≡ 16 → ⊥) → decode k q v ≡ some (DO (act_of k q (variable v) v))
  unfolding decode
  code_act h b n = rw (apart k 0 (omega arith), apart k 1 (omega arith), apart k 2 (omega arith), apart k 3 (omega arith), apart k 4 (omega arith), apart k 5 (omega arith), apart k 6 (omega arith), apart k 7 (omega arith), apart k 8 (omega arith), apart k 9 (omega arith), apart k 10 (omega arith), apart k 11 (omega arith), ne_eqb k 16 n, lt-ltb k 39 b)

  pub code_name_lem : k ≡ 39 → decode k q v ≡ some (NAME q (low v))
  unfolding decode
  code_name_lem e = rw e

  pub code_work : k ≡ 40 → decode k q v ≡ some (WORK q (high v) (mid v))
  unfolding decode
  code_work e = rw e

  pub code_seek : k ≡ 41 → decode k q v ≡ some (SEEK q (high v) (mid v))
  unfolding decode
  code_seek e = rw e

  pub code_pass : k ≡ 42 → decode k q v ≡ some (PASS q (high v) (mid v))
  unfolding decode
  code_pass e = rw e

  pub code_lend : k ≡ 43 → decode k q v ≡ some (DO (lend (variable v)))
  unfolding decode
  code_lend e = rw e

  pub code_refuse : k ≡ 44 → decode k q v ≡ some REFUSE
  unfolding decode
  code_refuse e = rw e

  pub code_channel : k ≡ 45 → decode k q v ≡ some (DO (channel q))
  unfolding decode
  code_channel e = rw e

  pub code_divide : k ≡ 46 → decode k q v ≡ some (DO (binary q Divide))
  unfolding decode
  code_divide e = rw e

  pub code_outreal : k ≡ 47 → decode k q v ≡ some (DO (send q Reals))
  unfolding decode
  code_outreal e = rw e

  pub code_logical : k ≡ 48 → decode k q v ≡ logical q (low v)
  unfolding decode
  code_logical e = rw e

  pub code_high : k ≡ 49 → decode k q v ≡ some (DO (heighten v))
  unfolding decode
  code_high e = rw e

  pub code_as : k ≡ 50 → decode k q v ≡ with_form (low v) (λ t. DO (turn q t))
  unfolding decode
  code_as e = rw e

  pub code_none : 51 ≤ k → decode k q v ≡ none
  unfolding decode
  code_none h = rw (apart k 0 (omega arith), apart k 1 (omega arith), apart k 2 (omega arith), apart k 3 (omega arith), apart k 4 (omega arith), apart k 5 (omega arith), apart k 6 (omega arith), apart k 7 (omega arith), apart k 8 (omega arith), apart k 9 (omega arith), apart k 10 (omega arith), apart k 11 (omega arith), apart k 16 (omega arith), le-ltb k 39 (omega arith), apart k 39 (omega arith), apart k 40 (omega arith), apart k 41 (omega arith), apart k 42 (omega arith), apart k 43 (omega arith), apart k 44 (omega arith), apart k 45 (omega arith), apart k 46 (omega arith), apart k 47 (omega arith), apart k 48 (omega arith), apart k 49 (omega arith), apart k 50 (omega arith))
