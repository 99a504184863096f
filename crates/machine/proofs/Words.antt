-- The words of an instruction read back as that instruction. Assumes nothing.
use Prim.Native.Nat.{ℕ, ◌+◌, ◌*◌, ◌/◌, ◌%◌, ◌<◌}
use native.Mathlib.Omega.{arith}
use mathlib.Core.Bool.{Bool, true, false, cond}
use mathlib.Core.Path.{◌≡◌, refl, ap, ◌∙◌}
use mathlib.Core.Option.{some}
use lib.Dec.{eqb}
use borrow.Author.Tests.{eqb-true}
use mir.Syntax.{w32}
use mir.Facts.{to_z-of_z}
use Rattle.reals.specs.declared.Form.TheVariants.{Truths, Wholes, Reals}
use Rattle.reals.specs.declared.Value.TheVariants.{Truth, Whole, Real}
use Rattle.reals.specs.declared.Unary.TheVariants.{Minus, Negation, Absolute}
use Rattle.reals.specs.declared.Binary.TheVariants.{Plus, Less, Times, Over, Divide, Below, AtMost, Equal, AtLeast, Above, Unequal, And, Or, Impl, Equiv}
use Rattle.machine.specs.Operations.{o_end, o_jump, o_enter, o_leave, o_call_needed, o_call, o_return, o_go, o_next, o_unless, o_test, o_name, o_work, o_seek, o_pass, o_refuse}
use Rattle.machine.specs.Data.{link, Act, push, heighten, load, store, assign, reserve, forget, receive, send, keep, unary, binary, lend, channel, sum, turn, condition, upto, kept, gone, stored, Counted}
use Rattle.machine.specs.Instructions.{Location, located, cell_found, Instruction, END, DO, IF, JUMP, ENTER, LEAVE, CALL, RETURN, GO, NEXT, NAME, WORK, SEEK, PASS, REFUSE, six_bits, ten_bits, thirteen_bits, found_offset, pack, high, mid, low, counted, pack_counted, with_form, logical, variable, unary_of, binary_of, act_of, decode, instruction}
use Rattle.machine.specs.model.Words.{beside, parts_of_act, parts_of, first_word, LocFits, ActFits, InstrFits}

-- ---- one packing, read back

pub high_pack : (a b c : ℕ) → b < thirteen_bits → c < thirteen_bits → high (pack a b c) ≡ a
high_pack a b c h h' = omega arith

pub mid_pack : (a b c : ℕ) → b < thirteen_bits → c < thirteen_bits → mid (pack a b c) ≡ b
mid_pack a b c h h' = omega arith

pub low_pack : (a b c : ℕ) → b < thirteen_bits → c < thirteen_bits → low (pack a b c) ≡ c
low_pack a b c h h' = omega arith

-- operation and place, read back
read_first : (k q v : ℕ) → k < six_bits → instruction (k + six_bits * q) v ≡ decode k q v
read_first k q v h =
    let e : (k + six_bits * q) % six_bits ≡ k = omega arith in
    let e' : (k + six_bits * q) / six_bits ≡ q = omega arith in
    rw (e, e') refl

not_found : {A : Type 0} (o : ℕ) (x y : A) → o < found_offset → cond (eqb o found_offset) x y ≡ y
not_found o x y h = go (eqb o found_offset) refl
  where
    go : (b : Bool) → eqb o found_offset ≡ b → cond b x y ≡ y
    go true e =
        let e' = eqb-true o found_offset e in
        absurd (omega arith)
    go false e = refl

-- a variable; and the cell found, whose offset no variable has
variable_back : (u o l : ℕ) → o < found_offset → l < thirteen_bits → variable (pack u o l) ≡ located u o
variable_back u o l h h' =
    let h'' : o < thirteen_bits = omega arith in
    ap (λ m. cond (eqb m found_offset) cell_found (located (high (pack u o l)) m)) (mid_pack u o l h'' h') ∙ not_found o cell_found (located (high (pack u o l)) o) h ∙ ap (λ a. located a o) (high_pack u o l h'' h')

found_back : (l : ℕ) → l < thirteen_bits → variable (pack 0 found_offset l) ≡ cell_found
found_back l h = ap (λ m. cond (eqb m found_offset) cell_found (located (high (pack 0 found_offset l)) m)) (mid_pack 0 found_offset l (omega arith) h)

loc_back : (x : Location) (l : ℕ) → LocFits x → l < thirteen_bits → variable (beside x l) ≡ x
loc_back (located u o) l h h' = variable_back u o l h.1 h'
loc_back cell_found l h h' = found_back l h'

low_beside : (x : Location) (l : ℕ) → LocFits x → l < thirteen_bits → low (beside x l) ≡ l
low_beside (located u o) l h h' = low_pack u o l (omega (arith, h.1)) h'
low_beside cell_found l h h' = low_pack 0 found_offset l (omega arith) h'

-- three counts
pub counted_back : (n : Counted) → n.wholes < ten_bits → n.reals < ten_bits → n.truths < ten_bits → counted (pack_counted n) ≡ n
counted_back n h h' h'' =
    let e₁ : pack_counted n % ten_bits ≡ n.wholes = omega arith in
    let e : pack_counted n / ten_bits ≡ n.reals + ten_bits * n.truths = omega arith in
    let e₂ : pack_counted n / ten_bits % ten_bits ≡ n.reals = rw e (omega arith) in
    let e₃ : pack_counted n / ten_bits / ten_bits ≡ n.truths = rw e (omega arith) in
    rw (e₁, e₂, e₃) refl

-- an operation on the data
back_act : (a : Act Location) → ActFits a → decode (parts_of_act a).operation (parts_of_act a).place (parts_of_act a).operand ≡ some (DO a)
unfolding decode act_of unary_of binary_of with_form logical
back_act (push q (Truth false)) h = refl
back_act (push q (Truth true)) h = refl
back_act (push q (Whole z)) h = ap (λ z. some (DO (push q (Whole z)))) (to_z-of_z {w = w32} (record { sfits = h }))
back_act (push q (Real r)) h = absurd h
back_act (heighten n) h = refl
back_act (load q x) h = ap (λ x. some (DO (load q x))) (loc_back x 0 h (omega arith))
back_act (store q x) h = ap (λ x. some (DO (store q x))) (loc_back x 0 h (omega arith))
back_act (assign q x) h = ap (λ x. some (DO (assign q x))) (loc_back x 0 h (omega arith))
back_act (reserve q Truths) h = refl
back_act (reserve q Wholes) h = refl
back_act (reserve q Reals) h = refl
back_act forget h = refl
back_act (receive q x) h = ap (λ x. some (DO (receive q x))) (loc_back x 0 h (omega arith))
back_act (send q Truths) h = absurd h
back_act (send q Wholes) h = refl
back_act (send q Reals) h = refl
back_act keep h = refl
back_act (unary q Minus) h = refl
back_act (unary q Negation) h = refl
back_act (unary q Absolute) h = refl
back_act (binary q Plus) h = refl
back_act (binary q Less) h = refl
back_act (binary q Times) h = refl
back_act (binary q Over) h = refl
back_act (binary q Divide) h = refl
back_act (binary q Below) h = refl
back_act (binary q AtMost) h = refl
back_act (binary q Equal) h = refl
back_act (binary q AtLeast) h = refl
back_act (binary q Above) h = refl
back_act (binary q Unequal) h = refl
back_act (binary q And) h = refl
back_act (binary q Or) h = refl
back_act (binary q Impl) h = refl
back_act (binary q Equiv) h = refl
back_act (lend x) h = ap (λ x. some (DO (lend x))) (loc_back x 0 h (omega arith))
back_act (channel q) h = refl
back_act (sum q x) h = ap (λ x. some (DO (sum q x))) (loc_back x 0 h (omega arith))
back_act (turn q Truths) h = refl
back_act (turn q Wholes) h = refl
back_act (turn q Reals) h = refl

-- the operation of an operation on the data is below 64
pub act_below : (a : Act Location) → (parts_of_act a).operation < six_bits
act_below (push q (Truth false)) = omega arith
act_below (push q (Truth true)) = omega arith
act_below (push q (Whole z)) = omega arith
act_below (push q (Real r)) = omega arith
act_below (heighten n) = omega arith
act_below (load q x) = omega arith
act_below (store q x) = omega arith
act_below (assign q x) = omega arith
act_below (reserve q t) = omega arith
act_below forget = omega arith
act_below (receive q x) = omega arith
act_below (send q Truths) = omega arith
act_below (send q Wholes) = omega arith
act_below (send q Reals) = omega arith
act_below keep = omega arith
act_below (unary q Minus) = omega arith
act_below (unary q Negation) = omega arith
act_below (unary q Absolute) = omega arith
act_below (binary q Plus) = omega arith
act_below (binary q Less) = omega arith
act_below (binary q Times) = omega arith
act_below (binary q Over) = omega arith
act_below (binary q Divide) = omega arith
act_below (binary q Below) = omega arith
act_below (binary q AtMost) = omega arith
act_below (binary q Equal) = omega arith
act_below (binary q AtLeast) = omega arith
act_below (binary q Above) = omega arith
act_below (binary q Unequal) = omega arith
act_below (binary q And) = omega arith
act_below (binary q Or) = omega arith
act_below (binary q Impl) = omega arith
act_below (binary q Equiv) = omega arith
act_below (lend x) = omega arith
act_below (channel q) = omega arith
act_below (sum q x) = omega arith
act_below (turn q t) = omega arith

-- the read-back law
pub back : (i : Instruction) → InstrFits i → instruction (first_word (parts_of i)) (parts_of i).operand ≡ some i
unfolding decode with_form
back END h = read_first o_end 0 0 (omega arith)
back (JUMP l) h = read_first o_jump 0 _ (omega arith) ∙ ap (λ l. some (JUMP l)) (low_pack 0 0 l (omega arith) h)
back (ENTER q n) h = read_first o_enter q _ (omega arith) ∙ ap (λ n. some (ENTER q n)) (counted_back n h.0 h.1 h.2)
back (LEAVE n) h = read_first o_leave 0 _ (omega arith) ∙ ap (λ n. some (LEAVE n)) (mid_pack 0 n 0 h (omega arith))
back (CALL q l u n kept) h =
    read_first o_call_needed q _ (omega arith)
    ∙ ap (λ l'. some (CALL q l' (high (pack u n l)) (mid (pack u n l)) kept)) (low_pack u n l h.2 h.0)
    ∙ ap (λ u'. some (CALL q l u' (mid (pack u n l)) kept)) (high_pack u n l h.2 h.0)
    ∙ ap (λ n. some (CALL q l u n kept)) (mid_pack u n l h.2 h.0)
back (CALL q l u n gone) h =
    read_first o_call q _ (omega arith)
    ∙ ap (λ l'. some (CALL q l' (high (pack u n l)) (mid (pack u n l)) gone)) (low_pack u n l h.2 h.0)
    ∙ ap (λ u'. some (CALL q l u' (mid (pack u n l)) gone)) (high_pack u n l h.2 h.0)
    ∙ ap (λ n. some (CALL q l u n gone)) (mid_pack u n l h.2 h.0)
back (CALL q l u n stored) h = absurd h
back (RETURN (link Truths q)) h = read_first o_return q 2 (omega arith)
back (RETURN (link Wholes q)) h = read_first o_return q 0 (omega arith)
back (RETURN (link Reals q)) h = read_first o_return q 1 (omega arith)
back (GO m l r) h =
    read_first o_go 0 _ (omega arith)
    ∙ ap (λ m'. some (GO m' (low (pack m r l)) (mid (pack m r l)))) (high_pack m r l h.2 h.1)
    ∙ ap (λ l'. some (GO m l' (mid (pack m r l)))) (low_pack m r l h.2 h.1)
    ∙ ap (λ r. some (GO m l r)) (mid_pack m r l h.2 h.1)
back (NEXT m) h = read_first o_next 0 _ (omega arith) ∙ ap (λ m. some (NEXT m)) (high_pack m 0 0 (omega arith) (omega arith))
back (IF condition l) h = read_first o_unless 0 _ (omega arith) ∙ ap (λ l. some (IF condition l)) (low_pack 0 0 l (omega arith) h.1)
back (IF (upto q x) l) h =
    read_first o_test q _ (omega arith)
    ∙ ap (λ y. some (IF (upto q y) (low (beside x l)))) (loc_back x l h.0 h.1)
    ∙ ap (λ l. some (IF (upto q x) l)) (low_beside x l h.0 h.1)
back (DO a) h = read_first (parts_of_act a).operation (parts_of_act a).place (parts_of_act a).operand (act_below a) ∙ back_act a h
back (NAME q l) h = read_first o_name q _ (omega arith) ∙ ap (λ l. some (NAME q l)) (low_pack 0 0 l (omega arith) h)
back (WORK q u o) h =
    read_first o_work q _ (omega arith)
    ∙ ap (λ u'. some (WORK q u' (mid (pack u o 0)))) (high_pack u o 0 (omega arith) (omega arith))
    ∙ ap (λ o. some (WORK q u o)) (mid_pack u o 0 (omega arith) (omega arith))
back (SEEK q u o) h =
    read_first o_seek q _ (omega arith)
    ∙ ap (λ u'. some (SEEK q u' (mid (pack u o 0)))) (high_pack u o 0 (omega arith) (omega arith))
    ∙ ap (λ o. some (SEEK q u o)) (mid_pack u o 0 (omega arith) (omega arith))
back (PASS q u o) h =
    read_first o_pass q _ (omega arith)
    ∙ ap (λ u'. some (PASS q u' (mid (pack u o 0)))) (high_pack u o 0 (omega arith) (omega arith))
    ∙ ap (λ o. some (PASS q u o)) (mid_pack u o 0 (omega arith) (omega arith))
back REFUSE h = read_first o_refuse 0 0 (omega arith)
