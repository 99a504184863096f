-- What a symbol does to where the writer stands: each case of the code is the case of `late_of` and `stack_after` that its kind tells.
use Prim.Native.Nat.{ℕ, ◌+◌, ◌-◌, ◌≤◌}
use mathlib.Core.Path.{◌≡◌, refl, sym, ap, subst, ◌∙◌}
use mathlib.Core.Bool.{Bool, true, false, cond}
use mathlib.Core.List.{List, ◌∷◌}
use native.Mathlib.Omega.{arith}
use lib.Dec.{eqb}
use borrow.Author.Tests.{ne_eqb, eqb-true}
use Rattle.clean.specs.model.Lines.{base, headed}
use Rattle.clean.specs.model.Pen.{Small, line_of, begin_of, inward_of, open_of, wait_of, head_of, opened_of, closed_of, passed_of, stack_of, top_of, Pushed, Headed, out_of, outside_of, separated_of, separated_stack, Separated, waits_of, parted_of, late_of, stack_after, Late}
use Rattle.clean.specs.declared.lines.State.{State}
use Rattle.clean.proofs.Stacks.{below_is, base_body, base_block}

pub small_passed : (s : State) (k : ℕ) (r : State) → r ≡ passed_of s k → Small s → Small r
small_passed s k r e h = subst Small (sym e) (record { level = h.level; around = h.around; waiting = h.waiting; lines = omega arith; line = h.line })

pub around_passed : (s : State) (k : ℕ) (r : State) → r ≡ passed_of s k → r.around ≡ s.around
around_passed s k r e = ap (λ x. x.around) e

-- ---- a body that ends

pub out_around : (s : State) (st : List ℕ) → (out_of s st).around ≤ s.around
out_around s st = go (eqb (top_of st) 0)
  where
    go : (b : Bool) → (cond b (open_of s (s.around - 1)) s).around ≤ s.around
    go true = omega arith
    go false = omega arith

pub out_lines : (s : State) (st : List ℕ) → (out_of s st).lines ≡ s.lines
out_lines s st = go (eqb (top_of st) 0)
  where
    go : (b : Bool) → (cond b (open_of s (s.around - 1)) s).lines ≡ s.lines
    go true = refl
    go false = refl

pub out_stack : (s : State) (held : List ℕ) → stack_of (out_of s (stack_of s.around held)).around held ≡ base (stack_of s.around held)
out_stack s held = go (eqb (top_of st) 0) refl
  where
    st : List ℕ
    st = stack_of s.around held

    go : (b : Bool) → eqb (top_of (stack_of s.around held)) 0 ≡ b → stack_of (cond b (open_of s (s.around - 1)) s).around held ≡ base (stack_of s.around held)
    go true e = below_is held s.around ∙ sym (base_body (stack_of s.around held) (eqb-true (top_of (stack_of s.around held)) 0 e))
    go false e = sym (base_block (stack_of s.around held) (λ q. let z : true ≡ false = sym (ap (λ t. eqb t 0) q) ∙ e in let w : ◌≡◌ {A = ℕ} 0 1 = cc in omega arith))

-- ---- behind a symbol

pub late_begin : (old new : List ℕ) (s : State) (k n : ℕ) (p r : State) → k ≡ 0 → p ≡ passed_of s k → Pushed old new p.around (p.level + 1) → r ≡ opened_of p → Late old new s k n r
late_begin old new s k n p r ek ep h er = record {
  state = er ∙ ap opened_of ep ∙ rw ek;
  stack = ap (λ (x : State). stack_of x.around new) er ∙ h.stack ∙ ap (λ (x : State). (x.level + 1) ∷ stack_of x.around old) ep ∙ rw ek;
  size = h.size;
}

pub late_end : (old : List ℕ) (s : State) (k n : ℕ) (p r : State) (t v : ℕ) → k ≡ 1 → p ≡ passed_of s k → t ≡ top_of (stack_of p.around old) → v ≡ t - 1 → r ≡ closed_of p v → Late old old s k n r
late_end old s k n p r t v ek ep et ev er =
    let a : v ≡ top_of (stack_of s.around old) - 1 = ev ∙ ap (λ t. t - 1) (et ∙ ap (λ (x : State). top_of (stack_of x.around old)) ep) in
    record {
      state = er ∙ ap (λ (x : State). closed_of x v) ep ∙ ap (closed_of (passed_of s k)) a ∙ rw ek;
      stack = ap (λ (x : State). stack_of x.around old) er ∙ ap (λ (x : State). stack_of (x.around - 1) old) ep ∙ below_is old s.around ∙ rw ek;
      size = refl;
    }

pub late_semicolon : (old new : List ℕ) (s : State) (k n : ℕ) (p r : State) → k ≡ 35 → p ≡ passed_of s k → Separated old new p n r → Late old new s k n r
late_semicolon old new s k n p r ek ep h = record {
  state = h.state ∙ ap (λ (x : State). separated_of x (stack_of x.around old) n) ep ∙ rw ek;
  stack = h.stack ∙ ap (λ (x : State). separated_stack x (stack_of x.around old) n) ep ∙ rw ek;
  size = h.size;
}

waits_around : (p : State) (b : Bool) → (waits_of p b).around ≡ p.around
waits_around p true = refl
waits_around p false = refl

pub late_if : (old : List ℕ) (s : State) (k n : ℕ) (p r : State) → k ≡ 2 → p ≡ passed_of s k → r ≡ waits_of p s.begins → Late old old s k n r
late_if old s k n p r ek ep er =
    let a = ap (λ (x : State). x.around) (er ∙ ap (λ (x : State). waits_of x s.begins) ep) ∙ waits_around (passed_of s k) s.begins in
    record { state = er ∙ ap (λ (x : State). waits_of x s.begins) ep ∙ rw ek; stack = ap (λ m. stack_of m old) a ∙ rw ek; size = refl }

parted_around : (p : State) (k : ℕ) → (parted_of p k).around ≡ p.around
parted_around p k = go (eqb p.waiting 0) (eqb k 3) (eqb k 4)
  where
    go : (a b c : Bool) → (cond a (cond b (inward_of p) (begin_of p p.level)) (cond c (wait_of p (p.waiting - 1)) p)).around ≡ p.around
    go true true c = refl
    go true false c = refl
    go false b true = refl
    go false b false = refl

late_parted : (old : List ℕ) (s : State) (k n : ℕ) (p r : State) → parted_of (passed_of s k) k ≡ late_of s (stack_of s.around old) k n → stack_of s.around old ≡ stack_after s (stack_of s.around old) k n
    → p ≡ passed_of s k → r ≡ parted_of p k → Late old old s k n r
late_parted old s k n p r es et ep er =
    let a = ap (λ (x : State). x.around) (er ∙ ap (λ (x : State). parted_of x k) ep) ∙ parted_around (passed_of s k) k in
    record { state = er ∙ ap (λ (x : State). parted_of x k) ep ∙ es; stack = ap (λ m. stack_of m old) a ∙ et; size = refl }

pub late_then : (old : List ℕ) (s : State) (k n : ℕ) (p r : State) → k ≡ 3 → p ≡ passed_of s k → r ≡ parted_of p k → Late old old s k n r
late_then old s k n p r ek ep er = late_parted old s k n p r (rw ek) (rw ek) ep er

pub late_else : (old : List ℕ) (s : State) (k n : ℕ) (p r : State) → k ≡ 4 → p ≡ passed_of s k → r ≡ parted_of p k → Late old old s k n r
late_else old s k n p r ek ep er = late_parted old s k n p r (rw ek) (rw ek) ep er

pub late_do : (old : List ℕ) (s : State) (k n : ℕ) (p r : State) → k ≡ 6 → p ≡ passed_of s k → r ≡ inward_of p → Late old old s k n r
late_do old s k n p r ek ep er = record { state = er ∙ ap inward_of ep ∙ rw ek; stack = ap (λ (x : State). stack_of x.around old) (er ∙ ap inward_of ep) ∙ rw ek; size = refl }

pub late_procedure : (old : List ℕ) (s : State) (k n : ℕ) (p : State) → k ≡ 13 → p ≡ passed_of s k → Late old old s k n (head_of p true)
late_procedure old s k n p ek ep = record {
  state = ap (λ (x : State). head_of x true) ep ∙ rw ek;
  stack = ap (λ (x : State). stack_of x.around old) ep ∙ rw ek;
  size = refl;
}

pub late_other : (old : List ℕ) (s : State) (k n : ℕ) (p : State) → (k ≡ 0 → ⊥) → (k ≡ 1 → ⊥) → (k ≡ 35 → ⊥) → (k ≡ 2 → ⊥) → (k ≡ 3 → ⊥) → (k ≡ 4 → ⊥) → (k ≡ 6 → ⊥) → (k ≡ 13 → ⊥)
    → p ≡ passed_of s k → Late old old s k n p
late_other old s k n p a b c d e f g h ep = record {
  state = ep ∙ simp (ne_eqb k 0 a, ne_eqb k 1 b, ne_eqb k 35 c, ne_eqb k 2 d, ne_eqb k 3 e, ne_eqb k 4 f, ne_eqb k 6 g, ne_eqb k 13 h);
  stack = ap (λ (x : State). stack_of x.around old) ep ∙ simp (ne_eqb k 0 a, ne_eqb k 1 b, ne_eqb k 35 c);
  size = refl;
}

-- ---- behind a `;`

pub heading_on : (old : List ℕ) (s : State) (n : ℕ) (r : State) → headed n ≡ true → r ≡ line_of s (s.level + 1) → Headed old old s n r
heading_on old s n r e er = record { state = er ∙ rw e; stack = ap (λ (x : State). stack_of x.around old) er ∙ rw e; size = refl }

pub heading_ends : (old new : List ℕ) (s : State) (n : ℕ) (r : State) → headed n ≡ false → Pushed old new s.around 0 → r ≡ opened_of (head_of s false) → Headed old new s n r
heading_ends old new s n r e h er = record { state = er ∙ rw e; stack = ap (λ (x : State). stack_of x.around new) er ∙ h.stack ∙ rw e; size = h.size }

pub in_heading : (old new : List ℕ) (s : State) (n : ℕ) (r : State) → s.heading ≡ true → Headed old new s n r → Separated old new s n r
in_heading old new s n r e h = record { state = h.state ∙ rw e; stack = h.stack ∙ rw e; size = h.size }

pub out_of_heading : (old : List ℕ) (s : State) (n : ℕ) (r : State) → s.heading ≡ false → r ≡ outside_of s (stack_of s.around old) → Separated old old s n r
out_of_heading old s n r e er = record { state = er ∙ rw e; stack = ap (λ (x : State). stack_of x.around old) er ∙ out_stack s old ∙ rw e; size = refl }
