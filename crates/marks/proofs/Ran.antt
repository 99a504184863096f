-- The machine on a program's words, with zero words behind them and any limit that is enough. A zero word is what is read past the words' end, so
-- zero words behind an even number of words change no instruction; and a run that stopped by itself does so under every limit from its count on.
use Prim.Native.Nat.{ℕ, zero, suc, ◌+◌, ◌*◌, ◌≤◌}
use mathlib.Core.Path.{◌≡◌, refl, ap, ◌∙◌, fun_ext}
use mathlib.Core.Bool.{Bool, true, false, cond}
use mathlib.Core.List.{List, [], ◌∷◌, ◌++◌}
use mathlib.Core.Option.{none, some}
use native.Mathlib.Omega.{arith}
use lib.Dec.{ltb}
use lib.IntN.{ℤ}
use lib.ListN.{length, length-append, get_or, replicate, get_or-eq_default}
use borrow.Author.Tests.{ltb-true, ltb-false, lt-ltb}
use Rattle.machine.specs.Instructions.{Instruction, decode, instruction, fetch}
use Rattle.machine.specs.Run.{untold, End, done, over, run}
use Rattle.machine.specs.Machine.{Running, running, obey, step, Finish, finish, start, machine}
use Rattle.machine.proofs.Limits.{under_longer}
use Rattle.machine.specs.model.Words.{words}
use Rattle.marks.specs.model.Computed.{ended}

-- ---- zero words behind

same_word : (ws : List ℕ) (n k : ℕ) → get_or (ws ++ replicate n 0) k 0 ≡ get_or ws k 0
same_word [] zero k = refl
same_word [] (suc n) zero = refl
same_word [] (suc n) (suc k) = same_word [] n k
same_word (w ∷ ws) n zero = refl
same_word (w ∷ ws) n (suc k) = same_word ws n k

even : (p : List Instruction) → length (words p) ≡ 2 * length p
unfolding words
even [] = refl
even (i ∷ p) = let h = even p in omega arith

-- two words behind the end are no instruction
past_end : (ws : List ℕ) (c : ℕ) → length ws ≤ 2 * c → instruction (get_or ws (2 * c) 0) (get_or ws (2 * c + 1) 0) ≡ none
unfolding decode
past_end ws c l =
    ap (λ (w : ℕ). instruction w (get_or ws (2 * c + 1) 0)) (get_or-eq_default ws 0 l) ∙ ap (λ (v : ℕ). instruction 0 v) (get_or-eq_default ws 0 {n = 2 * c + 1} (omega arith))

-- a test that lets through more, and what it lets through besides is y
wider : {A : Type 0} (a b : Bool) (x y : A) → (a ≡ true → b ≡ true) → (a ≡ false → x ≡ y) → cond b x y ≡ cond a x y
wider true b x y h k = ap (λ (t : Bool). cond t x y) (h refl)
wider false true x y h k = k refl
wider false false x y h k = refl

fetch_behind : (p : List Instruction) (n c : ℕ) → fetch (words p ++ replicate n 0) c ≡ fetch (words p) c
unfolding fetch
fetch_behind p n c =
    let ws = words p in
    let b = ltb (2 * c + 1) (length (ws ++ replicate n 0)) in
    ap (λ (w : ℕ). cond b (instruction w (get_or (ws ++ replicate n 0) (2 * c + 1) 0)) none) (same_word ws n (2 * c))
    ∙ ap (λ (v : ℕ). cond b (instruction (get_or ws (2 * c) 0) v) none) (same_word ws n (2 * c + 1))
    ∙ wider (ltb (2 * c + 1) (length ws)) b (instruction (get_or ws (2 * c) 0) (get_or ws (2 * c + 1) 0)) none
    (λ h. lt-ltb (2 * c + 1) (length (ws ++ replicate n 0)) (omega (arith, length-append ws (replicate n 0), ltb-true (2 * c + 1) (length ws) h)))
    (λ h. past_end ws c (omega (arith, even p, ltb-false (2 * c + 1) (length ws) h)))

step_behind : (p : List Instruction) (n : ℕ) (m : Running) → step (words p ++ replicate n 0) m ≡ step (words p) m
unfolding step
step_behind p n (running pc ps fs d) = ap (λ i. obey i pc ps fs d) (fetch_behind p n pc)

-- ---- the machine

machine_behind : (p : List Instruction) (n : ℕ) (input : List ℤ) (limit room space : ℕ) → machine (words p ++ replicate n 0) input limit room space ≡ machine (words p) input limit room space
unfolding machine
machine_behind p n input limit room space = ap (λ x. finish (run x limit (start input room space) 0 untold)) (fun_ext (step_behind p n))

pub with_more : (p : List Instruction) (input : List ℤ) (L room space : ℕ) (f : Finish) → ended (run (step (words p)) L (start input room space) 0 untold) ≡ some f
    → (behind limit : ℕ) → f.done ≤ limit → machine (words p ++ replicate behind 0) input limit room space ≡ f
unfolding finish
with_more p input L room space f h behind limit l = machine_behind p behind input limit room space ∙ go (run (step (words p)) L (start input room space) 0 untold) refl h
  where
    go : (e : End Running) → run (step (words p)) L (start input room space) 0 untold ≡ e → ended e ≡ some f → machine (words p) input limit room space ≡ f
    go (done q k t) e g =
        let z : record { stop = q; done = k + 1; taken = t.taken; written = t.written } ≡ f = cc in
        under_longer (words p) input room space L e limit (omega (arith, ap (λ (x : Finish). x.done) z)) ∙ z
    go (over k t m) e g = absurd (let z : ◌≡◌ {A = ℕ} 0 1 = cc in omega arith)
