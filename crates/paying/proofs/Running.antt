-- Laws of Running: a run within what was asked is the run on the first of the numbers, with as many cells and as much space as were asked, or as there are.
use mathlib.Core.Path.{◌≡◌, refl, sym, ap, ◌∙◌}
use mathlib.Core.Bool.{Bool, true, false, ◌&&◌}
use mathlib.Core.List.{List}
use Prim.Native.Nat.{ℕ, ◌*◌, ◌/◌, ◌≤◌, min}
use native.Mathlib.Omega.{arith}
use lib.Dec.{leb, ltb}
use lib.IntN.{ℤ}
use lib.ListN.{length, take}
use lib.Seq.{length-take-le, take_all, take-length}
use borrow.Author.Tests.{leb-true, leb-false}
use Rattle.answers.specs.declared.Refusal.{Refusal}
use Rattle.answers.specs.declared.Verdict.{Verdict}
use Rattle.answers.specs.declared.Verdict.TheVariants.{Accepted, Refused}
use Rattle.machine.specs.declared.Ran.{Ran}
use Rattle.machine.specs.Machine.{Finish, on_code, used, Exit, exit, afterwards, job}
use Rattle.desk.specs.Status.{bad, nothing, of_end}
use Rattle.desk.proofs.Statuses.{most_end}
use Rattle.paying.specs.Running.{of_finish, of_run, RanAs, RunStatus}

-- ---- what the machine was lent

-- the first n, of which there may be fewer
take_least : (n k : ℕ) (l : List ℤ) → k ≡ min n (length l) → take k l ≡ take n l
take_least n k l e = go (leb n (length l)) refl
  where
    go : (t : Bool) → leb n (length l) ≡ t → take k l ≡ take n l
    go true b =
        let h = leb-true n (length l) b in
        let f : k ≡ n = omega arith in
        ap (λ (x : ℕ). take x l) f
    go false b =
        let h = leb-false n (length l) b in
        let f : k ≡ length l = omega arith in
        ap (λ (x : ℕ). take x l) f ∙ take-length l ∙ sym (take_all n l (omega arith))

pub length_taken : (n : ℕ) (l : List ℤ) → length (take n l) ≡ min n (length l)
length_taken n l = go (leb n (length l)) refl
  where
    go : (t : Bool) → leb n (length l) ≡ t → length (take n l) ≡ min n (length l)
    go true b = let h = leb-true n (length l) b in length-take-le n l h ∙ omega arith
    go false b =
        let h = leb-false n (length l) b in
        ap length (take_all n l (omega arith)) ∙ omega arith

-- so many of them
length_least : (n k : ℕ) (l : List ℤ) → k ≡ min n (length l) → length (take k l) ≡ min n (length l)
length_least n k l e = length-take-le k l (omega arith) ∙ e

module _ (code : List ℕ) (input store output : List ℤ) (count limit cells space : ℕ) where
  -- the cells of the first 2 · cells numbers
  used_least : (k : ℕ) → k ≡ min (2 * min cells 8192) (length store) → used (take k store) ≡ min 8192 (min cells (length store / 2))
  used_least k b = let e : length (take k store) ≡ k = length-take-le k store (omega arith) in omega arith

  module _ (n k m : ℕ) (a : n ≡ min count (length input)) (b : k ≡ min (2 * min cells 8192) (length store)) (d : m ≡ min space (length output)) where
    same_run : on_code code (take n input) limit (used (take k store)) (length (take m output))
        ≡ on_code code (take count input) limit (min 8192 (min cells (length store / 2))) (min space (length output))
    same_run =
        ap (λ (x : List ℤ). on_code code x limit (used (take k store)) (length (take m output))) (take_least count n input a)
        ∙ ap (λ (x : ℕ). on_code code (take count input) limit x (length (take m output))) (used_least k b)
        ∙ ap (λ (x : ℕ). on_code code (take count input) limit (min 8192 (min cells (length store / 2))) x) (length_least space m output d)

    pub ran_as : (r : Ran) (s o : List ℤ) → exit r s o ≡ job code (take n input) limit (take k store) (take m output)
        → RanAs r (on_code code (take count input) limit (min 8192 (min cells (length store / 2))) (min space (length output)))
    unfolding afterwards
    ran_as r s o e =
        record {
          stopped = ap (λ (x : Exit). x.ran.stop) e ∙ ap (λ (f : Finish). f.stop) same_run;
          took = ap (λ (x : Exit). x.ran.taken) e ∙ ap (λ (f : Finish). f.taken) same_run;
        }

  pub run_told : (strict : Bool) (given s : ℕ) (r : Ran) → length store ≡ 16384 → length output ≡ 196608 → given ≡ length input
      → s ≡ of_end (strict && ltb r.taken given) r.stop → RanAs r (on_code code input limit (min 8192 (min cells (length store / 2))) (min space (length output)))
      → s ≡ of_finish strict (length input) (on_code code input limit (min cells 8192) (min space 196608))
  run_told strict given s r a b g e h =
      let f : min 8192 (min cells (length store / 2)) ≡ min cells 8192 = omega arith in
      let k : min space (length output) ≡ min space 196608 = omega arith in
      e ∙ ap (λ (x : ℕ). of_end (strict && ltb r.taken x) r.stop) g
      ∙ ap (λ (x : ℕ). of_end (strict && ltb x (length input)) r.stop) h.took
      ∙ ap (of_end (strict && ltb (on_code code input limit (min 8192 (min cells (length store / 2))) (min space (length output))).taken (length input))) h.stopped
      ∙ ap (λ (x : ℕ). of_finish strict (length input) (on_code code input limit x (min space (length output)))) f
      ∙ ap (λ (x : ℕ). of_finish strict (length input) (on_code code input limit (min cells 8192) x)) k

-- ---- what translate answered

module _ (strict : Bool) (given : ℕ) (v : Verdict) (f : Finish) where
  pub accepted_told : v ≡ Accepted → (s : ℕ) → s ≡ of_finish strict given f → s ≡ of_run strict given v f
  accepted_told e s h = rw e h

  pub refused_told : (r : Refusal) → v ≡ Refused r → bad ≡ of_run strict given v f
  refused_told r e = rw e refl

-- ---- one of the three

most_run : (strict : Bool) (given : ℕ) (v : Verdict) (f : Finish) → of_run strict given v f ≤ nothing
most_run strict given Accepted f = most_end (strict && ltb f.taken given) f.stop
most_run strict given (Refused r) f = omega arith

pub run_most : {strict : Bool} {text : List ℕ} {input : List ℤ} {limit cells space s : ℕ} → RunStatus strict text input limit cells space s → s ≤ nothing
run_most {strict = strict} {input = input} {limit = limit} {cells = cells} {space = space} t = rw t.told (most_run strict (length input) t.verdict (on_code t.words input limit cells space))
