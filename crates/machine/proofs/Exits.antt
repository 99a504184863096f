-- What `?` hands on: the value that was there, or a trouble.
use mathlib.Core.Path.{◌≡◌, refl, ap, ◌∙◌}
use mathlib.Core.Bool.{Bool, true, false}
use mathlib.Core.List.{List}
use Prim.Native.Nat.{ℕ, zero, suc, ◌≤◌}
use native.Mathlib.Omega.{arith}
use lib.IntN.{ℤ}
use Rattle.std.specs.Prelude.{Option, Some, None, Result as Returned, Ok, Err, IsErrAnd, ok_or}
use Rattle.reals.specs.declared.Value.{Value}
use Rattle.reals.specs.declared.Value.TheVariants.{Truth}
use Rattle.reals.specs.declared.Outcome.{Outcome}
use Rattle.reals.specs.declared.Outcome.TheVariants.{Is, Fault, Stray}
use Rattle.machine.specs.declared.Counts.{Counts}
use Rattle.machine.specs.declared.Trouble.{Trouble}
use Rattle.machine.specs.declared.Trouble.TheVariants.{Fault as Bad, Stray as Astray}
use Rattle.machine.specs.Run.{Trace}
use Rattle.machine.specs.Data.{Data, Result, value, newest, condition, test, valued}
use Rattle.machine.specs.model.Holding.{After, ill, lost, Own, Sound, told, on_turned, turned, inwards, links_of, out_t, seen_d, seen_t, SoundD, SoundT, data_of, trace_of}
use Rattle.machine.proofs.Turns.{out_bad, out_stray}
use Rattle.machine.proofs.Works.{condition_yes, condition_no}

-- a value that was there
pub taken : {A : Type 0} (o : Option A) {r : Returned A Trouble} {x : A} → r ≡ ok_or o Astray → r ≡ Ok x → o ≡ Some x
taken (Some y) {x} p q = let w : y ≡ x = cc in ap Some w
taken None p q = absurd (let z : ◌≡◌ {A = ℕ} 0 1 = cc in omega arith)

pub err_exit : {A : Type 0} {r : Returned A Trouble} {f : Trouble} → IsErrAnd r (λ e. e ≡ f) → r ≡ Err f
err_exit {r = Ok x} h = absurd h
err_exit {r = Err e} h = ap Err h

pub none_left : (n : ℕ) → (1 ≤ n → ⊥) → n ≡ 0
none_left zero h = refl
none_left (suc n) h = absurd (h (omega arith))

-- none was there
pub none_exit : {A B : Type 0} (o : Option A) {f : Trouble} {q : Returned A Trouble} {r : Returned B Trouble} → q ≡ ok_or o Astray → q ≡ Err f → IsErrAnd r (λ x. x ≡ f) → (o ≡ None) × (r ≡ Err Astray)
none_exit (Some y) p g h = absurd (let z : ◌≡◌ {A = ℕ} 0 1 = cc in omega arith)
none_exit None {f} p g h = let w : f ≡ Astray = cc in (refl, err_exit h ∙ ap Err w)

-- a conversion's trouble ends the way inward, and its value goes on
module _ (f : Value → Returned Value Trouble) (q : ℕ) (o : Outcome) where
  pub inwards_ok : {w : Value} → turned q o ≡ Ok w → inwards f q o ≡ f w
  inwards_ok = go o
    where
      go : (o : Outcome) {w : Value} → turned q o ≡ Ok w → inwards f q o ≡ f w
      go (Is v) {w} e = let k : v ≡ w = cc in ap f k
      go (Fault a) e = absurd (let z : ◌≡◌ {A = ℕ} 0 1 = cc in omega arith)
      go Stray e = absurd (let z : ◌≡◌ {A = ℕ} 0 1 = cc in omega arith)

  pub inwards_err : {e : Trouble} → turned q o ≡ Err e → inwards f q o ≡ Err e
  inwards_err = go o
    where
      go : (o : Outcome) {e : Trouble} → turned q o ≡ Err e → inwards f q o ≡ Err e
      go (Is v) g = absurd (let z : ◌≡◌ {A = ℕ} 0 1 = cc in omega arith)
      go (Fault a) g = g
      go Stray g = g

-- once the way outward has ended it is no other
pub out_err : (l : List ℕ) (v : Value) (k m : ℕ) (f : Trouble) → m ≤ k → out_t (links_of l m) v ≡ Err f → out_t (links_of l k) v ≡ Err f
out_err l v k m (Bad a q) h e = out_bad l v k m h e
out_err l v k m Astray h e = out_stray l v k m h e

-- ---- what a trouble is seen as

abbrev pub troubled : {A : Type 0} → Trouble → After A
troubled (Bad a q) = ill a.number q
troubled Astray = lost

pub troubled_d : (f : Trouble) (a : Own) (s i o : List ℤ) → seen_d (Err f) a s i o ≡ troubled f
troubled_d (Bad x q) a s i o = refl
troubled_d Astray a s i o = refl

pub troubled_t : (f : Trouble) (a : Own) (s i o : List ℤ) → seen_t (Err f) a s i o ≡ troubled f
troubled_t (Bad x q) a s i o = refl
troubled_t Astray a s i o = refl

pub troubled_turned : {A : Type 0} (t : Trace) (g : Value → Result A) (f : Trouble) {x : Returned Value Trouble} → x ≡ Err f → troubled f ≡ told t (on_turned g x)
unfolding told
troubled_turned t g (Bad a q) e = rw e
troubled_turned t g Astray e = rw e

-- a conversion's or an operator's value, or its trouble
pub turned_value : (q : ℕ) (r : Outcome) {v : Value} → turned q r ≡ Ok v → r ≡ Is v
turned_value q (Is w) {v} e = let k : w ≡ v = cc in ap Is k
turned_value q (Fault a) e = absurd (let z : ◌≡◌ {A = ℕ} 0 1 = cc in omega arith)
turned_value q Stray e = absurd (let z : ◌≡◌ {A = ℕ} 0 1 = cc in omega arith)

pub troubled_valued : {A : Type 0} (t : Trace) (q : ℕ) (g : Value → Result A) (r : Outcome) (f : Trouble) → turned q r ≡ Err f → troubled f ≡ told t (valued q g r)
unfolding told valued
troubled_valued t q g (Is v) f e = absurd (let z : ◌≡◌ {A = ℕ} 0 1 = cc in omega arith)
troubled_valued t q g (Fault a) f e = let k : f ≡ Bad a q = cc in ap (λ (x : Trouble). troubled x) k
troubled_valued t q g Stray f e = let k : f ≡ Astray = cc in ap (λ (x : Trouble). troubled x) k

pub trouble_sound : (n : Counts) (f : Trouble) (s : List ℤ) → SoundD n (Err f) s
trouble_sound n (Bad x q) s = tt
trouble_sound n Astray s = tt

pub trouble_sound_t : (n : Counts) (f : Trouble) (s : List ℤ) → SoundT n (Err f) s
trouble_sound_t n (Bad x q) s = tt
trouble_sound_t n Astray s = tt

-- ---- a test with its truth value

pub chosen_as : {c : Returned (Bool × Counts) Trouble} {b k : Bool} {m : Counts} → c ≡ Ok (b, m) → b ≡ k → c ≡ Ok (k, m)
chosen_as {m} e h = e ∙ ap (λ (x : Bool). Ok (x, m)) h

pub chosen_sound : (n : Counts) (b : Bool) (m : Counts) (s : List ℤ) → Sound m s × (m.written ≡ n.written) → SoundT n (Ok (b, m)) s
chosen_sound n true m s h = h
chosen_sound n false m s h = h

-- the condition, by the value that was used
module _ {v : Value} (d : Data) {t : Trace} (m : Counts) (a : Own) (s i o : List ℤ) (e : newest d ≡ value v (data_of m a s i o)) (r : trace_of m o ≡ t) where
  pub condition_is : {b : Bool} → v ≡ Truth b → seen_t (Ok (b, m)) a s i o ≡ told t (test condition d)
  condition_is {b = true} k = condition_yes t d e r k refl
  condition_is {b = false} k = condition_no t d e r k refl
