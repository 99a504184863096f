-- What a reader answers is one of two, and says what it says once.
use mathlib.Core.Path.{◌≡◌, ap}
use Prim.Native.Nat.{ℕ}
use native.Mathlib.Omega.{arith}
use Rattle.answers.specs.declared.Answer.{Answer}
use Rattle.grammar.specs.declared.Fault.{Fault}
use Rattle.grammar.specs.declared.Read.{Read}
use Rattle.grammar.specs.model.Parsing.{read_to, fault_at}

pub read_fault : {j b k : ℕ} {a : Answer} → read_to j b ≡ fault_at a k → ⊥
read_fault q = let z : ◌≡◌ {A = ℕ} 0 1 = cc in omega arith

module _ {j b i c : ℕ} (q : read_to j b ≡ read_to i c) where
  one_read : ◌≡◌ {A = Read} (record { next = j; used = b }) (record { next = i; used = c })
  one_read = cc

  pub same_next : j ≡ i
  same_next = ap (λ (x : Read). x.next) one_read

  pub same_used : b ≡ c
  same_used = ap (λ (x : Read). x.used) one_read

module _ {a n : Answer} {k m : ℕ} (q : fault_at a k ≡ fault_at n m) where
  one_fault : ◌≡◌ {A = Fault} (record { answer = a; at = k }) (record { answer = n; at = m })
  one_fault = cc

  pub same_answer : a ≡ n
  same_answer = ap (λ (x : Fault). x.answer) one_fault

  pub same_at : k ≡ m
  same_at = ap (λ (x : Fault). x.at) one_fault
