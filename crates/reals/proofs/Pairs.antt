-- An operator on two values goes by the pair that they are, and so do its faults.
use Rattle.std.proofs.Common.{◌≡◌, sym, refl, ap, ◌∙◌}
use Rattle.reals.specs.Values.{both_of, on_numbers, on_truths, apply2}
use Rattle.reals.specs.declared.Value.{Value}
use Rattle.reals.specs.declared.Outcome.{Outcome}
use Rattle.reals.specs.declared.Outcome.TheVariants.{Stray}
use Rattle.reals.specs.declared.Both.{Both}
use Rattle.reals.specs.declared.Both.TheVariants.{Neither}
use Rattle.reals.specs.declared.Binary.{Binary}
use Rattle.reals.specs.declared.Binary.TheVariants.{Plus, Less, Times, Over, Divide, Below, AtMost, Equal, AtLeast, Above, Unequal, And, Or, Impl, Equiv}

-- what it makes of the pair, which is nothing where there is none
by_pair : (k : Binary) → (f : Both → Outcome) × ((a b : Value) → apply2 k a b ≡ f (both_of a b)) × (f Neither ≡ Stray)
unfolding apply2 on_numbers on_truths
by_pair Plus = (on_numbers _ _, λ a b. refl, refl)
by_pair Less = (on_numbers _ _, λ a b. refl, refl)
by_pair Times = (on_numbers _ _, λ a b. refl, refl)
by_pair Over = (on_numbers _ _, λ a b. refl, refl)
by_pair Divide = (on_numbers _ _, λ a b. refl, refl)
by_pair Below = (on_numbers _ _, λ a b. refl, refl)
by_pair AtMost = (on_numbers _ _, λ a b. refl, refl)
by_pair Equal = (on_numbers _ _, λ a b. refl, refl)
by_pair AtLeast = (on_numbers _ _, λ a b. refl, refl)
by_pair Above = (on_numbers _ _, λ a b. refl, refl)
by_pair Unequal = (on_numbers _ _, λ a b. refl, refl)
by_pair And = (on_truths _, λ a b. refl, refl)
by_pair Or = (on_truths _, λ a b. refl, refl)
by_pair Impl = (on_truths _, λ a b. refl, refl)
by_pair Equiv = (on_truths _, λ a b. refl, refl)

pub same_pair : (a b x y : Value) (k : Binary) → both_of a b ≡ both_of x y → apply2 k a b ≡ apply2 k x y
same_pair a b x y k e = (by_pair k).1 a b ∙ ap (by_pair k).0 e ∙ sym ((by_pair k).1 x y)

pub no_pair : (a b : Value) (k : Binary) → Neither ≡ both_of a b → Stray ≡ apply2 k a b
no_pair a b k e = sym (by_pair k).2 ∙ ap (by_pair k).0 e ∙ sym ((by_pair k).1 a b)
