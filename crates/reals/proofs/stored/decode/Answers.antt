-- One law an arm.
use Rattle.std.proofs.Common.{ℕ, ◌%◌, ap, ◌∙◌, to_z-of_z, w64, of_z}
use Rattle.reals.specs.model.Stored.{whole_in, real_in}
use Rattle.reals.specs.declared.Cell.TheVariants.{Named}
use Rattle.reals.proofs.ReadBack.{of_1, of_2, of_3, of_4, of_5, of_6, of_rest}
use Rattle.reals.proofs.stored.decode.Goals as goal

pub returns-in-4 : goal.returns-in-4
returns-in-4 c = c.whole_in.ensures ∙ ap whole_in (to_z-of_z c.ranges.load) ∙ of_4 c.args.load c.in-4.in-4-own.keys1

pub returns-in-5 : goal.returns-in-5
returns-in-5 c = c.real_in.ensures ∙ ap real_in (c.long_word.ensures ∙ ap (of_z w64) (to_z-of_z c.ranges.load)) ∙ of_5 c.args.load c.in-5.in-5-own.keys2

pub returns-in-3 : goal.returns-in-3
returns-in-3 c = of_3 c.args.load c.in-3.in-3-own.keys3

pub returns-in-1 : goal.returns-in-1
returns-in-1 c = of_1 c.args.load c.in-1.in-1-own.keys4

pub returns-in-2 : goal.returns-in-2
returns-in-2 c = of_2 c.args.load c.in-2.in-2-own.keys5

pub returns-in-6 : goal.returns-in-6
returns-in-6 c = ap (λ (n : ℕ). Named (n % 2147483648)) (c.long_word-in-6.ensures ∙ ap (of_z w64) (to_z-of_z c.ranges.load)) ∙ of_6 c.args.load c.in-6.in-6-own.keys6

pub returns-in_default : goal.returns-in_default
returns-in_default c = of_rest c.args.load c.in_default.in_default-own.rest
