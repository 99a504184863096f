-- The pair says of which type the two are: whole numbers, whose words are read back, reals, or neither.
use Rattle.std.proofs.Common.{ℤ, sym, ap, ◌∙◌, w32, to_z, of_z}
use Rattle.reals.specs.Values.{past_by}
use Rattle.reals.specs.declared.Both.{Both}
use Rattle.reals.specs.declared.Both.TheVariants.{Wholes}
use Rattle.reals.proofs.Signed.{read_back}
use Rattle.reals.proofs.loops.leaves.Goals as goal

pub returns-in-Wholes : goal.returns-in-Wholes
returns-in-Wholes c =
    let x = c.args.x in
    c.past_wholes.ensures
    ∙ ap (λ (z : ℤ). past_by (Wholes z (to_z w32 (of_z w32 c.in-Wholes.b))) x) (read_back w32 c.in-Wholes.a c.in-Wholes.known_told-1-own.given.0.1)
    ∙ ap (λ (z : ℤ). past_by (Wholes c.in-Wholes.a z) x) (read_back w32 c.in-Wholes.b c.in-Wholes.known_told-1-own.given.1.0.1)
    ∙ ap (λ (p : Both). past_by p x) (sym c.in-Wholes.is ∙ c.paired.ensures)

pub returns-in-Reals : goal.returns-in-Reals
returns-in-Reals c = c.past_reals.ensures ∙ ap (λ (p : Both). past_by p c.args.x) (sym c.in-Reals.is ∙ c.paired.ensures)
