-- The two values' types say whose operator it is.
use Rattle.std.proofs.Common.{ℤ, sym, ap, ◌∙◌, w32, to_z, of_z}
use Rattle.reals.specs.Values.{apply2, both_of}
use Rattle.reals.specs.declared.Value.TheVariants.{Truth, Whole, Real}
use Rattle.reals.proofs.Signed.{read_back}
use Rattle.reals.proofs.Pairs.{same_pair, no_pair}
use Rattle.reals.proofs.operators.binary.Goals as goal

pub returns-in-Wholes : goal.returns-in-Wholes
unfolding both_of
returns-in-Wholes c =
    let k = c.args.op in
    c.wholes.ensures
    ∙ ap (λ (z : ℤ). apply2 k (Whole z) (Whole (to_z w32 (of_z w32 c.in-Wholes.y)))) (read_back w32 c.in-Wholes.x c.in-Wholes.known_told-1-own.given.0.1)
    ∙ ap (λ (z : ℤ). apply2 k (Whole c.in-Wholes.x) (Whole z)) (read_back w32 c.in-Wholes.y c.in-Wholes.known_told-1-own.given.1.0.1)
    ∙ same_pair (Whole c.in-Wholes.x) (Whole c.in-Wholes.y) c.args.a c.args.b k (sym c.in-Wholes.is ∙ c.paired.ensures)

pub returns-in-Reals : goal.returns-in-Reals
unfolding both_of
returns-in-Reals c = c.reals.ensures ∙ same_pair (Real c.in-Reals.x) (Real c.in-Reals.y) c.args.a c.args.b c.args.op (sym c.in-Reals.is ∙ c.paired.ensures)

pub returns-in-Truths : goal.returns-in-Truths
unfolding both_of
returns-in-Truths c = c.truths.ensures ∙ same_pair (Truth c.in-Truths.x) (Truth c.in-Truths.y) c.args.a c.args.b c.args.op (sym c.in-Truths.is ∙ c.paired.ensures)

pub returns-in-Neither : goal.returns-in-Neither
returns-in-Neither c = no_pair c.args.a c.args.b c.args.op (sym c.in-Neither.is ∙ c.paired.ensures)
