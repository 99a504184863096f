-- `names::identity::given` meets its contract. Each test has told whether the letters are that name's.
use mathlib.Core.Path.{sym, ◌∙◌}
use Rattle.std.proofs.Common.{rules}
use Rattle.names.specs.model.Identity.{number_given}
use Rattle.names.proofs.identity.given.Goals as goal

pub returns-then-spells : goal.returns-then-spells
unfolding number_given
returns-then-spells c = simp (sym c.spells.ensures ∙ c.if-spells.true) (search rules)

pub returns-then-spells-2 : goal.returns-then-spells-2
unfolding number_given
returns-then-spells-2 c = simp (sym c.spells.ensures ∙ c.if-spells.false, sym c.spells-2.ensures ∙ c.if-spells-2.true) (search rules)

pub returns-then-spells-3 : goal.returns-then-spells-3
unfolding number_given
returns-then-spells-3 c = simp (sym c.spells.ensures ∙ c.if-spells.false, sym c.spells-2.ensures ∙ c.if-spells-2.false, sym c.spells-3.ensures ∙ c.if-spells-3.true) (search rules)

pub returns-then-spells-4 : goal.returns-then-spells-4
unfolding number_given
returns-then-spells-4 c = simp (sym c.spells.ensures ∙ c.if-spells.false, sym c.spells-2.ensures ∙ c.if-spells-2.false, sym c.spells-3.ensures ∙ c.if-spells-3.false, sym c.spells-4.ensures ∙ c.if-spells-4.true) (search rules)

pub returns-then-spells-5 : goal.returns-then-spells-5
unfolding number_given
returns-then-spells-5 c = simp (sym c.spells.ensures ∙ c.if-spells.false, sym c.spells-2.ensures ∙ c.if-spells-2.false, sym c.spells-3.ensures ∙ c.if-spells-3.false, sym c.spells-4.ensures ∙ c.if-spells-4.false, sym c.spells-5.ensures ∙ c.if-spells-5.true) (search rules)

pub returns : goal.returns
unfolding number_given
returns c = simp (sym c.spells.ensures ∙ c.if-spells.false, sym c.spells-2.ensures ∙ c.if-spells-2.false, sym c.spells-3.ensures ∙ c.if-spells-3.false, sym c.spells-4.ensures ∙ c.if-spells-4.false, sym c.spells-5.ensures ∙ c.if-spells-5.false) (search rules)
