-- Operators by their kinds, as the reader finds them: the kind of 'begin', which is 0, stands for none. This serves contracts and is no part of the paper.
use Rattle.std.specs.Prelude.{ℕ, eqb}
use Rattle.grammar.specs.model.Tables.{pick}
use Rattle.grammar.specs.declared.Level.{Level}
use Rattle.grammar.specs.declared.Level.TheVariants.{Product, Sum, Conjunction, Disjunction, Implication, Equivalence}
use Rattle.symbols.specs.Symbols.{kind}
use Rattle.symbols.specs.declared.Symbol.TheVariants.{Begin, And, Or, Impl, Equiv, Plus, Minus, Times, Divide, Slash, Less, LessEqual, Equal, GreaterEqual, Greater, NotEqual}

abbrev pub one : ℕ → ℕ → ℕ → ℕ
one c k other = pick (eqb c k) k other

unfoldable pub operator_of : Level → ℕ → ℕ
operator_of Product c = one c (kind Times) (one c (kind Divide) (one c (kind Slash) (kind Begin)))
operator_of Sum c = one c (kind Plus) (one c (kind Minus) (kind Begin))
operator_of Conjunction c = one c (kind And) (kind Begin)
operator_of Disjunction c = one c (kind Or) (kind Begin)
operator_of Implication c = one c (kind Impl) (kind Begin)
operator_of Equivalence c = one c (kind Equiv) (kind Begin)

unfoldable pub relation_of : ℕ → ℕ
relation_of c = one c (kind Less) (one c (kind LessEqual) (one c (kind Equal) (one c (kind GreaterEqual) (one c (kind Greater) (one c (kind NotEqual) (kind Begin))))))
