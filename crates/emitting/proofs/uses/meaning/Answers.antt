-- `emitting::uses::meaning` meets its contract: what the number stands for says which two numbers they are; a declaration's number is small.
-- Assumes nothing.
use mathlib.Core.Path.{◌≡◌, refl, sym, ◌∙◌}
use native.Mathlib.Omega.{arith}
use Rattle.emitting.proofs.NextUses.{declared_small, given_small, declared_use, given_use, no_use}
use Rattle.emitting.proofs.uses.meaning.Goals as goal

pub kind_of-requires : goal.kind_of-requires
kind_of-requires c = let h = declared_small c.args.word c.in-Declared.d (sym c.meant.ensures ∙ c.in-Declared.is) in omega arith

pub returns-in-Declared : goal.returns-in-Declared
returns-in-Declared c =
    let e = sym c.meant.ensures ∙ c.in-Declared.is in
    let h = declared_small c.args.word c.in-Declared.d e in
    record { kind_value = declared_use c.args.rows.now c.args.word c.in-Declared.d e c.kind_of.ensures.value refl; kind_bound = (c.kind_of.ensures.upper_bound, omega arith) }

pub returns-in-Given : goal.returns-in-Given
returns-in-Given c =
    let e = sym c.meant.ensures ∙ c.in-Given.is in
    let h = given_small c.args.word c.in-Given.e e in
    record { kind_value = given_use c.args.rows.now c.args.word c.in-Given.e e refl refl; kind_bound = (omega arith, omega arith) }

pub returns-in-Nothing : goal.returns-in-Nothing
returns-in-Nothing c =
    let x : c.default.result.kind ≡ 0 = omega (arith, c.default.ensures) in
    let y : c.default.result.means ≡ 0 = omega (arith, c.default.ensures) in
    record { kind_value = no_use c.args.rows.now c.args.word (sym c.meant.ensures ∙ c.in-Nothing.is) x y; kind_bound = (omega arith, omega arith) }
