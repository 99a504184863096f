-- `table::writing::put_use` meets its contract. What the use means says which three words are written; a declaration's number is small, so its row's place fits.
-- Assumes nothing.
use mathlib.Core.Path.{sym, ap, ◌∙◌}
use Prim.Native.Nat.{◌-◌}
use native.Mathlib.Omega.{arith}
use Rattle.table.specs.model.Writing.{place_of}
use Rattle.table.proofs.Written.{wrote_as, declared_small, declared_words, given_words, nothing_words}
use Rattle.table.proofs.writing.put_use.Goals as goal

pub overflow_mul-r : goal.overflow_mul-r
overflow_mul-r c = let h = declared_small c.args.word c.in-Declared.d (sym c.meant.ensures ∙ c.in-Declared.is) in omega arith

pub overflow_add-r : goal.overflow_add-r
overflow_add-r c = let h = declared_small c.args.word c.in-Declared.d (sym c.meant.ensures ∙ c.in-Declared.is) in omega arith

pub returns-in-Declared : goal.returns-in-Declared
returns-in-Declared c =
    let args = c.args in
    wrote_as c.put.ensures (declared_words (place_of args.places.now) args.rows.now args.symbol.number c.in-Declared.d (sym c.meant.ensures ∙ c.in-Declared.is) c.place_word-p.ensures (c.kind_number-kind.ensures ∙ ap (λ z. z - 4) c.word_at.ensures) (c.place_word-declared.ensures ∙ ap (place_of args.places.now) c.word_at-symbol.ensures))

pub returns-in-Given : goal.returns-in-Given
returns-in-Given c =
    let args = c.args in
    wrote_as c.put-in-Given.ensures (given_words (place_of args.places.now) args.rows.now args.symbol.number c.in-Given.e (sym c.meant.ensures ∙ c.in-Given.is) c.place_word-p.ensures)

pub returns-in-Nothing : goal.returns-in-Nothing
returns-in-Nothing c =
    let args = c.args in
    wrote_as c.put-in-Nothing.ensures (nothing_words (place_of args.places.now) args.rows.now args.symbol.number (sym c.meant.ensures ∙ c.in-Nothing.is) c.place_word-p.ensures)
