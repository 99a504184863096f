-- `writing::put_declarations`: the rows that are left are yet to be written.
use mathlib.Core.Path.{refl}
use native.Mathlib.Omega.{arith}
use Rattle.table.specs.model.Writing.{place_of}
use Rattle.table.proofs.Written.{none_yet, some_more, room_four, all_written, declared_chunk, declarations_on, declarations_end}
use Rattle.table.proofs.writing.put_declarations.Goals as goal

pub loop-words-init : goal.loop-words-init
loop-words-init c = none_yet _ _ _

pub put-requires : goal.put-requires
put-requires c = (omega arith, room_four c.loop-words.invariant (declarations_on (place_of c.args.places.now) c.args.rows.now c.loop-words.words-index (omega (arith, c.as_chunks.ensures.front_len))) c.requires)

pub overflow_add-at : goal.overflow_add-at
overflow_add-at c = let r = room_four c.loop-words.invariant (declarations_on (place_of c.args.places.now) c.args.rows.now c.loop-words.words-index (omega (arith, c.as_chunks.ensures.front_len))) c.requires in omega (arith, c.loop-words.invariant.wrote.size)

pub loop-words-preserved : goal.loop-words-preserved
loop-words-preserved c =
    let k = c.as_chunks.ensures in
    let e = declared_chunk c.args.rows.now c.as_chunks.result.0.now c.loop-words.words-index _ k.front c.loop-words-test.true k.front_len c.from-r.result c.from-r.ensures in
    some_more c.loop-words.invariant (declarations_on (place_of c.args.places.now) c.args.rows.now c.loop-words.words-index (omega (arith, k.front_len))) (simp (c.place_word-place.ensures, c.kind_number-kind.ensures, e) at c.put.ensures) refl

pub shape_of-table : goal.shape_of-table
shape_of-table c = c.loop-words.invariant.wrote.size

pub returns : goal.returns
returns c = let h = all_written c.loop-words.invariant (declarations_end (place_of c.args.places.now) c.args.rows.now c.loop-words.words-index (omega (arith, c.as_chunks.ensures.front_len))) in record { wrote = h.0; value = h.1 }
