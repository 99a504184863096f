-- Four parts, one after the other.
use Prim.Native.Nat.{◌/◌, ◌%◌}
use mathlib.Core.Path.{◌≡◌, refl}
use native.Mathlib.Omega.{arith}
use lib.IntN.{pos}
use lib.ListN.{length}
use mir.Syntax.{w32}
use mir.Val.{to_z, of_z}
use Rattle.records.specs.Record.{signed}
use Rattle.records.proofs.Keeps.{puts_then, as_word, half_word, kept_words}
use Rattle.records.proofs.keeping.written_down.Goals as goal

pub returns : goal.returns
returns c =
    let n = length c.args.input.now in
    let m = length c.args.written.now / 3 in
    let l = c.args.limit in
    let w1 : to_z w32 n ≡ pos n = as_word n c.requires.few_inputs in
    let w2 : to_z w32 (of_z w32 c.number.result) ≡ signed (l % 4294967296) = half_word (l % 4294967296) (omega arith) c.number.ensures in
    let w3 : to_z w32 (of_z w32 c.number-2.result) ≡ signed (l / 4294967296) = half_word (l / 4294967296) (omega (arith, c.ranges.limit)) c.number-2.ensures in
    let w4 : to_z w32 c.args.store ≡ pos c.args.store = as_word c.args.store c.requires.short_store in
    let w5 : to_z w32 c.args.output ≡ pos c.args.output = as_word c.args.output c.requires.short_output in
    let w6 : to_z w32 c.args.answer ≡ pos c.args.answer = as_word c.args.answer (omega (arith, c.ranges.answer)) in
    let w7 : to_z w32 m ≡ pos m = as_word m (omega (arith, c.requires.few_written)) in
    let p1 = simp w1 at c.copy-a.ensures in
    let p2 = puts_then p1 c.copy-b.ensures in
    let p3 = puts_then p2 (simp (w2, w3, w4, w5, w6, w7) at c.copy-c.ensures) in
    let p4 = puts_then p3 c.copy.ensures in
    λ es e. rw (← kept_words c.args.input.now c.args.written.now l c.args.store c.args.output c.args.answer m es e refl) p4
