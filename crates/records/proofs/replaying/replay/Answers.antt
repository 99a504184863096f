-- A record that is fine is replayed by its words; else the first bad one is said.
use Prim.Native.Nat.{◌+◌}
use mathlib.Core.Path.{◌≡◌, ◌∙◌}
use native.Mathlib.Omega.{arith}
use Rattle.std.proofs.Common.{rules}
use Rattle.records.specs.Words.{amount}
use Rattle.records.specs.model.Scanning.{at}
use Rattle.records.proofs.Replays.{word_amount, one_or_other, kept, kept_some, kept_long, answered_bad, answered_short, replayed}
use Rattle.records.proofs.replaying.replay.Goals as goal

pub returns-in-Err : goal.returns-in-Err
returns-in-Err c = answered_bad c.args.code.now c.args.kept.now c.args.store.now c.args.output.now c.in-Err.bad c.first_bad.ensures c.in-Err.is

pub bounds-kept-0 : goal.bounds-kept-0
bounds-kept-0 c =
    let w = c.args.kept.now in
    let k = kept w c.in_default.field-0 c.first_bad.ensures c.in_default.is in
    kept_some k

pub bounds-kept-n : goal.bounds-kept-n
bounds-kept-n c =
    let w = c.args.kept.now in
    let k = kept w c.in_default.field-0 c.first_bad.ensures c.in_default.is in
    let n : c.count-n.result ≡ amount (at w 0) = word_amount (at w 0) (search rules) c.count-n.ensures in
    omega (arith, kept_long k n, c.well_formed.1.0)

pub bounds-kept-n-2 : goal.bounds-kept-n-2
bounds-kept-n-2 c =
    let w = c.args.kept.now in
    let k = kept w c.in_default.field-0 c.first_bad.ensures c.in_default.is in
    let n : c.count-n.result ≡ amount (at w 0) = word_amount (at w 0) (search rules) c.count-n.ensures in
    omega (arith, kept_long k n, c.well_formed.1.0)

pub returns-then-store-s : goal.returns-then-store-s
returns-then-store-s c =
    let w = c.args.kept.now in
    let k = kept w c.in_default.field-0 c.first_bad.ensures c.in_default.is in
    let n : c.count-n.result ≡ amount (at w 0) = word_amount (at w 0) (search rules) c.count-n.ensures in
    let s : c.count-s.result ≡ amount (at w (c.count-n.result + 5)) = word_amount (at w (c.count-n.result + 5)) (search rules) c.count-s.ensures in
    let o : c.count-o.result ≡ amount (at w (c.count-n.result + 7)) = word_amount (at w (c.count-n.result + 7)) (search rules) c.count-o.ensures in
    answered_short k n s o c.args.code.now c.args.store.now c.args.output.now (one_or_other c.then-store-s.either)

pub fresh-requires : goal.fresh-requires
fresh-requires c =
    let w = c.args.kept.now in
    let k = kept w c.in_default.field-0 c.first_bad.ensures c.in_default.is in
    let n : c.count-n.result ≡ amount (at w 0) = word_amount (at w 0) (search rules) c.count-n.ensures in
    (kept_long k n, c.if-store-s.false, c.if-output-o.false)

pub returns : goal.returns
returns c =
    let w = c.args.kept.now in
    let k = kept w c.in_default.field-0 c.first_bad.ensures c.in_default.is in
    let n : c.count-n.result ≡ amount (at w 0) = word_amount (at w 0) (search rules) c.count-n.ensures in
    let s : c.count-s.result ≡ amount (at w (c.count-n.result + 5)) = word_amount (at w (c.count-n.result + 5)) (search rules) c.count-s.ensures in
    let o : c.count-o.result ≡ amount (at w (c.count-n.result + 7)) = word_amount (at w (c.count-n.result + 7)) (search rules) c.count-o.ensures in
    c.fresh.ensures ∙ replayed k n s o c.args.code.now c.args.store.now c.args.output.now c.if-store-s.false c.if-output-o.false
