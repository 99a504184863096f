-- The run on a part of what is lent, and what it came to.
use Prim.Native.Nat.{ℕ, ◌+◌, ◌-◌}
use mathlib.Core.Path.{◌≡◌, sym, ap}
use native.Mathlib.Omega.{arith}
use lib.ListN.{take, drop}
use lib.Seq.{length-take-le}
use Rattle.records.specs.Record.{whole}
use Rattle.records.specs.model.Scanning.{at}
use Rattle.records.proofs.Replays.{halves_read, written_inside, fresh_exit}
use Rattle.records.proofs.replaying.fresh.Goals as goal

pub slice_bounds-run-end-3 : goal.slice_bounds-run-end-3
slice_bounds-run-end-3 c = sym (length-take-le c.args.s c.args.store.now c.requires.1)

pub slice_bounds-run-end-5 : goal.slice_bounds-run-end-5
slice_bounds-run-end-5 c = sym (length-take-le c.args.o c.args.output.now c.requires.2)

pub slice_bounds-compared-end : goal.slice_bounds-compared-end
slice_bounds-compared-end c =
    let w = c.args.kept.now in
    let z : c.args.n + 1 - 1 ≡ c.args.n = omega arith in
    let i : take (c.args.n + 1 - 1) (drop 1 w) ≡ take c.args.n (drop 1 w) = ap (λ (m : ℕ). take m (drop 1 w)) z in
    let l : c.limit_of-limit.result ≡ whole (at w (c.args.n + 2)) (at w (c.args.n + 3)) = halves_read (at w (c.args.n + 2)) (at w (c.args.n + 3)) c.limit_of-arg-1.given c.limit_of-arg-2-1.given c.limit_of-limit.ensures in
    written_inside c.args.code.now w c.args.n c.args.s c.args.o c.args.store.now c.args.output.now i l c.run-ran.ensures

pub slice_bounds-compared-end-2 : goal.slice_bounds-compared-end-2
slice_bounds-compared-end-2 c =
    let w = c.args.kept.now in
    let z : c.args.n + 1 - 1 ≡ c.args.n = omega arith in
    let i : take (c.args.n + 1 - 1) (drop 1 w) ≡ take c.args.n (drop 1 w) = ap (λ (m : ℕ). take m (drop 1 w)) z in
    let l : c.limit_of-limit.result ≡ whole (at w (c.args.n + 2)) (at w (c.args.n + 3)) = halves_read (at w (c.args.n + 2)) (at w (c.args.n + 3)) c.limit_of-arg-1.given c.limit_of-arg-2-1.given c.limit_of-limit.ensures in
    sym (length-take-le _ _ (written_inside c.args.code.now w c.args.n c.args.s c.args.o c.args.store.now c.args.output.now i l c.run-ran.ensures))

pub returns : goal.returns
returns c =
    let w = c.args.kept.now in
    let z : c.args.n + 1 - 1 ≡ c.args.n = omega arith in
    let i : take (c.args.n + 1 - 1) (drop 1 w) ≡ take c.args.n (drop 1 w) = ap (λ (m : ℕ). take m (drop 1 w)) z in
    let l : c.limit_of-limit.result ≡ whole (at w (c.args.n + 2)) (at w (c.args.n + 3)) = halves_read (at w (c.args.n + 2)) (at w (c.args.n + 3)) c.limit_of-arg-1.given c.limit_of-arg-2-1.given c.limit_of-limit.ensures in
    fresh_exit c.args.code.now w c.args.n c.args.s c.args.o c.args.store.now c.args.output.now i l c.run-ran.ensures c.answer-answer.ensures c.compared.ensures
