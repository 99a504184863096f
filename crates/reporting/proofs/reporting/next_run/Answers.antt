-- The next set stands where the words of the sets that are left begin; its run is one of the runs, and joins those that are done.
use Prim.Native.Nat.{ℕ, ◌+◌, ◌-◌}
use mathlib.Core.Path.{◌≡◌, sym, ap, ◌∙◌}
use native.Mathlib.Omega.{arith}
use lib.IntN.{pos}
use lib.ListN.{length, get_or}
use lib.Seq.{length-take-le}
use Rattle.records.specs.Words.{amount}
use Rattle.records.proofs.Replays.{word_amount}
use Rattle.reporting.proofs.Runs.{small_enough, the_next, input_is, written_within, gathering_on}
use Rattle.reporting.proofs.reporting.next_run.Goals as goal

pub overflow_add-from : goal.overflow_add-from
overflow_add-from c =
    let a = c.args in
    let u = c.requires in
    let t = the_next u.so_far u.few u.more in
    omega (arith, t.inside, c.well_formed.1.0)

pub offset_bounds-sets-at : goal.offset_bounds-sets-at
offset_bounds-sets-at c =
    let a = c.args in
    let u = c.requires in
    let t = the_next u.so_far u.few u.more in
    omega (arith, t.inside, c.well_formed.1.0)

pub bounds-sets-at : goal.bounds-sets-at
bounds-sets-at c =
    let a = c.args in
    let u = c.requires in
    let t = the_next u.so_far u.few u.more in
    omega (arith, t.inside, c.well_formed.1.0)

pub overflow_add-to : goal.overflow_add-to
overflow_add-to c =
    let a = c.args in
    let u = c.requires in
    let t = the_next u.so_far u.few u.more in
    let m : c.count.result ≡ length t.xs = word_amount (get_or a.sets.now a.g.at (pos 0)) c.count-arg-1.given c.count.ensures ∙ ap amount t.its_count in
    omega (arith, t.inside, m, c.well_formed.1.0)

pub offset_bounds-sets-from : goal.offset_bounds-sets-from
offset_bounds-sets-from c =
    let a = c.args in
    let u = c.requires in
    let t = the_next u.so_far u.few u.more in
    let m : c.count.result ≡ length t.xs = word_amount (get_or a.sets.now a.g.at (pos 0)) c.count-arg-1.given c.count.ensures ∙ ap amount t.its_count in
    omega (arith, t.inside, m, c.well_formed.1.0)

pub slice_bounds-run-end : goal.slice_bounds-run-end
slice_bounds-run-end c =
    let a = c.args in
    let u = c.requires in
    let t = the_next u.so_far u.few u.more in
    let m : c.count.result ≡ length t.xs = word_amount (get_or a.sets.now a.g.at (pos 0)) c.count-arg-1.given c.count.ensures ∙ ap amount t.its_count in
    omega (arith, t.inside, m, c.well_formed.1.0)

pub slice_bounds-tallied-end : goal.slice_bounds-tallied-end
slice_bounds-tallied-end c =
    let a = c.args in
    let u = c.requires in
    let t = the_next u.so_far u.few u.more in
    let m : c.count.result ≡ length t.xs = word_amount (get_or a.sets.now a.g.at (pos 0)) c.count-arg-1.given c.count.ensures ∙ ap amount t.its_count in
    written_within u.so_far u.few u.more _ (input_is u.so_far u.few u.more m) c.run-ran.ensures

pub slice_bounds-tallied-end-2 : goal.slice_bounds-tallied-end-2
slice_bounds-tallied-end-2 c =
    let a = c.args in
    let u = c.requires in
    let t = the_next u.so_far u.few u.more in
    let m : c.count.result ≡ length t.xs = word_amount (get_or a.sets.now a.g.at (pos 0)) c.count-arg-1.given c.count.ensures ∙ ap amount t.its_count in
    sym (length-take-le _ _ (written_within u.so_far u.few u.more _ (input_is u.so_far u.few u.more m) c.run-ran.ensures))

pub tallied-report-requires : goal.tallied-report-requires
tallied-report-requires c =
    let u = c.requires in
    small_enough u.so_far u.few u.more

pub overflow_sub-going : goal.overflow_sub-going
overflow_sub-going c = omega (arith, c.requires.more)

pub returns : goal.returns
returns c =
    let a = c.args in
    let u = c.requires in
    let t = the_next u.so_far u.few u.more in
    let m : c.count.result ≡ length t.xs = word_amount (get_or a.sets.now a.g.at (pos 0)) c.count-arg-1.given c.count.ensures ∙ ap amount t.its_count in
    let w = written_within u.so_far u.few u.more _ (input_is u.so_far u.few u.more m) c.run-ran.ensures in
    let l : a.g.left - 1 + 1 ≡ a.g.left = omega (arith, u.more) in record {
      left_value = l;
      written_in_bounds = w;
      further = λ ss store₀ output₀ n few g.
          let v = the_next g few u.more in
          let k : c.count.result ≡ length v.xs = word_amount (get_or a.sets.now a.g.at (pos 0)) c.count-arg-1.given c.count.ensures ∙ ap amount v.its_count in
          gathering_on g few u.more _ (input_is g few u.more k) c.run-ran.ensures c.answer-answer.ensures (ap (λ (j : ℕ). a.g.at + 1 + j) k) c.tallied-report.ensures.value c.tallied-report.ensures.sum_bound c.run-ran.auto.store c.run-ran.auto.output;
    }
