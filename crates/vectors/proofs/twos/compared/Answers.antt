-- `vectors::twos::compared` meets its contract. A table of less than 32,768 words has no half.
-- Assumes nothing.
use mathlib.Core.Path.{◌≡◌, sym}
use mathlib.Core.Bool.{Bool}
use mathlib.Core.List.{List}
use Prim.Native.Nat.{ℕ, ◌≤◌, ◌<◌}
use native.Mathlib.Omega.{arith}
use lib.ListN.{length, take, drop}
use lib.Seq.{length-take-le}
use borrow.Author.Tests.{lt-ltb, le-ltb}
use Rattle.answers.specs.declared.Verdict.{Verdict}
use Rattle.vectors.specs.declared.tally.Tally.{Tally}
use Rattle.vectors.specs.Listed.{checked, answered_by}
use Rattle.vectors.specs.Pages.{all}
use Rattle.vectors.specs.Twos.{after_half, after_both}
use Rattle.vectors.proofs.twos.compared.Goals as goal

module _ (v v' : Verdict) (table text text' : List ℕ) (t s u r : Tally) where
  short : (a b e : Bool) → length table < 32768 → a ≡ answered_by v text → s ≡ checked a t → b ≡ answered_by v' text' → u ≡ checked b s → e ≡ all 7 table → r ≡ checked e u
      → r ≡ after_both v v' table text text' t
  unfolding after_both
  short a b e h e1 e2 e3 e4 e5 e6 = rw (lt-ltb (length table) 32768 h) (cc)

  long : (e : Bool) → 32768 ≤ length table → s ≡ after_half v (take 16384 table) text t → u ≡ after_half v' (take 16384 (drop 16384 table)) text' s → e ≡ all 7 (drop 32768 table) → r ≡ checked e u
      → r ≡ after_both v v' table text text' t
  unfolding after_both
  long e h e1 e2 e3 e4 = rw (le-ltb (length table) 32768 h) (cc)

pub returns-then-table-lt32768 : goal.returns-then-table-lt32768
returns-then-table-lt32768 c =
    let a = c.args in
    short a.a a.b a.table.now a.text.now a.other.now a.t c.check-one.result c.check-two.result c.check.result c.answered.result c.answered-then-table-lt32768.result c.all_words.result
    c.if-table-lt32768.true c.answered.ensures c.check-one.ensures c.answered-then-table-lt32768.ensures c.check-two.ensures c.all_words.ensures c.check.ensures

pub slice_bounds-half-end : goal.slice_bounds-half-end
slice_bounds-half-end c = sym (length-take-le 16384 c.args.table.now (omega (arith, c.if-table-lt32768.false)))

pub returns : goal.returns
returns c =
    let a = c.args in
    long a.a a.b a.table.now a.text.now a.other.now a.t c.half-one.result c.half-two.result c.check-2.result c.all_words-2.result
    c.if-table-lt32768.false c.half-one.ensures c.half-two.ensures c.all_words-2.ensures c.check-2.ensures
