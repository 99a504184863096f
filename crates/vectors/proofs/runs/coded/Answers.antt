-- `vectors::runs::coded` meets its contract. The tally is made of an answer and of the code that was left.
-- Assumes nothing.
use mathlib.Core.Path.{◌≡◌, sym, ◌∙◌}
use mathlib.Core.Bool.{Bool, true, false}
use mathlib.Core.List.{List}
use Prim.Native.Nat.{ℕ, ◌≤◌, ◌<◌}
use lib.Dec.{ltb}
use lib.ListN.{length}
use borrow.Author.Tests.{lt-ltb, le-ltb}
use Rattle.answers.specs.declared.Verdict.{Verdict}
use Rattle.vectors.specs.declared.tally.Tally.{Tally}
use Rattle.vectors.specs.Listed.{second_line, page_at, run_listed, one_run, checked, answered_by, accepted_by}
use Rattle.vectors.specs.Ended.{all_words, after_listed, after_refused, after_accepted, after_translate}
use Rattle.vectors.proofs.runs.coded.Goals as goal

module _ (v : Verdict) (code text : List ℕ) (t s k : Tally) (a w : Bool) (answer : a ≡ answered_by v text) (told : s ≡ checked a t) (words : w ≡ all_words code 16384 2 7) (kept : k ≡ checked w s) where
  after-refused : accepted_by v ≡ false → (r : Tally) → r ≡ after_refused code k → r ≡ after_translate v code text t
  unfolding after_translate
  after-refused h r e = rw h (cc)

  module _ (h : accepted_by v ≡ true) (from : ℕ) (second : from ≡ second_line text) where
    module _ (l : from < length text) where
      there : ltb (second_line text) (length text) ≡ true
      there = rw second at (lt-ltb from (length text) l)

      after_run : page_at text from ≡ false → (m r : Tally) → m ≡ one_run k → r ≡ after_listed code text from m → r ≡ after_translate v code text t
      unfolding after_translate after_accepted run_listed
      after_run p m r e f =
          let q : page_at text (second_line text) ≡ false = rw second at p in
          rw (h, there, q) (cc)

      after-page : page_at text from ≡ true → k ≡ after_translate v code text t
      unfolding after_translate after_accepted run_listed
      after-page p =
          let q : page_at text (second_line text) ≡ true = rw second at p in
          rw (h, there, q) (cc)

    after_none : length text ≤ from → k ≡ after_translate v code text t
    unfolding after_translate after_accepted run_listed
    after_none l =
        let b : ltb (second_line text) (length text) ≡ false = rw second at (le-ltb from (length text) l) in
        rw (h, b) (cc)

pub returns-then-not-accepted : goal.returns-then-not-accepted
returns-then-not-accepted c =
    let a = c.args in
    after-refused a.verdict a.code.now a.text.now a.t c.check-told.result c.check-kept.result c.answered.result c.all_words.result c.answered.ensures c.check-told.ensures c.all_words.ensures c.check-kept.ensures (sym c.accepted.ensures ∙ c.if-not-accepted.true) c.refused.result c.refused.ensures

pub returns-then-not-page_at : goal.returns-then-not-page_at
returns-then-not-page_at c =
    let a = c.args in
    after_run a.verdict a.code.now a.text.now a.t c.check-told.result c.check-kept.result c.answered.result c.all_words.result c.answered.ensures c.check-told.ensures c.all_words.ensures c.check-kept.ensures (sym c.accepted.ensures ∙ c.if-not-accepted.false) c.second_line-from.result c.second_line-from.ensures c.if-from-text.true (sym c.page_at.ensures ∙ c.if-not-page_at.true) c.run.result c.listed.result c.run.ensures c.listed.ensures

pub returns-else-not-page_at : goal.returns-else-not-page_at
returns-else-not-page_at c =
    let a = c.args in
    after-page a.verdict a.code.now a.text.now a.t c.check-told.result c.check-kept.result c.answered.result c.all_words.result c.answered.ensures c.check-told.ensures c.all_words.ensures c.check-kept.ensures (sym c.accepted.ensures ∙ c.if-not-accepted.false) c.second_line-from.result c.second_line-from.ensures c.if-from-text.true (sym c.page_at.ensures ∙ c.if-not-page_at.false)

pub returns-else-from-text : goal.returns-else-from-text
returns-else-from-text c =
    let a = c.args in
    after_none a.verdict a.code.now a.text.now a.t c.check-told.result c.check-kept.result c.answered.result c.all_words.result c.answered.ensures c.check-told.ensures c.all_words.ensures c.check-kept.ensures (sym c.accepted.ensures ∙ c.if-not-accepted.false) c.second_line-from.result c.second_line-from.ensures c.if-from-text.false
