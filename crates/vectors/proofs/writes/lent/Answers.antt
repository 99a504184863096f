-- `vectors::writes::lent` meets its contract. The answer and the page are compared with the listed ones, which stand one behind the other.
-- Assumes nothing.
use Rattle.std.proofs.Common.{Result}
use mathlib.Core.Path.{◌≡◌}
use mathlib.Core.Bool.{Bool}
use mathlib.Core.List.{List}
use Prim.Native.Nat.{ℕ, ◌-◌, min}
use native.Mathlib.Omega.{arith}
use lib.ListN.{length, take, drop, length-drop}
use lib.Seq.{take_all}
use Rattle.answers.specs.declared.Refusal.{Refusal}
use Rattle.clean.specs.Numbers.{length_of}
use Rattle.vectors.specs.declared.texts.Numeral.{Numeral}
use Rattle.vectors.specs.declared.tally.Tally.{Tally}
use Rattle.vectors.specs.Listed.{number_at, checked}
use Rattle.vectors.specs.Pages.{same_page, numbered, after_lent}
use Rattle.vectors.proofs.writes.lent.Goals as goal

in-turn : (w : Result ℕ Refusal) (after text : List ℕ) (from n start : ℕ) (t s u : Tally) (x y : Numeral) (a b : Bool)
    → x ≡ number_at text from
    → y ≡ number_at text x.next
    → start ≡ min y.next (length text)
    → a ≡ numbered w x.value y.value
    → s ≡ checked a t
    → n ≡ length_of w
    → b ≡ same_page after n (take (length text - start) (drop start text))
    → u ≡ checked b s
    → u ≡ after_lent w after text from t
unfolding after_lent
in-turn w after text from n start t s u x y a b e1 e2 e3 e4 e5 e6 e7 e8 =
    let whole : take (length text - start) (drop start text) ≡ drop start text = take_all (length text - start) (drop start text) (omega (arith, length-drop start text)) in
    cc

pub shape_of-room : goal.shape_of-room
shape_of-room c = c.room-1.given

pub returns : goal.returns
returns c =
    let a = c.args in
    let w = c.write-w.result in
    let after = c.write-w.new.room in
    record {
      answer = w;
      after = after;
      writes = c.write-w.ensures;
      told = in-turn w after a.text.now a.from c.length.result c.clipped-start.result a.t c.check-told.result c.check.result c.number_at-answer.result c.number_at-place.result c.is_answer.result c.same_page.result c.number_at-answer.ensures.value c.number_at-place.ensures.value c.clipped-start.ensures c.is_answer.ensures c.check-told.ensures c.length.ensures c.same_page.ensures c.check.ensures;
    }
