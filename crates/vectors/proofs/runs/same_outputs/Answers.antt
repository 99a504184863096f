-- `vectors::runs::same_outputs` meets its contract. What was found so far, and what the numbers from i on say, is what all of them say.
-- Assumes nothing.
use mathlib.Core.Path.{◌≡◌, refl, sym, ap, ◌∙◌}
use mathlib.Core.Bool.{Bool, true, false, ◌&&◌}
use mathlib.Core.List.{List, [], ◌∷◌}
use Prim.Native.Nat.{ℕ, ◌+◌, ◌-◌, ◌<◌}
use native.Mathlib.Nat.{sub-zero}
use lib.IntN.{ℤ}
use lib.ListN.{drop}
use mir.Syntax.{w32}
use mir.Val.{to_z, of_z}
use mir.Facts.{to_z-of_z}
use Rattle.vectors.specs.declared.texts.Numeral.{Numeral}
use Rattle.vectors.specs.Listed.{number_at, whole_of}
use Rattle.vectors.specs.Ended.{numbers, after, begins}
use Rattle.vectors.proofs.Laws.{numbers_on, numbers_end, after_on, after_end, begins_one, begins_none, and_true}
use borrow.Author.Rules.{rules}
use Rattle.vectors.proofs.runs.same_outputs.Goals as goal
use Rattle.vectors.proofs.runs.same_outputs.Goals.{then-not-holds, else-not-holds}

module _ (text : List ℕ) (output : List ℤ) (count i at : ℕ) (n : Numeral) (next : n ≡ number_at text at) (h : i < count) where
  after_one : after text (count - i) at ≡ after text (count - (i + 1)) n.next
  after_one = after_on text count i at h ∙ ap (λ (m : Numeral). after text (count - (i + 1)) m.next) (sym next)

  -- by whether the output holds the next number
  one-held : (x : ℤ) (b : Bool) → x ≡ whole_of n → b ≡ begins (x ∷ []) (drop i output)
      → begins (numbers text (count - i) at) (drop i output) ≡ (b && begins (numbers text (count - (i + 1)) n.next) (drop (i + 1) output))
  one-held x b e f =
      let g : numbers text (count - i) at ≡ x ∷ numbers text (count - (i + 1)) n.next = numbers_on text count i at h ∙ rw (e, next) in
      rw (g, f) (begins_one x (numbers text (count - (i + 1)) n.next) output i)

both : (s b q : Bool) → b ≡ true → (s && (b && q)) ≡ (s && q)
both s b q e = rw e

neither : (s b q : Bool) → b ≡ false → (s && (b && q)) ≡ (false && q)
neither true b q e = rw e
neither false b q e = refl

pub loop-i-init : goal.loop-i-init
loop-i-init c = (search rules, rw sub-zero, rw sub-zero)

pub loop-i-preserved : goal.loop-i-preserved
loop-i-preserved c =
    let a = c.args in
    let l = c.loop-i in
    let n = c.number_at-n.result in
    let q = begins (numbers a.text.now (a.count - (l.i + 1)) n.next) (drop (l.i + 1) a.output.now) in
    let x : to_z w32 (of_z w32 c.whole.result) ≡ whole_of n = to_z-of_z {w = w32} {z = c.whole.result} (record { sfits = c.whole.type_inv }) ∙ c.whole.ensures in
    let f = one-held a.text.now a.output.now a.count l.i l.at n c.number_at-n.ensures.value c.loop-i-test.true (to_z w32 (of_z w32 c.whole.result)) c.holds.result x c.holds.ensures in
    let g = l.invariant.1 ∙ ap (λ (b : Bool). l.same && b) f in (
      search rules,
      elim c.if-not-holds.branch [
        | then-not-holds w ↦ g ∙ neither l.same c.holds.result q w.if-not-holds.true ∙ ap (λ (b : Bool). b && q) (sym w.same-is)
        | else-not-holds w ↦ g ∙ both l.same c.holds.result q w.if-not-holds.false ∙ ap (λ (b : Bool). b && q) (sym w.same-is)
      ],
      l.invariant.2 ∙ after_one a.text.now a.output.now a.count l.i l.at n c.number_at-n.ensures.value c.loop-i-test.true,
    )

pub returns : goal.returns
returns c =
    let a = c.args in
    let l = c.loop-i in
    let e = numbers_end a.text.now a.count l.i l.at c.loop-i-test.false in record { same_value = sym (l.invariant.1 ∙ rw (e, begins_none (drop l.i a.output.now)) (sym (and_true l.same))); next_value = sym (l.invariant.2 ∙ after_end a.text.now a.count l.i l.at c.loop-i-test.false) }
