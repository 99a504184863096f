-- `vectors::reads::same_uses` meets its contract. The three numbers are those of the definition, and each test is one of its tests.
-- Assumes nothing.
use mathlib.Core.Path.{◌≡◌, ap, ◌∙◌}
use mathlib.Core.Bool.{Bool, true, false}
use mathlib.Core.List.{List}
use Prim.Native.Nat.{ℕ, ◌+◌, ◌-◌, ◌*◌, ◌≤◌, ◌<◌}
use native.Mathlib.Omega.{arith}
use lib.Dec.{eqb, leb}
use lib.ListN.{length, get_or, take, drop}
use borrow.Author.Tests.{eq-eqb, ne_eqb, le-leb, lt-leb}
use Rattle.vectors.specs.declared.texts.Numeral.{Numeral}
use Rattle.vectors.specs.Listed.{number_at, uses_listed, same_words, use_length, same_uses}
use Rattle.vectors.proofs.reads.same_uses.Goals as goal

third : (text : List ℕ) (a b d : Numeral) → a ≡ number_at text 0 → b ≡ number_at text a.next → d ≡ number_at text b.next → d ≡ uses_listed text
third text a b d e f g = cc

module _ (table text : List ℕ) (n : Numeral) (listed : n ≡ uses_listed text) where
  unlisted : n.value ≡ 99999 → true ≡ same_uses table text
  unfolding same_uses
  unlisted h =
      let k : eqb (uses_listed text).value 99999 ≡ true = eq-eqb (uses_listed text).value 99999 (cc) in
      rw k

  module _ (u : ℕ) (words : u ≡ get_or table 0 0) (some : n.value ≡ 99999 → ⊥) where
    are-listed : eqb (uses_listed text).value 99999 ≡ false
    are-listed = ne_eqb (uses_listed text).value 99999 (λ e. some (cc))

    too_few : length table < 3 * u + 1 → false ≡ same_uses table text
    unfolding same_uses
    too_few h =
        let k : leb (use_length table + 1) (length table) ≡ false = lt-leb (use_length table + 1) (length table) (omega arith) in
        rw (are-listed, k)

    module _ (enough : 3 * u + 1 ≤ length table) where
      are-there : leb (use_length table + 1) (length table) ≡ true
      are-there = le-leb (use_length table + 1) (length table) (omega arith)

      other-count : (n.value ≡ 3 * u + 1 - 1 → ⊥) → eqb n.value (3 * u + 1 - 1) ≡ same_uses table text
      unfolding same_uses
      other-count h =
          let k : eqb (uses_listed text).value (use_length table) ≡ false = ne_eqb (uses_listed text).value (use_length table) (λ e. h (omega (arith, ap (λ (m : Numeral). m.value) listed))) in
          rw (are-listed, are-there, k) (ne_eqb n.value (3 * u + 1 - 1) h)

      same_count : (r : Bool) → n.value ≡ 3 * u + 1 - 1 → r ≡ same_words (take (3 * u + 1 - 1) (drop 1 table)) text n.next → r ≡ same_uses table text
      unfolding same_uses
      same_count r h e =
          let k : eqb (uses_listed text).value (use_length table) ≡ true = eq-eqb (uses_listed text).value (use_length table) (omega (arith, ap (λ (m : Numeral). m.value) listed)) in
          let q : 3 * u + 1 - 1 ≡ use_length table = omega arith in
          rw (are-listed, are-there, k) (e ∙ rw (q, listed))

pub returns-then-listed-eq-UNLISTED : goal.returns-then-listed-eq-UNLISTED
returns-then-listed-eq-UNLISTED c =
    let t = third c.args.text.now c.number_at.result c.number_at-place.result c.number_at-listed.result c.number_at.ensures.value c.number_at-place.ensures.value c.number_at-listed.ensures.value in
    unlisted c.args.table.now c.args.text.now c.number_at-listed.result t c.if-listed-eq-UNLISTED.true

pub returns-then-table-end : goal.returns-then-table-end
returns-then-table-end c =
    let t = third c.args.text.now c.number_at.result c.number_at-place.result c.number_at-listed.result c.number_at.ensures.value c.number_at-place.ensures.value c.number_at-listed.ensures.value in
    too_few c.args.table.now c.args.text.now c.number_at-listed.result t c.word_at-uses.result c.word_at-uses.ensures c.if-listed-eq-UNLISTED.false c.if-table-end.true

pub returns-then-listed-end : goal.returns-then-listed-end
returns-then-listed-end c =
    let t = third c.args.text.now c.number_at.result c.number_at-place.result c.number_at-listed.result c.number_at.ensures.value c.number_at-place.ensures.value c.number_at-listed.ensures.value in
    same_count c.args.table.now c.args.text.now c.number_at-listed.result t c.word_at-uses.result c.word_at-uses.ensures c.if-listed-eq-UNLISTED.false c.if-table-end.false
    c.same_words.result c.if-listed-end.true c.same_words.ensures

pub returns-else-listed-end : goal.returns-else-listed-end
returns-else-listed-end c =
    let t = third c.args.text.now c.number_at.result c.number_at-place.result c.number_at-listed.result c.number_at.ensures.value c.number_at-place.ensures.value c.number_at-listed.ensures.value in
    other-count c.args.table.now c.args.text.now c.number_at-listed.result t c.word_at-uses.result c.word_at-uses.ensures c.if-listed-eq-UNLISTED.false c.if-table-end.false c.if-listed-end.false
