-- What the front end leaves in its arrays is what the passes that write code are told: nodes and rows of the source's program, its uses with the numbers of
-- what they mean, places, values and marks by symbol.
use Prim.Native.Nat.{ℕ, ◌*◌, ◌<◌}
use mathlib.Core.Path.{◌≡◌, sym, ap, subst, ◌∙◌}
use mathlib.Core.List.{List, []}
use native.Mathlib.Omega.{arith}
use lib.ListN.{length, get_or, take, replicate, length-take, length-map, length-replicate, get_or-replicate}
use lib.Seq.{get_or-take}
use Rattle.symbols.specs.Symbols.{kind, value_of}
use Rattle.symbols.specs.Scan.{values_of}
use Rattle.types.specs.model.Marks.{marks_s}
use Rattle.reading.specs.Judging.{its_program}
use Rattle.reading.specs.Reading.{place_in, Grammatical}
use Rattle.reading.specs.declared.Sizes.{Sizes}
use Rattle.reading.specs.model.Stages.{Ready, Holds}
use Rattle.reading.proofs.Passed.{rows_here_lem, uses_here, marks_here}
use Rattle.reading.proofs.Whole.{worth, letters, few, nodes_are, stands}
use Rattle.translation.proofs.Ranges.{ends, in_range}
use Rattle.translation.proofs.Lengths.{fits_words}
use Rattle.translating.proofs.Accepting.{found, few as few_found, place_inside, place_small, below_nodes, within_limits, in_order, heads, numbered, well_scoped}
use Rattle.translating.proofs.Standing.{StandS, standing}
use Rattle.translating.proofs.Emitted.{Marked}
use Rattle.translating.proofs.Coded.{Lent}

-- a word of the first ones
pub first_word : (k : ℕ) (all part : List ℕ) → take k all ≡ part → (i : ℕ) → i < length part → get_or all i 0 ≡ get_or part i 0
first_word k all part e i l = let h : i < k = omega (arith, ap length e, length-take k all) in sym (get_or-take k all i 0 h) ∙ ap (λ w. get_or w i 0) e

module _ {text kinds places values nodes rows uses was marks : List ℕ} {s : Sizes} (h : Holds text kinds places values nodes rows uses was marks s) where
  abbrev ready : Ready text places (take s.nodes nodes) s.symbols
  ready = h.declared.ready

  abbrev pub program : Grammatical text
  program = ready.program

  count_here : length (found program) ≡ s.symbols
  count_here = sym (ready.places_in.count ∙ length-map (found program) (λ f. kind f.symbol))

  -- the marks, over none, are those of the program's conditional expressions; so they stand
  marks_are : marks ≡ marks_s [] (its_program program) was
  marks_are = h.declared.marked ∙ marks_here (stands ready) h.declared.kept was

  standing_here : was ≡ replicate 2048 0 → StandS (Marked marks) [] (its_program program)
  standing_here z =
      let n : length was ≡ 2048 = ap length z ∙ length-replicate {A = ℕ} 2048 0 in
      subst (λ (m : List ℕ). StandS (Marked m) [] (its_program program)) (sym marks_are)
      (standing (worth ready) (letters ready) program.tree was (omega (arith, n, few ready)) (λ k l. ap (λ (m : List ℕ). get_or m k 0) z ∙ get_or-replicate 2048 k 0 0 (omega arith)))

  -- the marks that were lent were none
  pub lent : was ≡ replicate 2048 0 → Lent (place_in text) (length (found program)) 1 (its_program program) (take s.nodes nodes) (take s.uses uses) (take (4 * s.rows) rows) places values marks
  lent z = record {
    noded = nodes_are ready;
    rowed = rows_here_lem (stands ready) h.declared.kept;
    used = uses_here (stands ready) h.declared.kept;
    placed = λ k l. let i = place_inside program k l in let e = ready.places_in.placed k (omega (arith, count_here)) in omega arith;
    valued = numbered program values (λ k l. first_word s.symbols values (values_of (found program)) h.valued k (omega (arith, length-map (found program) (λ f. value_of f.symbol))));
    marked = standing_here z;
    few = few_found program;
    small = place_small program;
    below = below_nodes program;
    in_order = in_order program;
    headed = heads program;
    scoped = well_scoped program h.declared.faultless h.declared.typed;
    roomy = let l = within_limits program in
        record { symbols = l.symbols; ended = ends (place_in text) (its_program program) l.whole l.symbols; ranged = in_range (place_in text) (its_program program) l; fits = fits_words (place_in text) (its_program program) l };
  }
