-- No difference of a pair of schemes, or of a source behind a prelude, is forgotten: where the count is 0 at the end, each pair was answered and left as is listed,
-- and each source left behind a prelude what it leaves by itself. Assumes nothing.
use mathlib.Core.Path.{◌≡◌, refl, sym, ◌∙◌}
use mathlib.Core.Bool.{Bool, true, false, cond, true≢false}
use mathlib.Core.List.{List}
use Prim.Native.Nat.{ℕ, ◌+◌, ◌*◌, ◌≤◌, min}
use native.Mathlib.Omega.{arith}
use lib.Dec.{ltb}
use lib.ListN.{length, get_or, take, drop}
use Rattle.answers.specs.declared.Verdict.{Verdict}
use Rattle.vectors.specs.declared.tally.Tally.{Tally}
use Rattle.vectors.specs.Listed.{one_source, checked, answered_by, accepted_by}
use Rattle.vectors.specs.Pages.{all}
use Rattle.vectors.specs.Twos.{half_by, after_half, after_both, BothTold, SchemeTold, SchemesTold, too_few, enough, PairTold, Pairs, none as no-pair, more as one-pair, same_from, over_by, after_behind, BehindTold, SourceTold, refused as not-read, alone as alone-so, uses as uses-so, Sources, no_source, one_source_lem}
use Rattle.vectors.proofs.Forgotten.{Kept, keep, then, check_keeps, either_keeps, translate_keeps, none_before, right_check}

-- ---- the pairs of schemes

half_keeps : (v : Verdict) (half text : List ℕ) (t : Tally) → t.differences ≤ 4294967295 → Kept (checked (answered_by v text) t) (after_half v half text t)
unfolding after_half
half_keeps v half text t h = check_keeps (half_by v half text) (checked (answered_by v text) t) (check_keeps (answered_by v text) t h).below

module _ (v v' : Verdict) (table text text' : List ℕ) (t : Tally) (h : t.differences ≤ 4294967295) where
  first_told : Kept t (checked (answered_by v text) t)
  first_told = check_keeps (answered_by v text) t h

  second_told : Kept (checked (answered_by v text) t) (checked (answered_by v' text') (checked (answered_by v text) t))
  second_told = check_keeps (answered_by v' text') (checked (answered_by v text) t) first_told.below

  as_before : Kept (checked (answered_by v' text') (checked (answered_by v text) t)) (checked (all 7 table) (checked (answered_by v' text') (checked (answered_by v text) t)))
  as_before = check_keeps (all 7 table) (checked (answered_by v' text') (checked (answered_by v text) t)) second_told.below

  abbrev one : Tally
  one = after_half v (take 16384 table) text t

  abbrev two : Tally
  two = after_half v' (take 16384 (drop 16384 table)) text' one

  first_half : Kept (checked (answered_by v text) t) one
  first_half = half_keeps v (take 16384 table) text t h

  second_answer : Kept one (checked (answered_by v' text') one)
  second_answer = check_keeps (answered_by v' text') one first_half.below

  second_half : Kept (checked (answered_by v' text') one) two
  second_half = half_keeps v' (take 16384 (drop 16384 table)) text' one first_half.below

  beyond_both : Kept two (checked (all 7 (drop 32768 table)) two)
  beyond_both = check_keeps (all 7 (drop 32768 table)) two second_half.below

  both_keep : Kept t (after_both v v' table text text' t)
  unfolding after_both
  both_keep = either_keeps (ltb (length table) 32768) (then first_told (then second_told as_before)) (then first_told (then first_half (then second_answer (then second_half beyond_both))))

both_told_keeps : {prelude first second old text text' : List ℕ} {t r : Tally} → BothTold prelude first second old text text' t r → t.differences ≤ 4294967295 → Kept t r
both_told_keeps {text = text} {text' = text'} {t = t} b h = rw b.told (both_keep b.verdict b.verdict' b.table text text' t h)

scheme_told : {prelude scheme text : List ℕ} {t r : Tally} (s : SchemeTold prelude scheme text t r) → t.differences ≤ 4294967295 → Kept (checked (answered_by s.verdict text) t) r
scheme_told {text = text} {t = t} s h = rw s.told (translate_keeps s.verdict text t h s.code)

scheme_keeps : {prelude scheme text : List ℕ} {t r : Tally} → SchemeTold prelude scheme text t r → t.differences ≤ 4294967295 → Kept t r
scheme_keeps {text = text} {t = t} s h = then (check_keeps (answered_by s.verdict text) t h) (scheme_told s h)

schemes_keep : {prelude first second text text' : List ℕ} {n : ℕ} {t r : Tally} → SchemesTold prelude first second n text text' t r → t.differences ≤ 4294967295 → Kept t r
schemes_keep {t = t} (too_few l) h = keep t h
schemes_keep (enough l a b) h =
    let x = scheme_keeps a h in
    then x (scheme_keeps b x.below)

pair_read : {prelude first second text text' : List ℕ} {n : ℕ} {t r : Tally} (p : PairTold prelude first second n text text' t r) → t.differences ≤ 4294967295 → Kept t p.between
pair_read p h =
    let a = both_told_keeps p.was_read h in
    record { below = a.below; no_less = a.no_less }

pair_keeps : {prelude first second text text' : List ℕ} {n : ℕ} {t r : Tally} → PairTold prelude first second n text text' t r → t.differences ≤ 4294967295 → Kept t r
pair_keeps p h =
    let a = pair_read p h in
    then a (schemes_keep p.was_translated a.below)

pub pairs_small : {n : ℕ} {t : Tally} → Pairs n t → t.differences ≤ 4294967295
pairs_small no-pair = omega arith
pairs_small (one-pair ps row) = (pair_keeps row.told (pairs_small ps)).below

-- ---- a source behind a prelude

module _ (v v' : Verdict) (words table : List ℕ) (n : ℕ) (t : Tally) (h : t.differences ≤ 4294967295) where
  one_counted : Kept t (one_source t)
  one_counted = record { below = h; no_less = omega arith }

  both_accepted : Kept t (checked (accepted_by v') (one_source t))
  both_accepted = then one_counted (check_keeps (accepted_by v') (one_source t) one_counted.below)

  first_same : Kept (checked (accepted_by v') (one_source t)) (checked (same_from table words 0 0 n) (checked (accepted_by v') (one_source t)))
  first_same = check_keeps (same_from table words 0 0 n) (checked (accepted_by v') (one_source t)) both_accepted.below

  second_same : Kept (checked (same_from table words 0 0 n) (checked (accepted_by v') (one_source t))) (checked (same_from table words 16384 0 n) (checked (same_from table words 0 0 n) (checked (accepted_by v') (one_source t))))
  second_same = check_keeps (same_from table words 16384 0 n) (checked (same_from table words 0 0 n) (checked (accepted_by v') (one_source t))) first_same.below

  after_behind_keeps : Kept t (after_behind v v' words table n t)
  unfolding after_behind
  after_behind_keeps =
      either_keeps (accepted_by v) (then both_accepted (then first_same second_same)) (check_keeps (over_by v v') t h)

behind_keeps : {prelude source table : List ℕ} {n : ℕ} {t r : Tally} → BehindTold prelude source table n t r → t.differences ≤ 4294967295 → Kept t r
behind_keeps {table = table} {n = n} {t = t} b h = rw b.told (after_behind_keeps b.verdict b.verdict' b.words table n t h)

source_keeps : {source : List ℕ} {named : Bool} {t r : Tally} → SourceTold source named t r → t.differences ≤ 4294967295 → Kept t r
source_keeps {t = t} (not-read q e) h = keep t h
source_keeps (alone-so q e d b) h = behind_keeps b h
source_keeps (uses-so q e d b) h = behind_keeps b h

pub sources_small : {n : ℕ} {named : Bool} {t : Tally} → Sources n named t → t.differences ≤ 4294967295
sources_small no_source = omega arith
sources_small (one_source_lem ss source r s) = (source_keeps s (sources_small ss)).below

-- ---- no difference

-- behind a prelude a source was refused by 4, or left the words that it leaves by itself, twice
pub record BehindRight (v v' : Verdict) (words table : List ℕ) (n : ℕ) : Type 0 where
  pub taken : accepted_by v ≡ true → (accepted_by v' ≡ true) × (same_from table words 0 0 n ≡ true) × (same_from table words 16384 0 n ≡ true)
  pub over : accepted_by v ≡ false → over_by v v' ≡ true

after_behind_right : (v v' : Verdict) (words table : List ℕ) (n : ℕ) (t : Tally) → t.differences ≤ 4294967295 → (after_behind v v' words table n t).differences ≡ 0 → BehindRight v v' words table n
unfolding after_behind
after_behind_right v v' words table n t h z = record { taken = yes (accepted_by v) z; over = no (accepted_by v) z }
  where
    last : Tally
    last = checked (same_from table words 16384 0 n) (checked (same_from table words 0 0 n) (checked (accepted_by v') (one_source t)))

    other : Tally
    other = checked (over_by v v') t

    yes : (b : Bool) → (cond b last other).differences ≡ 0 → b ≡ true
        → (accepted_by v' ≡ true) × (same_from table words 0 0 n ≡ true) × (same_from table words 16384 0 n ≡ true)
    yes true z e =
        let second = none_before (second_same v v' words table n t h) z in
        (right_check _ _ (none_before (first_same v v' words table n t h) second), right_check _ _ second, right_check _ _ z)
    yes false z e = absurd (true≢false (sym e))

    no : (b : Bool) → (cond b last other).differences ≡ 0 → b ≡ false → over_by v v' ≡ true
    no true z e = absurd (true≢false e)
    no false z e = right_check _ t z

behind_right : {prelude source table : List ℕ} {n : ℕ} {t r : Tally} (b : BehindTold prelude source table n t r) → t.differences ≤ 4294967295 → r.differences ≡ 0 → BehindRight b.verdict b.verdict' b.words table n
behind_right {table = table} {n = n} {t = t} b h z = after_behind_right b.verdict b.verdict' b.words table n t h (rw b.told at z)

unfoldable pub SourceRight : {source : List ℕ} {named : Bool} {t r : Tally} → SourceTold source named t r → Type 0
SourceRight (not-read q e) = Unit {0}
SourceRight (alone-so {table = table} q e d b) = BehindRight b.verdict b.verdict' b.words table 16384
SourceRight (uses-so {table = table} q e d b) = BehindRight b.verdict b.verdict' b.words table (min (3 * get_or table 0 0 + 1) 16384)

source_right : {source : List ℕ} {named : Bool} {t r : Tally} (s : SourceTold source named t r) → t.differences ≤ 4294967295 → r.differences ≡ 0 → SourceRight s
unfolding SourceRight
source_right (not-read q e) h z = tt
source_right (alone-so q e d b) h z = behind_right b h z
source_right (uses-so q e d b) h z = behind_right b h z

unfoldable pub SourcesRight : {n : ℕ} {named : Bool} {t : Tally} → Sources n named t → Type 0
SourcesRight no_source = Unit {0}
SourcesRight (one_source_lem ss source r s) = SourcesRight ss × SourceRight s

pub no_difference_of_sources : {n : ℕ} {named : Bool} {t : Tally} (ss : Sources n named t) → t.differences ≡ 0 → SourcesRight ss
unfolding SourcesRight
no_difference_of_sources no_source z = tt
no_difference_of_sources (one_source_lem ss source r s) z =
    let h = sources_small ss in
    (no_difference_of_sources ss (none_before (source_keeps s h) z), source_right s h z)

-- both schemes of a pair were answered as is listed; too short a table was left, else each half is right and the words behind them were left
pub record HalvesRight (v v' : Verdict) (table text text' : List ℕ) : Type 0 where
  pub first : answered_by v text ≡ true
  pub second : answered_by v' text' ≡ true
  pub short : ltb (length table) 32768 ≡ true → all 7 table ≡ true
  pub long : ltb (length table) 32768 ≡ false
      → (half_by v (take 16384 table) text ≡ true) × (half_by v' (take 16384 (drop 16384 table)) text' ≡ true) × (all 7 (drop 32768 table) ≡ true)

half_right : (v : Verdict) (half text : List ℕ) (t : Tally) → (after_half v half text t).differences ≡ 0 → half_by v half text ≡ true
unfolding after_half
half_right v half text t z = right_check _ (checked (answered_by v text) t) z

both_right : (v v' : Verdict) (table text text' : List ℕ) (t : Tally) → t.differences ≤ 4294967295 → (after_both v v' table text text' t).differences ≡ 0 → HalvesRight v v' table text text'
unfolding after_both
both_right v v' table text text' t h = go (ltb (length table) 32768) refl
  where
    few : Tally
    few = checked (all 7 table) (checked (answered_by v' text') (checked (answered_by v text) t))

    many : Tally
    many = checked (all 7 (drop 32768 table)) (two v v' table text text' t h)

    go : (b : Bool) → ltb (length table) 32768 ≡ b → (cond b few many).differences ≡ 0 → HalvesRight v v' table text text'
    go true q z =
        let y = none_before (as_before v v' table text text' t h) z in
        record {
          first = right_check _ t (none_before (second_told v v' table text text' t h) y);
          second = right_check _ _ y;
          short = λ e. right_check _ _ z;
          long = λ e. absurd (true≢false (sym q ∙ e));
        }
    go false q z =
        let y = none_before (beyond_both v v' table text text' t h) z in
        let x = none_before (second_half v v' table text text' t h) y in
        let w = none_before (second_answer v v' table text text' t h) x in
        record {
          first = right_check _ t (none_before (first_half v v' table text text' t h) w);
          second = right_check _ _ x;
          short = λ e. absurd (true≢false (sym e ∙ q));
          long = λ e. (half_right v (take 16384 table) text t w, half_right v' (take 16384 (drop 16384 table)) text' (one v v' table text text' t h) y, right_check _ _ z);
        }

-- where enough words were lent, both were translated with the answers that are listed
unfoldable pub SchemesRight : {prelude first second text text' : List ℕ} {n : ℕ} {t r : Tally} → SchemesTold prelude first second n text text' t r → Type 0
SchemesRight (too_few l) = Unit {0}
SchemesRight {text = text} {text' = text'} (enough l a b) = (answered_by a.verdict text ≡ true) × (answered_by b.verdict text' ≡ true)

schemes_right : {prelude first second text text' : List ℕ} {n : ℕ} {t r : Tally} (s : SchemesTold prelude first second n text text' t r) → t.differences ≤ 4294967295 → r.differences ≡ 0 → SchemesRight s
unfolding SchemesRight
schemes_right (too_few l) h z = tt
schemes_right (enough l a b) h z =
    let k = (scheme_keeps a h).below in
    (right_check _ _ (none_before (scheme_told a h) (none_before (scheme_keeps b k) z)), right_check _ _ (none_before (scheme_told b k) z))

unfoldable pub PairsRight : {n : ℕ} {t : Tally} → Pairs n t → Type 0
PairsRight no-pair = Unit {0}
PairsRight (one-pair ps row) =
    let p = row.told in
    PairsRight ps × HalvesRight p.was_read.verdict p.was_read.verdict' p.was_read.table row.text row.text' × SchemesRight p.was_translated

pub no_difference_of_pairs : {n : ℕ} {t : Tally} (ps : Pairs n t) → t.differences ≡ 0 → PairsRight ps
unfolding PairsRight
no_difference_of_pairs no-pair z = tt
no_difference_of_pairs (one-pair ps row) z =
    let k = pairs_small ps in
    let p = row.told in
    let b = p.was_read in
    let y = none_before (schemes_keep p.was_translated (pair_read p k).below) z in (
      no_difference_of_pairs ps (none_before (pair_keeps p k) z),
      both_right b.verdict b.verdict' b.table row.text row.text' _ k (rw b.told at y),
      schemes_right p.was_translated (pair_read p k).below z,
    )
