-- How the code goes through sets, one run after the other: what is found before a run begins, and what holds between two runs. No part of the paper.
use Rattle.std.specs.Prelude.{ℕ, ◌+◌, ◌*◌, ◌≤◌, ◌<◌, ◌≡◌, true, false, List, [], ◌∷◌, ◌++◌, map, ℤ, pos, nat_abs, length, replicate, drop, Result, Ok, Err}
use Rattle.machine.specs.Machine.{Finish, used}
use Rattle.records.specs.Words.{bad, read, singles, section_words, is_answer}
use Rattle.reporting.specs.declared.Refused.{Refused}
use Rattle.reporting.specs.declared.Refused.TheVariants.{TooMany, Bad}
use Rattle.reporting.specs.declared.Going.{Going}
use Rattle.reporting.specs.declared.Report.{Report}
use Rattle.reporting.specs.Orders.{Rearranged}
use Rattle.reporting.specs.Sets.{sets_layout, sets_words, too_many}
use Rattle.reporting.specs.Report.{answer_of, report_of, runs}

-- the words are those of n sets, no more than are taken
pub record SetsIn (ws : List ℤ) (n : ℕ) : Type 0 where
  pub ss : List (List ℤ)
  pub words : sets_words ss ≡ ws
  pub many : length ss ≡ n
  pub few : n ≤ 65535

-- before any run
abbrev pub Begins : List ℤ → Result ℕ Refused → Type 0
Begins ws (Ok n) = SetsIn ws n
Begins ws (Err TooMany) = too_many ws ≡ true
Begins ws (Err (Bad i)) = (too_many ws ≡ false) × (read sets_layout ws ≡ bad i)

-- ---- between two runs

-- runs whose answers are those of runs
pub data Known : List Finish → Type 0 where
  no_run : Known []
  a_run : {f : Finish} {fs : List Finish} → is_answer (answer_of f) ≡ true → Known fs → Known (f ∷ fs)

-- a store as a run leaves it
abbrev pub cleared : List ℤ → List ℤ
cleared store = replicate (2 * used store) (pos 0) ++ drop (2 * used store) store

-- so far: the runs that are done and those of the sets that are left are all runs, in some order
pub record Gathering (code : List ℕ) (ws : List ℤ) (ss : List (List ℤ)) (limit : ℕ) (store₀ output₀ store output : List ℤ) (n : ℕ) (r : Report) (left at : ℕ) : Type 0 where
  pub ds : List Finish
  pub rest : List (List ℤ)
  pub report : r ≡ report_of ds
  pub known : Known ds
  pub bound : nat_abs r.sum ≤ 2147483648 * length ds
  pub many : length ds + left ≡ n
  pub left_is : left ≡ length rest
  pub words : drop at ws ≡ section_words (map singles rest)
  pub all : Rearranged (ds ++ runs code limit (used store₀) (length output₀) rest) (runs code limit (used store₀) (length output₀) ss)
  pub long_store : length store ≡ length store₀
  pub long_output : length output ≡ length output₀
  pub behind : drop (2 * used store₀) store ≡ drop (2 * used store₀) store₀
  pub untouched : length ds ≡ 0 → store ≡ store₀
  pub zeroed : 0 < length ds → store ≡ cleared store₀

-- the runs of some sets, begun with some store and output, have come as far as this, and one more set is left
pub record Underway (code : List ℕ) (ws : List ℤ) (limit : ℕ) (store output : List ℤ) (g : Going) : Type 0 where
  pub ss : List (List ℤ)
  pub store₀ : List ℤ
  pub output₀ : List ℤ
  pub n : ℕ
  pub few : n ≤ 65535
  pub so_far : Gathering code ws ss limit store₀ output₀ store output n g.report g.left g.at
  pub more : 0 < g.left

-- whatever they are, they come one run further
abbrev pub Further : List ℕ → List ℤ → ℕ → List ℤ → List ℤ → Going → List ℤ → List ℤ → Going → Type 0
Further code ws limit store output g store' output' g' =
    (ss : List (List ℤ)) (store₀ output₀ : List ℤ) (n : ℕ) → n ≤ 65535
    → Gathering code ws ss limit store₀ output₀ store output n g.report g.left g.at
    → Gathering code ws ss limit store₀ output₀ store' output' n g'.report g'.left g'.at
