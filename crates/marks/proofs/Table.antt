-- The table of marks holds: one law from what the prover computes of a row to what the row says, and one computation over the whole table.
use Prim.Native.Nat.{ℕ, ◌+◌, ◌*◌}
use mathlib.Core.Path.{◌≡◌, sym, subst}
use mathlib.Core.List.{List, [], ◌∷◌, ◌++◌, map}
use mathlib.Core.Bool.{true}
use mathlib.Core.Option.{Option, none, some}
use native.Mathlib.Omega.{arith}
use lib.ListN.{replicate}
use borrow.Author.Tests.{leb-true}
use Rattle.grammar.specs.Grammar.{program}
use Rattle.grammar.specs.Trees.{Syn}
use Rattle.grammar.proofs.Final.{a_program}
use Rattle.machine.specs.Machine.{machine}
use Rattle.machine.specs.Run.{done}
use Rattle.reading.specs.Reading.{symbols, table_words, place_in, program_in}
use Rattle.reading.proofs.Empty.{from_judged}
use Rattle.rules.specs.Rules.{source}
use Rattle.translation.specs.model.Translate.{code}
use Rattle.machine.specs.model.Words.{words}
use Rattle.marks.specs.Rows.{Run, Row, reads, runs, Runs, Holds, All, told, finished}
use Rattle.marks.specs.model.Judging.{Came as Source, refused, accepted, judged_of}
use Rattle.marks.specs.model.Computed.{ran, reader, fuel, run, comes, says}
use Rattle.marks.specs.Marks.{marks}
use Rattle.marks.proofs.JudgedRight.{Told, judged_right, worded_right}
use Rattle.marks.proofs.Ran.{with_more}
use Rattle.marks.proofs.Computed.{computed}

-- ---- a row of `run`

run_holds : (text : List ℕ) (r : Run) (o : Option (Source program)) → Told reader a_program text o → run text r o ≡ ran (done r.stop r.steps (told r)) (some (finished r)) true → Runs text r
run_holds text r none h e = absurd (let z : ◌≡◌ {A = ℕ} 0 1 = cc in omega arith)
run_holds text r (some (refused u)) h e = absurd (let z : ◌≡◌ {A = ℕ} 0 1 = cc in omega arith)
run_holds text r (some (accepted t)) h e = record {
  program = record { scanned = record { short = h.read.scanned.short; whole = h.read.scanned.whole }; tree = h.read.tree; keeps = h.read.keeps };
  named = h.named;
  typed = h.typed;
  rules = fuel;
  by_rules = subst (λ (x : Syn program). source (place_in text) (program_in text x) r.input r.cells r.space fuel ≡ done r.stop r.steps (told r)) (sym h.same) (cc);
  by_machine = λ behind limit l.
      subst (λ (x : Syn program). machine (words (code (place_in text) (program_in text x)) ++ replicate behind 0) r.input limit r.cells r.space ≡ finished r) (sym h.same)
      (with_more (code (place_in text) (program_in text t)) r.input (16 * r.steps + 16) r.cells r.space (finished r) (cc) behind limit l);
  few = leb-true r.done (16 * r.steps + 16) (cc);
}

-- ---- the law

pub row_holds : (r : Row) → comes r ≡ says r → Holds r
row_holds (reads text v w) e = from_judged symbols table_words (worded_right reader a_program text {v = v} {w = w} (judged_of reader text fuel) (judged_right reader a_program text fuel) (cc))
row_holds (runs text r) e = run_holds text r (judged_of reader text fuel) (judged_right reader a_program text fuel) e

-- ---- the table

pub all_hold : (l : List Row) → map comes l ≡ map says l → All l
all_hold [] e = tt
all_hold (r ∷ l) e = (row_holds r (cc), all_hold l (cc))

pub marks_hold : All marks
marks_hold = all_hold marks computed
