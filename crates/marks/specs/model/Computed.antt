-- What the prover computes of a row: the answer to its source (Judging), and the run of its program on both sides. No part of the paper.
use Rattle.std.specs.Prelude.{ℕ, ◌+◌, ◌*◌, Bool, true, List, leb}
use Rattle.std.proofs.Math.Option.{Option, none, some}
use Rattle.grammar.specs.Grammar.{program}
use Rattle.machine.specs.Run.{untold, End, done, over, run as go}
use Rattle.machine.specs.Machine.{Running, step, Finish, finish, start}
use Rattle.reading.specs.Judges.{Judge}
use Rattle.reading.specs.Reading.{symbols, place_in, program_in, table_words}
use Rattle.reading.proofs.Empty.{plain_judge}
use Rattle.rules.specs.Rules.{State, source}
use Rattle.translation.specs.model.Translate.{code}
use Rattle.machine.specs.model.Words.{words}
use Rattle.marks.specs.model.Judging.{Came as Source, refused, accepted, judged_of, Left, nowhere, leaves, worded}
use Rattle.marks.specs.Rows.{Run, Row, reads, runs, told, finished}

-- ---- what a row comes to

-- how the machine finished, if it stopped by itself
abbrev pub ended : End Running → Option Finish
ended (done q n o) = some (finish (done q n o))
ended (over n o m) = none

pub data Came : Type 0 where
  read : Left → Came
  ran : End State → Option Finish → Bool → Came

-- enough for every row: how deep the parser goes, and how many rules
abbrev pub fuel : ℕ
fuel = 500

-- `read` as one of the judges
abbrev pub reader : Judge
reader = plain_judge symbols table_words

abbrev pub run : List ℕ → Run → Option (Source program) → Came
run text r none = read nowhere
run text r (some (refused v)) = read nowhere
run text r (some (accepted t)) =
    let s = program_in text t in
    ran (source (place_in text) s r.input r.cells r.space fuel)
    (ended (go (step (words (code (place_in text) s))) (16 * r.steps + 16) (start r.input r.cells r.space) 0 untold))
    (leb r.done (16 * r.steps + 16))

abbrev pub comes : Row → Came
comes (reads text v w) = read (worded reader text (judged_of reader text fuel))
comes (runs text r) = run text r (judged_of reader text fuel)

-- .. and what it should come to
abbrev pub says : Row → Came
says (reads text v w) = read (leaves v w)
says (runs text r) = ran (done r.stop r.steps (told r)) (some (finished r)) true
