-- `symbols::notes::behind` meets its contract. Each arm has told the symbol; the last, that it is none of the three.
-- Assumes nothing.
use mathlib.Core.Path.{refl, sym}
use mathlib.Core.Logic.{⊎_elim}
use Rattle.symbols.proofs.Tags.{behind_other}
use Rattle.symbols.specs.Scan.{behind}
use Rattle.symbols.proofs.notes.behind.Goals as goal

pub returns-in-Semicolon : goal.returns-in-Semicolon
unfolding behind
returns-in-Semicolon c = ⊎_elim (λ e. rw e refl) (λ e. rw e refl) c.in-Semicolon.is

pub returns-in-End : goal.returns-in-End
unfolding behind
returns-in-End c = simp c.in-End.is

pub returns-in_default : goal.returns-in_default
returns-in_default c = sym (behind_other c.args.s c.in_default.not-Semicolon c.in_default.not-Begin c.in_default.not-End)
