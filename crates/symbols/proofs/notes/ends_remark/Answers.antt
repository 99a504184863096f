-- `symbols::notes::ends_remark` meets its contract. The pattern has told the symbol, or that it is none of the three.
-- Assumes nothing.
use mathlib.Core.Path.{refl, sym}
use mathlib.Core.Logic.{⊎_elim}
use Rattle.symbols.proofs.Tags.{remark_other}
use Rattle.symbols.specs.Scan.{ends_remark}
use Rattle.symbols.proofs.notes.ends_remark.Goals as goal

pub returns-in-End : goal.returns-in-End
unfolding ends_remark
returns-in-End c = ⊎_elim (λ e. rw e refl) (λ h. ⊎_elim (λ e. rw e refl) (λ e. rw e refl) h) c.in-End.is

pub returns-in_default : goal.returns-in_default
returns-in_default c = sym (remark_other c.args.s c.in_default.not-End c.in_default.not-Else c.in_default.not-Semicolon)
