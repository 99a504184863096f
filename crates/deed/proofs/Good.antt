-- What the status 0 of a source that is written says: it is accepted, and what is said is its page.
use Rattle.std.proofs.Common.{Result, Ok, Err}
use Prim.Native.Nat.{ℕ}
use mathlib.Core.Path.{◌≡◌, refl, sym, ap, ◌∙◌}
use mathlib.Core.List.{List}
use native.Mathlib.Omega.{arith}
use lib.ListN.{replicate}
use Rattle.answers.specs.declared.Refusal.{Refusal}
use Rattle.clean.proofs.Promises.{Wrote, wrote, only as only-page}
use Rattle.desk.specs.Status.{good}
use Rattle.deed.specs.Status.{of_written, WriteStatus}

pub one_write_status : {text : List ℕ} {s s₂ : ℕ} → WriteStatus text s → WriteStatus text s₂ → s ≡ s₂
one_write_status a b = a.told ∙ ap of_written (only-page a.writes b.writes).0 ∙ sym b.told

good_text : (w : Result ℕ Refusal) → good ≡ of_written w → (n : ℕ) × (w ≡ Ok n)
good_text (Ok n) h = (n, refl)
good_text (Err r) h = absurd (omega arith)

pub good_written : {text : List ℕ} (t : WriteStatus text good) → (n : ℕ) × Wrote text (replicate 16384 0) t.page n
good_written t =
    let g = good_text t.written t.told in
    (g.0, wrote t.writes g.0 g.1)
