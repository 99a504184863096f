-- A source has one status for each input and what is lent, and what the status 0 of a run says: the source is accepted, and its program ended as the
-- source rules say.
use Prim.Native.Nat.{ℕ, ◌≤◌}
use mathlib.Core.Path.{◌≡◌, refl, sym, ap, ◌∙◌}
use mathlib.Core.Bool.{Bool, true, false, ◌&&◌}
use mathlib.Core.List.{List}
use native.Mathlib.Omega.{arith}
use lib.Dec.{ltb}
use lib.IntN.{ℤ}
use lib.ListN.{length}
use borrow.Author.Tests.{ltb-false}
use Rattle.answers.specs.Answers.{number_of}
use Rattle.answers.specs.declared.Verdict.{Verdict}
use Rattle.answers.specs.declared.Verdict.TheVariants.{Accepted, Refused}
use Rattle.answers.specs.declared.Stop.TheVariants.{Ended}
use Rattle.machine.specs.Machine.{Finish, on_code}
use Rattle.reading.specs.Judging.{its_program}
use Rattle.reading.specs.Reading.{place_in, Grammatical}
use Rattle.translation.specs.Faithful.{AsRules}
use Rattle.translating.proofs.Promised.{only, faith}
use Rattle.desk.specs.Status.{good}
use Rattle.desk.proofs.Good.{good_end}
use Rattle.paying.specs.Running.{of_run, RunStatus}

pub one_status : {strict : Bool} {text : List ℕ} {input : List ℤ} {limit cells space s s₂ : ℕ} → RunStatus strict text input limit cells space s
    → RunStatus strict text input limit cells space s₂ → s ≡ s₂
one_status {strict = strict} {input = input} {limit = limit} {cells = cells} {space = space} a b =
    let e = only a.translates b.translates in
    a.told ∙ ap (λ (v : Verdict). of_run strict (length input) v (on_code a.words input limit cells space)) e.0
    ∙ ap (λ (w : List ℕ). of_run strict (length input) b.verdict (on_code w input limit cells space)) e.1 ∙ sym b.told

good_run : (strict : Bool) (given : ℕ) (v : Verdict) (f : Finish) → good ≡ of_run strict given v f
    → (v ≡ Accepted) × (f.stop ≡ Ended) × ((strict && ltb f.taken given) ≡ false)
good_run strict given Accepted f h = let g = good_end (strict && ltb f.taken given) f.stop h in (refl, g.0, g.1)
good_run strict given (Refused r) f h = absurd (omega arith)

pub good_ended : {strict : Bool} {text : List ℕ} {input : List ℤ} {limit cells space : ℕ} → RunStatus strict text input limit cells space good → (p : Grammatical text)
    → (f : Finish) × (f.stop ≡ Ended) × AsRules (place_in text) (its_program p) input cells space limit f
good_ended {strict = strict} {input = input} {limit = limit} {cells = cells} {space = space} t p =
    let f = on_code t.words input limit cells space in
    let g = good_run strict (length input) t.verdict f t.told in
    (f, g.1, faith t.translates (ap number_of g.0) p input cells space limit)

-- with --strict each number was taken
pub good_strict : {text : List ℕ} {input : List ℤ} {limit cells space : ℕ} (t : RunStatus true text input limit cells space good)
    → length input ≤ (on_code t.words input limit cells space).taken
good_strict {input = input} {limit = limit} {cells = cells} {space = space} t =
    let f = on_code t.words input limit cells space in
    let g = good_run true (length input) t.verdict f t.told in
    ltb-false f.taken (length input) g.2
