-- `vectors::replays::told` meets its contract. The replay is counted, and a difference where it is answered otherwise. Assumes nothing.
use Prim.Native.Nat.{ℕ, min}
use mathlib.Core.Path.{◌≡◌, sym, ap, ap₂, ◌∙◌}
use mathlib.Core.Bool.{Bool}
use mathlib.Core.List.{List}
use lib.IntN.{ℤ}
use lib.ListN.{take}
use lib.Seq.{length-take-le}
use Rattle.records.specs.declared.Replayed.{Replayed}
use Rattle.records.specs.Replay.{Done, done, replay}
use Rattle.vectors.specs.declared.replays.Count.{Count}
use Rattle.vectors.specs.Ended.{fresh_store, fresh_output}
use Rattle.vectors.specs.Months.{one_replay, checked, said_by, after_replay}
use borrow.Author.Rules.{rules}
use Rattle.vectors.proofs.replays.told.Goals as goal

in-turn : (code : List ℕ) (kept : List ℤ) (store room kind place : ℕ) (t u v : Count) (s o : ℕ) (cells output s' o' : List ℤ) (a : Replayed) (same : Bool)
    → cells ≡ fresh_store
    → output ≡ fresh_output
    → s ≡ min store 16386
    → o ≡ min room 1536
    → done a s' o' ≡ replay code kept (take s cells) (take o output)
    → same ≡ said_by a kind place
    → v ≡ one_replay t
    → u ≡ checked same v
    → u ≡ after_replay code kept store room kind place t
unfolding after_replay
in-turn code kept store room kind place t u v s o cells output s' o' a same e1 e2 e3 e4 e5 e6 e7 e8 =
    let p : replay code kept (take s cells) (take o output) ≡ replay code kept (take (min store 16386) fresh_store) (take (min room 1536) fresh_output) = cc in
    let q : a ≡ (replay code kept (take (min store 16386) fresh_store) (take (min room 1536) fresh_output)).answer = ap (λ (d : Done). d.answer) (e5 ∙ p) in
    e8 ∙ ap₂ (λ (b : Bool) (w : Count). checked b w) (e6 ∙ ap (λ (x : Replayed). said_by x kind place) q) e7

pub slice_bounds-replay-end : goal.slice_bounds-replay-end
slice_bounds-replay-end c = sym (length-take-le _ _ (search rules))

pub slice_bounds-replay-end-2 : goal.slice_bounds-replay-end-2
slice_bounds-replay-end-2 c = sym (length-take-le _ _ (search rules))

pub slice_bounds-replay-end-3 : goal.slice_bounds-replay-end-3
slice_bounds-replay-end-3 c = sym (length-take-le _ _ (search rules))

pub returns : goal.returns
returns c =
    let a = c.args in
    let k = c.clipped-k in
    in-turn a.code.now (take k.result a.words.now) a.store a.room a.kind a.place a.t c.check.result c.replay.result c.clipped-s.result c.clipped-o.result c.fresh_store-cells.result c.fresh_output-output.result _ _ c.replay-answer.result c.is_said-same.result
    c.fresh_store-cells.ensures c.fresh_output-output.ensures c.clipped-s.ensures c.clipped-o.ensures c.replay-answer.ensures c.is_said-same.ensures c.replay.ensures c.check.ensures
    ∙ ap (λ (n : ℕ). after_replay a.code.now (take n a.words.now) a.store a.room a.kind a.place a.t) k.ensures
