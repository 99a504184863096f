-- `asking::sorts::is_named` meets its contract. The bytes before the first blank are compared.
-- Assumes nothing.
use Prim.Native.Nat.{ℕ}
use mathlib.Core.Path.{◌≡◌, sym, ap, ◌∙◌}
use mathlib.Core.List.{List}
use native.Mathlib.Omega.{arith}
use lib.ListN.{length, take, drop, length-drop}
use lib.Seq.{length-take-le}
use Rattle.symbols.specs.Names.{equal}
use Rattle.symbols.specs.Scan.{before}
use Rattle.symbols.proofs.Laws.{before_most, before_take}
use Rattle.asking.specs.Sorts.{is_named}
use Rattle.asking.proofs.sorts.is_named.Goals as goal

pub slice_bounds-same_bytes-end : goal.slice_bounds-same_bytes-end
slice_bounds-same_bytes-end c =
    let s = c.args.row.now in
    sym (length-take-le _ _ (omega (arith, c.find-n.ensures, before_most 32 (drop 0 s), length-drop 0 s)))

pub returns : goal.returns
unfolding is_named
returns c =
    let s = c.args.row.now in
    let w = c.args.word.now in
    let e : c.find-n.result ≡ length (before 32 s) = omega (arith, c.find-n.ensures) in
    c.same_bytes.ensures ∙ ap (λ (x : ℕ). equal (take x s) w) e ∙ ap (λ (x : List ℕ). equal x w) (before_take 32 s)
