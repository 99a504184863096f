-- `emitting::layout::procedured` meets its contract: the scope opens, then the activation is its own.
-- Assumes nothing.
use mathlib.Core.Path.{ap}
use mathlib.Core.List.{[]}
use lib.ListN.{set}
use Prim.Native.Nat.{◌+◌}
use Rattle.emitting.specs.model.Layout.{Laying, packed, one_of, blocked, procedured}
use Rattle.emitting.proofs.layout.procedured.Goals as goal

pub returns : goal.returns
unfolding procedured blocked
returns c =
    let s = c.args.t.sort in
    let w = set c.args.table.now c.args.t.declared (packed c.args.t.level (one_of s) 0) in
    rw (c.set_word.ensures, c.packed.ensures.value, c.one_of-one.ensures)
    (ap (λ (z : Laying). record { sort = z.sort; level = z.level + 1; reach = one_of s; around = z.around; declared = z.declared + 1; table = w }) (c.blocked-r.ensures.by_index []))
