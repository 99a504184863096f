-- `reading::behind::joined` meets its contract: what the loops leave stands for the passes as the one program. Assumes nothing.
use mathlib.Core.Path.{◌≡◌, sym, ap, ◌∙◌}
use Prim.Native.Nat.{ℕ}
use mathlib.Core.List.{List, ◌++◌}
use lib.ListN.{length, take, length-take}
use Rattle.reading.proofs.Page.{page_length}
use native.Mathlib.Omega.{arith}
use Rattle.reading.proofs.BothStand.{few_both, places_small, symbols_small, nodes_enough, told_both}
use Rattle.reading.proofs.behind.joined.Goals as goal

pub beyond-requires : goal.beyond-requires
beyond-requires c = (omega (arith, few_both c.requires), places_small c.requires)

pub shift-requires : goal.shift-requires
shift-requires c = (omega (arith, nodes_enough c.requires), omega (arith, few_both c.requires), symbols_small c.requires)

pub around-words-requires : goal.around-words-requires
around-words-requires c = omega (arith, nodes_enough c.requires, length-take c.args.before c.args.first.now, length-take c.args.behind c.shift.new.nodes)

pub page-requires : goal.page-requires
page-requires c = (c.requires.behind.symbols_in.scanned.short, c.requires.before.scanned.short)

pub slice_bounds-passed-end : goal.slice_bounds-passed-end
slice_bounds-passed-end c = sym (ap length c.page.ensures ∙ page_length c.args.scheme.now c.args.prelude.now c.requires.behind.symbols_in.scanned.short c.requires.before.scanned.short)

pub overflow_add-m : goal.overflow_add-m
overflow_add-m c = omega (arith, few_both c.requires)

pub returns : goal.returns
returns c = λ a.
    let l : length (take c.args.n c.args.ownplaces.now) ≡ c.args.n = omega (arith, few_both c.requires, length-take c.args.n c.args.ownplaces.now) in
    told_both a c.shift.ensures c.page.ensures
    (rw l at c.symbols.ensures.places_after ∙ ap (λ (w : List ℕ). take c.args.m w ++ take c.args.n c.args.ownplaces.now) c.beyond.ensures)
    (rw l at c.symbols.ensures.values_after) c.around-words.ensures.out_after c.passed.ensures
