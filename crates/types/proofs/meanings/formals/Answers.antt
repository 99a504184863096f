-- `meanings::formals`: the declarations behind the procedure's, as far as they are formals.
use mathlib.Core.Path.{◌∙◌}
use Prim.Native.Nat.{◌+◌, ◌-◌, ◌/◌}
use native.Mathlib.Omega.{arith}
use lib.ListN.{length}
use Rattle.std.proofs.Common.{rules}
use Rattle.std.proofs.lemmas.Iterator.{YieldsList-from_range, YieldsList-from_map}
use Rattle.std.proofs.lemmas.Iterator.Consumers.{YieldsList-at, count_from_yields_List}
use Rattle.std.proofs.lemmas.Iterator.Search.{YieldsList-from_take_while}
use Rattle.types.proofs.RowWords.{declaration, is_formal, formals_counted}
use Rattle.types.proofs.meanings.formals.Goals as goal

pub returns-clause-value : goal.returns-clause-value
returns-clause-value c =
    let a = c.args in
    let n = length a.rows.now / 4 in
    let j = a.d.number + 1 in
    count_from_yields_List _ _ c.count.ensures.ran
    (YieldsList-from_take_while _ (is_formal a.rows.now) (YieldsList-at c.take_while.ensures.source
    (YieldsList-from_map _ declaration (YieldsList-at c.map.ensures.source (YieldsList-from_range j n (n - j) (cc) (omega arith))) c.map.ensures.closure (λ x r q k. search rules)))
    c.take_while.ensures.closure c.take_while.ensures.done (λ x b q k. search rules))
    ∙ formals_counted a.rows.now a.d.number
