-- `syntax::writing::clear` meets its contract. Assumes nothing.
use mathlib.Core.Path.{◌≡◌, sym, ap, ◌∙◌}
use mathlib.Core.List.{List, ◌++◌, append-nil}
use Prim.Native.Nat.{ℕ, ◌-◌, ◌≤◌}
use native.Mathlib.Omega.{arith}
use lib.ListN.{length, take, drop, replicate, length-drop}
use lib.Seq.{take_all}
use Rattle.std.proofs.lemmas.List.{drop_all}
use Rattle.grammar.specs.model.Parsing.{zeros}
use Rattle.syntax.proofs.writing.clear.Goals as goal

-- the words behind a place, where zeros take theirs
zeros_behind : (old : List ℕ) (from : ℕ) {mid : List ℕ} → mid ≡ replicate (length (take (length old - from) (drop from old))) 0
    → take from old ++ (mid ++ drop (length old - from) (drop from old)) ≡ take from old ++ zeros (length old - from)
unfolding zeros
zeros_behind old from {mid} e =
    let l : length (drop from old) ≤ length old - from = omega (arith, length-drop from old) in
    let n : length (take (length old - from) (drop from old)) ≡ length old - from = ap length (take_all (length old - from) (drop from old) l) ∙ length-drop from old in
    rw (drop_all (length old - from) (drop from old) l, append-nil mid, e, n)

pub returns-then-from-nodes : goal.returns-then-from-nodes
returns-then-from-nodes c = record { words = zeros_behind c.args.nodes.now c.args.from (c.fill.ensures.after (λ y e. e)) }

pub returns-else-from-nodes : goal.returns-else-from-nodes
unfolding zeros
returns-else-from-nodes c =
    let z : length c.args.nodes.now - c.args.from ≡ 0 = omega arith in
    record { words = sym (rw z (append-nil (take c.args.from c.args.nodes.now) ∙ take_all c.args.from c.args.nodes.now (omega arith))) }
