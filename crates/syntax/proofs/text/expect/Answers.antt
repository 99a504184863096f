-- `syntax::text::expect` meets its contract: the kind that is stored is the symbol's. Assumes nothing.
use mathlib.Core.Path.{refl, sym, ap, ◌∙◌}
use native.Mathlib.Omega.{arith}
use Rattle.symbols.specs.declared.kinds.Stored.{Stored}
use Rattle.grammar.proofs.Peeks.{inside, text_length}
use Rattle.syntax.proofs.text.expect.Goals as goal

pub overflow_add-result : goal.overflow_add-result
overflow_add-result c =
    let i = inside _ _ (sym c.peek.ensures ∙ sym (ap (λ (x : Stored). x.kind) c.store-found.ensures) ∙ c.if-found-wanted.true) c.requires in
    omega (arith, text_length c.args.kinds.now)

pub returns-then-found-wanted : goal.returns-then-found-wanted
returns-then-found-wanted c =
    let e = sym c.peek.ensures ∙ sym (ap (λ (x : Stored). x.kind) c.store-found.ensures) ∙ c.if-found-wanted.true in
    record { found = e; inside = inside _ _ e c.requires; next = refl }

pub returns-else-found-wanted : goal.returns-else-found-wanted
returns-else-found-wanted c = record { other = λ h. c.if-found-wanted.false (ap (λ (x : Stored). x.kind) c.store-found.ensures ∙ c.peek.ensures ∙ h); fault = c.wrong.ensures }
