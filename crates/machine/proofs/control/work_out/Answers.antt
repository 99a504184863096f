-- A new activation without cells.
use mathlib.Core.Path.{refl, sym, ap₂, subst, ◌∙◌}
use mathlib.Core.List.{List}
use Prim.Native.Nat.{ℕ, ◌+◌}
use native.Mathlib.Omega.{arith}
use Rattle.machine.specs.Instructions.{high, mid}
use Rattle.machine.specs.model.Holding.{fate_of, Lives}
use Rattle.machine.proofs.Execs.{strayed, strayed_sound}
use Rattle.machine.proofs.Named.{named_less, forgot_lives, working_out, working_unset, working_holds, working_full, worked_done, worked_sound}
use Rattle.machine.proofs.control.work_out.Goals as goal

pub returns-then-b-c : goal.returns-then-b-c
returns-then-b-c c =
    let args = c.args in
    record { o_after = λ i o. strayed c.stray.ensures _ _ i o ∙ working_out args.n args.live args.store.now i o args.own.now args.at args.q args.place (high args.v) (mid args.v) (fate_of args.fate) (rw c.high.ensures at c.around-f.ensures.1) (ap₂ (λ (x y : ℕ). x + y) (c.first_cell.ensures.by_index args.live c.around-f.ensures.0) c.mid.ensures) c.if-b-c.true; sound_g = λ o h. strayed_sound c.stray.ensures _ _ o o refl }

pub returns-then-live-ge-LIVE : goal.returns-then-live-ge-LIVE
returns-then-live-ge-LIVE c =
    let args = c.args in
    record { o_after = λ i o. working_full args.n args.live args.store.now i o args.own.now args.at args.q args.place (high args.v) (mid args.v) (fate_of args.fate) (rw c.high.ensures at c.around-f.ensures.1) (ap₂ (λ (x y : ℕ). x + y) (c.first_cell.ensures.by_index args.live c.around-f.ensures.0) c.mid.ensures) c.if-b-c.false (sym c.cell_at.ensures ∙ c.in-Named.is) c.if-live-ge-LIVE.true; sound_g = λ o h. refl }

pub begin-requires : goal.begin-requires
begin-requires c =
    let args = c.args in
    (subst (λ (l : List ℕ). Lives l args.live) (sym c.forget.ensures) (forgot_lives (fate_of args.fate) args.own.now args.live c.requires.1), c.if-live-ge-LIVE.false, c.requires.2, omega (arith, c.requires.0.room, c.requires.0.few), omega (arith, c.before-in-Named.ensures, c.around-f.ensures.0))

pub part_at-requires : goal.part_at-requires
part_at-requires c = named_less _ _ (sym c.cell_at.ensures ∙ c.in-Named.is)

pub returns-in-Unset : goal.returns-in-Unset
returns-in-Unset c =
    let args = c.args in
    record { o_after = λ i o. strayed c.stray-in-Unset.ensures _ _ i o ∙ working_unset args.n args.live args.store.now i o args.own.now args.at args.q args.place (high args.v) (mid args.v) (fate_of args.fate) (rw c.high.ensures at c.around-f.ensures.1) (ap₂ (λ (x y : ℕ). x + y) (c.first_cell.ensures.by_index args.live c.around-f.ensures.0) c.mid.ensures) c.if-b-c.false (sym c.cell_at.ensures ∙ c.in-Unset.is); sound_g = λ o h. strayed_sound c.stray-in-Unset.ensures _ _ o o refl }

pub returns-in-Holds : goal.returns-in-Holds
returns-in-Holds c =
    let args = c.args in
    record { o_after = λ i o. strayed c.stray-in-Holds.ensures _ _ i o ∙ working_holds args.n args.live args.store.now i o args.own.now args.at args.q args.place (high args.v) (mid args.v) (fate_of args.fate) (rw c.high.ensures at c.around-f.ensures.1) (ap₂ (λ (x y : ℕ). x + y) (c.first_cell.ensures.by_index args.live c.around-f.ensures.0) c.mid.ensures) c.if-b-c.false (sym c.cell_at.ensures ∙ c.in-Holds.is); sound_g = λ o h. strayed_sound c.stray-in-Holds.ensures _ _ o o refl }

pub returns-else-live-ge-LIVE : goal.returns-else-live-ge-LIVE
returns-else-live-ge-LIVE c =
    let args = c.args in
    record { o_after = λ i o. worked_done args.n args.live args.store.now i o args.own.now args.at args.q args.place (high args.v) (mid args.v) args.fate (rw c.high.ensures at c.around-f.ensures.1) (ap₂ (λ (x y : ℕ). x + y) (c.first_cell.ensures.by_index args.live c.around-f.ensures.0) c.mid.ensures) c.if-b-c.false c.requires.1 c.if-live-ge-LIVE.false c.before-in-Named.ensures c.forget.ensures c.begin.ensures (sym c.cell_at.ensures ∙ c.in-Named.is) c.part_at.ensures; sound_g = λ o h. worked_sound args.n args.live args.store.now args.store.now o args.own.now args.at args.q args.place (high args.v) (mid args.v) args.fate (rw c.high.ensures at c.around-f.ensures.1) (ap₂ (λ (x y : ℕ). x + y) (c.first_cell.ensures.by_index args.live c.around-f.ensures.0) c.mid.ensures) c.if-b-c.false c.requires.1 c.if-live-ge-LIVE.false c.before-in-Named.ensures c.forget.ensures c.begin.ensures c.part_at.result c.requires.0 h }
