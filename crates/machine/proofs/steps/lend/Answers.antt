-- The variable's cell becomes the one found, with no formal on the way.
use mathlib.Core.Path.{refl, ap, ◌∙◌}
use native.Mathlib.Omega.{arith}
use native.Mathlib.Nat.{le_refl}
use mathlib.Core.List.{List}
use Prim.Native.Nat.{ℕ}
use Rattle.machine.specs.Data.{lend}
use Rattle.machine.specs.Instructions.{variable}
use Rattle.machine.specs.Machine.{Running}
use Rattle.machine.specs.model.Holding.{goes, trace_of, own_of, note_of}
use Rattle.machine.proofs.Kept.{cell_in, cell_out, plain_data}
use Rattle.machine.proofs.Works.{yes_true, not_true}
use Rattle.machine.proofs.Frames.{lives_found}
use Rattle.machine.proofs.Execs.{strayed, strayed_sound, do_stray, room_no, room_yes}
use Rattle.machine.proofs.Named.{lend_stray, lend_refused, lend_goes, found_mach}
use Rattle.machine.proofs.steps.lend.Goals as goal

pub returns-then-b-n : goal.returns-then-b-n
returns-then-b-n c =
    let args = c.args in
    record { o_after = λ i o. strayed c.stray.ensures _ _ i o ∙ do_stray _ args.at _ _ _ (lend (variable args.v)) (room_no args.n args.live args.store.now i o args.own.now (c.first_cell-b.ensures.by_index args.live (le_refl _)) 0 (omega (arith, c.if-b-n.true))); sound_g = λ o h. strayed_sound c.stray.ensures _ _ o o refl }

pub way_of-w-requires : goal.way_of-w-requires
way_of-w-requires c = (c.requires.1, c.first_cell-b.ensures.by_index c.args.live (le_refl _), c.first_cell-b.ensures.upper_bound)

pub returns-then-c-n : goal.returns-then-c-n
returns-then-c-n c =
    let args = c.args in
    record { o_after = λ i o. strayed c.stray-then-c-n.ensures _ _ i o ∙ lend_stray _ args.at _ _ _ args.v (c.way_of-w.ensures.result_value args.n args.store.now i o) (room_yes args.n args.live args.store.now i o args.own.now (c.first_cell-b.ensures.by_index args.live (le_refl _)) 0 (omega (arith, c.if-b-n.false))) (cell_out args.n (own_of args.own.now args.live) args.store.now i o c.way_of-w.result.cell c.if-c-n.true); sound_g = λ o h. strayed_sound c.stray-then-c-n.ensures _ _ o o refl }

pub is_plain-requires : goal.is_plain-requires
is_plain-requires c = omega (arith, c.if-c-n.false, c.requires.0.room)

pub returns-then-not-is_plain : goal.returns-then-not-is_plain
returns-then-not-is_plain c =
    let args = c.args in
    record { o_after = λ i o. strayed c.stray-then-not-is_plain.ensures _ _ i o ∙ lend_refused _ args.at _ _ _ args.v (c.way_of-w.ensures.result_value args.n args.store.now i o) (room_yes args.n args.live args.store.now i o args.own.now (c.first_cell-b.ensures.by_index args.live (le_refl _)) 0 (omega (arith, c.if-b-n.false))) (cell_in args.n (own_of args.own.now args.live) args.store.now i o c.way_of-w.result.cell c.if-c-n.false) (plain_data args.n (own_of args.own.now args.live) args.store.now i o c.way_of-w.result.cell c.if-c-n.false (not_true c.is_plain.ensures c.if-not-is_plain.true-raw)); sound_g = λ o h. strayed_sound c.stray-then-not-is_plain.ensures _ _ o o refl }

pub overflow_cast-c : goal.overflow_cast-c
overflow_cast-c c = omega (arith, c.if-c-n.false, c.requires.0.room, c.requires.0.few)

pub returns : goal.returns
returns c =
    let e = c.note-2.ensures ∙ ap (λ (z : List ℕ). note_of z 0 3 0) c.note.ensures in
    record { o_after = λ i o. ap (λ (m : Running). goes m (trace_of c.args.n o)) (found_mach c.args.n c.args.live c.args.store.now i o c.args.own.now c.args.at c.way_of-w.result.cell c.requires.1 e) ∙ lend_goes _ c.args.at _ _ _ c.args.v (c.way_of-w.ensures.result_value c.args.n c.args.store.now i o) (room_yes c.args.n c.args.live c.args.store.now i o c.args.own.now (c.first_cell-b.ensures.by_index c.args.live (le_refl _)) 0 (omega (arith, c.if-b-n.false))) (cell_in c.args.n (own_of c.args.own.now c.args.live) c.args.store.now i o c.way_of-w.result.cell c.if-c-n.false) (plain_data c.args.n (own_of c.args.own.now c.args.live) c.args.store.now i o c.way_of-w.result.cell c.if-c-n.false (yes_true c.is_plain.ensures c.if-not-is_plain.false-raw)); sound_g = λ o h. (c.requires.0, rw e (lives_found c.args.own.now c.args.live c.way_of-w.result.cell c.requires.1), h, refl) }
