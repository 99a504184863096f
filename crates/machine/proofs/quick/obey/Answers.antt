-- One line for each instruction.
use Rattle.std.specs.Prelude.{Some}
use Rattle.machine.specs.Instructions.{low}
use Rattle.machine.proofs.Decode.{code_2, code_11, code_12, code_13, code_14, code_16, code_21, code_25, code_26, code_27, code_28, code_29, code_30, code_31, code_32, code_33, code_34, code_as, code_logical}
use Rattle.machine.proofs.Numbers.{quick_as, jump_quick}
use Rattle.machine.proofs.quick.obey.Goals as goal

pub returns-in-2 : goal.returns-in-2
returns-in-2 c =
    let args = c.args in
    rw c.low.ensures (quick_as args.at args.live args.n args.store.now args.store.now args.own.now (Some (low args.v, args.n.cells)) (λ q. code_2 args.k q args.v c.in-2.is) (jump_quick args.at args.live args.n args.store.now args.own.now c.requires.0 args.v))

pub returns-in-13 : goal.returns-in-13
returns-in-13 c =
    let args = c.args in
    quick_as args.at args.live args.n args.store.now _ args.own.now c.load.result (λ q. code_13 args.k q args.v c.in-13.is) c.load.ensures

pub returns-in-14 : goal.returns-in-14
returns-in-14 c =
    let args = c.args in
    quick_as args.at args.live args.n args.store.now _ args.own.now c.save.result (λ q. code_14 args.k q args.v c.in-14.is) c.save.ensures

pub returns-in-11 : goal.returns-in-11
returns-in-11 c =
    let args = c.args in
    quick_as args.at args.live args.n args.store.now _ args.own.now c.upto.result (λ q. code_11 args.k q args.v c.in-11.is) c.upto.ensures

pub returns-in-21 : goal.returns-in-21
returns-in-21 c =
    let args = c.args in
    quick_as args.at args.live args.n args.store.now _ args.own.now c.sum.result (λ q. code_21 args.k q args.v c.in-21.is) c.sum.ensures

pub returns-in-12 : goal.returns-in-12
returns-in-12 c =
    let args = c.args in
    quick_as args.at args.live args.n args.store.now _ args.own.now c.constant.result (λ q. code_12 args.k q args.v c.in-12.is) c.constant.ensures

pub returns-in-50 : goal.returns-in-50
returns-in-50 c =
    let args = c.args in
    quick_as args.at args.live args.n args.store.now _ args.own.now c.turn.result (λ q. code_as args.k q args.v c.in-50.is) c.turn.ensures

pub returns-in-16 : goal.returns-in-16
returns-in-16 c =
    let args = c.args in
    quick_as args.at args.live args.n args.store.now _ args.own.now c.result.result (λ q. code_16 args.k q args.v c.in-16.is) c.result.ensures

pub returns-in-48 : goal.returns-in-48
returns-in-48 c =
    let args = c.args in
    quick_as args.at args.live args.n args.store.now _ args.own.now c.logical.result (λ q. code_logical args.k q args.v c.in-48.is) c.logical.ensures

pub returns-in-25 : goal.returns-in-25
returns-in-25 c =
    let args = c.args in
    quick_as args.at args.live args.n args.store.now _ args.own.now c.binary.result (λ q. code_25 args.k q args.v c.in-25.is) c.binary.ensures

pub returns-in-26 : goal.returns-in-26
returns-in-26 c =
    let args = c.args in
    quick_as args.at args.live args.n args.store.now _ args.own.now c.binary-in-26.result (λ q. code_26 args.k q args.v c.in-26.is) c.binary-in-26.ensures

pub returns-in-27 : goal.returns-in-27
returns-in-27 c =
    let args = c.args in
    quick_as args.at args.live args.n args.store.now _ args.own.now c.binary-in-27.result (λ q. code_27 args.k q args.v c.in-27.is) c.binary-in-27.ensures

pub returns-in-28 : goal.returns-in-28
returns-in-28 c =
    let args = c.args in
    quick_as args.at args.live args.n args.store.now _ args.own.now c.binary-in-28.result (λ q. code_28 args.k q args.v c.in-28.is) c.binary-in-28.ensures

pub returns-in-29 : goal.returns-in-29
returns-in-29 c =
    let args = c.args in
    quick_as args.at args.live args.n args.store.now _ args.own.now c.binary-in-29.result (λ q. code_29 args.k q args.v c.in-29.is) c.binary-in-29.ensures

pub returns-in-30 : goal.returns-in-30
returns-in-30 c =
    let args = c.args in
    quick_as args.at args.live args.n args.store.now _ args.own.now c.binary-in-30.result (λ q. code_30 args.k q args.v c.in-30.is) c.binary-in-30.ensures

pub returns-in-31 : goal.returns-in-31
returns-in-31 c =
    let args = c.args in
    quick_as args.at args.live args.n args.store.now _ args.own.now c.binary-in-31.result (λ q. code_31 args.k q args.v c.in-31.is) c.binary-in-31.ensures

pub returns-in-32 : goal.returns-in-32
returns-in-32 c =
    let args = c.args in
    quick_as args.at args.live args.n args.store.now _ args.own.now c.binary-in-32.result (λ q. code_32 args.k q args.v c.in-32.is) c.binary-in-32.ensures

pub returns-in-33 : goal.returns-in-33
returns-in-33 c =
    let args = c.args in
    quick_as args.at args.live args.n args.store.now _ args.own.now c.binary-in-33.result (λ q. code_33 args.k q args.v c.in-33.is) c.binary-in-33.ensures

pub returns-in-34 : goal.returns-in-34
returns-in-34 c =
    let args = c.args in
    quick_as args.at args.live args.n args.store.now _ args.own.now c.binary-in-34.result (λ q. code_34 args.k q args.v c.in-34.is) c.binary-in-34.ensures
