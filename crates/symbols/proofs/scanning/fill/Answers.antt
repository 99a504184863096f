-- `symbols::scanning::fill` meets its contract. The loop carries what stands so far; a step is read off what `next` tells.
-- Assumes nothing.
use mathlib.Core.Path.{subst}
use mathlib.Core.Path.{sym, ◌∙◌}
use Prim.Native.Nat.{◌-◌}
use native.Mathlib.Omega.{arith}
use Rattle.symbols.proofs.Resume.{Onward, onward}
use Rattle.symbols.proofs.Filling.{begun, read_on, passed_on, refused_here, ended_here, lasting}
use Rattle.symbols.proofs.scanning.fill.Goals as goal

pub loop-s-init : goal.loop-s-init
loop-s-init c = begun c.args.room c.args.source.now c.args.kinds.now c.args.places.now c.args.values.now

pub overflow_sub-room : goal.overflow_sub-room
overflow_sub-room c = c.loop-s.invariant.roomy

pub bounds-kinds-n : goal.bounds-kinds-n
bounds-kinds-n c =
    let l = c.loop-s in
    let e = sym c.next.ensures ∙ c.in-Read.is in
    let o = subst (Onward (c.args.room - l.n) c.args.source.now l.cursor.at) e (onward (c.args.room - l.n) c.args.source.now l.cursor) in
    let w = lasting c.args.room c.args.source.now c.args.kinds.now c.args.places.now c.args.values.now l.kinds l.places l.values l.cursor l.n l.invariant c.requires.0 c.requires.1 c.requires.2 in
    omega (arith, o.2, c.requires)

pub offset_bounds-places-n : goal.offset_bounds-places-n
offset_bounds-places-n c =
    let l = c.loop-s in
    let e = sym c.next.ensures ∙ c.in-Read.is in
    let o = subst (Onward (c.args.room - l.n) c.args.source.now l.cursor.at) e (onward (c.args.room - l.n) c.args.source.now l.cursor) in
    omega (arith, o.2, c.requires.0)

pub bounds-places-n : goal.bounds-places-n
bounds-places-n c =
    let l = c.loop-s in
    let e = sym c.next.ensures ∙ c.in-Read.is in
    let o = subst (Onward (c.args.room - l.n) c.args.source.now l.cursor.at) e (onward (c.args.room - l.n) c.args.source.now l.cursor) in
    let w = lasting c.args.room c.args.source.now c.args.kinds.now c.args.places.now c.args.values.now l.kinds l.places l.values l.cursor l.n l.invariant c.requires.0 c.requires.1 c.requires.2 in
    omega (arith, o.2, c.requires)

pub offset_bounds-values-n : goal.offset_bounds-values-n
offset_bounds-values-n c =
    let l = c.loop-s in
    let e = sym c.next.ensures ∙ c.in-Read.is in
    let o = subst (Onward (c.args.room - l.n) c.args.source.now l.cursor.at) e (onward (c.args.room - l.n) c.args.source.now l.cursor) in
    omega (arith, o.2, c.requires.0)

pub bounds-values-n : goal.bounds-values-n
bounds-values-n c =
    let l = c.loop-s in
    let e = sym c.next.ensures ∙ c.in-Read.is in
    let o = subst (Onward (c.args.room - l.n) c.args.source.now l.cursor.at) e (onward (c.args.room - l.n) c.args.source.now l.cursor) in
    let w = lasting c.args.room c.args.source.now c.args.kinds.now c.args.places.now c.args.values.now l.kinds l.places l.values l.cursor l.n l.invariant c.requires.0 c.requires.1 c.requires.2 in
    omega (arith, o.2, c.requires)

pub overflow_add-n : goal.overflow_add-n
overflow_add-n c =
    let l = c.loop-s in
    let e = sym c.next.ensures ∙ c.in-Read.is in
    let o = subst (Onward (c.args.room - l.n) c.args.source.now l.cursor.at) e (onward (c.args.room - l.n) c.args.source.now l.cursor) in
    omega (arith, o.2)

pub loop-s-smaller-in-Read : goal.loop-s-smaller-in-Read
loop-s-smaller-in-Read c =
    let l = c.loop-s in
    let e = sym c.next.ensures ∙ c.in-Read.is in
    let o = subst (Onward (c.args.room - l.n) c.args.source.now l.cursor.at) e (onward (c.args.room - l.n) c.args.source.now l.cursor) in
    omega (arith, o.0, o.1)

pub loop-s-preserved-in-Read : goal.loop-s-preserved-in-Read
loop-s-preserved-in-Read c =
    let l = c.loop-s in
    let e = sym c.next.ensures ∙ c.in-Read.is in
    rw c.store-t.ensures (read_on c.args.room c.args.source.now c.args.kinds.now c.args.places.now c.args.values.now l.kinds l.places l.values l.cursor l.n l.invariant _ _ e c.requires.0 c.requires.1 c.requires.2)

pub loop-s-smaller : goal.loop-s-smaller
loop-s-smaller c =
    let l = c.loop-s in
    let e = sym c.next.ensures ∙ c.in-Passed.is in
    let o = subst (Onward (c.args.room - l.n) c.args.source.now l.cursor.at) e (onward (c.args.room - l.n) c.args.source.now l.cursor) in
    omega (arith, o.0, o.1)

pub loop-s-preserved : goal.loop-s-preserved
loop-s-preserved c =
    let l = c.loop-s in
    let e = sym c.next.ensures ∙ c.in-Passed.is in
    passed_on c.args.room c.args.source.now c.args.kinds.now c.args.places.now c.args.values.now l.kinds l.places l.values l.cursor l.n l.invariant _ e

pub shape_of-kinds-in-Refused : goal.shape_of-kinds-in-Refused
shape_of-kinds-in-Refused c =
    let l = c.loop-s in
    (lasting c.args.room c.args.source.now c.args.kinds.now c.args.places.now c.args.values.now l.kinds l.places l.values l.cursor l.n l.invariant c.requires.0 c.requires.1 c.requires.2).0

pub shape_of-places-in-Refused : goal.shape_of-places-in-Refused
shape_of-places-in-Refused c =
    let l = c.loop-s in
    (lasting c.args.room c.args.source.now c.args.kinds.now c.args.places.now c.args.values.now l.kinds l.places l.values l.cursor l.n l.invariant c.requires.0 c.requires.1 c.requires.2).1

pub shape_of-values-in-Refused : goal.shape_of-values-in-Refused
shape_of-values-in-Refused c =
    let l = c.loop-s in
    (lasting c.args.room c.args.source.now c.args.kinds.now c.args.places.now c.args.values.now l.kinds l.places l.values l.cursor l.n l.invariant c.requires.0 c.requires.1 c.requires.2).2

pub returns-in-Refused : goal.returns-in-Refused
returns-in-Refused c =
    let l = c.loop-s in
    let e = sym c.next.ensures ∙ c.in-Refused.is in
    refused_here c.args.room c.args.source.now c.args.kinds.now c.args.places.now c.args.values.now l.kinds l.places l.values l.cursor l.n l.invariant _ e

pub shape_of-kinds-in-End : goal.shape_of-kinds-in-End
shape_of-kinds-in-End c =
    let l = c.loop-s in
    (lasting c.args.room c.args.source.now c.args.kinds.now c.args.places.now c.args.values.now l.kinds l.places l.values l.cursor l.n l.invariant c.requires.0 c.requires.1 c.requires.2).0

pub shape_of-places-in-End : goal.shape_of-places-in-End
shape_of-places-in-End c =
    let l = c.loop-s in
    (lasting c.args.room c.args.source.now c.args.kinds.now c.args.places.now c.args.values.now l.kinds l.places l.values l.cursor l.n l.invariant c.requires.0 c.requires.1 c.requires.2).1

pub shape_of-values-in-End : goal.shape_of-values-in-End
shape_of-values-in-End c =
    let l = c.loop-s in
    (lasting c.args.room c.args.source.now c.args.kinds.now c.args.places.now c.args.values.now l.kinds l.places l.values l.cursor l.n l.invariant c.requires.0 c.requires.1 c.requires.2).2

pub returns-in-End : goal.returns-in-End
returns-in-End c =
    let l = c.loop-s in
    let e = sym c.next.ensures ∙ c.in-End.is in
    ended_here c.args.room c.args.source.now c.args.kinds.now c.args.places.now c.args.values.now l.kinds l.places l.values l.cursor l.n l.invariant e
