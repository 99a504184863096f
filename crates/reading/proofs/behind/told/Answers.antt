-- `reading::behind::told` meets its contract: too long a scheme is 2, its symbols stand, or 3 or 4 is handed on. Assumes nothing.
use native.Mathlib.Omega.{arith}
use Prim.Native.Nat.{◌-◌, min}
use Rattle.reading.proofs.SchemeStands.{scheme_long, scheme_unread, scheme_symbols, scheme_kinds}
use Rattle.reading.proofs.Stages.{stand_in, kinds_in_lem}
use Rattle.reading.proofs.behind.told.Goals as goal

pub returns-then-scheme-gt16384 : goal.returns-then-scheme-gt16384
returns-then-scheme-gt16384 c = λ prelude e. scheme_long prelude c.if-scheme-gt16384.true c.new.ensures

pub parsed-requires : goal.parsed-requires
parsed-requires c = (min (1024 - c.args.m) 2048, _, omega arith, stand_in _ c.scan.ensures c.if-scheme-gt16384.false _ c.in-Ok.is, kinds_in_lem _ c.scan.ensures _ c.in-Ok.is)

pub returns-in-Ok : goal.returns-in-Ok
returns-in-Ok c = λ prelude e. c.parsed.ensures prelude _ (scheme_symbols prelude e c.scan.ensures c.if-scheme-gt16384.false _ c.in-Ok.is) (scheme_kinds prelude e c.scan.ensures _ c.in-Ok.is)

pub returns-in-Err : goal.returns-in-Err
returns-in-Err c = λ prelude e. scheme_unread prelude e c.scan.ensures c.if-scheme-gt16384.false _ c.in-Err.is
