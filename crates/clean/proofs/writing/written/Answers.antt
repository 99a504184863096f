-- `clean::writing::written` meets its contract: the page is counted on no room, and written where it enters. Assumes nothing.
use mathlib.Core.Path.{refl}
use native.Mathlib.Omega.{arith}
use Rattle.clean.proofs.Paged.{fits_long, fits_short, fits_all}
use Rattle.clean.proofs.writing.written.Goals as goal

pub lay_out-size-requires : goal.lay_out-size-requires
lay_out-size-requires c = (c.requires.short, c.requires.few, refl, c.requires.all_kinds)

pub returns-then-size-gt16384 : goal.returns-then-size-gt16384
returns-then-size-gt16384 c = fits_long refl c.lay_out-size.ensures c.if-size-gt16384.true c.new.ensures

pub returns-then-room-size : goal.returns-then-room-size
returns-then-room-size c = fits_short refl c.lay_out-size.ensures (omega arith) c.if-room-size.true c.new-then-room-size.ensures

pub lay_out-requires : goal.lay_out-requires
lay_out-requires c = (c.requires.short, c.requires.few, omega (arith, c.held-2-1.given), c.requires.all_kinds)

pub returns : goal.returns
returns c = fits_all refl c.lay_out-size.ensures (omega arith) (omega arith) c.lay_out.ensures
