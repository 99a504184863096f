-- `clean::bytes::behind_point` meets its contract: each test has told what stands there. Assumes nothing.
use mathlib.Core.Path.{sym}
use Rattle.clean.proofs.Putting.{puts_none, puts_as, decimals_end, decimals_here, decimals_none}
use Rattle.clean.proofs.bytes.behind_point.Goals as goal

pub returns-then-source-dot : goal.returns-then-source-dot
returns-then-source-dot c =
    let x = c.args in
    puts_as (puts_none x.page.now x.at) (sym (decimals_end x.source.now x.dot c.if-source-dot.true))

pub returns-then-source-dot-eq46 : goal.returns-then-source-dot-eq46
returns-then-source-dot-eq46 c =
    let x = c.args in
    puts_as c.letters.ensures (sym (decimals_here x.source.now x.dot c.if-source-dot.false c.if-source-dot-eq46.true))

pub returns : goal.returns
returns c =
    let x = c.args in
    puts_as (puts_none x.page.now x.at) (sym (decimals_none x.source.now x.dot c.if-source-dot.false c.if-source-dot-eq46.false))
