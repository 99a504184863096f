-- `showing::text::say_nth` meets its contract. The next line begins within the text, so that no line is cut past its end.
-- Assumes nothing.
use Prim.Native.Nat.{◌≤◌}
use lib.ListN.{length}
use Rattle.showing.proofs.text.say_nth.Given as goal

abbrev pub invariant-loop : goal.invariant-loop
invariant-loop l = l.at ≤ length l.text
