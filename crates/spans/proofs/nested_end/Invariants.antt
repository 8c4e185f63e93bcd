-- `spans::nested_end` meets its contract: what is read from the place a ends where what is still due from the place i on does. Assumes nothing.
use Rattle.std.proofs.Common.{length, ◌-◌}
use Rattle.spans.specs.Behind.Nested.{Walk}
use Rattle.spans.proofs.nested_end.Given as goal

abbrev pub invariant-loop-due : goal.invariant-loop-due
invariant-loop-due g l = Walk g.T.Nested.own g.T.Nested.parts l.w l.a l.i l.due

abbrev pub decreases-loop-due : goal.decreases-loop-due
decreases-loop-due g l = length l.w - l.i
