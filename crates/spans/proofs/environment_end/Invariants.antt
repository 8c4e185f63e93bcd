-- `spans::environment_end` meets its contract: the older entries begin at the place i. Assumes nothing.
use Rattle.std.proofs.Common.{length, ◌-◌}
use Rattle.spans.specs.Behind.Environments.{Walk}
use Rattle.spans.proofs.environment_end.Given as goal

abbrev pub invariant-loop-i : goal.invariant-loop-i
invariant-loop-i l = Walk l.w l.a l.i

abbrev pub decreases-loop-i : goal.decreases-loop-i
decreases-loop-i l = length l.w - l.i
