-- `apart::in_environment` meets its contract: no entry before the place i is for x. Assumes nothing.
use Rattle.std.proofs.Common.{length, ◌-◌}
use Rattle.apart.specs.Bound.Asked.{Entries}
use Rattle.apart.proofs.in_environment.Given as goal

abbrev pub invariant-loop-i : goal.invariant-loop-i
invariant-loop-i l = Entries l.w l.p l.x l.i

abbrev pub decreases-loop-i : goal.decreases-loop-i
decreases-loop-i l = length l.w - l.i
