-- `apart::bound_twice` meets its contract: before the place i, x is bound n times. Assumes nothing.
use Rattle.std.proofs.Common.{length, ◌-◌}
use Rattle.apart.specs.Bound.Asked.{Counting}
use Rattle.apart.proofs.bound_twice.Given as goal

abbrev pub invariant-loop-due : goal.invariant-loop-due
invariant-loop-due l = Counting l.w l.p l.end l.x l.i l.due l.n

abbrev pub decreases-loop-due : goal.decreases-loop-due
decreases-loop-due l = length l.w - l.i
