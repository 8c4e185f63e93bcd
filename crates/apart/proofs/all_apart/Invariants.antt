-- `apart::all_apart` meets its contract: all names that are bound before the place i are apart. Assumes nothing.
use Rattle.std.proofs.Common.{length, ◌-◌}
use Rattle.apart.specs.Bound.Asked.{Passing}
use Rattle.apart.proofs.all_apart.Given as goal

abbrev pub invariant-loop-due : goal.invariant-loop-due
invariant-loop-due l = Passing l.w l.p l.end l.i l.due

abbrev pub decreases-loop-due : goal.decreases-loop-due
decreases-loop-due l = length l.w - l.i
