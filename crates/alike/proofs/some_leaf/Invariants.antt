-- `alike::some_leaf` meets its contract: no leaf before the place i is of the kind. Assumes nothing.
use Prim.Native.Nat.{◌-◌}
use lib.ListN.{length}
use Rattle.alike.specs.Same.Leaves.{Along}
use Rattle.alike.proofs.some_leaf.Given as goal

abbrev pub invariant-loop-due : goal.invariant-loop-due
invariant-loop-due g l = Along (goal.F-post g l.holds) l.w l.a l.end l.i l.due

abbrev pub decreases-loop-due : goal.decreases-loop-due
decreases-loop-due g l = length l.w - l.i
