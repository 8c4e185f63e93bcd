-- `alike::entry_stands` meets its contract: no entry before the place i is it. Assumes nothing.
use Prim.Native.Nat.{◌-◌}
use lib.ListN.{length}
use Rattle.typing.specs.Types.{◌⦂◌}
use Rattle.alike.specs.Same.{type_in}
use Rattle.alike.specs.Same.Stands.{Walk}
use Rattle.alike.proofs.entry_stands.Given as goal

abbrev pub invariant-loop-i : goal.invariant-loop-i
invariant-loop-i l = Walk l.w l.a l.e (l.x ⦂ type_in l.v l.b) l.i

abbrev pub decreases-loop-i : goal.decreases-loop-i
decreases-loop-i l = length l.w - l.i
