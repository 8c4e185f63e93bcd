-- `alike::same_type_where` meets its contract: what is still to come is the same exactly if the types are. Assumes
-- nothing.
use Prim.Native.Nat.{◌-◌}
use lib.ListN.{length}
use Rattle.alike.specs.Same.Types.{Pairing}
use Rattle.alike.proofs.same_type_where.Given as goal

abbrev pub invariant-loop-due : goal.invariant-loop-due
invariant-loop-due g l = Pairing l.u l.v (goal.F-post g l.holds) l.a l.e l.b l.f l.i l.j l.due

abbrev pub decreases-loop-due : goal.decreases-loop-due
decreases-loop-due g l = length l.u - l.i
