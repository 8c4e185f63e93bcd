-- `alike::same_environment` meets its contract: the older entries are the same exactly if the environments are.
-- Assumes nothing.
use Prim.Native.Nat.{◌-◌}
use lib.ListN.{length}
use Rattle.alike.specs.Same.Environments.{Pairing}
use Rattle.alike.proofs.same_environment.Given as goal

abbrev pub invariant-loop-i : goal.invariant-loop-i
invariant-loop-i l = Pairing l.u l.a l.e l.v l.b l.f l.i l.j

abbrev pub decreases-loop-i : goal.decreases-loop-i
decreases-loop-i l = length l.u - l.i
