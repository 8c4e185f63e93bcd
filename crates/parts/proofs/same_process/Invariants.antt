-- `parts::same_process` meets its contract: what is still to come is the same exactly if the processes are. Assumes
-- nothing.
use Prim.Native.Nat.{◌-◌}
use lib.ListN.{length}
use Rattle.parts.specs.Place.Processes.{Pairing}
use Rattle.parts.proofs.same_process.Given as goal

abbrev pub invariant-loop-due : goal.invariant-loop-due
invariant-loop-due l = Pairing l.u l.a l.e l.v l.b l.f l.i l.j l.due

abbrev pub decreases-loop-due : goal.decreases-loop-due
decreases-loop-due l = length l.u - l.i
