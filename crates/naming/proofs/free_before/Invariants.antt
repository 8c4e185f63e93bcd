-- `naming::free_before` meets its contract: the hunt got as far as their words that were read (`Hunted`). Assumes nothing.
use Rattle.naming.specs.Mirror.{theirs}
use Rattle.naming.specs.Mirror.Laws.{Hunted}
use Rattle.naming.proofs.free_before.Given as goal

abbrev pub invariant-loop-i : goal.invariant-loop-i
invariant-loop-i l = Hunted (theirs l.words l.bytes) l.y l.n l.i l.mode l.last l.free
