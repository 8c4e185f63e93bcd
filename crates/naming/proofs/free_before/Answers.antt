-- `naming::free_before` meets its contract: the hunt got as far as their words that were read (`Hunted`). Assumes nothing.
use Rattle.naming.specs.Mirror.Laws.{hunted-start, hunted-on}
use Rattle.naming.proofs.free_before.Goals as goal

pub loop-i-init : goal.loop-i-init
loop-i-init c = hunted-start

-- a word more
pub loop-i-preserved : goal.loop-i-preserved
loop-i-preserved c = hunted-on c.loop-i.invariant c.their-w.ensures c.class.ensures c.still-free.ensures c.next-mode.ensures
