-- `naming::fill` meets its contract: the first numbers are written, and each turn writes the next. Assumes nothing.
use Rattle.naming.specs.Called.Laws.{filled_none, filled_more}
use Rattle.naming.proofs.fill.Goals as goal

pub loop-j-init : goal.loop-j-init
loop-j-init c = filled_none _

-- a number more
pub loop-j-preserved : goal.loop-j-preserved
loop-j-preserved c = filled_more _ _ c.loop-j.invariant c.put-next.ensures
