-- `rows::scan` meets its contract: a walk over the records. A record passed keeps its rule, so that the counts so far lie in the pool and
-- their sum doesn't wrap. Assumes nothing.
use Rattle.std.proofs.Common.{arith}
use Rattle.rows.specs.Scanned.Laws.{summed-stops, summed-ends}
use Rattle.rows.proofs.scan.Goals as goal

pub returns-then-breaks : goal.returns-then-breaks
returns-then-breaks g c = summed-stops _ _ _ c.loop-place.invariant (omega arith) _ c.breaks.ensures c.if-breaks.true

pub returns : goal.returns
returns g c = summed-ends _ _ _ c.loop-place.invariant (omega arith) (omega arith)
