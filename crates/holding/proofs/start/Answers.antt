-- `holding::start` meets its contract: the known rows are entered one after another. Assumes nothing.
use native.Mathlib.Omega.{arith}
use Rattle.holding.proofs.Starting.{known-row, starting-start, starting-on}
use Rattle.holding.proofs.start.Goals as goal

pub loop-j-init : goal.loop-j-init
loop-j-init c = search starting-start

-- the next row is entered
pub loop-j-preserved : goal.loop-j-preserved
loop-j-preserved c = let (valid, inside) = c.requires in
    starting-on _ valid
    (known-row valid inside c.party_first-first.ensures.0 c.party_count-j-end.ensures.0 (omega arith) c.pooled.ensures)
    c.loop-j.invariant c.pooled.ensures c.given.ensures c.wide.ensures.0
