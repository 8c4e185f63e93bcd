-- `claims::mark_known` meets its contract: row by row, the known rows passed are marked. Assumes nothing.
use Rattle.claims.proofs.Passed.{knows_start, knows_on}
use mathlib.Core.Path.{refl}
use Rattle.claims.proofs.mark_known.Goals as goal

-- no row is marked before the first
pub loop-j-init : goal.loop-j-init
loop-j-init c = let (valid, ready, inside) = c.requires in
    (knows_start {l = c.args.since.now} ready.sized, ready)

-- the next row is marked, and with 1
pub loop-j-preserved : goal.loop-j-preserved
loop-j-preserved c = (
  knows_on c.pooled.ensures c.loop-j.invariant.0 c.mark.ensures.0 refl,
  c.mark.ensures.1,
)
