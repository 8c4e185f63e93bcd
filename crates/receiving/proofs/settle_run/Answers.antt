-- `receiving::settle_run` meets its contract: one row more is settled while none opens, and what is left is what is
-- still going. Assumes nothing.
use native.Mathlib.Omega.{arith}
use Rattle.receiving.proofs.Going.{going_next, going_end, going-none}
use Rattle.receiving.proofs.settle_run.Goals as goal

-- one row more is settled
pub loop-j-preserved : goal.loop-j-preserved
loop-j-preserved c = going_next _ _ _ _ c.loop-j.invariant (omega arith) c.entry-row.ensures.0 c.narrow.ensures
    c.settle-settled.ensures

-- none opens, and nothing is left
pub returns : goal.returns
returns c = let fits = c.requires.fits in
    let low = c.requires.low in
    going-none (going_end c.loop-j.invariant (omega arith)) fits (omega arith)
