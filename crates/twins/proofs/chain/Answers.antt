-- `twins::chain` meets its contract: each row, from the last on, comes in front of its chain (`chained-on`). Assumes
-- nothing.
use Rattle.std.proofs.Common.{refl}
use Rattle.twins.specs.Keys.Laws.{chained-on}
use Rattle.twins.proofs.chain.Goals as goal

-- the row is in its chain, in front of those behind it
pub loop-row-preserved : goal.loop-row-preserved
loop-row-preserved c = let (headed, keep, before) = c.requires in
    chained-on headed.few_rows c.loop-row-test.true c.loop-row.invariant c.row_key-key.ensures
    c.wide-bucket.ensures.0 c.wide.ensures.0 refl c.wide-in-loop-row.ensures.0
