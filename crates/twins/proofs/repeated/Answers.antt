-- `twins::repeated` meets its contract: no row that the loop has passed repeats an earlier one. Assumes nothing.
use Rattle.std.proofs.Common.{arith}
use Rattle.twins.specs.Keys.Laws.{chained-start}
use Rattle.header.specs.Scans.Laws.{found_at, found_none}
use Rattle.twins.proofs.repeated.Goals as goal

-- no row is chained yet
pub chain-requires : goal.chain-requires
chain-requires c = let (headed, keep) = c.requires in
    (headed, keep, chained-start c.rows-n.ensures)

pub returns-then-row_repeats : goal.returns-then-row_repeats
returns-then-row_repeats c = found_at _ _ _ c.loop-row.invariant (omega arith) _ c.row_repeats.ensures c.if-row_repeats.true

pub returns : goal.returns
returns c = found_none _ _ _ c.loop-row.invariant (omega arith) (omega arith)
