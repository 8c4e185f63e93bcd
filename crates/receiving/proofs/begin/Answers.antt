-- `receiving::begin` meets its contract: a row that is opened goes on with what its contents leave, and a row that is
-- settled leaves nothing. Assumes nothing.
use native.Mathlib.Omega.{arith}
use Rattle.receiving.proofs.Beginning.{begun-cipher, begun-key, begun-ready, begun_opened, begun-settled}
use Rattle.receiving.proofs.begin.Goals as goal
use Rattle.receiving.proofs.begin.Goals.{After-opens}

-- the row opens, so it is a cipher
pub put_open-last-requires : goal.put_open-last-requires
put_open-last-requires c = let ready = c.requires in
    (ready.valid, ready.partners, ready.row, begun-cipher ready c.opens.ensures c.if-opens.true)

-- and has a key
pub overflow_sub-left : goal.overflow_sub-left
overflow_sub-left c = begun-key c.requires c.opens.ensures c.if-opens.true c.row_count-left.ensures.0

pub settle_run-requires : goal.settle_run-requires
settle_run-requires c = begun-ready c.requires c.opens.ensures c.if-opens.true c.row_first-first.ensures.0
    c.row_count-left.ensures.0 c.narrow.ensures c.put_open-last.result

-- what its contents leave
pub returns-then-opens : goal.returns-then-opens
returns-then-opens c = begun_opened c.requires c.opens.ensures c.if-opens.true
    c.row_first-first.ensures.0 c.row_count-left.ensures.0 c.narrow.ensures
    c.put_open-last.ensures c.settle_run.ensures

-- and nothing is left
pub returns : goal.returns
returns c = begun-settled c.requires c.opens.ensures c.settle-settled.ensures (omega arith)
