-- `receiving::settle` meets its contract: a row that can't be opened is compared or stored, each a law of its row.
-- Assumes nothing.
use Rattle.receiving.proofs.Settling.{settle-compare, settle-store}
use Rattle.receiving.proofs.settle.Goals as goal

-- the row is buildable
pub returns-then-buildable : goal.returns-then-buildable
returns-then-buildable c = settle-compare c.requires c.buildable.ensures c.if-buildable.true
    c.put_check-last.ensures

-- it isn't: it is stored, and entered so
pub returns : goal.returns
returns c = settle-store c.requires c.buildable.ensures _ c.if-buildable.false c.wide.ensures.0
    c.stored.ensures c.put_each-last.ensures
