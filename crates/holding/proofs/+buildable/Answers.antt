-- `holding::buildable` meets its contract: a row that is held is, a lone atom isn't, else what is left of the parts
-- decides. Assumes nothing.
use Rattle.std.proofs.Common.{arith}
use Rattle.holding.proofs.Going.{going_start, going_on, going-off, going_done, is-held, lone-atom}
use Rattle.holding.proofs.+buildable.Goals as goal

pub returns-then-held : goal.returns-then-held
returns-then-held t c = search is-held

pub returns-then-row_kind-eq-ATOM : goal.returns-then-row_kind-eq-ATOM
returns-then-row_kind-eq-ATOM t c = search lone-atom

-- the row is not held, and no atom
pub loop-j-init : goal.loop-j-init
loop-j-init t c =
    let (valid, inside) = c.requires in
    going_start valid inside c.wide.ensures.0 c.held.ensures c.if-held.false
    c.row_kind.ensures c.if-row_kind-eq-ATOM.false c.row_first-first.ensures.0 c.row_count-n.ensures.0

pub returns-then-not-buildable : goal.returns-then-not-buildable
returns-then-not-buildable t c =
    going-off c.loop-j.invariant (omega arith) c.entry.ensures.0 c.buildable.ensures c.if-not-buildable.true

-- the part asked about is buildable
pub loop-j-preserved : goal.loop-j-preserved
loop-j-preserved t c =
    going_on c.loop-j.invariant (omega arith) c.entry.ensures.0 c.buildable.ensures c.if-not-buildable.false

pub returns : goal.returns
returns t c = going_done c.loop-j.invariant (omega arith)
