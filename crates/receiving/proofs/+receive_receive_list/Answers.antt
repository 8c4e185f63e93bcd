-- `receiving::receive` and `receiving::receive_list` meet their contracts: a row is begun and what it leaves follows;
-- in the loop, whatever ends the rest ends the whole. Assumes nothing.
use Rattle.std.proofs.Common.{arith}
use Rattle.receiving.proofs.Going.{next-fits, going_next, going_end}
use Rattle.receiving.proofs.+receive_receive_list.Goals as goal

-- the next row, at its placeholder
pub receive_list-receive-here-requires : goal.receive_list-receive-here-requires
receive_list-receive-here-requires t c =
    let ready = c.requires in
    let bounded = ready.bounded in
    let below = c.entry.ensures.1 in
    let low = c.loop-j.invariant.low in
    let fits = c.loop-j.invariant.fits in (
      omega arith,
      record {
        valid = ready.valid;
        partners = ready.partners;
        row = omega arith;
        low = omega arith;
        timely = rw c.loop-j.invariant.same ready.timely;
        size = c.loop-j.invariant.size;
        fits = next-fits _ _ _ _ c.loop-j.invariant (omega arith) c.entry.ensures.0 c.narrow.ensures;
      },
    )

-- one row more is received at its placeholder
pub receive_list-loop-j-preserved : goal.receive_list-loop-j-preserved
receive_list-loop-j-preserved t c =
    going_next _ _ _ _ c.loop-j.invariant (omega arith) c.entry.ensures.0 c.narrow.ensures c.receive-here.ensures

-- no row is left
pub receive_list-returns : goal.receive_list-returns
receive_list-returns t c = going_end c.loop-j.invariant (omega arith)
