-- `receiving::receive_messages` meets its contract: one row after another, opened or settled, and whatever ends the
-- rest ends the whole, as in `receive_list`. Assumes nothing.
use Prim.Native.Nat.{◌<◌}
use native.Mathlib.Omega.{arith}
use borrow.Author.Rules.{rules}
use Rattle.receiving.proofs.Going.{fresh-ready, fresh-brought, going_begin, next-fits, going_next, going_end}
use Rattle.receiving.proofs.receive_messages.Goals as goal

-- the messages' placeholders are handed out, and none is received yet
pub loop-j-init : goal.loop-j-init
loop-j-init c = going_begin c.requires c.narrow.ensures (search rules)

-- the message opens, and there is room for its placeholders
pub receive-there-requires : goal.receive-there-requires
receive-there-requires c = let ready = c.requires in
    let bounded = ready.bounded in
    let below = c.entry-row.ensures.1 in
    let low = c.loop-j.invariant.low in
    let fits = c.loop-j.invariant.fits in
    fresh-ready c.new-dictionary.ensures (record {
      valid = ready.valid;
      partners = ready.partners;
      row = omega arith;
      low = omega arith;
      timely = ready.timely;
      size = c.loop-j.invariant.size;
      fits = next-fits _ _ _ _ c.loop-j.invariant (omega arith) c.entry-row.ensures.0 c.narrow-in-loop-j.ensures;
    })

-- none is left
pub returns : goal.returns
returns c = going_end c.loop-j.invariant (omega arith)

-- one message more is received at its placeholder
pub loop-j-preserved : goal.loop-j-preserved
loop-j-preserved c =
    let more : c.loop-j.j < c.args.left = omega arith in
    let read = c.entry-row.ensures.0 in
    let place = c.narrow-in-loop-j.ensures in
    elim c.if-opens.branch [
      | goal.then-opens w ↦
          rw (w.entries-is, w.log-is, w.out-is, w.reached-is)
          (going_next _ _ _ _ c.loop-j.invariant more read place (fresh-brought _ _ w.new-dictionary.ensures w.receive-there.ensures))
      | goal.else-opens w ↦
          rw (w.entries-is, w.log-is, w.out-is, w.reached-is)
          (going_next _ _ _ _ c.loop-j.invariant more read place w.settle-settled.ensures)
    ]
