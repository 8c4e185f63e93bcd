-- `header::offsets` meets its contract: the sections that the loop has passed begin where they have to, and the next has
-- to begin at `next`; no sum wraps, as no book with such counts is longer than the longest. Assumes nothing.
use Rattle.header.proofs.Header.{Placed}
use Rattle.header.proofs.offsets.Given as goal

abbrev pub invariant-loop-i : goal.invariant-loop-i
invariant-loop-i l = Placed l.book l.i l.next
