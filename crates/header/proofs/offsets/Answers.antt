-- `header::offsets` meets its contract: the sections that the loop has passed begin where they have to, and the next has
-- to begin at `next`; no sum wraps, as no book with such counts is longer than the longest. Assumes nothing.
use Rattle.std.proofs.Common.{arith}
use Rattle.header.proofs.Header.{placed-none, begins-wrong, begins-right, next-most, length-wrong, length-right}
use Rattle.header.proofs.offsets.Goals as goal

pub loop-i-init : goal.loop-i-init
loop-i-init c = placed-none

pub returns-then-book-wide : goal.returns-then-book-wide
returns-then-book-wide c = begins-wrong c.loop-i.invariant c.loop-i-test.true _ c.wide.ensures.0 c.if-book-wide.true

pub loop-i-preserved : goal.loop-i-preserved
loop-i-preserved c = begins-right c.loop-i.invariant c.loop-i-test.true _ c.wide.ensures.0
    _ c.of-section.ensures _ c.wide-in-loop-i.ensures.0 c.if-book-wide.false

-- where the section ends, as its line and its count say it
pub overflow_add-next : goal.overflow_add-next
overflow_add-next c = let fits = next-most c.loop-i.invariant c.loop-i-test.true _ c.wide.ensures.0 _ c.of-section.ensures
    _ c.wide-in-loop-i.ensures.0 c.requires.1 in omega arith

pub returns-then-book-wide-2 : goal.returns-then-book-wide-2
returns-then-book-wide-2 c = search length-wrong

pub returns : goal.returns
returns c = search length-right
