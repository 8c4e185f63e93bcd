-- `header::counts` meets its contract: no section that the loop has passed has a count outside its bounds.
-- Assumes nothing.
use Rattle.book.specs.Rules.{count_breaks}
use Rattle.header.specs.Scans.{Passed}
use Rattle.header.proofs.counts.Given as goal

abbrev pub invariant-loop-i : goal.invariant-loop-i
invariant-loop-i l = Passed (count_breaks l.book) l.i
