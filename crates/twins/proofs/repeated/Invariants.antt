-- `twins::repeated` meets its contract: no row that the loop has passed repeats an earlier one. Assumes nothing.
use Rattle.book.specs.Rules.{repeats}
use Rattle.header.specs.Scans.{Passed}
use Rattle.twins.proofs.repeated.Given as goal

abbrev pub invariant-loop-row : goal.invariant-loop-row
invariant-loop-row l = Passed (repeats l.book) l.row
