-- `rows::oversize` meets its contract: the sizes of the rows that the loop has passed stand in `sizes`, and none is
-- over 1,024. Assumes nothing.
use Rattle.book.specs.Rules.{size_breaks}
use Rattle.header.specs.Scans.{Passed}
use Rattle.rows.proofs.Sizes.{Filled}
use Rattle.rows.proofs.oversize.Given as goal

abbrev pub invariant-loop-row : goal.invariant-loop-row
invariant-loop-row l = Passed (size_breaks l.book) l.row × Filled l.book l.sizes l.row
