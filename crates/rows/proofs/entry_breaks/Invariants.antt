-- `rows::entry_breaks` meets its contract: every entry that the loop has passed is below the bound. Assumes nothing.
use Rattle.std.proofs.Common.{leb}
use Rattle.book.specs.Layout.{pooled}
use Rattle.header.specs.Scans.{Passed}
use Rattle.rows.proofs.entry_breaks.Given as goal

abbrev pub invariant-loop-j : goal.invariant-loop-j
invariant-loop-j l = Passed (λ k. leb l.bound (pooled l.book l.first k)) l.j
