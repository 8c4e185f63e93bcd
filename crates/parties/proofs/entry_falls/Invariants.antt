-- `parties::entry_falls` meets its contract: every entry before the loop's is below the next. Assumes nothing.
use Rattle.std.proofs.Common.{◌+◌, ◌-◌, leb}
use Rattle.book.specs.Layout.{pooled}
use Rattle.header.specs.Scans.{Passed}
use Rattle.parties.proofs.entry_falls.Given as goal

abbrev pub invariant-loop-j : goal.invariant-loop-j
invariant-loop-j l = Passed (λ k. leb (pooled l.book l.first (k + 1)) (pooled l.book l.first k)) (l.j - 1)
