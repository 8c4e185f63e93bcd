-- `claims::mark_known` meets its contract: row by row, the known rows passed are marked. Assumes nothing.
use Rattle.claims.proofs.Passed.{Knows}
use Rattle.claims.specs.Marked.{Ready}
use Rattle.claims.proofs.mark_known.Given as goal

abbrev pub invariant-loop-j : goal.invariant-loop-j
invariant-loop-j l = Knows l.book l.first l.j l.initial.since l.since × Ready l.book l.since l.seen
