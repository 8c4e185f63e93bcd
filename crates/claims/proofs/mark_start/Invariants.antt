-- `claims::mark_start` meets its contract: party by party, the names and the knowledge of those passed are marked. Assumes nothing.
use Rattle.claims.proofs.Passed.{Begun}
use Rattle.claims.specs.Marked.{Ready}
use Rattle.claims.proofs.mark_start.Given as goal

abbrev pub invariant-loop-party : goal.invariant-loop-party
invariant-loop-party l = Begun l.book l.party l.initial.since l.since × Ready l.book l.since l.seen
