-- `holding::start` meets its contract: the known rows are entered one after another. Assumes nothing.
use Rattle.holding.proofs.Starting.{Starting}
use Rattle.holding.proofs.start.Given as goal

abbrev pub invariant-loop-j : goal.invariant-loop-j
invariant-loop-j l = Starting l.book l.entries l.first l.j
