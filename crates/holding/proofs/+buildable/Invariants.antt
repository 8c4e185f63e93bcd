-- `holding::buildable`: a row's parts are rows before it. Assumes nothing.
use Rattle.holding.proofs.Going.{Going}
use Rattle.holding.proofs.+buildable.Given as goal

abbrev pub decreases-buildable : goal.decreases-buildable
decreases-buildable l = l.row

abbrev pub invariant-loop-j : goal.invariant-loop-j
invariant-loop-j l = Going l.book l.entries l.row l.first l.n l.j
