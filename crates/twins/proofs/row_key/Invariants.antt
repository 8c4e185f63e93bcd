-- `twins::row_key` meets its contract: the parts are mixed in one after another (`mixing-on`). Assumes nothing.
use Rattle.twins.specs.Keys.Laws.{Mixing}
use Rattle.twins.proofs.row_key.Given as goal

abbrev pub invariant-loop-j : goal.invariant-loop-j
invariant-loop-j l = Mixing l.book l.row l.first l.j-end l.key l.j
