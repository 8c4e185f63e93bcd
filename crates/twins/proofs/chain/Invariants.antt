-- `twins::chain` meets its contract: each row, from the last on, comes in front of its chain (`chained-on`). Assumes
-- nothing.
use Rattle.twins.specs.Keys.{ChainedFrom}
use Rattle.twins.proofs.chain.Given as goal

abbrev pub invariant-loop-row : goal.invariant-loop-row
invariant-loop-row l = ChainedFrom l.book l.row l.keys l.heads l.nexts
