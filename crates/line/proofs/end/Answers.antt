-- `line::end` meets its contract: by whether anything stands in the line (`ended-none`, `ended_some`).
-- Assumes nothing.
use native.Mathlib.Omega.{arith}
use Rattle.line.specs.Line.Laws.{ended-none, ended_some}
use Rattle.line.proofs.end.Goals as goal

-- nothing stands in it: the newline is all
pub returns-then-at-eq0-clause-line_after : goal.returns-then-at-eq0-clause-line_after
returns-then-at-eq0-clause-line_after c = ended-none c.args.line.now _ c.if-at-eq0.true (omega arith)

-- the newline takes the last space's place
pub returns-clause-line_after : goal.returns-clause-line_after
returns-clause-line_after c = ended_some c.args.line.now c.args.at (omega arith) (omega arith)
