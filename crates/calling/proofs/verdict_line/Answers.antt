-- `calling::verdict_line` meets its contract: the function that the number picks is the one that is called (`calls-read`,
-- `calls-accept`). Assumes nothing.
use mathlib.Core.Path.{◌∙◌}
use native.Mathlib.Omega.{arith}
use Rattle.calling.specs.Call.Laws.{calls-read, calls-accept}
use Rattle.calling.proofs.verdict_line.Goals as goal

-- of the reader's verdict
pub returns-then-function-eq-READ-clause-line_after : goal.returns-then-function-eq-READ-clause-line_after
returns-then-function-eq-READ-clause-line_after c = let picks = calls-read c.args.function c.args.book.now in
    c.reading_line.ensures.line_after ∙ picks (omega arith) c.read.ensures

-- of acceptance: no other number is left
pub returns-clause-line_after : goal.returns-clause-line_after
returns-clause-line_after c = let picks = calls-accept c.args.function c.args.book.now in
    c.reading_line-2.ensures.line_after ∙ picks (omega arith) c.accept.ensures
