-- `line::answer_line` meets its contract: by the answer (`line-written`, `line_refused`); what was written lies in
-- the lent words. Assumes nothing.
use mathlib.Core.Path.{refl}
use Rattle.line.specs.Line.Laws.{line-written, line_refused}
use Rattle.line.proofs.answer_line.Goals as goal

-- the line of the words that were written
pub returns-in-Ok-clause-line_after : goal.returns-in-Ok-clause-line_after
returns-in-Ok-clause-line_after c =
    line-written _ c.args.lent.now c.in-Ok.n _ c.in-Ok.is c.listing_line.ensures.line_after refl

-- the line of the refusal
pub returns-in-Err-clause-line_after : goal.returns-in-Err-clause-line_after
returns-in-Err-clause-line_after c =
    line_refused _ c.args.lent.now c.in-Err.refusal c.in-Err.is c.refusal_line.ensures.line_after
