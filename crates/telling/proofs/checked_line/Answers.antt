-- `telling::checked_line` meets its contract: what is found, or a refusal (`line-found`, `line-unchecked`). Assumes
-- nothing.
use mathlib.Core.Path.{◌∙◌}
use Rattle.telling.specs.Found.Laws.{line-found, line-unchecked}
use Rattle.telling.proofs.checked_line.Goals as goal

-- what was found
pub returns-in-Ok-clause-line_after : goal.returns-in-Ok-clause-line_after
returns-in-Ok-clause-line_after c = c.finding_line.ensures.line_after ∙ line-found c.in-Ok.finding c.in-Ok.is

-- a refusal
pub returns-in-Err-clause-line_after : goal.returns-in-Err-clause-line_after
returns-in-Err-clause-line_after c =
    c.refusal_line.ensures.line_after ∙ line-unchecked c.in-Err.refusal c.in-Err.is
