-- `telling::reply_line` meets its contract: yes or no, or a refusal (`line-refusal`). Assumes nothing.
use mathlib.Core.Path.{sym, ap, ◌∙◌}
use Rattle.summary.specs.Reply.{reply_says}
use Rattle.telling.specs.Reply.{reply_line}
use Rattle.telling.specs.Reply.Laws.{line-refusal}
use Rattle.telling.proofs.reply_line.Goals as goal

pub returns-in-Ok-clause-line_after : goal.returns-in-Ok-clause-line_after
returns-in-Ok-clause-line_after c = c.yes_line.ensures.line_after ∙ ap (λ r. reply_line (reply_says r)) (sym c.in-Ok.is)

-- a refusal
pub returns-in-Err-clause-line_after : goal.returns-in-Err-clause-line_after
returns-in-Err-clause-line_after c = c.refusal_line.ensures.line_after ∙ line-refusal c.in-Err.refusal c.in-Err.is
