-- `telling::judgement_line` meets its contract: a verdict, or a refusal (`line-unjudged`). Assumes nothing.
use mathlib.Core.Path.{sym, ap, ◌∙◌}
use Rattle.renaming.specs.Verdict.{verdict_says}
use Rattle.telling.specs.Judgement.{judgement_line}
use Rattle.telling.specs.Judgement.Laws.{line-unjudged}
use Rattle.telling.proofs.judgement_line.Goals as goal

pub returns-in-Ok-clause-line_after : goal.returns-in-Ok-clause-line_after
returns-in-Ok-clause-line_after c = c.verdict_line.ensures.line_after ∙ ap (λ r. judgement_line (verdict_says r)) (sym c.in-Ok.is)

-- a refusal
pub returns-in-Err-clause-line_after : goal.returns-in-Err-clause-line_after
returns-in-Err-clause-line_after c = c.refusal_line.ensures.line_after ∙ line-unjudged c.in-Err.refusal c.in-Err.is
