-- `telling::finding_line` meets its contract: by the finding (`line-safe` and its kin). Assumes nothing.
use mathlib.Core.Path.{refl, ◌∙◌}
use Rattle.telling.specs.Found.Laws.{line-safe, line-bad, line-another}
use Rattle.telling.proofs.finding_line.Goals as goal

-- safe
pub returns-in-Safe-clause-line_after : goal.returns-in-Safe-clause-line_after
returns-in-Safe-clause-line_after c = line-safe c.put_text.ensures refl c.in-Safe.is

-- a bad line
pub returns-in-Bad-clause-line_after : goal.returns-in-Bad-clause-line_after
returns-in-Bad-clause-line_after c = c.numbered_line.ensures.line_after ∙ line-bad c.in-Bad.at refl c.in-Bad.is

-- another
pub returns-in-Another-clause-line_after : goal.returns-in-Another-clause-line_after
returns-in-Another-clause-line_after c = line-another c.put_text-in-Another.ensures refl c.in-Another.is
