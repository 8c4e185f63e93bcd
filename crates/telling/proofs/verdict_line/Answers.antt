-- `telling::verdict_line` meets its contract: by the verdict (`line_same`, `line-differs`). Assumes nothing.
use mathlib.Core.Path.{refl, ap, ◌∙◌}
use Rattle.std.specs.Prelude.{Ok}
use Rattle.telling.specs.Judgement.Laws.{line_same, line-differs}
use Rattle.telling.proofs.verdict_line.Goals as goal

-- the same
pub returns-in-Same-clause-line_after : goal.returns-in-Same-clause-line_after
returns-in-Same-clause-line_after c = line_same c.put_text.ensures refl (ap Ok c.in-Same.is)

-- a place
pub returns-in-Differs-clause-line_after : goal.returns-in-Differs-clause-line_after
returns-in-Differs-clause-line_after c =
    c.numbered_line.ensures.line_after ∙ line-differs c.in-Differs.place refl (ap Ok c.in-Differs.is)
