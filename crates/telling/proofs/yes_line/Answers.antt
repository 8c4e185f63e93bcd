-- `telling::yes_line` meets its contract: by the reply (`line-yes`, `line-no`). Assumes nothing.
use mathlib.Core.Path.{refl, ap}
use Rattle.std.specs.Prelude.{Ok}
use Rattle.telling.specs.Reply.Laws.{line-yes, line-no}
use Rattle.telling.proofs.yes_line.Goals as goal

-- yes
pub returns-then-yes-clause-line_after : goal.returns-then-yes-clause-line_after
returns-then-yes-clause-line_after c = line-yes c.put_text.ensures refl (ap Ok c.if-yes.true)

-- no
pub returns-clause-line_after : goal.returns-clause-line_after
returns-clause-line_after c = line-no c.put_text-2.ensures refl (ap Ok c.if-yes.false)
