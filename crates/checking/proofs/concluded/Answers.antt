-- `checking::concluded` meets its contract: where no rule is named, none concludes. Assumes nothing.
use mathlib.Core.Path.{sym}
use Rattle.choosing.specs.Kinds.Laws.{kind-none}
use Rattle.checking.proofs.concluded.Goals as goal

pub returns-in-Err : goal.returns-in-Err
returns-in-Err c = sym (kind-none _ c.in-Err.ensures)
