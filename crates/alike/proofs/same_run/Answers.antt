-- `alike::same_run` meets its contract: two parts of the words are compared. Assumes nothing.
use Rattle.alike.specs.Same.Laws.{runs_compared}
use Rattle.alike.proofs.same_run.Goals as goal

pub returns : goal.returns
returns c = search runs_compared
