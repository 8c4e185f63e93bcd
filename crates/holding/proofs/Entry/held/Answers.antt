-- `holding::Entry::held` meets its contract. Assumes nothing.
use Rattle.holding.specs.Entry.Laws.{held_test}
use Rattle.holding.proofs.Entry.held.Goals as goal

pub returns : goal.returns
returns c = held_test _
