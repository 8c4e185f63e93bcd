-- `holding::Entry::free` meets its contract. Assumes nothing.
use mathlib.Core.Path.{refl}
use Rattle.holding.specs.Entry.Laws.{held-zero}
use Rattle.holding.proofs.Entry.free.Goals as goal

pub returns : goal.returns
returns c = held-zero _ refl
