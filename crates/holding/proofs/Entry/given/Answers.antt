-- `holding::Entry::given` meets its contract. Assumes nothing.
use native.Mathlib.Omega.{arith}
use Rattle.holding.specs.Entry.Laws.{held-given}
use Rattle.holding.proofs.Entry.given.Goals as goal

pub returns : goal.returns
returns c = held-given _ (λ z. omega arith) (omega arith)
