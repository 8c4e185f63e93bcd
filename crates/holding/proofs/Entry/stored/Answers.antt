-- `holding::Entry::stored` meets its contract. Assumes nothing.
use native.Mathlib.Omega.{arith}
use borrow.Author.Rules.{rules}
use Rattle.holding.specs.Entry.Laws.{held-stored}
use Rattle.holding.proofs.Entry.stored.Goals as goal

pub returns : goal.returns
returns c = held-stored _ _ _ (search rules) (omega arith)
