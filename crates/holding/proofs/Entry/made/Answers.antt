-- `holding::Entry::made` meets its contract. Assumes nothing.
use native.Mathlib.Omega.{arith}
use borrow.Author.Rules.{rules}
use Rattle.holding.specs.Entry.Laws.{held-made}
use Rattle.holding.proofs.Entry.made.Goals as goal

pub returns : goal.returns
returns c = held-made _ _ (search rules) (omega arith)
