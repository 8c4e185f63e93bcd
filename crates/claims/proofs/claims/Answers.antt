-- `claims::claims` meets its contract: from tables of zeros, names and starting knowledge first, then the steps.
-- Assumes nothing.
use Rattle.claims.proofs.Marks.{all-zero, ready-start}
use Rattle.claims.specs.Claims.Laws.{claims-start}
use borrow.Author.Rules.{rules}
use Rattle.claims.proofs.claims.Goals as goal

pub mark_start-requires : goal.mark_start-requires
mark_start-requires c = search (ready-start, rules)

-- names and starting knowledge are marked with 1, over zeros
pub mark_steps-requires : goal.mark_steps-requires
mark_steps-requires c = (search rules, claims-start _ _ _ all-zero c.mark_start.ensures.0, search rules)
