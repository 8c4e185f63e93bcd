-- `balance::is_effect` meets its contract: the words are equal, and the terms. Assumes nothing.
use borrow.Author.Tests.{ne_eqb}
use Rattle.std.proofs.Common.{◌∙◌}
use Rattle.alike.specs.Same.Laws.{terms_compared}
use Rattle.balance.specs.Sum.Laws.{by-other, by_one}
use Rattle.balance.proofs.is_effect.Goals as goal

pub returns-then-d-c : goal.returns-then-d-c
returns-then-d-c c = let (l, h, own, low, high, other) = c.requires in
    by_one _ _ _ _ l h c.if-d-c.true _ (terms_compared _ _ _ _ _ _ own other _ c.same_few.ensures)

pub returns-else-d-c : goal.returns-else-d-c
returns-else-d-c c = let (l, h, own, low, high, other) = c.requires in
    ne_eqb _ _ c.if-d-c.false ∙ by-other _ _ _ _ l h low high c.if-d-c.false
