-- `book::other_half` meets its contract: of the public half the private, of any other the public. Assumes nothing.
use Rattle.book.specs.Kinds.Laws.{other-private, other-public}
use Rattle.book.proofs.other_half.Goals as goal

pub returns-then-kind-eq-PUBLIC : goal.returns-then-kind-eq-PUBLIC
returns-then-kind-eq-PUBLIC c = other-private _ c.if-kind-eq-PUBLIC.true

pub returns-else-kind-eq-PUBLIC : goal.returns-else-kind-eq-PUBLIC
returns-else-kind-eq-PUBLIC c = other-public _ c.if-kind-eq-PUBLIC.false
