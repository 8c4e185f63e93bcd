-- `holding::Entry::since` meets its contract. Assumes nothing.
use Rattle.holding.specs.Entry.Laws.{since-zero, since-given, since-step}
use Rattle.holding.proofs.Entry.since.Goals as goal

-- not held
pub returns-then-entry-eq0 : goal.returns-then-entry-eq0
returns-then-entry-eq0 c never = since-zero _ _ c.if-entry-eq0.true

-- given
pub returns-then-entry-lt-MADE : goal.returns-then-entry-lt-MADE
returns-then-entry-lt-MADE c never = since-given _ _ c.if-entry-eq0.false c.if-entry-lt-MADE.true

-- made or stored
pub returns-else-entry-lt-MADE : goal.returns-else-entry-lt-MADE
returns-else-entry-lt-MADE c never = since-step _ _ c.if-entry-lt-MADE.false
