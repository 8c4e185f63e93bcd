-- `walking::note_own` meets its contract: the step is the party's, and its place is written, or it is another's. Assumes
-- nothing.
use Rattle.walking.specs.Noted.Laws.{noted_other, noted-there}
use Rattle.walking.proofs.note_own.Goals as goal

-- the step is the party's
pub returns-then-who-party : goal.returns-then-who-party
returns-then-who-party c = noted-there c.if-who-party.true c.wide.ensures.0 c.put.ensures

-- the step is another's
pub returns-else-who-party : goal.returns-else-who-party
returns-else-who-party c = noted_other _ _ c.if-who-party.false
