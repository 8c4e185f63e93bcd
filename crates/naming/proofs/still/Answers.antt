-- `naming::still` meets its contract: a run counts where the word is its length. Assumes nothing.
use Rattle.words.specs.Choice.{pick}
use Rattle.naming.specs.Mirror.Laws.{still-other}
use Rattle.naming.proofs.still.Goals as goal

-- it was free, and the run is apart or not
pub returns-then-free : goal.returns-then-free
unfolding pick
returns-then-free c = rw (c.in-Length.is, c.if-free.true, pick) c.apart.ensures

pub returns-else-free : goal.returns-else-free
unfolding pick
returns-else-free c = rw (c.if-free.false, pick)

pub returns-in_default : goal.returns-in_default
returns-in_default c = still-other _ _ _ _ _ c.in_default.not-Length
