-- `walking::hold` meets its contract: what a walk through all steps that finds nothing leaves is what is held in the
-- end. Assumes nothing.
use Rattle.walking.proofs.Whole.{held_whole}
use Rattle.walking.proofs.hold.Goals as goal

pub returns : goal.returns
returns c = held_whole c.steps.ensures c.requires.1 c.walk.ensures
