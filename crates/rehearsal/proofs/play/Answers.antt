-- `rehearsal::play` meets its contract: the counts are those of the moves that were passed, and each turn adds one
-- move (`played-on`). Assumes nothing.
use Rattle.std.proofs.Common.{rules}
use Rattle.rehearsal.proofs.Counted.{played-none, played-on}
use Rattle.rehearsal.proofs.play.Goals as goal

pub loop-party-init : goal.loop-party-init
loop-party-init c = (played-none _ _ _, search rules)

pub loop-party-preserved : goal.loop-party-preserved
loop-party-preserved c = (search played-on, search rules)
