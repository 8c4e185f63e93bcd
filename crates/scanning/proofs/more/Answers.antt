-- `scanning::more` meets its contract: the sum below the cap, and else what there was. Assumes nothing.
use Rattle.scanning.specs.Scan.Laws.{pending-more, pending-full}
use Rattle.scanning.proofs.more.Goals as goal

-- below the cap they are counted
pub returns-then-images-lt-CAP : goal.returns-then-images-lt-CAP
returns-then-images-lt-CAP c = pending-more _ _ _ c.if-images-lt-CAP.true c.wide.ensures.0

pub returns-else-images-lt-CAP : goal.returns-else-images-lt-CAP
returns-else-images-lt-CAP c = search pending-full
