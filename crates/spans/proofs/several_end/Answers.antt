-- `spans::several_end` meets its contract: of k things from the place a, as many as the turns are behind the place i. Assumes nothing.
use Rattle.spans.specs.Behind.Laws.{ends-nothing}
use Rattle.spans.specs.Behind.Times.{walk_none, walk-again, walk-done}
use Rattle.spans.proofs.several_end.Goals as goal

pub returns-in_err-i : goal.returns-in_err-i
returns-in_err-i g c = search (ends-nothing, walk_none, c.in_err-i.ensures)

pub loop-preserved : goal.loop-preserved
loop-preserved g c = search (walk-again, c.in_ok-i.ensures)

pub returns : goal.returns
returns g c = search walk-done
