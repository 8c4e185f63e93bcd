-- `spans::process_end` meets its contract: a process is its own words, and its parts behind them. Assumes nothing.
use Rattle.spans.specs.Behind.Processes.{process-nested}
use Rattle.spans.proofs.process_end.Goals as goal

pub returns : goal.returns
returns c = rw process-nested c.nested_end.ensures
