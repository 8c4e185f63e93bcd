-- `spans::type_end` meets its contract: a type is its own words, and its parts behind them. Assumes nothing.
use Rattle.spans.specs.Behind.Types.{type-nested}
use Rattle.spans.proofs.type_end.Goals as goal

pub returns : goal.returns
returns c = rw type-nested c.nested_end.ensures
