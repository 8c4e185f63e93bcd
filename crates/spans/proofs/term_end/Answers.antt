-- `spans::term_end` meets its contract: a term is its own words, and its parts behind them. Assumes nothing.
use Rattle.spans.specs.Behind.Terms.{term-nested}
use Rattle.spans.proofs.term_end.Goals as goal

pub returns : goal.returns
returns c = rw term-nested c.nested_end.ensures
