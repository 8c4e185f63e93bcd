-- `alike::same_term` meets its contract: terms are the same exactly if their words are. Assumes nothing.
use Rattle.alike.specs.Same.Laws.{terms_compared}
use Rattle.alike.proofs.same_term.Goals as goal

pub returns : goal.returns
returns c = search terms_compared
