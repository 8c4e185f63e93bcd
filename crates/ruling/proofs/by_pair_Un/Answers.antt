-- `ruling::by_pair_Un` meets its contract: by the word, a pair. Assumes nothing.
use Rattle.words.specs.Choice.{pick}
use Rattle.ruling.specs.Rules.{join_Un}
use Rattle.ruling.proofs.by_pair_Un.Goals as goal

pub returns : goal.returns
unfolding join_Un pick
returns c = c.joined_Un.ensures
