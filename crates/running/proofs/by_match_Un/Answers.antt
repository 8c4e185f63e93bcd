-- `running::by_match_Un` meets its contract: by the word, match. Assumes nothing.
use Rattle.words.specs.Choice.{pick}
use Rattle.running.specs.Rules.{open_rule}
use Rattle.running.proofs.by_match_Un.Goals as goal

pub returns : goal.returns
unfolding open_rule pick
returns c = c.opened_Un.ensures
