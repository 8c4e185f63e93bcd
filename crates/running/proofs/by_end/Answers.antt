-- `running::by_end` meets its contract: by the word, end. Assumes nothing.
use Rattle.words.specs.Choice.{pick}
use Rattle.running.specs.Rules.{label_rule}
use Rattle.running.proofs.by_end.Goals as goal

pub returns : goal.returns
unfolding label_rule pick
returns c = c.by_label.ensures
