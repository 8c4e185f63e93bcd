-- `receiving::put_check` meets its contract: the event's first words, then the row's image. Assumes nothing.
use Rattle.receiving.proofs.EventWords.{check-wrote}
use Rattle.receiving.proofs.put_check.Goals as goal

pub returns : goal.returns
returns c = search check-wrote
