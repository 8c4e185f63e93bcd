-- `receiving::put_open` meets its contract: the event's first words, then the image of the key's partner; a cipher
-- has a key, so that its contents are one part less. Assumes nothing.
use Rattle.receiving.proofs.EventWords.{open-wrote}
use Rattle.receiving.proofs.put_open.Goals as goal

pub returns : goal.returns
returns c = search open-wrote
