-- `ruling::by_cipher_Un` meets its contract: by the word, a cipher. Assumes nothing.
use Rattle.words.specs.Choice.{pick}
use Rattle.ruling.specs.Rules.{join_Un}
use Rattle.ruling.proofs.by_cipher_Un.Goals as goal

pub returns : goal.returns
unfolding join_Un pick
returns c = c.joined_Un.ensures
