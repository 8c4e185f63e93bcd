-- `naming::size` meets its contract: the words, and those that the bytes make. Assumes nothing.
use mathlib.Core.Path.{sym}
use Rattle.naming.specs.Mirror.Laws.{theirs-length}
use Rattle.naming.proofs.size.Goals as goal

pub returns : goal.returns
returns c = sym (theirs-length c.args.words.now c.args.bytes.now)
