-- `octets::put_words` meets its contract: the next word's bytes are written behind those written so far. Assumes nothing.
use Rattle.std.proofs.Common.{arith}
use Rattle.octets.specs.Octets.Laws.{bytes-none, bytes-more}
use Rattle.octets.proofs.put_words.Goals as goal

pub loop-w-init : goal.loop-w-init
loop-w-init c = bytes-none

pub loop-w-preserved : goal.loop-w-preserved
loop-w-preserved c = bytes-more c.args.from.now c.loop-w.w-index (omega arith) c.loop-w.invariant c.put_word-next.ensures
