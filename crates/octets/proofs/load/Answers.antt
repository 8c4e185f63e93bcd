-- `octets::load` meets its contract: word by word, the first i words that the bytes make are written. Assumes nothing.
use Rattle.std.proofs.Common.{arith, rules}
use Rattle.words.specs.Overlay.Laws.{wrote_none}
use Rattle.octets.specs.Octets.Laws.{load-more, load-all}
use Rattle.octets.proofs.load.Goals as goal

pub loop-i-init : goal.loop-i-init
loop-i-init c = search (wrote_none, rules)

-- the word that is due
pub loop-i-preserved : goal.loop-i-preserved
loop-i-preserved c = load-more c.args.bytes.now c.loop-i.i (omega arith) c.word_at.ensures c.loop-i.invariant
    c.put-next.ensures

-- the loop ends with the bytes, or with the room
pub returns : goal.returns
returns c = load-all c.args.bytes.now c.args.out.now c.loop-i.i (omega arith) c.loop-i.invariant
