-- `octets::put_word` meets its contract: the next byte is written behind those written so far, of which there are four.
-- Assumes nothing.
use Rattle.std.proofs.Common.{◌≡◌, refl, arith}
use Rattle.words.specs.Overlay.Laws.{wrote-more}
use Rattle.octets.specs.Octets.{bytes_of}
use Rattle.octets.proofs.put_word.Goals as goal

pub loop-b-preserved : goal.loop-b-preserved
unfolding bytes_of
loop-b-preserved c = wrote-more (bytes_of c.args.w) c.loop-b.b-index (omega arith) c.loop-b.invariant
    (rw c.to_le_bytes-b-items.ensures at c.put_byte-next.ensures) refl

pub returns : goal.returns
unfolding bytes_of
returns c = let all : c.loop-b.b-index ≡ 4 = omega arith in rw all at c.loop-b.invariant
