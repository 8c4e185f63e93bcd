-- `octets::put_word` meets its contract: byte by byte, those so far are written. Assumes nothing.
use Rattle.std.proofs.Common.{take}
use Rattle.words.specs.Overlay.{Wrote}
use Rattle.octets.specs.Octets.{bytes_of}
use Rattle.octets.proofs.put_word.Given as goal

abbrev pub invariant-loop-b : goal.invariant-loop-b
invariant-loop-b l = Wrote (take l.b-index (bytes_of l.w)) l.initial.out l.at l.out l.next
