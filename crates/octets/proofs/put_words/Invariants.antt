-- `octets::put_words` meets its contract: word by word, the bytes of those so far are written. Assumes nothing.
use Rattle.std.proofs.Common.{take}
use Rattle.words.specs.Overlay.{Wrote}
use Rattle.octets.specs.Octets.{bytes_of_all}
use Rattle.octets.proofs.put_words.Given as goal

abbrev pub invariant-loop-w : goal.invariant-loop-w
invariant-loop-w l = Wrote (bytes_of_all (take l.w-index l.from)) l.initial.out l.at l.out l.next
