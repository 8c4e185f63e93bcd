-- `octets::load` meets its contract: word by word, the first i words that the bytes make are written. Assumes nothing.
use Rattle.std.proofs.Common.{take}
use Rattle.words.specs.Overlay.{Wrote}
use Rattle.octets.specs.Octets.{words_in}
use Rattle.octets.proofs.load.Given as goal

abbrev pub invariant-loop-i : goal.invariant-loop-i
invariant-loop-i l = Wrote (take l.i (words_in l.bytes)) l.initial.out 0 l.out l.next
