-- `words::put_all` meets its contract: word by word, those so far are written. Assumes nothing.
use Rattle.std.proofs.Common.{take}
use Rattle.words.specs.Overlay.{Wrote}
use Rattle.words.proofs.put_all.Given as goal

abbrev pub invariant-loop-w : goal.invariant-loop-w
invariant-loop-w l = Wrote (take l.w-index l.from) l.initial.out l.at l.out l.next
