-- `naming::fill` meets its contract: the first numbers are written, and each turn writes the next. Assumes nothing.
use Rattle.words.specs.Overlay.{Wrote}
use Rattle.renaming.specs.Renaming.{numbers}
use Rattle.naming.proofs.fill.Given as goal

abbrev pub invariant-loop-j : goal.invariant-loop-j
invariant-loop-j l = Wrote (numbers l.y l.j) l.initial.table l.at l.table l.next
