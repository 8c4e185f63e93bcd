-- `checking::first_bad` meets its contract: the lines before i pass. Assumes nothing.
use Rattle.checking.specs.Lines.{Passed}
use Rattle.checking.proofs.first_bad.Given as goal

abbrev pub invariant-loop-i : goal.invariant-loop-i
invariant-loop-i l = Passed l.w l.i
