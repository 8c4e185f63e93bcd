-- `checking::too_large` meets its contract: no line before i states too many effects. Assumes nothing.
use Rattle.checking.specs.Large.Laws.{Uncrowded}
use Rattle.checking.proofs.too_large.Given as goal

abbrev pub invariant-loop-i : goal.invariant-loop-i
invariant-loop-i l = Uncrowded l.w l.i
