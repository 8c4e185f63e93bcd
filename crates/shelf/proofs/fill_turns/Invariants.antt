-- `shelf::fill_turns` meets its contract: the moves so far are those of the turns. Assumes nothing.
use Rattle.std.proofs.Common.{◌≡◌, length}
use Rattle.shelf.specs.Filled.{Filled}
use Rattle.shelf.specs.Turns.{turn}
use Rattle.shelf.proofs.fill_turns.Given as goal

abbrev pub invariant-loop-i : goal.invariant-loop-i
invariant-loop-i l = (length l.out ≡ length l.initial.out) × Filled (turn l.parties l.times l.back) l.out l.i
