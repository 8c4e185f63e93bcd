-- `line::print` meets its contract: a turn that goes on leaves less to write; what was written is the front of the line. Assumes
-- nothing.
use Rattle.std.proofs.Common.{◌-◌, ◌≤◌, length, take}
use Rattle.std.specs.Io.KnownBytes.{Appends}
use Rattle.line.proofs.print.Given as goal

abbrev pub invariant-loop-done : goal.invariant-loop-done
invariant-loop-done g l = (l.done ≤ length l.line) × Appends (g.W.Write.contents l.initial.out) (g.W.Write.contents l.out) (take l.done l.line)

abbrev pub decreases-loop-done : goal.decreases-loop-done
decreases-loop-done g l = length l.line - l.done
