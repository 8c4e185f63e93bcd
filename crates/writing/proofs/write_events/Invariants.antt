-- `writing::write_events` meets its contract: the bytes of the steps before the one at hand are written, and each turn adds those of one
-- step (`flushed-on`). Assumes nothing.
use Rattle.writing.proofs.Flushed.{Flushed}
use Rattle.writing.proofs.write_events.Given as goal

abbrev pub invariant-loop-i : goal.invariant-loop-i
invariant-loop-i l = Flushed l.book l.party l.i l.initial.log l.log l.initial.out l.at l.out l.next l.entries l.given l.kept l.step
