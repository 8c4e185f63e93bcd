-- `following::follow_steps` meets its contract: the steps before the one at hand agree (`Stepped`), and each turn compares one step.
-- Assumes nothing.
use Rattle.naming.specs.Mirror.{theirs}
use Rattle.following.specs.Stepping.{Stepped}
use Rattle.following.proofs.follow_steps.Given as goal

abbrev pub invariant-loop-i : goal.invariant-loop-i
invariant-loop-i l = Stepped l.book l.party l.i (theirs l.words l.bytes) l.step l.table l.log l.called l.entries l.reached
