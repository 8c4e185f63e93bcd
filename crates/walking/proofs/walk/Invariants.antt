-- `walking::walk` meets its contract: the party came through the steps so far and has not stopped; a step at which it stops
-- is the last. Assumes nothing.
use Rattle.receiving.specs.Receiving.{standing}
use Rattle.walking.specs.Walking.{WalkReady}
use Rattle.walking.proofs.Walked.{Walked}
use Rattle.walking.proofs.walk.Given as goal

abbrev pub invariant-loop-i : goal.invariant-loop-i
invariant-loop-i l = WalkReady l.book l.since l.partners l.party l.upto l.at
    × Walked l.book l.party l.i l.initial.log l.log l.at l.initial.out l.out (standing l.i l.entries l.next l.kept l.last)
    l.events l.initial.sends l.sends l.initial.receives l.receives
