-- `claims::mark_steps` meets its contract: step by step, the table is that of the narration cut after the steps passed.
-- Assumes nothing.
use Rattle.claims.specs.Claims.{ClaimsBefore}
use Rattle.claims.specs.Marked.{Ready}
use Rattle.claims.proofs.mark_steps.Given as goal

abbrev pub invariant-loop-step : goal.invariant-loop-step
invariant-loop-step l = ClaimsBefore l.book l.step l.since × Ready l.book l.since l.seen
