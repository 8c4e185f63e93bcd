-- `walking::walk` meets its contract: the party came through the steps so far and has not stopped; a step at which it stops
-- is the last. Assumes nothing.
use Prim.Native.Nat.{◌+◌, ◌≤◌}
use mathlib.Core.Path.{refl}
use native.Mathlib.Omega.{arith}
use Rattle.translation.specs.Long.{most_events}
use Rattle.walking.specs.Walk.Laws.{idle-step}
use Rattle.walking.specs.Stops.Laws.{some-stop, no-stop}
use Rattle.walking.proofs.Walked.{walked_start, walked_idle, in-book, walked-ready, walked-few, walked-stops, walked_on, walked-ends}
use Rattle.walking.proofs.walk.Goals as goal
use Rattle.walking.proofs.walk.Goals.{After-act-acted}

-- the events are few, wherever the step has been done
module _ (c : After-act-acted) where
  few : (c.loop-i.events + c.act-acted.result.events ≤ most_events) × (c.act-acted.result.ahead ≤ c.act-acted.result.events)
  few =
      let (ready, walked) = c.loop-i.invariant in
      walked-few ready (omega arith) walked c.act-acted.ensures

-- before its first step the party holds what it knows
pub loop-i-init : goal.loop-i-init
loop-i-init c = let (ready, started) = c.requires in (ready, walked_start started refl)

-- the step is not the party's
pub loop-i-preserved-then-not-is_own : goal.loop-i-preserved-then-not-is_own
loop-i-preserved-then-not-is_own c = let (ready, walked) = c.loop-i.invariant in
    (ready, walked_idle (idle-step (in-book ready (omega arith) walked) c.is_own.ensures c.if-not-is_own.true) walked)

-- there is room for the placeholders and the words of all steps, so for those of this one
pub act-acted-requires : goal.act-acted-requires
act-acted-requires c = let (ready, walked) = c.loop-i.invariant in
    walked-ready ready (omega arith) walked

pub overflow_add-events : goal.overflow_add-events
overflow_add-events c = omega (arith, few (goal.at.overflow_add-events c).After-act-acted)

pub overflow_add-events-in-loop-i : goal.overflow_add-events-in-loop-i
overflow_add-events-in-loop-i c = omega (arith, few (goal.at.overflow_add-events-in-loop-i c).After-act-acted)

-- the walk stops at this step
pub returns-then-is_some : goal.returns-then-is_some
returns-then-is_some c = let (ready, walked) = c.loop-i.invariant in
    walked-stops ready (omega arith) walked c.act-acted.ensures
    c.note.ensures (some-stop c.is_some.ensures c.if-is_some.true)

-- the walk goes on
pub loop-i-preserved : goal.loop-i-preserved
loop-i-preserved c = let (ready, walked) = c.loop-i.invariant in (
  ready,
  walked_on ready (omega arith) walked c.act-acted.ensures
      c.note.ensures (no-stop _ c.is_some.ensures c.if-is_some.false),
)

-- the walk has not stopped before `upto`
pub returns : goal.returns
returns c = walked-ends c.loop-i.invariant.1 (omega arith)
