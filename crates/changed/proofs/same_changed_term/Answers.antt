-- `changed::same_changed_term` meets its contract: what comes at i is what the terms still to come at j become.
-- Assumes nothing.
use Rattle.spans.specs.Behind.Laws.{ends_at}
use Rattle.changed.specs.Put.Laws.{along-begin, along-word, along-leaf, along-fails, along-found, along-again, along-done}
use Rattle.changed.proofs.same_changed_term.Goals as goal

pub loop-due-init : goal.loop-due-init
loop-due-init c = search along-begin

pub step_end-requires : goal.step_end-requires
step_end-requires c = (
  c.loop-due.invariant.inside,
  c.loop-due.invariant.next c.loop-due-test.true,
  along-leaf _ _ _ _ _ _ _ _ c.loop-due.invariant c.loop-due-test.true,
  along-word _ _ _ _ _ _ _ _ c.loop-due.invariant c.loop-due-test.true,
  c.requires.2,
)

pub returns-in_default : goal.returns-in_default
returns-in_default c = along-fails _ _ _ _ _ _ _ _ c.loop-due.invariant c.loop-due-test.true c.in_default.ensures

pub unwrap-j-requires : goal.unwrap-j-requires
unwrap-j-requires c = search along-found

pub loop-due-preserved : goal.loop-due-preserved
loop-due-preserved c =
    along-again _ _ _ _ _ _ _ _ c.loop-due.invariant c.loop-due-test.true _ c.in-Some.ensures
    _ (ends_at _ _ _ _ _ c.term_own.ensures c.unwrap-j.ensures) _ c.term_parts.ensures.0

pub returns : goal.returns
returns c = search along-done
