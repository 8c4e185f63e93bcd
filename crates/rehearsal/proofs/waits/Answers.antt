-- `rehearsal::waits` meets its contract: the party waits for none of the steps that were passed. Assumes nothing.
use Rattle.rehearsal.proofs.Waiting.{some-step, no_step}
use Rattle.rehearsal.proofs.waits.Goals as goal

pub returns-then-waits_for : goal.returns-then-waits_for
returns-then-waits_for c = search some-step

pub returns : goal.returns
returns c = search no_step
