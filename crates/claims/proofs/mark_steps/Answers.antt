-- `claims::mark_steps` meets its contract: step by step, the table is that of the narration cut after the steps passed.
-- Assumes nothing.
use Rattle.claims.proofs.Passed.{step-span, step-claimed, steps-claimed}
use mathlib.Core.Path.{refl}
use borrow.Author.Rules.{rules}
use native.Mathlib.Omega.{arith}
use Rattle.claims.proofs.mark_steps.Goals as goal

pub mark_list-requires : goal.mark_list-requires
mark_list-requires c = (
  search rules,
  search rules,
  omega arith,
  step-span _ c.requires.0 _ _ _ _ _ c.rows.ensures c.steps-step-end.ensures (omega arith) c.step_first.ensures.0 c.step_count.ensures.0,
  omega arith,
)

-- the messages of this step are marked, and with step + 2
pub loop-step-preserved : goal.loop-step-preserved
loop-step-preserved c = (
  step-claimed c.step_first.ensures.0 c.step_count.ensures.0
      c.loop-step.invariant.0 c.mark_list.ensures.0 refl,
  search rules,
)

pub returns : goal.returns
returns c = steps-claimed (omega arith) c.loop-step.invariant.0
