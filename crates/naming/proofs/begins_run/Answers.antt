-- `naming::begins_run` meets its contract: by the range, and inside it by the hunt. Assumes nothing.
use Rattle.std.proofs.Common.{sym, ◌∙◌, arith, leb-true}
use Rattle.naming.specs.Called.Laws.{run_none, run_past, run-above, run-below, run-hunted}
use Rattle.naming.proofs.begins_run.Goals as goal
use Rattle.naming.proofs.begins_run.Goals.{then-range-begin, else-range-begin}

pub returns-then-n-eq0 : goal.returns-then-n-eq0
returns-then-n-eq0 c = run_none _ _ _ _ c.if-n-eq0.true

-- the run leaves 32 bits
pub returns-then-end-gt-ALL : goal.returns-then-end-gt-ALL
returns-then-end-gt-ALL c = run_past _ _ _ _ c.if-n-eq0.false (omega arith)

-- it is above all numbers, or below them
pub returns-then-outside : goal.returns-then-outside
returns-then-outside c = c.if-outside.true ∙ elim c.if-range-begin.branch [
  | then-range-begin w ↦ run-above _ _ _ c.requires c.if-n-eq0.false (omega arith) (omega arith)
  | else-range-begin w ↦ (let below = leb-true _ _ (sym w.outside-is ∙ c.if-outside.true) in
      run-below _ _ _ c.requires c.if-n-eq0.false (omega arith) (omega arith))
]

-- it is among them, and was hunted for
pub returns-else-outside : goal.returns-else-outside
returns-else-outside c = run-hunted _ _ _ _ c.if-n-eq0.false (omega arith) c.free_before.ensures
