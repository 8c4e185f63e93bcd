-- `running::by_parallel` meets its contract: both processes, and the sum of their effects. Assumes nothing.
use Rattle.std.proofs.Common.{arith}
use Rattle.ruling.specs.Line.{says_process}
use Rattle.ruling.specs.Line.Laws.{none-there, restates}
use Rattle.ruling.specs.Rules.Decide.{by-law}
use Rattle.running.specs.Rules.{rule_code}
use Rattle.running.specs.Rules.Sums.{sum-two}
use Rattle.running.specs.Rules.Laws.{parallel, other}
use Rattle.running.proofs.by_parallel.Goals as goal

pub returns-in_default : goal.returns-in_default
unfolding rule_code says_process
returns-in_default c = other _ _ _ _ _ c.in_default.ensures.1

pub restated-requires : goal.restated-requires
restated-requires c = (c.requires.0, c.requires.2, none-there _, c.effects_at-first.ensures.0)

pub returns-then-process_premise-2 : goal.returns-then-process_premise-2
unfolding says_process
returns-then-process_premise-2 c = let two = c.in-Some.ensures.1.second _ c.behind-q.ensures in
    let sum = rw c.effects_at-first.ensures.1 at (restates _ c.restated.ensures (sum-two _ _ _)) in
    by-law (parallel _ _ _ _ _ _ _ _ _ _ _ two.0) (grind arith)

pub returns-else-process_premise-2 : goal.returns-else-process_premise-2
unfolding says_process
returns-else-process_premise-2 c = let two = c.in-Some.ensures.1.second _ c.behind-q.ensures in
    by-law (parallel _ _ _ _ _ _ _ _ _ _ _ two.0) (grind arith)
