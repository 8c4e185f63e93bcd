-- `running::by_stop` meets its contract: the process by its pieces, and its premises. Assumes nothing.
use Rattle.std.proofs.Common.{arith}
use Rattle.ruling.specs.Line.{says_process, says_environment}
use Rattle.ruling.specs.Line.Laws.{none-stated}
use Rattle.ruling.specs.Rules.Decide.{by-law}
use Rattle.running.specs.Rules.{rule_code}
use Rattle.running.specs.Rules.Laws.{stop, other}
use Rattle.running.proofs.by_stop.Goals as goal

pub returns-in_default : goal.returns-in_default
unfolding rule_code says_process
returns-in_default c = other _ _ _ _ _ c.in_default.ensures.1

pub returns-then-same_at : goal.returns-then-same_at
unfolding says_process says_environment
returns-then-same_at c = let none = none-stated _ _ _ c.requires.0.effects in by-law (stop _ _ _ _ c.in-Some.ensures.1.is) (grind arith)

pub returns-else-same_at : goal.returns-else-same_at
unfolding says_process says_environment
returns-else-same_at c = let none = none-stated _ _ _ c.requires.0.effects in by-law (stop _ _ _ _ c.in-Some.ensures.1.is) (grind arith)
