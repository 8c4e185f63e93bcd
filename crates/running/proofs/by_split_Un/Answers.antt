-- `running::by_split_Un` meets its contract: the process by its pieces, and its premises. Assumes nothing.
use Rattle.std.proofs.Common.{arith}
use Rattle.ruling.specs.Line.{says_process, says_term}
use Rattle.shapes.specs.Shape.{made_type}
use Rattle.ruling.specs.Rules.Decide.{by-law}
use Rattle.running.specs.Rules.{rule_code}
use Rattle.running.specs.Rules.Laws.{split-Un, other}
use Rattle.running.proofs.by_split_Un.Goals as goal

pub returns-in_default : goal.returns-in_default
unfolding rule_code says_process
returns-in_default c = other _ _ _ _ _ c.in_default.ensures.1

pub returns-then-same_as-2 : goal.returns-then-same_as-2
unfolding says_process says_term made_type
returns-then-same_as-2 c = by-law (split-Un _ _ _ _ _ _ _ _ _ _ _ _ _ _ _ c.in-Some.ensures.1.is) (grind arith)

pub returns-else-same_as-2 : goal.returns-else-same_as-2
unfolding says_process says_term made_type
returns-else-same_as-2 c = by-law (split-Un _ _ _ _ _ _ _ _ _ _ _ _ _ _ _ c.in-Some.ensures.1.is) (grind arith)
