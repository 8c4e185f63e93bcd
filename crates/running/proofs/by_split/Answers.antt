-- `running::by_split` meets its contract: the process by its pieces, and its premises. Assumes nothing.
use Rattle.std.proofs.Common.{arith}
use Rattle.ruling.specs.Line.{says_process, says_term}
use Rattle.shapes.specs.Shape.{made_type}
use Rattle.ruling.specs.Rules.Decide.{by-law}
use Rattle.running.specs.Rules.{rule_code}
use Rattle.running.specs.Rules.Laws.{split, other}
use Rattle.running.proofs.by_split.Goals as goal

pub returns-in_default : goal.returns-in_default
unfolding rule_code says_process
returns-in_default c = other _ _ _ _ _ c.in_default.ensures.1

pub returns-then-taken_apart : goal.returns-then-taken_apart
unfolding says_process says_term made_type
returns-then-taken_apart c = by-law (split _ _ _ _ _ _ _ _ _ _ _ _ _ _ _ c.in-Some.ensures.1.is) (grind arith)

pub returns-else-taken_apart : goal.returns-else-taken_apart
unfolding says_process says_term made_type
returns-else-taken_apart c = by-law (split _ _ _ _ _ _ _ _ _ _ _ _ _ _ _ c.in-Some.ensures.1.is) (grind arith)
