-- `running::by_inp` meets its contract: the process by its pieces, and its premises. Assumes nothing.
use Rattle.std.proofs.Common.{arith}
use Rattle.ruling.specs.Line.{says_process, says_term}
use Rattle.shapes.specs.Shape.{made_type}
use Rattle.ruling.specs.Rules.Decide.{by-law}
use Rattle.running.specs.Rules.{rule_code}
use Rattle.running.specs.Rules.Laws.{inp, other}
use Rattle.running.proofs.by_inp.Goals as goal

pub returns-in_default : goal.returns-in_default
unfolding rule_code says_process
returns-in_default c = other _ _ _ _ _ c.in_default.ensures.1

pub returns-then-received : goal.returns-then-received
unfolding says_process says_term made_type
returns-then-received c = by-law (inp _ _ _ _ _ _ _ _ _ _ _ _ _ c.in-Some.ensures.1.is) (grind arith)

pub returns-else-received : goal.returns-else-received
unfolding says_process says_term made_type
returns-else-received c = by-law (inp _ _ _ _ _ _ _ _ _ _ _ _ _ c.in-Some.ensures.1.is) (grind arith)
