-- `running::by_decrypt` meets its contract: the process by its pieces, and its premises. Assumes nothing.
use Rattle.std.proofs.Common.{arith}
use Rattle.ruling.specs.Line.{says_process, says_term}
use Rattle.shapes.specs.Shape.{made_type}
use Rattle.words.specs.Choice.{pick}
use Rattle.ruling.specs.Rules.Decide.{by-law}
use Rattle.running.specs.Rules.{rule_code, open_process}
use Rattle.running.specs.Rules.Laws.{decrypt, other}
use Rattle.running.proofs.by_decrypt.Goals as goal

pub returns-in_default : goal.returns-in_default
unfolding rule_code says_process
returns-in_default c = other _ _ _ _ _ c.in_default.ensures.1

pub returns-then-same_as : goal.returns-then-same_as
unfolding says_process says_term made_type open_process pick
returns-then-same_as c = by-law (decrypt _ _ _ _ _ _ _ _ _ _ _ _ _ _ _ _ _ c.in-Some.ensures.1.is) (grind arith)

pub returns-else-same_as : goal.returns-else-same_as
unfolding says_process says_term made_type open_process pick
returns-else-same_as c = by-law (decrypt _ _ _ _ _ _ _ _ _ _ _ _ _ _ _ _ _ c.in-Some.ensures.1.is) (grind arith)
