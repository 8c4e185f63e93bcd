-- `ruling::by_cipher` meets its contract: the term by its parts, and the types. Assumes nothing.
use Rattle.std.proofs.Common.{arith}
use Rattle.words.specs.Choice.{pick}
use Rattle.shapes.specs.Shape.{made_type}
use Rattle.ruling.specs.Line.{says_term}
use Rattle.ruling.specs.Rules.{join}
use Rattle.ruling.specs.Rules.Decide.{by-law}
use Rattle.ruling.specs.Rules.Terms.{cipher}
use Rattle.ruling.proofs.by_cipher.Goals as goal

pub returns-then-same_as : goal.returns-then-same_as
unfolding says_term made_type join pick
returns-then-same_as c = by-law (cipher _ _ _ _ _ _ _ _ _) (grind arith)

pub returns-else-same_as : goal.returns-else-same_as
unfolding says_term made_type join pick
returns-else-same_as c = by-law (cipher _ _ _ _ _ _ _ _ _) (grind arith)
