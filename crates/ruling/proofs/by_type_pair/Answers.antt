-- `ruling::by_type_pair` meets its contract: the environments, and the type with the name bound. Assumes nothing.
use Rattle.std.proofs.Common.{arith}
use Rattle.shapes.specs.Shape.{made_type}
use Rattle.shapes.specs.Shape.Laws.{environment-inside, newest-name}
use Rattle.ruling.specs.Line.{says_type}
use Rattle.ruling.specs.Rules.Decide.{by-law}
use Rattle.ruling.specs.Rules.First.{type-pair}
use Rattle.ruling.proofs.by_type_pair.Goals as goal

pub overflow_add-k : goal.overflow_add-k
overflow_add-k c = omega (arith, environment-inside _ _ c.requires.2.environment)

pub returns-then-type_made : goal.returns-then-type_made
unfolding says_type made_type
returns-then-type_made c = by-law (type-pair _ _ _ _ _ _ _ (newest-name _ _ c.requires.2.environment _ c.word-x.ensures)) (grind arith)

pub returns-else-type_made : goal.returns-else-type_made
unfolding says_type made_type
returns-else-type_made c = by-law (type-pair _ _ _ _ _ _ _ (newest-name _ _ c.requires.2.environment _ c.word-x.ensures)) (grind arith)
