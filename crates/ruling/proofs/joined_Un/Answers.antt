-- `ruling::joined_Un` meets its contract: the term by its parts, and the types. Assumes nothing.
use Rattle.std.proofs.Common.{arith}
use Rattle.shapes.specs.Shape.{made_type}
use Rattle.ruling.specs.Line.{says_term}
use Rattle.ruling.specs.Rules.Decide.{by-law}
use Rattle.ruling.specs.Rules.Terms.{join-Un}
use Rattle.ruling.proofs.joined_Un.Goals as goal

pub returns-then-same_as-2 : goal.returns-then-same_as-2
unfolding says_term made_type
returns-then-same_as-2 c = by-law (join-Un _ c.requires.3 c.requires.4 _ _ _ _ _ _ _ _ _) (grind arith)

pub returns-else-same_as-2 : goal.returns-else-same_as-2
unfolding says_term made_type
returns-else-same_as-2 c = by-law (join-Un _ c.requires.3 c.requires.4 _ _ _ _ _ _ _ _ _) (grind arith)
