-- `ruling::by_effect_none` meets its contract: the environments, and no effects. Assumes nothing.
use Rattle.std.proofs.Common.{arith}
use Rattle.ruling.specs.Line.{says_effect, says_environment}
use Rattle.ruling.specs.Line.Laws.{none-stated}
use Rattle.ruling.specs.Rules.Decide.{by-law}
use Rattle.ruling.specs.Rules.First.{effect-none}
use Rattle.ruling.proofs.by_effect_none.Goals as goal

pub returns-then-same_at : goal.returns-then-same_at
unfolding says_effect says_environment
returns-then-same_at c = let none = none-stated _ _ _ c.requires.0.effects in by-law (effect-none _ _ _) (grind arith)

pub returns-else-same_at : goal.returns-else-same_at
unfolding says_effect says_environment
returns-else-same_at c = let none = none-stated _ _ _ c.requires.0.effects in by-law (effect-none _ _ _) (grind arith)
