-- `ruling::by_effect_check` meets its contract: the effect with the word 2 is check, and the type. Assumes nothing.
use Rattle.std.proofs.Common.{arith}
use Rattle.words.specs.Choice.{pick}
use Rattle.balance.specs.Sum.{effect_by}
use Rattle.shapes.specs.Shape.{made_type}
use Rattle.ruling.specs.Line.{says_effect, says_term}
use Rattle.ruling.specs.Rules.Decide.{by-law}
use Rattle.ruling.specs.Rules.First.{effect-check}
use Rattle.ruling.proofs.by_effect_check.Goals as goal

pub returns-then-effect_added : goal.returns-then-effect_added
unfolding says_effect says_term made_type effect_by pick
returns-then-effect_added c = by-law (effect-check _ _ _ _ _ _ _) (grind arith)

pub returns-else-effect_added : goal.returns-else-effect_added
unfolding says_effect says_term made_type effect_by pick
returns-else-effect_added c = by-law (effect-check _ _ _ _ _ _ _) (grind arith)
