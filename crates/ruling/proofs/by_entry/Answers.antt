-- `ruling::by_entry` meets its contract: the newest entry, and the older ones. Assumes nothing.
use Rattle.std.proofs.Common.{arith, sym, ◌∙◌}
use Rattle.ruling.specs.Line.{says_type, says_environment}
use Rattle.shapes.specs.Shape.{made_type}
use Rattle.shapes.specs.Shape.Laws.{environment-inside, newest-name}
use Rattle.ruling.specs.Rules.First.{entry}
use Rattle.ruling.proofs.by_entry.Goals as goal

pub overflow_add-i : goal.overflow_add-i
overflow_add-i c = omega (arith, environment-inside _ _ c.requires.0.environment)

pub returns : goal.returns
unfolding says_type says_environment made_type
returns c = c.extended.ensures ∙ sym (entry _ _ _ _ (newest-name _ _ c.requires.0.environment _ c.word-x.ensures))
