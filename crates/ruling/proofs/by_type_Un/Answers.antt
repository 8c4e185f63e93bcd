-- `ruling::by_type_Un` meets its contract: the environments, and the type. Assumes nothing.
use Rattle.std.proofs.Common.{sym, ◌∙◌}
use Rattle.shapes.specs.Shape.{made_type}
use Rattle.ruling.specs.Line.{says_type, says_environment}
use Rattle.ruling.specs.Rules.First.{type-Un}
use Rattle.ruling.proofs.by_type_Un.Goals as goal

pub returns : goal.returns
unfolding says_type says_environment made_type
returns c = c.type_made.ensures ∙ sym (type-Un _ _ _)
