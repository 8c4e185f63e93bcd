-- `ruling::by_type_channel` meets its contract: the environments, and the type. Assumes nothing.
use Rattle.std.proofs.Common.{sym, ◌∙◌}
use Rattle.shapes.specs.Shape.{made_type}
use Rattle.ruling.specs.Line.{says_type}
use Rattle.ruling.specs.Rules.First.{type-channel}
use Rattle.ruling.proofs.by_type_channel.Goals as goal

pub returns : goal.returns
unfolding says_type made_type
returns c = c.type_made.ensures ∙ sym (type-channel _ _ _ _)
