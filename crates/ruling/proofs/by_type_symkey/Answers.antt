-- `ruling::by_type_symkey` meets its contract: the environments, and the type. Assumes nothing.
use Rattle.std.proofs.Common.{sym, ◌∙◌}
use Rattle.shapes.specs.Shape.{made_type}
use Rattle.ruling.specs.Line.{says_type}
use Rattle.ruling.specs.Rules.First.{type-symkey}
use Rattle.ruling.proofs.by_type_symkey.Goals as goal

pub returns : goal.returns
unfolding says_type made_type
returns c = c.type_made.ensures ∙ sym (type-symkey _ _ _ _)
