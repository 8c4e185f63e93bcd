-- `ruling::by_type_nonce` meets its contract: the environments, and the type. Assumes nothing.
use Rattle.std.proofs.Common.{sym, ◌∙◌}
use Rattle.shapes.specs.Shape.{made_type}
use Rattle.ruling.specs.Line.{says_type, says_effect}
use Rattle.ruling.specs.Rules.First.{type-nonce}
use Rattle.ruling.proofs.by_type_nonce.Goals as goal

pub returns : goal.returns
unfolding says_type says_effect made_type
returns c = c.type_made.ensures ∙ sym (type-nonce _ _ _ _)
