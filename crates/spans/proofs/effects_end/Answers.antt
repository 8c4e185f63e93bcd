-- `spans::effects_end` meets its contract: effects stand one behind another. Assumes nothing.
use Rattle.spans.specs.Behind.Effects.{effects-times}
use Rattle.spans.proofs.effects_end.Goals as goal

pub returns : goal.returns
returns c = rw effects-times c.several_end.ensures
