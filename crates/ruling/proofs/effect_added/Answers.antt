-- `ruling::effect_added` meets its contract: the environments, and the sum of effects. Assumes nothing.
use Rattle.std.proofs.Common.{arith}
use Rattle.ruling.specs.Line.Laws.{none-there, one-there, with-one, restates}
use Rattle.ruling.proofs.effect_added.Goals as goal

pub balanced-requires : goal.balanced-requires
balanced-requires c = (
  c.effects_at-all.ensures.0,
  c.effects_at-own.ensures.0,
  none-there _,
  one-there _ _ _ _ c.requires.3 c.requires.4 c.behind.ensures,
)

pub returns-then-same_at-2 : goal.returns-then-same_at-2
returns-then-same_at-2 c = let sum = rw (c.effects_at-all.ensures.1, c.effects_at-own.ensures.1) at (restates _ c.balanced.ensures (with-one _ _ _ _ _)) in grind arith
