-- `ruling::effects_at` meets its contract: as many effects, and what is behind them. Assumes nothing.
use Rattle.std.specs.Prelude.{refl}
use Rattle.balance.specs.Sum.{list_of}
use Rattle.ruling.proofs.effects_at.Goals as goal

pub returns : goal.returns
unfolding list_of
returns c = (c.effects_behind.ensures, refl)
