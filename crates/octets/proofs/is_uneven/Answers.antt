-- `octets::is_uneven` meets its contract: it is the test of the definition. Assumes nothing.
use mathlib.Core.Path.{refl}
use Rattle.octets.proofs.is_uneven.Goals as goal

pub returns : goal.returns
returns c = refl
