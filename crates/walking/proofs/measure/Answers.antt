-- `walking::measure` meets its contract: nothing is lent, so that the places at which the walk ends are lengths.
-- Assumes nothing.
use native.Mathlib.Omega.{arith}
use Rattle.walking.proofs.Lengths.{FewPlaces, few-places}
use Rattle.walking.proofs.Whole.{measured}
use Rattle.walking.proofs.measure.Goals as goal
use Rattle.walking.proofs.measure.Goals.{After-walk-passed}

-- the places are few, wherever the walk has ended
few : (c : After-walk-passed) → FewPlaces c.walk-passed.result
few c = search few-places

pub overflow_add-result-2 : goal.overflow_add-result-2
overflow_add-result-2 c = omega (arith, few (goal.at.overflow_add-result-2 c).After-walk-passed)

-- the words are those of the events, two of END's, and three for each triple
pub returns : goal.returns
returns c = measured c.requires.valid c.requires.party c.walk-passed.ensures
