-- `claims::mark_start` meets its contract: party by party, the names and the knowledge of those passed are marked. Assumes nothing.
use Rattle.claims.proofs.Passed.{begun-start, begun-on, begun-end}
use mathlib.Core.Path.{refl}
use borrow.Author.Rules.{rules}
use native.Mathlib.Omega.{arith}
use Rattle.claims.proofs.mark_start.Goals as goal

pub loop-party-init : goal.loop-party-init
loop-party-init c = search (begun-start, rules)

-- the party whose name and knowledge are marked is the next one
pub loop-party-preserved : goal.loop-party-preserved
loop-party-preserved c = (
  begun-on c.loop-party.invariant.0 c.party_name.ensures c.mark.ensures.0 c.mark_known.ensures.0 refl,
  c.mark_known.ensures.1,
)

pub returns : goal.returns
returns c = (begun-end (omega arith) c.loop-party.invariant.0, c.loop-party.invariant.1)
