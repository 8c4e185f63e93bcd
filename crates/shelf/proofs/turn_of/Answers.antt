-- `shelf::turn_of` meets its contract: by the way round (`turn_on`, `turn-back`); the remainder is below the number
-- of parties. Assumes nothing.
use Prim.Native.Nat.{◌/◌, ◌%◌, ◌<◌}
use mathlib.Core.Path.{refl}
use native.Mathlib.Omega.{arith}
use Rattle.shelf.specs.Turns.Laws.{turn_below, turn_on, turn-back}
use Rattle.shelf.proofs.turn_of.Goals as goal
use Rattle.shelf.proofs.turn_of.Goals.{After-wide}

-- there are parties, so that the remainder is one of them
module _ (c : After-wide) where
  party : c.args.i / c.args.times % c.wide.result < c.args.parties
  party = turn_below _ _ _ c.args.back _ _ c.wide.ensures.0 refl (omega arith)

pub overflow_cast-party : goal.overflow_cast-party
overflow_cast-party c = omega (arith, party (goal.at.overflow_cast-party c).After-wide)

pub overflow_sub-result-then-back : goal.overflow_sub-result-then-back
overflow_sub-result-then-back c = omega (arith, party (goal.at.overflow_sub-result-then-back c).After-wide)

pub returns-then-back : goal.returns-then-back
returns-then-back c = search turn-back

pub returns : goal.returns
returns c = search turn_on
