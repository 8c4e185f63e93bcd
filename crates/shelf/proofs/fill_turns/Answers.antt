-- `shelf::fill_turns` meets its contract: each turn of the loop makes one move more (`filled_more`); at the end they are all
-- (`filled-all`). Assumes nothing.
use Rattle.std.proofs.Common.{arith, rules}
use Rattle.shelf.specs.Filled.Laws.{filled_more, filled-all}
use Rattle.shelf.specs.Turns.{turn}
use Rattle.shelf.proofs.fill_turns.Goals as goal

pub loop-i-init : goal.loop-i-init
loop-i-init c = (search rules, λ k l. absurd (omega arith))

-- the move that `turn_of` answers is the turn's
pub loop-i-preserved : goal.loop-i-preserved
loop-i-preserved c =
    let due = turn c.args.parties c.args.times c.args.back in
    (search rules, filled_more due c.loop-i.out _ _ (omega arith) c.turn_of.ensures c.loop-i.invariant.1)

-- the loop ends behind the last place
pub returns : goal.returns
returns c =
    let due = turn c.args.parties c.args.times c.args.back in
    filled-all due c.loop-i.out _ c.loop-i.invariant.0 (λ k l. c.loop-i.invariant.1 k (omega arith))
