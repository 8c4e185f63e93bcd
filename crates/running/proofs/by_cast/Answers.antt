-- `running::by_cast` meets its contract: the process by its pieces, its premises, and the sum of effects. Assumes nothing.
use Rattle.std.proofs.Common.{arith}
use Rattle.shapes.specs.Shape.{made_type}
use Rattle.ruling.specs.Line.{says_process, says_term}
use Rattle.ruling.specs.Line.Laws.{none-there, restates}
use Rattle.ruling.specs.Rules.Decide.{by-law}
use Rattle.running.specs.Rules.{rule_code}
use Rattle.running.specs.Rules.Sums.{sum-two}
use Rattle.running.specs.Rules.Laws.{cast, other}
use Rattle.running.proofs.by_cast.Goals as goal

pub returns-in_default : goal.returns-in_default
unfolding rule_code says_process
returns-in_default c = other _ _ _ _ _ c.in_default.ensures.1

pub balanced-requires : goal.balanced-requires
balanced-requires c = (c.effects_at-all.ensures.0, c.effects_at-cast.ensures.0, none-there _, c.effects_at-own.ensures.0)

pub returns-then-fresh : goal.returns-then-fresh
unfolding says_process says_term made_type
returns-then-fresh c = let sum = rw (c.effects_at-all.ensures.1, c.effects_at-own.ensures.1, c.effects_at-cast.ensures.1) at (restates _ c.balanced.ensures (sum-two _ _ _)) in
    by-law (cast _ _ _ _ _ _ _ _ _ _ _ _ _ c.in-Some.ensures.1.is) (grind arith)

pub returns-else-fresh : goal.returns-else-fresh
unfolding says_process says_term made_type
returns-else-fresh c = by-law (cast _ _ _ _ _ _ _ _ _ _ _ _ _ c.in-Some.ensures.1.is) (grind arith)
