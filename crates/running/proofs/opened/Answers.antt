-- `running::opened` meets its contract: its premises. Assumes nothing.
use Rattle.std.proofs.Common.{arith}
use Rattle.shapes.specs.Shape.{made_type}
use Rattle.running.proofs.opened.Goals as goal

pub returns-then-unchanged : goal.returns-then-unchanged
unfolding made_type
returns-then-unchanged c = grind arith

pub returns-else-unchanged : goal.returns-else-unchanged
unfolding made_type
returns-else-unchanged c = grind arith
