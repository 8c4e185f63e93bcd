-- `following::follow_steps` meets its contract: the steps before the one at hand agree (`Stepped`), and each turn compares one step.
-- Assumes nothing.
use Rattle.std.proofs.Common.{◌<◌, arith, rules}
use Rattle.book.specs.Layout.{steps}
use Rattle.walking.specs.Walk.Laws.{idle-step}
use Rattle.following.specs.Stepping.Step.{stepped_start, stepped-skip}
use Rattle.following.proofs.follow_steps.Goals as goal

-- before its first step the party holds what it knows
pub loop-i-init : goal.loop-i-init
loop-i-init c = stepped_start c.requires.0.valid (search rules) c.start-entries.ensures c.requires.1

-- in this step it has no part
pub loop-i-preserved-then-not-is_own : goal.loop-i-preserved-then-not-is_own
loop-i-preserved-then-not-is_own c =
    let more : c.loop-i.i < steps c.args.book.now = omega arith in
    stepped-skip (idle-step more c.is_own.ensures c.if-not-is_own.true) c.loop-i.invariant
