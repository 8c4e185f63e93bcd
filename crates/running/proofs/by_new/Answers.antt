-- `running::by_new` meets its contract: the process by its pieces, its premise, and its own words as its name. Assumes nothing.
use Rattle.std.proofs.Common.{arith}
use Rattle.shapes.specs.Shape.{made_type}
use Rattle.ruling.specs.Line.{says_process}
use Rattle.ruling.specs.Line.Laws.{none-there, restates}
use Rattle.ruling.specs.Rules.Decide.{by-law}
use Rattle.running.specs.Rules.{rule_code}
use Rattle.running.specs.Rules.Own.{name-at, name-is, less-check}
use Rattle.running.specs.Rules.Laws.{new, other}
use Rattle.running.proofs.by_new.Goals as goal

pub returns-in_default : goal.returns-in_default
unfolding rule_code says_process
returns-in_default c = other _ _ _ _ _ c.in_default.ensures.1

pub restated-requires : goal.restated-requires
restated-requires c = (c.requires.0, c.requires.1, (omega arith, omega arith, name-at _ _ c.in-Some.ensures.1.word c.in-Some.ensures.1.inside), none-there _)

pub returns-then-fresh : goal.returns-then-fresh
unfolding says_process made_type
returns-then-fresh c = let named = name-is _ _ c.in-Some.ensures.1.word c.in-Some.ensures.1.inside _ c.word-name.ensures in
    let sum = restates _ c.restated.ensures (less-check _ _ _ _ _ named) in
    by-law (new _ _ _ _ _ _ _ _ _ c.in-Some.ensures.1.is) (grind arith)

pub returns-else-fresh : goal.returns-else-fresh
unfolding says_process made_type
returns-else-fresh c = by-law (new _ _ _ _ _ _ _ _ _ c.in-Some.ensures.1.is) (grind arith)
