-- `running::opened_Un` meets its contract: the process by its pieces, its premises, and the types. Assumes nothing.
use Rattle.std.proofs.Common.{◌∙◌, arith}
use Rattle.shapes.specs.Shape.{made_type}
use Rattle.ruling.specs.Line.{says_process, says_term}
use Rattle.ruling.specs.Rules.Decide.{by-law}
use Rattle.running.specs.Rules.Laws.{open-Un, open-code, other}
use Rattle.running.specs.Rules.Pieces.{open-at}
use Rattle.running.proofs.opened_Un.Goals as goal

pub returns-in_default : goal.returns-in_default
unfolding says_process
returns-in_default c = other _ _ _ _ _ (λ e. c.in_default.ensures.1 (e ∙ open-code _ c.requires.4 c.requires.5))

pub returns-then-same_as-2 : goal.returns-then-same_as-2
unfolding says_process says_term made_type
returns-then-same_as-2 c = let at = open-at _ _ _ _ c.requires.4 c.requires.5 c.in-Some.ensures.1 in
    by-law (open-Un _ c.requires.4 c.requires.5 _ _ _ _ _ _ _ _ _ _ _ _ _ _ _ _ _ at.is) (rw (← c.opened.ensures) (grind arith))

pub returns-else-same_as-2 : goal.returns-else-same_as-2
unfolding says_process says_term made_type
returns-else-same_as-2 c = let at = open-at _ _ _ _ c.requires.4 c.requires.5 c.in-Some.ensures.1 in
    by-law (open-Un _ c.requires.4 c.requires.5 _ _ _ _ _ _ _ _ _ _ _ _ _ _ _ _ _ at.is) (rw (← c.opened.ensures) (grind arith))
