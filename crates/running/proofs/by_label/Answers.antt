-- `running::by_label` meets its contract: the process by its pieces, its premise, and the difference or the sum. Assumes nothing.
use Rattle.std.proofs.Common.{sym, ◌∙◌, arith}
use Rattle.words.specs.Choice.{pick}
use Rattle.balance.specs.Sum.{effect_by}
use Rattle.ruling.specs.Line.{says_process}
use Rattle.ruling.specs.Line.Laws.{none-there, one-there, with-one, restates}
use Rattle.ruling.specs.Rules.Decide.{by-law}
use Rattle.running.specs.Rules.Sums.{less-end}
use Rattle.running.specs.Rules.Laws.{label, label-code, labelled-less, labelled-more, other}
use Rattle.running.specs.Rules.Pieces.{label-at}
use Rattle.running.proofs.by_label.Goals as goal

pub returns-in_default : goal.returns-in_default
unfolding says_process
returns-in_default c = other _ _ _ _ _ (λ e. c.in_default.ensures.1 (e ∙ label-code _ c.requires.2 c.requires.3))

pub restated-requires : goal.restated-requires
restated-requires c = let at = label-at _ _ _ _ c.requires.2 c.requires.3 c.in-Some.ensures.1 in
    (c.requires.0, c.requires.1, one-there _ _ _ _ (omega arith) (omega arith) c.behind-end.ensures, none-there _)

pub restated-requires-else-code-eq9 : goal.restated-requires-else-code-eq9
restated-requires-else-code-eq9 c = let at = label-at _ _ _ _ c.requires.2 c.requires.3 c.in-Some.ensures.1 in
    (c.requires.0, c.requires.1, none-there _, one-there _ _ _ _ (omega arith) (omega arith) c.behind-end.ensures)

pub returns-then-code-eq9 : goal.returns-then-code-eq9
unfolding says_process
returns-then-code-eq9 c = let at = label-at _ _ _ _ c.requires.2 c.requires.3 c.in-Some.ensures.1 in
    let sum = restates _ c.restated.ensures (less-end _ _ _ _ ∙ sym (labelled-less _ _ _ c.if-code-eq9.true)) in
    by-law (label _ c.requires.2 c.requires.3 _ _ _ _ _ _ _ _ at.is) (grind arith)

pub returns-else-code-eq9 : goal.returns-else-code-eq9
unfolding says_process effect_by pick
returns-else-code-eq9 c = let at = label-at _ _ _ _ c.requires.2 c.requires.3 c.in-Some.ensures.1 in
    let sum = restates _ c.restated-else-code-eq9.ensures (with-one _ _ _ _ _ ∙ sym (labelled-more _ _ _ c.if-code-eq9.false)) in
    by-law (label _ c.requires.2 c.requires.3 _ _ _ _ _ _ _ _ at.is) (grind arith)

pub returns-else-term_closed : goal.returns-else-term_closed
unfolding says_process
returns-else-term_closed c = let at = label-at _ _ _ _ c.requires.2 c.requires.3 c.in-Some.ensures.1 in
    by-law (label _ c.requires.2 c.requires.3 _ _ _ _ _ _ _ _ at.is) (grind arith)
