-- `shelf::play` meets its contract: the line is the one of what came of the rehearsal, under the schedule that was
-- made (`fill_turns`); what was written lies in the lent words (`inside-rehearsal`). Assumes nothing.
use mathlib.Core.Path.{refl, ◌∙◌}
use native.Mathlib.Omega.{arith}
use borrow.Author.Rules.{rules}
use Rattle.line.specs.Line.Laws.{inside-rehearsal}
use Rattle.shelf.specs.Lines.Laws.{rehearsed-came}
use Rattle.shelf.proofs.play.Goals as goal

-- what was written had room
pub answer_line-requires : goal.answer_line-requires
answer_line-requires c =
    let came = c.rehearse-answer in
    (search rules, search rules, inside-rehearsal came.result _ _ _ _ came.ensures (omega arith))

-- the line of what came of the schedule
pub returns-clause-line_after : goal.returns-clause-line_after
returns-clause-line_after c =
    c.answer_line.ensures.line_after
    ∙ rehearsed-came c.args.book.now _ _ _ _ _ _ c.rehearse-answer.ensures c.fill_turns.ensures refl
