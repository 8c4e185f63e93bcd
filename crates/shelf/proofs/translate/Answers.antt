-- `shelf::translate` meets its contract: the line is the one of what came of the translation, and what was written
-- lies in the lent words (`inside-outcome`). Assumes nothing.
use mathlib.Core.Path.{◌∙◌, ap}
use native.Mathlib.Omega.{arith}
use borrow.Author.Rules.{rules}
use Rattle.line.specs.Line.{line_of}
use Rattle.line.specs.Line.Laws.{inside-outcome}
use Rattle.shelf.specs.Lines.{translated_line}
use Rattle.shelf.proofs.translate.Goals as goal

-- what was written had room
pub answer_line-requires : goal.answer_line-requires
answer_line-requires c =
    let came = c.translate-answer in
    (search rules, search rules, inside-outcome came.result _ _ _ came.ensures (omega arith))

-- the line of what came
pub returns-clause-line_after : goal.returns-clause-line_after
unfolding translated_line
returns-clause-line_after c = c.answer_line.ensures.line_after ∙ ap line_of c.translate-answer.ensures
