-- `line::reading_line` meets its contract: by the reading (`line-accepted`, `reading-refused`). Assumes nothing.
use mathlib.Core.Path.{refl, ◌∙◌, sym, ap}
use Rattle.book.specs.Said.{reading_says}
use Rattle.line.specs.Line.{reading_line}
use Rattle.line.specs.Line.Laws.{line-accepted, reading-refused}
use Rattle.line.proofs.reading_line.Goals as goal

-- the word is the line's front
pub returns-in-Ok-clause-line_after : goal.returns-in-Ok-clause-line_after
returns-in-Ok-clause-line_after c =
    line-accepted c.put_text.ensures refl ∙ ap (λ r. reading_line (reading_says r)) (sym c.in-Ok.is)

-- the line of the refusal
pub returns-in-Err-clause-line_after : goal.returns-in-Err-clause-line_after
returns-in-Err-clause-line_after c =
    c.refusal_line.ensures.line_after ∙ reading-refused c.in-Err.refusal
    ∙ ap (λ r. reading_line (reading_says r)) (sym c.in-Err.is)
